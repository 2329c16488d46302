-- What a symbol gains from each value of an index to the next.
use Rattle.std.specs.Prelude.{◌≡◌, ℕ, ◌==◌, ◌<◌, ℤ, pos, negsuc, zero, suc, ◌+ℤ◌, ◌*ℤ◌, List, length, Option, None, Some, slice_set, if◌then◌else◌, FitsSigned}
use Rattle.std.specs.Int.{w128}
use Rattle.hyb_base.specs.declared.env.Env.{Env}
use Rattle.sym_lmad.specs.declared.sym.Sym.{Sym}
use Rattle.sym_lmad.specs.declared.sym.Sym.TheVariants as s
use Rattle.sym_lmad.specs.declared.sym.Sym.TheOpen.{Sym-F}
use Rattle.sym_lmad.specs.declared.sym.Sym.TheOpen as layer
use Rattle.sym_lmad.specs.declared.sym.Sym.TheFolds.{fold-Sym}
use Rattle.sym_lmad.specs.Numbers.{whole_of}

-- no gain where a place has none, and none to speak of where it moves
abbrev pub still : Option ℤ → Option ℤ
still (Some (pos zero)) = Some (pos 0)
still (Some (pos (suc n))) = None
still (Some (negsuc n)) = None
still None = None

-- an index gains 1 of itself
abbrev pub gain_of_index : (index named : ℕ) → ℤ
gain_of_index index named = if named == index then pos 1 else pos 0

abbrev pub sum_of_gains : Option ℤ → Option ℤ → Option ℤ
sum_of_gains (Some x) (Some y) = Some (x +ℤ y)
sum_of_gains (Some x) None = None
sum_of_gains None y = None

abbrev pub multiple_of_gain : ℤ → Option ℤ → Option ℤ
multiple_of_gain c (Some x) = Some (c *ℤ x)
multiple_of_gain c None = None

module _ (index : ℕ) where
  abbrev pub gain_step : Sym-F (Option ℤ) → Option ℤ
  gain_step (layer.Lit v) = Some (pos 0)
  gain_step (layer.Addr e) = Some (pos 0)
  gain_step (layer.Cell e) = Some (pos 0)
  gain_step (layer.Elem e s) = still s
  gain_step (layer.Index i) = Some (gain_of_index index i)
  gain_step (layer.Add x y) = sum_of_gains x y
  gain_step (layer.Mul c x) = multiple_of_gain c x

  -- the gain of a symbol: none where the place of an element moves
  abbrev pub gain_of : Sym → Option ℤ
  gain_of = fold-Sym (Option ℤ) gain_step

-- a gain is too wide for 128 bits
abbrev pub IsWide : Option ℤ → Type 0
IsWide (Some g) = FitsSigned w128 g → ⊥
IsWide None = ⊥

-- some part of a symbol, the symbol among its parts, has a gain that is too wide
pub data HasWidePart (index : ℕ) : Sym → Type 0 where
  itself : (s : Sym) → IsWide (gain_of index s) → HasWidePart index s
  in_place : (e : ℕ) (x : Sym) → HasWidePart index x → HasWidePart index (s.Elem e x)
  in_left : (x y : Sym) → HasWidePart index x → HasWidePart index (s.Add x y)
  in_right : (x y : Sym) → HasWidePart index y → HasWidePart index (s.Add x y)
  in_inner : (c : ℤ) (x : Sym) → HasWidePart index x → HasWidePart index (s.Mul c x)

-- bindings with another value of an index
abbrev pub at_index : Env → ℕ → ℤ → Env
at_index env index n = record env { indices = slice_set env.indices index n }

-- from each number to the next a function gains one and the same number
pub record IsLine (f : ℤ → ℤ) (gain : ℤ) : Type 0 where
  pub gains : (n : ℤ) → f (n +ℤ pos 1) ≡ f n +ℤ gain

-- the number without bound of a symbol with a gain is a line in the index
abbrev pub GainMakesLine : Type 0
GainMakesLine = (env : Env) (values : List ℤ) (index : ℕ) (s : Sym) (gain : ℤ) → index < length env.indices → gain_of index s ≡ Some gain → IsLine (λ n. whole_of (at_index env index n) values s) gain
