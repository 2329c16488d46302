-- Recursion and induction over symbols.
use Rattle.std.proofs.Common.{◌≡◌, ℕ, ℤ, sym, ap, subst, ◌∙◌}
use Rattle.sym_lmad.specs.declared.sym.Sym.{Sym}
use Rattle.sym_lmad.specs.declared.sym.Sym.TheVariants.{rolls-Lit, rolls-Addr, rolls-Cell, rolls-Elem, rolls-Index, rolls-Add, rolls-Mul}
use Rattle.sym_lmad.specs.declared.sym.Sym.TheVariants as s
use Rattle.sym_lmad.specs.declared.sym.Sym.TheOpen.{Sym-F}
use Rattle.sym_lmad.specs.declared.sym.Sym.TheOpen as layer
use Rattle.sym_lmad.specs.declared.sym.Sym.TheFolds.{fold-Sym, fold-roll-Sym, ind-Sym, map-Sym}
use Rattle.sym_lmad.specs.declared.sym.Sym.TheViews.{roll-Sym}

-- what a fold gives at each kind of symbol
module _ (A : Type 0) (step : Sym-F A → A) where
  abbrev folded : Sym → A
  folded = fold-Sym A step

  pub fold_lit : (v : ℤ) → fold-Sym A step (s.Lit v) ≡ step (layer.Lit v)
  fold_lit v = ap folded (sym (rolls-Lit v)) ∙ fold-roll-Sym A step (layer.Lit v)

  pub fold_addr : (e : ℕ) → fold-Sym A step (s.Addr e) ≡ step (layer.Addr e)
  fold_addr e = ap folded (sym (rolls-Addr e)) ∙ fold-roll-Sym A step (layer.Addr e)

  pub fold_cell : (e : ℕ) → fold-Sym A step (s.Cell e) ≡ step (layer.Cell e)
  fold_cell e = ap folded (sym (rolls-Cell e)) ∙ fold-roll-Sym A step (layer.Cell e)

  pub fold_elem : (e : ℕ) (x : Sym) → fold-Sym A step (s.Elem e x) ≡ step (layer.Elem e (fold-Sym A step x))
  fold_elem e x = ap folded (sym (rolls-Elem e x)) ∙ fold-roll-Sym A step (layer.Elem e x)

  pub fold_index : (i : ℕ) → fold-Sym A step (s.Index i) ≡ step (layer.Index i)
  fold_index i = ap folded (sym (rolls-Index i)) ∙ fold-roll-Sym A step (layer.Index i)

  pub fold_add : (x y : Sym) → fold-Sym A step (s.Add x y) ≡ step (layer.Add (fold-Sym A step x) (fold-Sym A step y))
  fold_add x y = ap folded (sym (rolls-Add x y)) ∙ fold-roll-Sym A step (layer.Add x y)

  pub fold_mul : (c : ℤ) (x : Sym) → fold-Sym A step (s.Mul c x) ≡ step (layer.Mul c (fold-Sym A step x))
  fold_mul c x = ap folded (sym (rolls-Mul c x)) ∙ fold-roll-Sym A step (layer.Mul c x)

-- a fact of each layer whose parts have it, as one for each kind of symbol
pub record IsKept (P : Sym → Type 0) : Type 0 where
  pub at_lit : (v : ℤ) → P (s.Lit v)
  pub at_addr : (e : ℕ) → P (s.Addr e)
  pub at_cell : (e : ℕ) → P (s.Cell e)
  pub at_elem : (e : ℕ) (x : Sym) → P x → P (s.Elem e x)
  pub at_index : (i : ℕ) → P (s.Index i)
  pub at_add : (x y : Sym) → P x → P y → P (s.Add x y)
  pub at_mul : (c : ℤ) (x : Sym) → P x → P (s.Mul c x)

abbrev WithProof : (P : Sym → Type 0) → Type 0
WithProof P = (x : Sym) × P x

by_layer : (P : Sym → Type 0) → IsKept P → (y : Sym-F (WithProof P)) → P (roll-Sym (map-Sym (WithProof P) Sym (λ e. e.0) y))
by_layer P kept (layer.Lit v) = subst P (sym (rolls-Lit v)) (kept.at_lit v)
by_layer P kept (layer.Addr e) = subst P (sym (rolls-Addr e)) (kept.at_addr e)
by_layer P kept (layer.Cell e) = subst P (sym (rolls-Cell e)) (kept.at_cell e)
by_layer P kept (layer.Elem e x) = subst P (sym (rolls-Elem e x.0)) (kept.at_elem e x.0 x.1)
by_layer P kept (layer.Index i) = subst P (sym (rolls-Index i)) (kept.at_index i)
by_layer P kept (layer.Add x y) = subst P (sym (rolls-Add x.0 y.0)) (kept.at_add x.0 y.0 x.1 y.1)
by_layer P kept (layer.Mul c x) = subst P (sym (rolls-Mul c x.0)) (kept.at_mul c x.0 x.1)

pub induction : (P : Sym → Type 0) → IsKept P → (x : Sym) → P x
induction P kept = ind-Sym P (λ x y is. subst (λ z. P (roll-Sym z)) is (by_layer P kept y))
