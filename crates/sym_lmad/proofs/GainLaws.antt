-- A symbol with a gain is a line in the index; and why a symbol has none that fits.
use Rattle.std.proofs.Common.{◌≡◌, ℕ, zero, suc, ◌<◌, ◌==◌, ◌⊎◌, inl, inr, ℤ, pos, negsuc, ◌+ℤ◌, ◌-ℤ◌, ◌*ℤ◌, Bool, true, false, List, length, Option, Some, None, IfNone, SomeIff, FitsSigned, slice_get, slice_set, unwrap_or, if◌then◌else◌, refl, ap, sym, subst, ◌∙◌, arith}
use Rattle.std.specs.Int.{w128}
use Rattle.std.proofs.lemmas.Int.{ints}
use Rattle.std.proofs.lemmas.Bool.{eqb-true, eqb-false}
use Rattle.std.proofs.Math.IntN.{suc_ℤ-*ℤ, pred_ℤ-*ℤ, zero-*ℤ}
use Rattle.hyb_base.specs.declared.env.Env.{Env}
use Rattle.hyb_base.specs.Wrap.{wrapped}
use Rattle.sym_lmad.specs.declared.sym.Sym.{Sym}
use Rattle.sym_lmad.specs.declared.sym.Sym.TheVariants as s
use Rattle.sym_lmad.specs.Gain.{gain_of, gain_step, still, gain_of_index, sum_of_gains, multiple_of_gain, IsWide, HasWidePart, itself, in_place, in_left, in_right, in_inner, at_index, IsLine, GainMakesLine}
use Rattle.sym_lmad.specs.Numbers.{Numbers, numbers_step, numbers_of, element_or_zero}
use Rattle.sym_lmad.specs.Worth.{first_by}
use Rattle.sym_lmad.proofs.Lists.{get_same, get_other}
use Rattle.sym_lmad.proofs.Near.{some_is}
use Rattle.sym_lmad.proofs.NumberLaws.{wraps_once}
use Rattle.sym_lmad.proofs.Symbols.{induction, fold_lit, fold_addr, fold_cell, fold_elem, fold_index, fold_add, fold_mul}

pub distributes : (c x y : ℤ) → c *ℤ (x +ℤ y) ≡ c *ℤ x +ℤ c *ℤ y
distributes (pos zero) x y = rw (zero-*ℤ (x +ℤ y), zero-*ℤ x, zero-*ℤ y) refl
distributes (pos (suc n)) x y =
    let h : pos n *ℤ (x +ℤ y) ≡ pos n *ℤ x +ℤ pos n *ℤ y = distributes (pos n) x y in
    let a : pos (suc n) *ℤ (x +ℤ y) ≡ pos n *ℤ (x +ℤ y) +ℤ (x +ℤ y) = suc_ℤ-*ℤ (pos n) (x +ℤ y) in
    let b : pos (suc n) *ℤ x ≡ pos n *ℤ x +ℤ x = suc_ℤ-*ℤ (pos n) x in
    let d : pos (suc n) *ℤ y ≡ pos n *ℤ y +ℤ y = suc_ℤ-*ℤ (pos n) y in
    omega (arith, ints, h, a, b, d)
distributes (negsuc zero) x y =
    let a : negsuc zero *ℤ (x +ℤ y) ≡ pos zero *ℤ (x +ℤ y) -ℤ (x +ℤ y) = pred_ℤ-*ℤ (pos zero) (x +ℤ y) in
    let b : negsuc zero *ℤ x ≡ pos zero *ℤ x -ℤ x = pred_ℤ-*ℤ (pos zero) x in
    let d : negsuc zero *ℤ y ≡ pos zero *ℤ y -ℤ y = pred_ℤ-*ℤ (pos zero) y in
    let u : pos zero *ℤ (x +ℤ y) ≡ pos zero = zero-*ℤ (x +ℤ y) in
    let v : pos zero *ℤ x ≡ pos zero = zero-*ℤ x in
    let w : pos zero *ℤ y ≡ pos zero = zero-*ℤ y in
    omega (arith, ints, a, b, d, u, v, w)
distributes (negsuc (suc n)) x y =
    let h : negsuc n *ℤ (x +ℤ y) ≡ negsuc n *ℤ x +ℤ negsuc n *ℤ y = distributes (negsuc n) x y in
    let a : negsuc (suc n) *ℤ (x +ℤ y) ≡ negsuc n *ℤ (x +ℤ y) -ℤ (x +ℤ y) = pred_ℤ-*ℤ (negsuc n) (x +ℤ y) in
    let b : negsuc (suc n) *ℤ x ≡ negsuc n *ℤ x -ℤ x = pred_ℤ-*ℤ (negsuc n) x in
    let d : negsuc (suc n) *ℤ y ≡ negsuc n *ℤ y -ℤ y = pred_ℤ-*ℤ (negsuc n) y in
    omega (arith, ints, h, a, b, d)

-- a line stays one by equal numbers
moved : (f h : ℤ → ℤ) (gain : ℤ) → ((n : ℤ) → f n ≡ h n) → IsLine h gain → IsLine f gain
moved f h gain same line = record { gains = λ n. same (n +ℤ pos 1) ∙ line.gains n ∙ ap (λ z. z +ℤ gain) (sym (same n)) }

-- what is the same at each number is a line without gain
flat : (f : ℤ → ℤ) (v gain : ℤ) → ((n : ℤ) → f n ≡ v) → Some (pos 0) ≡ Some gain → IsLine f gain
flat f v gain same h = record {
  gains = λ n.
      let e : pos 0 ≡ gain = some_is (pos 0) gain h in
      let a : f n ≡ v = same n in
      let b : f (n +ℤ pos 1) ≡ v = same (n +ℤ pos 1) in
      omega (arith, ints, e, a, b);
}

still_is : (o : Option ℤ) (gain : ℤ) → still o ≡ Some gain → (o ≡ Some (pos 0)) × (pos 0 ≡ gain)
still_is (Some (pos zero)) gain h = (refl, some_is (pos 0) gain h)
still_is (Some (pos (suc n))) gain h = absurd (cc)
still_is (Some (negsuc n)) gain h = absurd (cc)
still_is None gain h = absurd (cc)

module _ (env : Env) (values : List ℤ) (index : ℕ) (place : index < length env.indices) where
  abbrev at : ℤ → Sym → Numbers
  at n x = numbers_of (at_index env index n) values x

  abbrev HasLine : Sym → Type 0
  HasLine x = (gain : ℤ) → gain_of index x ≡ Some gain → IsLine (λ n. (at n x).whole) gain

  -- a symbol of one number at each value of the index
  constant : (x : Sym) (v : ℤ) → gain_of index x ≡ Some (pos 0) → ((n : ℤ) → (at n x).whole ≡ v) → HasLine x
  constant x v has same gain h = flat (λ n. (at n x).whole) v gain same (sym has ∙ h)

  index_line : (k : ℕ) (gain : ℤ) → Some (gain_of_index index k) ≡ Some gain → IsLine (λ n. unwrap_or (slice_get (slice_set env.indices index n) k) (pos 0)) gain
  index_line k gain h = go (k == index) refl h
    where
      go : (b : Bool) → (k == index) ≡ b → Some (if b then pos 1 else pos 0) ≡ Some gain → IsLine (λ n. unwrap_or (slice_get (slice_set env.indices index n) k) (pos 0)) gain
      go true e h = record {
        gains = λ n.
            let g : pos 1 ≡ gain = some_is (pos 1) gain h in
            let at_n : (m : ℤ) → unwrap_or (slice_get (slice_set env.indices index m) k) (pos 0) ≡ m = λ m. subst (λ j. unwrap_or (slice_get (slice_set env.indices index m) j) (pos 0) ≡ m) (sym (eqb-true k index e)) (ap (λ o. unwrap_or o (pos 0)) (get_same env.indices index m place)) in
            let a = at_n n in
            let b = at_n (n +ℤ pos 1) in
            omega (arith, ints, g, a, b);
      }
      go false e h = flat (λ n. unwrap_or (slice_get (slice_set env.indices index n) k) (pos 0)) (unwrap_or (slice_get env.indices k) (pos 0)) gain (λ n. ap (λ o. unwrap_or o (pos 0)) (get_other env.indices index k n (eqb-false k index e))) h

  element_line : (e : ℕ) (x : Sym) → HasLine x → (gain : ℤ) → still (gain_of index x) ≡ Some gain → IsLine (λ n. element_or_zero values (first_by (slice_get env.bases e)) (at n x).run) gain
  element_line e x ih gain h =
      let q : (gain_of index x ≡ Some (pos 0)) × (pos 0 ≡ gain) = still_is (gain_of index x) gain h in
      let line : IsLine (λ n. (at n x).whole) (pos 0) = ih (pos 0) q.0 in
      record {
        gains = λ n.
            let step : (at (n +ℤ pos 1) x).whole ≡ (at n x).whole +ℤ pos 0 = line.gains n in
            let same : (at (n +ℤ pos 1) x).whole ≡ (at n x).whole = omega (arith, ints, step) in
            let ran : (at (n +ℤ pos 1) x).run ≡ (at n x).run = wraps_once (at_index env index (n +ℤ pos 1)) values x ∙ ap wrapped same ∙ sym (wraps_once (at_index env index n) values x) in
            let f = ap (element_or_zero values (first_by (slice_get env.bases e))) ran in
            let z = q.1 in
            omega (arith, ints, f, z);
      }

  sum_line : (x y : Sym) (a b : Option ℤ) → ((g : ℤ) → a ≡ Some g → IsLine (λ n. (at n x).whole) g) → ((g : ℤ) → b ≡ Some g → IsLine (λ n. (at n y).whole) g) → (gain : ℤ) → sum_of_gains a b ≡ Some gain → IsLine (λ n. (at n x).whole +ℤ (at n y).whole) gain
  sum_line x y (Some a) (Some b) h k gain e = record {
    gains = λ n.
        let u : (at (n +ℤ pos 1) x).whole ≡ (at n x).whole +ℤ a = (h a refl).gains n in
        let v : (at (n +ℤ pos 1) y).whole ≡ (at n y).whole +ℤ b = (k b refl).gains n in
        let w : a +ℤ b ≡ gain = some_is (a +ℤ b) gain e in
        omega (arith, ints, u, v, w);
  }
  sum_line x y (Some a) None h k gain e = absurd (cc)
  sum_line x y None b h k gain e = absurd (cc)

  product_line : (c : ℤ) (x : Sym) (a : Option ℤ) → ((g : ℤ) → a ≡ Some g → IsLine (λ n. (at n x).whole) g) → (gain : ℤ) → multiple_of_gain c a ≡ Some gain → IsLine (λ n. c *ℤ (at n x).whole) gain
  product_line c x (Some a) h gain e = record {
    gains = λ n. ap (λ z. c *ℤ z) ((h a refl).gains n) ∙ distributes c (at n x).whole a ∙ ap (λ z. c *ℤ (at n x).whole +ℤ z) (some_is (c *ℤ a) gain e);
  }
  product_line c x None h gain e = absurd (cc)

  abbrev whole : Numbers → ℤ
  whole m = m.whole

  pub lies_on_line : (x : Sym) → HasLine x
  lies_on_line = induction HasLine (record {
    at_lit = λ v. constant (s.Lit v) v (fold_lit (Option ℤ) (gain_step index) v) (λ n. ap whole (fold_lit Numbers (numbers_step (at_index env index n) values) v));
    at_addr = λ e. constant (s.Addr e) _ (fold_addr (Option ℤ) (gain_step index) e) (λ n. ap whole (fold_addr Numbers (numbers_step (at_index env index n) values) e));
    at_cell = λ e. constant (s.Cell e) _ (fold_cell (Option ℤ) (gain_step index) e) (λ n. ap whole (fold_cell Numbers (numbers_step (at_index env index n) values) e));
    at_elem = λ e x ih gain h. moved _ _ gain (λ n. ap whole (fold_elem Numbers (numbers_step (at_index env index n) values) e x)) (element_line e x ih gain (sym (fold_elem (Option ℤ) (gain_step index) e x) ∙ h));
    at_index = λ k gain h. moved _ _ gain (λ n. ap whole (fold_index Numbers (numbers_step (at_index env index n) values) k)) (index_line k gain (sym (fold_index (Option ℤ) (gain_step index) k) ∙ h));
    at_add = λ x y h k gain e. moved _ _ gain (λ n. ap whole (fold_add Numbers (numbers_step (at_index env index n) values) x y)) (sum_line x y (gain_of index x) (gain_of index y) h k gain (sym (fold_add (Option ℤ) (gain_step index) x y) ∙ e));
    at_mul = λ c x h gain e. moved _ _ gain (λ n. ap whole (fold_mul Numbers (numbers_step (at_index env index n) values) c x)) (product_line c x (gain_of index x) h gain (sym (fold_mul (Option ℤ) (gain_step index) c x) ∙ e));
  })

pub gain_makes_line : GainMakesLine
gain_makes_line env values index x gain place h = lies_on_line env values index place x gain h

-- a symbol has no gain, or a part of it has one that is too wide
abbrev pub LacksGain : ℕ → Sym → Type 0
LacksGain index x = (gain_of index x ≡ None) ⊎ HasWidePart index x

pub in_elem : (index e : ℕ) (x : Sym) → LacksGain index x → LacksGain index (s.Elem e x)
in_elem index e x (inl h) = inl (fold_elem (Option ℤ) (gain_step index) e x ∙ ap still h)
in_elem index e x (inr h) = inr (in_place e x h)

pub in_first : (index : ℕ) (x y : Sym) → LacksGain index x → LacksGain index (s.Add x y)
in_first index x y (inl h) = inl (fold_add (Option ℤ) (gain_step index) x y ∙ ap (λ a. sum_of_gains a (gain_of index y)) h)
in_first index x y (inr h) = inr (in_left x y h)

pub in_second : (index : ℕ) (x y : Sym) → LacksGain index y → LacksGain index (s.Add x y)
in_second index x y (inl h) = inl (fold_add (Option ℤ) (gain_step index) x y ∙ ap (sum_of_gains (gain_of index x)) h ∙ none (gain_of index x))
  where
    none : (a : Option ℤ) → sum_of_gains a None ≡ None
    none (Some a) = refl
    none None = refl
in_second index x y (inr h) = inr (in_right x y h)

pub in_multiple : (index : ℕ) (c : ℤ) (x : Sym) → LacksGain index x → LacksGain index (s.Mul c x)
in_multiple index c x (inl h) = inl (fold_mul (Option ℤ) (gain_step index) c x ∙ ap (multiple_of_gain c) h)
in_multiple index c x (inr h) = inr (in_inner c x h)

too_wide : (index : ℕ) (x : Sym) (g : ℤ) → gain_of index x ≡ Some g → (FitsSigned w128 g → ⊥) → LacksGain index x
too_wide index x g h wide = inr (itself x (subst IsWide (sym h) wide))

pub sum_too_wide : (index : ℕ) (x y : Sym) (a b : ℤ) (o : Option ℤ) → gain_of index x ≡ Some a → gain_of index y ≡ Some b → SomeIff o (FitsSigned w128 (a +ℤ b)) (a +ℤ b) → IfNone o (LacksGain index (s.Add x y))
sum_too_wide index x y a b (Some v) h k e = tt
sum_too_wide index x y a b None h k e = too_wide index (s.Add x y) (a +ℤ b) (fold_add (Option ℤ) (gain_step index) x y ∙ (λ i. sum_of_gains (h i) (k i))) e

pub product_too_wide : (index : ℕ) (c : ℤ) (x : Sym) (a : ℤ) (o : Option ℤ) → gain_of index x ≡ Some a → SomeIff o (FitsSigned w128 (c *ℤ a)) (c *ℤ a) → IfNone o (LacksGain index (s.Mul c x))
product_too_wide index c x a (Some v) h e = tt
product_too_wide index c x a None h e = too_wide index (s.Mul c x) (c *ℤ a) (fold_mul (Option ℤ) (gain_step index) c x ∙ ap (multiple_of_gain c) h) e

pub if_none : (o : Option ℤ) (P : Type 0) → P → IfNone o P
if_none None P h = h
if_none (Some v) P h = tt
