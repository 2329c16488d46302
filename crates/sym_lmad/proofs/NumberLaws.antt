-- The number of a run is the number without bound, wrapped once; where a worth exists it is both.
use Rattle.std.proofs.Common.{◌≡◌, ℕ, ◌<◌, ◌^◌, ℤ, pos, negsuc, ◌+ℤ◌, ◌*ℤ◌, Bool, true, false, List, length, Option, Some, None, IfSome, FitsSigned, slice_get, unwrap_or, if◌then◌else◌, refl, ap, sym, subst, ◌∙◌, arith}
use Rattle.std.proofs.lemmas.Int.{ints, int_wrap-add_left, int_wrap-add_right, int_wrap-mul_right, int_wrap_fits}
use Rattle.hyb_base.specs.declared.env.Base.{Base}
use Rattle.hyb_base.specs.declared.env.Base.TheVariants.{At, Value}
use Rattle.hyb_base.specs.declared.env.Env.{Env}
use Rattle.hyb_base.specs.Wrap.{wrapped}
use Rattle.sym_lmad.specs.declared.sym.Sym.{Sym}
use Rattle.sym_lmad.specs.declared.sym.Sym.TheVariants as s
use Rattle.sym_lmad.specs.Bindings.{FitsCells, region_of, start_of, length_of, address_in, address_by, is_within}
use Rattle.sym_lmad.specs.Numbers.{Numbers, numbers_step, numbers_of, run_of, whole_of, first_or_zero, cell_or_zero, cell_at, element_or_zero, RunIsWholeWrapped, WorthIsBoth}
use Rattle.sym_lmad.specs.Worth.{near_of, near_by, sum_by, multiple_by, first_by, number_by, cell_by, value_by, element_by, worth_step, worth_of}
use Rattle.sym_lmad.proofs.Bindings.{address_below}
use Rattle.sym_lmad.proofs.Near.{near_is, near_fits, near_again, near_had, some_is}
use Rattle.sym_lmad.proofs.Symbols.{induction, fold_lit, fold_addr, fold_cell, fold_elem, fold_index, fold_add, fold_mul}
use mir.Syntax.{w64}

abbrev IsOnce : Numbers → Type 0
IsOnce n = n.run ≡ wrapped n.whole

module _ (env : Env) (values : List ℤ) where
  pub wraps_once : (x : Sym) → IsOnce (numbers_of env values x)
  wraps_once = induction (λ x. IsOnce (numbers_of env values x)) (record {
    at_lit = λ v. subst IsOnce (sym (fold_lit Numbers (numbers_step env values) v)) refl;
    at_addr = λ e. subst IsOnce (sym (fold_addr Numbers (numbers_step env values) e)) refl;
    at_cell = λ e. subst IsOnce (sym (fold_cell Numbers (numbers_step env values) e)) refl;
    at_elem = λ e x h. subst IsOnce (sym (fold_elem Numbers (numbers_step env values) e x)) refl;
    at_index = λ i. subst IsOnce (sym (fold_index Numbers (numbers_step env values) i)) refl;
    at_add = λ x y h k. subst IsOnce (sym (fold_add Numbers (numbers_step env values) x y)) (sum_wraps (numbers_of env values x) (numbers_of env values y) h k);
    at_mul = λ c x h. subst IsOnce (sym (fold_mul Numbers (numbers_step env values) c x)) (product_wraps c (numbers_of env values x) h);
  })
    where
      sum_wraps : (m n : Numbers) → IsOnce m → IsOnce n → wrapped (m.run +ℤ n.run) ≡ wrapped (m.whole +ℤ n.whole)
      sum_wraps m n h k = (λ i. wrapped (h i +ℤ k i)) ∙ int_wrap-add_left w64 m.whole (wrapped n.whole) ∙ int_wrap-add_right w64 m.whole n.whole

      product_wraps : (c : ℤ) (m : Numbers) → IsOnce m → wrapped (c *ℤ m.run) ≡ wrapped (c *ℤ m.whole)
      product_wraps c m h = (λ i. wrapped (c *ℤ h i)) ∙ int_wrap-mul_right w64 c m.whole

  -- what a worth says of the number without bound
  abbrev IsWorth : Option ℤ → ℤ → Type 0
  IsWorth o z = (v : ℤ) → o ≡ Some v → (z ≡ v) × (near_of v ≡ Some v)

  near_worth : (z : ℤ) → IsWorth (near_of z) z
  near_worth z v h = (near_is z v h, near_again z v h)

  read_worth : (o : Option ℤ) → IsWorth (near_by o) (unwrap_or o (pos 0))
  read_worth None v h = absurd (cc)
  read_worth (Some z) v h = near_worth z v h

  cell_worth : (base : Option Base) → IsWorth (cell_by values base) (cell_or_zero values base)
  cell_worth (Some (At a)) = read_worth (slice_get values a)
  cell_worth (Some (Value u)) = near_worth u
  cell_worth None = λ v h. absurd (cc)

  sum_worth : (o p : Option ℤ) (x y : ℤ) → IsWorth o x → IsWorth p y → IsWorth (sum_by o p) (x +ℤ y)
  sum_worth (Some a) (Some b) x y h k v e = subst (λ z. (z ≡ v) × (near_of v ≡ Some v)) (λ i. sym ((h a refl).0) i +ℤ sym ((k b refl).0) i) (near_worth (a +ℤ b) v e)
  sum_worth (Some a) None x y h k v e = absurd (cc)
  sum_worth None p x y h k v e = absurd (cc)

  product_worth : (c : ℤ) (o : Option ℤ) (x : ℤ) → IsWorth o x → IsWorth (multiple_by c o) (c *ℤ x)
  product_worth c (Some a) x h v e = subst (λ z. (z ≡ v) × (near_of v ≡ Some v)) (λ i. c *ℤ sym ((h a refl).0) i) (near_worth (c *ℤ a) v e)
  product_worth c None x h v e = absurd (cc)

  run_is : (x : Sym) (v : ℤ) → whole_of env values x ≡ v → near_of v ≡ Some v → run_of env values x ≡ v
  run_is x v h n = wraps_once x ∙ ap wrapped h ∙ int_wrap_fits w64 v (near_fits v v n)

  -- an address that a region holds is had by its 64 bits
  same_address : (z : ℤ) (a : ℕ) → address_by z ≡ Some a → a < 2 ^ 32 → address_by (wrapped z) ≡ Some a
  same_address (pos n) a h small = let e : n ≡ a = some_is n a h in let f : FitsSigned w64 (pos n) = subst (λ m. FitsSigned w64 (pos m)) (sym e) (grind (arith, ints)) in ap address_by (int_wrap_fits w64 (pos n) f) ∙ h
  same_address (negsuc n) a h small = absurd (cc)

  element_worth : FitsCells env (length values) → (e : ℕ) (x : Sym) → IsWorth (worth_of env values x) (whole_of env values x) → IsWorth (element_by env values (first_by (slice_get env.bases e)) (region_of env e) (worth_of env values x)) (element_or_zero values (first_by (slice_get env.bases e)) (run_of env values x))
  element_worth fits e x ih = go (first_by (slice_get env.bases e)) (region_of env e) (worth_of env values x) ih
    where
      within_is : (z : ℤ) (a : ℕ) (held : Bool) → (if held then address_by z else None) ≡ Some a → address_by z ≡ Some a
      within_is z a true h = h
      within_is z a false h = absurd (cc)

      held : (r : ℕ) (z v : ℤ) (o : Option ℕ) → address_in (start_of env r) (length_of env r) z ≡ o → value_by values o ≡ Some v → (cell_at values (address_by (wrapped z)) ≡ v) × (near_of v ≡ Some v)
      held r z v None d h = absurd (cc)
      held r z v (Some a) d h =
          let below = subst (λ t. IfSome t (λ b. (b < length values) × (b < 2 ^ 32))) d (address_below env (length values) r z fits) in
          let there : address_by (wrapped z) ≡ Some a = same_address z a (within_is z a (is_within (start_of env r) (length_of env r) z) d) below.1 in
          subst (λ t. (cell_at values t ≡ v) × (near_of v ≡ Some v)) (sym there) (read_worth (slice_get values a) v h)

      go : (first region : Option ℕ) (place : Option ℤ) → IsWorth place (whole_of env values x) → IsWorth (element_by env values first region place) (element_or_zero values first (run_of env values x))
      go (Some a) (Some r) (Some p) ih v h =
          let w = ih p refl in
          let ran : run_of env values x ≡ p = run_is x p w.0 w.1 in
          subst (λ q. (cell_at values (address_by (wrapped (pos a +ℤ q))) ≡ v) × (near_of v ≡ Some v)) (sym ran) (held r (pos a +ℤ p) v (address_in (start_of env r) (length_of env r) (pos a +ℤ p)) refl h)
      go (Some a) (Some r) None ih v h = absurd (cc)
      go (Some a) None place ih v h = absurd (cc)
      go None region place ih v h = absurd (cc)

  abbrev HasWorth : Sym → Type 0
  HasWorth x = IsWorth (worth_of env values x) (whole_of env values x)

  along : (x : Sym) (o : Option ℤ) (n : Numbers) → worth_of env values x ≡ o → numbers_of env values x ≡ n → IsWorth o n.whole → HasWorth x
  along x o n e d h v is = let f = h v (sym e ∙ is) in (ap (λ (m : Numbers). m.whole) d ∙ f.0, f.1)

  pub worth_is : FitsCells env (length values) → (x : Sym) → HasWorth x
  worth_is fits = let step = numbers_step env values in let worth = worth_step env values in induction HasWorth (record {
    at_lit = λ u. along (s.Lit u) _ _ (fold_lit (Option ℤ) worth u) (fold_lit Numbers step u) (near_worth u);
    at_addr = λ e. along (s.Addr e) _ _ (fold_addr (Option ℤ) worth e) (fold_addr Numbers step e) (address_worth (first_by (slice_get env.bases e)));
    at_cell = λ e. along (s.Cell e) _ _ (fold_cell (Option ℤ) worth e) (fold_cell Numbers step e) (cell_worth (slice_get env.bases e));
    at_elem = λ e x h. along (s.Elem e x) _ _ (fold_elem (Option ℤ) worth e x) (fold_elem Numbers step e x) (element_worth fits e x h);
    at_index = λ i. along (s.Index i) _ _ (fold_index (Option ℤ) worth i) (fold_index Numbers step i) (read_worth (slice_get env.indices i));
    at_add = λ x y h k. along (s.Add x y) _ _ (fold_add (Option ℤ) worth x y) (fold_add Numbers step x y) (sum_worth (worth_of env values x) (worth_of env values y) (whole_of env values x) (whole_of env values y) h k);
    at_mul = λ c x h. along (s.Mul c x) _ _ (fold_mul (Option ℤ) worth c x) (fold_mul Numbers step c x) (product_worth c (worth_of env values x) (whole_of env values x) h);
  })
    where
      address_worth : (o : Option ℕ) → IsWorth (number_by o) (first_or_zero o)
      address_worth (Some a) = near_worth (pos a)
      address_worth None = λ v h. absurd (cc)

-- each worth is near
module _ (env : Env) (values : List ℤ) where
  abbrev IsNearWorth : Option ℤ → Type 0
  IsNearWorth o = (v : ℤ) → o ≡ Some v → near_of v ≡ Some v

  near_read : (o : Option ℤ) → IsNearWorth (near_by o)
  near_read o v h = (near_had o v h).1

  near_cell : (base : Option Base) → IsNearWorth (cell_by values base)
  near_cell (Some (At a)) = near_read (slice_get values a)
  near_cell (Some (Value u)) = near_again u
  near_cell None = λ v h. absurd (cc)

  near_number : (o : Option ℕ) → IsNearWorth (number_by o)
  near_number (Some a) = near_again (pos a)
  near_number None = λ v h. absurd (cc)

  near_value : (o : Option ℕ) → IsNearWorth (value_by values o)
  near_value (Some a) = near_read (slice_get values a)
  near_value None = λ v h. absurd (cc)

  near_element : (first region : Option ℕ) (place : Option ℤ) → IsNearWorth (element_by env values first region place)
  near_element (Some a) (Some r) (Some p) = near_value (address_in (start_of env r) (length_of env r) (pos a +ℤ p))
  near_element (Some a) (Some r) None = λ v h. absurd (cc)
  near_element (Some a) None place = λ v h. absurd (cc)
  near_element None region place = λ v h. absurd (cc)

  near_sum : (o p : Option ℤ) → IsNearWorth (sum_by o p)
  near_sum (Some a) (Some b) = near_again (a +ℤ b)
  near_sum (Some a) None = λ v h. absurd (cc)
  near_sum None p = λ v h. absurd (cc)

  near_product : (c : ℤ) (o : Option ℤ) → IsNearWorth (multiple_by c o)
  near_product c (Some a) = near_again (c *ℤ a)
  near_product c None = λ v h. absurd (cc)

  pub worth_near : (x : Sym) → IsNearWorth (worth_of env values x)
  worth_near = let step = worth_step env values in induction (λ x. IsNearWorth (worth_of env values x)) (record {
    at_lit = λ u. subst IsNearWorth (sym (fold_lit (Option ℤ) step u)) (near_again u);
    at_addr = λ e. subst IsNearWorth (sym (fold_addr (Option ℤ) step e)) (near_number (first_by (slice_get env.bases e)));
    at_cell = λ e. subst IsNearWorth (sym (fold_cell (Option ℤ) step e)) (near_cell (slice_get env.bases e));
    at_elem = λ e x h. subst IsNearWorth (sym (fold_elem (Option ℤ) step e x)) (near_element (first_by (slice_get env.bases e)) (region_of env e) (worth_of env values x));
    at_index = λ i. subst IsNearWorth (sym (fold_index (Option ℤ) step i)) (near_read (slice_get env.indices i));
    at_add = λ x y h k. subst IsNearWorth (sym (fold_add (Option ℤ) step x y)) (near_sum (worth_of env values x) (worth_of env values y));
    at_mul = λ c x h. subst IsNearWorth (sym (fold_mul (Option ℤ) step c x)) (near_product c (worth_of env values x));
  })

pub run_is_whole_wrapped : RunIsWholeWrapped
run_is_whole_wrapped env values x = wraps_once env values x

pub worth_is_both : WorthIsBoth
worth_is_both env values x v fits h = let w = worth_is env values fits x v h in (w.0, run_is env values x v w.0 w.1)
