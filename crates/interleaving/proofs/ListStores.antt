-- Stores of lists.
use Rattle.std.proofs.Common.{ℕ, zero, suc, ◌<◌, ◌≡◌, ◌==◌, true, false, List, [], ◌∷◌, length, if◌then◌else◌, refl, sym, ap, ap₂, subst, arith, eqb-true, eq-eqb}
use Rattle.std.specs.Prelude.{slice_index_or, slice_set}
use Rattle.std.proofs.lemmas.List.{get_or-set_same, get_or-set_other, get_or_past, set_past}
use Rattle.std.proofs.lemmas.Option.{get_or_from_slice_get}
use mathlib.Core.Path.{fun_ext}
use Rattle.interleaving.specs.ListStores.{store_of, AreStores}
use Rattle.interleaving.specs.Machine.{put}

module _ {V : Type 0} (outside : V) where
  written : (values : List V) (a : ℕ) (v : V) → a < length values → (b : ℕ) → store_of outside (slice_set values a v) b ≡ put (store_of outside values) a v b
  written values a v h b = (elim (a == b) as (λ w. (a == b) ≡ w → slice_index_or (slice_set values a v) b outside ≡ (if w then v else slice_index_or values b outside)) [
    | true ↦ λ e. subst (λ c. slice_index_or (slice_set values a v) c outside ≡ v) (eqb-true a b e) (get_or-set_same values a v outside h)
    | false ↦ λ e. get_or-set_other values a b v outside (λ q. let same : (a == b) ≡ true = eq-eqb a b (sym q) in absurd (cc))
  ]) refl

  one_list : (values others : List V) → length values ≡ length others → store_of outside values ≡ store_of outside others → values ≡ others
  one_list [] [] h e = refl
  one_list [] (y ∷ others) h e = absurd (cc)
  one_list (x ∷ values) [] h e = absurd (cc)
  one_list (x ∷ values) (y ∷ others) h e = ap₂ (λ z zs. z ∷ zs) (ap (λ f. f zero) e) (one_list values others (omega (arith, h)) (fun_ext (λ a. ap (λ f. f (suc a)) e)))

pub are_stores : (V : Type 0) → AreStores V
are_stores V = record {
  holds = λ outside values a v h. get_or_from_slice_get values a v outside h;
  outside = λ outside values a h. get_or_past values a outside h;
  written_within = λ outside values a v h. fun_ext (λ b. written outside values a v h b);
  written_beyond = λ outside values a v h. ap (store_of outside) (set_past values a v h);
  one_list = λ outside values others h e. one_list outside values others h e;
}
