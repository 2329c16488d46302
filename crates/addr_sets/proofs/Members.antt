-- Membership in the set of a list of addresses, by the words of the ordered set of std.
use Rattle.std.proofs.Common.{Bool, ℕ, ◌≡◌, ◌<◌, ◌≤◌, ◌==◌, ◌&&◌, ◌||◌, not, cond, true, false, List, [], ◌∷◌, length, refl, sym, ◌∙◌, arith}
use Rattle.std.specs.Cmp.{nat_cmp_total, unsigned_tied, nat_eq_equiv}
use Rattle.std.specs.FinSet as set
use Rattle.std.specs.List.{list_any}
use Rattle.std.specs.Ordering.{nat_cmp, eq_by_cmp, is_gt}
use Rattle.std.specs.Set.{is_member, IsUnion, IsIntersection, IsDifference}
use Rattle.std.proofs.lemmas.Bool.Decides.{nat_tests}
use Rattle.std.proofs.lemmas.Map.Keys.{le_from_not_gt}
use Rattle.addr_sets.specs.Members.{Addresses, has, IsLeastFrom}

-- the set of a list
abbrev pub of : List ℕ → Addresses
of ks = set.from_list ks

pub has_of : (ks : List ℕ) (a : ℕ) → has (of ks) a ≡ list_any (eq_by_cmp nat_cmp a) ks
has_of ks a = set.contains-from_list nat_cmp_total ks a

-- a set without members
pub none_has : (ks : List ℕ) → (0 < length ks → ⊥) → (a : ℕ) → has (of ks) a ≡ false
none_has [] h a = set.contains-empty nat_cmp a
none_has (k ∷ ks) h a = absurd (h (omega arith))

same_or : (x y : Bool) → cond x true y ≡ (x || y)
same_or true y = refl
same_or false y = refl

-- one more member
pub insert_has : (old new : List ℕ) (k : ℕ) → ((q : ℕ) → list_any (eq_by_cmp nat_cmp q) new ≡ cond (eq_by_cmp nat_cmp k q) true (list_any (eq_by_cmp nat_cmp q) old)) → (a : ℕ) → has (of new) a ≡ (a == k || has (of old) a)
insert_has old new k h a =
    has_of new a ∙ h a ∙ same_or (eq_by_cmp nat_cmp k a) (list_any (eq_by_cmp nat_cmp a) old)
    ∙ (λ i. (unsigned_tied k a ∙ nat_eq_equiv.symm k a) i || sym (has_of old a) i)

module _ (s t v made : List ℕ) (same : (q : ℕ) → is_member (eq_by_cmp nat_cmp) v q ≡ is_member (eq_by_cmp nat_cmp) made q) where
  pub union_has : IsUnion (eq_by_cmp nat_cmp) s t made → (a : ℕ) → has (of v) a ≡ (has (of s) a || has (of t) a)
  union_has h a = has_of v a ∙ same a ∙ h a ∙ (λ i. sym (has_of s a) i || sym (has_of t a) i)

  pub inter_has : IsIntersection (eq_by_cmp nat_cmp) s t made → (a : ℕ) → has (of v) a ≡ (has (of s) a && has (of t) a)
  inter_has h a = has_of v a ∙ same a ∙ h a ∙ (λ i. sym (has_of s a) i && sym (has_of t a) i)

  pub minus_has : IsDifference (eq_by_cmp nat_cmp) s t made → (a : ℕ) → has (of v) a ≡ (has (of s) a && not (has (of t) a))
  minus_has h a = has_of v a ∙ same a ∙ h a ∙ (λ i. sym (has_of s a) i && not (sym (has_of t a) i))

le_gt : (a b : ℕ) → a ≤ b → is_gt (nat_cmp a b) ≡ false
le_gt a b h = grind (arith, nat_tests)

-- a least member
pub least_of : (ks : List ℕ) (m : ℕ) → list_any (eq_by_cmp nat_cmp m) ks ≡ true → ((q : ℕ) → list_any (eq_by_cmp nat_cmp q) ks ≡ true → is_gt (nat_cmp m q) ≡ false) → IsLeastFrom (of ks) 0 m
least_of ks m member least = record {
  member_of = has_of ks m ∙ member;
  not_below = omega arith;
  least = λ a _ h. le_from_not_gt m a (least a (sym (has_of ks a) ∙ h));
}

-- the first of the members from an address on
pub least_from : (ks : List ℕ) (low m : ℕ) → is_gt (nat_cmp low m) ≡ false → list_any (eq_by_cmp nat_cmp m) ks ≡ true → ((q : ℕ) → is_gt (nat_cmp low q) ≡ false → list_any (eq_by_cmp nat_cmp q) ks ≡ true → is_gt (nat_cmp m q) ≡ false) → IsLeastFrom (of ks) low m
least_from ks low m from member least = record {
  member_of = has_of ks m ∙ member;
  not_below = le_from_not_gt low m from;
  least = λ a above h. le_from_not_gt m a (least a (le_gt low a above) (sym (has_of ks a) ∙ h));
}

pub none_from : (ks : List ℕ) (low : ℕ) → ((q : ℕ) → is_gt (nat_cmp low q) ≡ false → list_any (eq_by_cmp nat_cmp q) ks ≡ false) → (a : ℕ) → low ≤ a → has (of ks) a ≡ false
none_from ks low h a above = has_of ks a ∙ h a (le_gt low a above)
