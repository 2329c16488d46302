-- Sets put together, one in the place of another.
use Rattle.std.proofs.Common.{◌≡◌, ◌↔◌, ◌⊎◌, inl, inr, ℕ, ◌<◌, ℤ, pos, List, Option, Some, length, slice_set, sym, subst, ◌∙◌}
use Rattle.std.proofs.lemmas.List.{set-set, get_or-set_same}
use Rattle.std.proofs.lemmas.Option.{unwrap_or-slice_get}
use Rattle.uses.specs.Over.{Over, Before}
use Rattle.usr_graph.specs.declared.node.Node.{Node}
use Rattle.usr_graph.specs.declared.node.Node.TheVariants as n
use Rattle.usr_graph.specs.Built.{IsAdded}
use Rattle.usr_graph.specs.Members.{Worth, Choice, IsMember, OverCount, index_value}
use Rattle.usr_graph.proofs.Maps.{over_map, before_map}

pub both_ways : (p q r : Type 0) → p ↔ q → q ↔ r → p ↔ r
both_ways p q r f g = (λ h. g.0 (f.0 h), λ h. f.1 (g.1 h))

pub either_same : (p q r s : Type 0) → p ↔ q → r ↔ s → (p ⊎ r) ↔ (q ⊎ s)
either_same p q r s f g = (λ h. elim h as (λ _. q ⊎ s) [ inl k ↦ inl (f.0 k) | inr k ↦ inr (g.0 k) ], λ h. elim h as (λ _. p ⊎ r) [ inl k ↦ inl (f.1 k) | inr k ↦ inr (g.1 k) ])

pub without_same : (p q r s : Type 0) → p ↔ q → r ↔ s → (p × (r → ⊥)) ↔ (q × (s → ⊥))
without_same p q r s f g = (λ h. (f.0 h.0, λ k. h.1 (g.1 k)), λ h. (f.1 h.0, λ k. h.1 (g.0 k)))

pub joint_same : (p q r s : Type 0) → p ↔ q → r ↔ s → (p × r) ↔ (q × s)
joint_same p q r s f g = (λ h. (f.0 h.0, g.0 h.1), λ h. (f.1 h.0, g.1 h.1))

-- ---- at values of an index

pub over_same : (m : ℤ) (p q : ℤ → Type 0) → ((i : ℤ) → p i ↔ q i) → Over m p ↔ Over m q
over_same m p q f = (over_map m p q (λ i. (f i).0), over_map m q p (λ i. (f i).1))

pub before_same : (m : ℤ) (p q : ℤ → Type 0) → ((i : ℤ) → p i ↔ q i) → Before m p ↔ Before m q
before_same m p q f = (before_map m p q (λ i. (f i).0), before_map m q p (λ i. (f i).1))

-- a recurrence whose count has a value
pub over_some : (c : Option ℤ) (m : ℤ) (at : ℤ → Type 0) (o : Type 0) → c ≡ Some m → OverCount c at o ↔ Over m at
over_some c m at o e = subst (λ t. OverCount t at o ↔ Over m at) (sym e) (λ h. h, λ h. h)

-- the value of an index that is set
index_set : (indices : List ℤ) (index : ℕ) (j : ℤ) → index < length indices → index_value (slice_set indices index j) index ≡ j
index_set indices index j place = unwrap_or-slice_get (slice_set indices index j) index (pos 0) ∙ get_or-set_same indices index j (pos 0) place

-- what a node has at a value of an index that is below the value at hand
pub before_at : (one two : List Node) (index body id : ℕ) → IsAdded one (n.Below index index body) two id → (worth : Worth) (choice : Choice) (indices : List ℤ) (j a : ℤ) → index < length indices →
    IsMember worth choice two id (slice_set indices index j) a ↔ Before j (λ k. IsMember worth choice one body (slice_set indices index k) a)
before_at one two index body id b worth choice indices j a place =
    let at : List ℤ → Type 0 = λ xs. IsMember worth choice one body xs a in
    let limit : IsMember worth choice two id (slice_set indices index j) a ↔ Before j (λ k. at (slice_set (slice_set indices index j) index k)) = subst (λ v. IsMember worth choice two id (slice_set indices index j) a ↔ Before v (λ k. at (slice_set (slice_set indices index j) index k))) (index_set indices index j place) (b.members worth choice (slice_set indices index j) a) in
    both_ways _ _ _ limit (before_same j _ _ (λ k. (λ h. subst at (set-set indices index j k) h, λ h. subst at (sym (set-set indices index j k)) h)))
