-- A node of a graph has its members by those of its children, and a later node changes none of them.
use Rattle.std.proofs.Common.{◌≡◌, ◌↔◌, ℕ, ◌<◌, ◌≤◌, ◌==◌, ◌⊎◌, inl, inr, ℤ, Bool, true, false, List, [], ◌∷◌, ◌++◌, length, reverse, Some, slice_get, slice_set, refl, sym, subst, ◌∙◌, arith, length-append}
use Rattle.std.proofs.lemmas.Bool.{eqb-false}
use Rattle.std.proofs.lemmas.Bool.Decides.{nat_tests}
use Rattle.std.proofs.lemmas.List.{reverse-append, reverse-reverse, length-reverse}
use Rattle.usr_graph.specs.declared.node.Node.{Node}
use Rattle.usr_graph.specs.declared.node.Node.TheVariants as n
use Rattle.usr_graph.specs.declared.triple.Triple.{Triple}
use Rattle.usr_graph.specs.Built.{Keeps, IsAdded, IsNodeOf}
use Rattle.usr_graph.specs.Members.{Worth, Choice, Sets, IsOf, one_of, sets_of, IsMember, OlderNodesKeepTheirMembers, index_value}
use Rattle.usr_graph.specs.Nodes.{ChildrenBelow, HaveEarlierChildren}
use Rattle.usr_graph.specs.Triples.{IsIn}
use Rattle.usr_graph.proofs.Maps.{before_map, where_map, count_map}
use Rattle.usr_graph.proofs.Places.{get_push, get_first, get_within, children_typed}
use Rattle.usr_graph.proofs.Sets.{both_ways}

-- two families of sets are the same of the first numbers
record Agree (first : ℕ) (p q : Sets) : Type 0 where
  pub same : (id : ℕ) (indices : List ℤ) (a : ℤ) → id < first → p id indices a ↔ q id indices a

agree_below : (p q : Sets) (m first : ℕ) → m ≤ first → Agree first p q → Agree m p q
agree_below p q m first h agree = record { same = λ id indices a less. agree.same id indices a (omega (arith, h, less)) }

agree_back : (p q : Sets) (first : ℕ) → Agree first p q → Agree first q p
agree_back p q first agree = record { same = λ id indices a less. ((agree.same id indices a less).1, (agree.same id indices a less).0) }

module _ (worth : Worth) (choice : Choice) where
  one_way : (p q : Sets) (first : ℕ) (id : ℕ) (node : Node) (indices : List ℤ) (a : ℤ) → ChildrenBelow first node → Agree first p q → IsOf worth choice p id node indices a → IsOf worth choice q id node indices a
  one_way p q first id n.Empty indices a below agree h = h
  one_way p q first id (n.Leaf lmad) indices a below agree h = h
  one_way p q first id (n.Union x y) indices a below agree h = elim h as (λ _. q x indices a ⊎ q y indices a) [ inl k ↦ inl ((agree.same x indices a below.0).0 k) | inr k ↦ inr ((agree.same y indices a below.1).0 k) ]
  one_way p q first id (n.Inter x y) indices a below agree h = ((agree.same x indices a below.0).0 h.0, (agree.same y indices a below.1).0 h.1)
  one_way p q first id (n.Minus x y) indices a below agree h = ((agree.same x indices a below.0).0 h.0, λ k. h.1 ((agree.same y indices a below.1).1 k))
  one_way p q first id (n.Gate cond body) indices a below agree h = where_map (worth cond.left indices) (worth cond.right indices) cond.rel (p body indices a) (q body indices a) _ (λ k. (agree.same body indices a below).0 k) h
  one_way p q first id (n.Recur index count body) indices a below agree h = count_map (worth count indices) (λ i. p body (slice_set indices index i) a) (λ i. q body (slice_set indices index i) a) _ (λ i k. (agree.same body (slice_set indices index i) a below).0 k) h
  one_way p q first id (n.Below index limit body) indices a below agree h = before_map (index_value indices limit) (λ i. p body (slice_set indices index i) a) (λ i. q body (slice_set indices index i) a) (λ i k. (agree.same body (slice_set indices index i) a below).0 k) h
  one_way p q first id (n.Site site body) indices a below agree h = (agree.same body indices a below).0 h

  same_by : (p q : Sets) (first : ℕ) (id : ℕ) (node : Node) (indices : List ℤ) (a : ℤ) → ChildrenBelow first node → Agree first p q → IsOf worth choice p id node indices a ↔ IsOf worth choice q id node indices a
  same_by p q first id node indices a below agree = (one_way p q first id node indices a below agree, one_way q p first id node indices a below (agree_back p q first agree))

  -- the newest of some nodes, and the older ones beside it
  older_same : (node : Node) (older : List Node) → Agree (length older) (sets_of worth choice (node ∷ older)) (sets_of worth choice older)
  older_same node older = record { same = λ id indices a less. go id indices a (id == length older) refl less }
    where
      go : (id : ℕ) (indices : List ℤ) (a : ℤ) (b : Bool) → (id == length older) ≡ b → id < length older → one_of worth choice b (λ id. IsOf worth choice (sets_of worth choice older) id node) (sets_of worth choice older) id indices a ↔ sets_of worth choice older id indices a
      go id indices a true e less = absurd (grind (arith, nat_tests))
      go id indices a false e less = (λ h. h, λ h. h)

  newest_is : (node : Node) (older : List Node) (id : ℕ) (indices : List ℤ) (a : ℤ) → id ≡ length older → sets_of worth choice (node ∷ older) id indices a ↔ IsOf worth choice (sets_of worth choice older) id node indices a
  newest_is node older id indices a h = go (id == length older) refl
    where
      go : (b : Bool) → (id == length older) ≡ b → one_of worth choice b (λ id. IsOf worth choice (sets_of worth choice older) id node) (sets_of worth choice older) id indices a ↔ IsOf worth choice (sets_of worth choice older) id node indices a
      go true e = (λ h. h, λ h. h)
      go false e = absurd (eqb-false id (length older) e h)

  at_place : (rs : List Node) → HaveEarlierChildren (reverse rs) → (id : ℕ) (node : Node) → slice_get (reverse rs) id ≡ Some node → (indices : List ℤ) (a : ℤ) → sets_of worth choice rs id indices a ↔ IsOf worth choice (sets_of worth choice rs) id node indices a
  at_place [] earlier id node h indices a = absurd (cc)
  at_place (r ∷ rs) earlier id node h indices a = go (get_push (reverse rs) r id node (subst (λ l. slice_get l id ≡ Some node) split h)) (λ k. at_place rs before id node k indices a)
    where
      split : reverse (r ∷ rs) ≡ reverse rs ++ r ∷ []
      split = reverse-append (r ∷ []) rs

      before : HaveEarlierChildren (reverse rs)
      before i x k = earlier i x (subst (λ l. slice_get l i ≡ Some x) (sym split) (get_first (reverse rs) (r ∷ []) i x k))

      same : Agree (length rs) (sets_of worth choice rs) (sets_of worth choice (r ∷ rs))
      same = agree_back (sets_of worth choice (r ∷ rs)) (sets_of worth choice rs) (length rs) (older_same r rs)

      children : ChildrenBelow id node
      children = children_typed id node (earlier id node h)

      go : (slice_get (reverse rs) id ≡ Some node) ⊎ ((id ≡ length (reverse rs)) × (r ≡ node)) → (slice_get (reverse rs) id ≡ Some node → sets_of worth choice rs id indices a ↔ IsOf worth choice (sets_of worth choice rs) id node indices a) →
          sets_of worth choice (r ∷ rs) id indices a ↔ IsOf worth choice (sets_of worth choice (r ∷ rs)) id node indices a
      go (inl k) next =
          let inside : id < length rs = subst (λ m. id < m) (length-reverse rs) (get_within (reverse rs) id node k) in
          both_ways _ _ _ ((older_same r rs).same id indices a inside) (both_ways _ _ _ (next k) (same_by (sets_of worth choice rs) (sets_of worth choice (r ∷ rs)) id id node indices a children (agree_below (sets_of worth choice rs) (sets_of worth choice (r ∷ rs)) id (length rs) (omega (arith, inside)) same)))
      go (inr k) next =
          let last : id ≡ length rs = k.0 ∙ length-reverse rs in
          both_ways _ _ _ (newest_is r rs id indices a last)
          (subst (λ x. IsOf worth choice (sets_of worth choice rs) id x indices a ↔ IsOf worth choice (sets_of worth choice (r ∷ rs)) id node indices a) (sym k.1)
          (same_by (sets_of worth choice rs) (sets_of worth choice (r ∷ rs)) id id node indices a children (agree_below (sets_of worth choice rs) (sets_of worth choice (r ∷ rs)) id (length rs) (omega (arith, last)) same)))

pub node_is : (nodes : List Node) (id : ℕ) (node : Node) → HaveEarlierChildren nodes → slice_get nodes id ≡ Some node → IsNodeOf nodes id node
node_is nodes id node earlier h = record { members = λ worth choice indices a. at_place worth choice (reverse nodes) (subst HaveEarlierChildren (sym (reverse-reverse nodes)) earlier) id node (subst (λ l. slice_get l id ≡ Some node) (sym (reverse-reverse nodes)) h) indices a }

-- ---- one node more

pub older_nodes_keep : OlderNodesKeepTheirMembers
older_nodes_keep worth choice nodes node id indices a h = subst (λ rs. sets_of worth choice rs id indices a ↔ sets_of worth choice (reverse nodes) id indices a) (sym (reverse-append nodes (node ∷ [])))
    ((older_same worth choice node (reverse nodes)).same id indices a (subst (λ m. id < m) (sym (length-reverse nodes)) h))

pub keeps_itself : (nodes : List Node) → Keeps nodes nodes
keeps_itself nodes = record { longer = omega arith; spelled = λ id node h. h; same = λ worth choice id indices a low. (λ h. h, λ h. h) }

pub push_keeps : (nodes : List Node) (node : Node) → Keeps nodes (nodes ++ node ∷ [])
push_keeps nodes node = record { longer = omega (arith, length-append nodes (node ∷ [])); spelled = λ id x h. get_first nodes (node ∷ []) id x h; same = λ worth choice id indices a low. older_nodes_keep worth choice nodes node id indices a low }

pub keeps_then : (one two three : List Node) → Keeps one two → Keeps two three → Keeps one three
keeps_then one two three k m = record {
  longer = omega (arith, k.longer, m.longer);
  spelled = λ id node h. m.spelled id node (k.spelled id node h);
  same = λ worth choice id indices a low. both_ways _ _ _ (m.same worth choice id indices a (omega (arith, k.longer, low))) (k.same worth choice id indices a low);
}

pub is_in_later : (old new : List Node) (t : Triple) → Keeps old new → IsIn old t → IsIn new t
is_in_later old new t k i = record { ro = omega (arith, i.ro, k.longer); wf = omega (arith, i.wf, k.longer); rw = omega (arith, i.rw, k.longer) }

pub push_adds : (nodes : List Node) (node : Node) → IsAdded nodes node (nodes ++ node ∷ []) (length nodes)
push_adds nodes node = record {
  there = omega (arith, length-append nodes (node ∷ []));
  members = λ worth choice indices a. subst (λ rs. sets_of worth choice rs (length nodes) indices a ↔ IsOf worth choice (IsMember worth choice nodes) (length nodes) node indices a) (sym (reverse-append nodes (node ∷ [])))
      (newest_is worth choice node (reverse nodes) (length nodes) indices a (sym (length-reverse nodes)));
}
