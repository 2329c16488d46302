-- Places in a list of nodes, and the children of its nodes.
use Rattle.std.proofs.Common.{◌≡◌, ℕ, zero, suc, ◌<◌, ◌⊎◌, inl, inr, Bool, true, false, ◌&&◌, List, [], ◌∷◌, ◌++◌, length, Some, nat_lt, IsTrue, slice_get, refl, ap, sym, subst, arith}
use Rattle.std.proofs.lemmas.Bool.Decides.{nat_tests}
use Rattle.usr_graph.specs.declared.node.Node.{Node}
use Rattle.usr_graph.specs.declared.node.Node.TheVariants as n
use Rattle.usr_graph.specs.Nodes.{ChildrenBelow, children_below, HaveEarlierChildren}

some_is : {X : Type 0} (x y : X) → Some x ≡ Some y → x ≡ y
some_is x y h = cc

pub get_push : (xs : List Node) (x : Node) (id : ℕ) (y : Node) → slice_get (xs ++ x ∷ []) id ≡ Some y → (slice_get xs id ≡ Some y) ⊎ ((id ≡ length xs) × (x ≡ y))
get_push [] x zero y h = inr (refl, some_is x y h)
get_push [] x (suc id) y h = absurd (cc)
get_push (z ∷ xs) x zero y h = inl h
get_push (z ∷ xs) x (suc id) y h = go (get_push xs x id y h)
  where
    go : (slice_get xs id ≡ Some y) ⊎ ((id ≡ length xs) × (x ≡ y)) → (slice_get xs id ≡ Some y) ⊎ ((suc id ≡ suc (length xs)) × (x ≡ y))
    go (inl k) = inl k
    go (inr k) = inr (ap suc k.0, k.1)

pub get_first : (xs ys : List Node) (id : ℕ) (y : Node) → slice_get xs id ≡ Some y → slice_get (xs ++ ys) id ≡ Some y
get_first [] ys id y h = absurd (cc)
get_first (x ∷ xs) ys zero y h = h
get_first (x ∷ xs) ys (suc id) y h = get_first xs ys id y h

pub get_within : (xs : List Node) (id : ℕ) (y : Node) → slice_get xs id ≡ Some y → id < length xs
get_within [] id y h = absurd (cc)
get_within (x ∷ xs) zero y h = omega arith
get_within (x ∷ xs) (suc id) y h = let k = get_within xs id y h in omega (arith, k)

-- ---- children, as facts and as tests

both_true : (a b : Bool) → (a && b) ≡ true → (a ≡ true) × (b ≡ true)
both_true true b h = (refl, h)
both_true false b h = absurd (cc)

true_both : (a b : Bool) → a ≡ true → b ≡ true → (a && b) ≡ true
true_both true b h k = k
true_both false b h k = absurd (cc)

less : (a b : ℕ) → nat_lt a b ≡ true → a < b
less a b h = grind (arith, nat_tests)

is_less : (a b : ℕ) → a < b → nat_lt a b ≡ true
is_less a b h = grind (arith, nat_tests)

two_less : (a b n : ℕ) → (nat_lt a n && nat_lt b n) ≡ true → (a < n) × (b < n)
two_less a b n h = let t = both_true (nat_lt a n) (nat_lt b n) h in (less a n t.0, less b n t.1)

are_less : (a b n : ℕ) → (a < n) × (b < n) → (nat_lt a n && nat_lt b n) ≡ true
are_less a b n h = true_both (nat_lt a n) (nat_lt b n) (is_less a n h.0) (is_less b n h.1)

pub children_typed : (first : ℕ) (node : Node) → IsTrue (children_below first node) → ChildrenBelow first node
children_typed first n.Empty h = tt
children_typed first (n.Leaf lmad) h = tt
children_typed first (n.Union x y) h = two_less x y first h
children_typed first (n.Inter x y) h = two_less x y first h
children_typed first (n.Minus x y) h = two_less x y first h
children_typed first (n.Gate cond body) h = less body first h
children_typed first (n.Recur index count body) h = less body first h
children_typed first (n.Below index limit body) h = less body first h
children_typed first (n.Site site body) h = less body first h

children_told : (first : ℕ) (node : Node) → ChildrenBelow first node → IsTrue (children_below first node)
children_told first n.Empty h = refl
children_told first (n.Leaf lmad) h = refl
children_told first (n.Union x y) h = are_less x y first h
children_told first (n.Inter x y) h = are_less x y first h
children_told first (n.Minus x y) h = are_less x y first h
children_told first (n.Gate cond body) h = is_less body first h
children_told first (n.Recur index count body) h = is_less body first h
children_told first (n.Below index limit body) h = is_less body first h
children_told first (n.Site site body) h = is_less body first h

pub earlier_push : (nodes : List Node) (node : Node) → HaveEarlierChildren nodes → ChildrenBelow (length nodes) node → HaveEarlierChildren (nodes ++ node ∷ [])
earlier_push nodes node earlier new id y h = go (get_push nodes node id y h)
  where
    go : (slice_get nodes id ≡ Some y) ⊎ ((id ≡ length nodes) × (node ≡ y)) → IsTrue (children_below id y)
    go (inl k) = earlier id y k
    go (inr k) = subst (λ first. IsTrue (children_below first y)) (sym k.0) (subst (λ x. IsTrue (children_below (length nodes) x)) k.1 (children_told (length nodes) node new))

pub children_are : (nodes : List Node) (id : ℕ) (node : Node) → HaveEarlierChildren nodes → slice_get nodes id ≡ Some node → ChildrenBelow id node
children_are nodes id node earlier h = children_typed id node (earlier id node h)
