-- The children of nodes.
use Rattle.std.specs.Prelude.{◌≡◌, ℕ, ◌<◌, Bool, true, ◌&&◌, nat_lt, IsTrue, List, Some, slice_get}
use Rattle.usr_graph.specs.declared.node.Node.{Node}
use Rattle.usr_graph.specs.declared.node.Node.TheVariants as n

-- the children of a node are among the first ones
abbrev pub ChildrenBelow : ℕ → Node → Type 0
ChildrenBelow first n.Empty = Unit {0}
ChildrenBelow first (n.Leaf lmad) = Unit {0}
ChildrenBelow first (n.Union x y) = (x < first) × (y < first)
ChildrenBelow first (n.Inter x y) = (x < first) × (y < first)
ChildrenBelow first (n.Minus x y) = (x < first) × (y < first)
ChildrenBelow first (n.Gate cond body) = body < first
ChildrenBelow first (n.Recur index count body) = body < first
ChildrenBelow first (n.Below index limit body) = body < first
ChildrenBelow first (n.Site site body) = body < first

-- the same as a test
abbrev pub children_below : ℕ → Node → Bool
children_below first n.Empty = true
children_below first (n.Leaf lmad) = true
children_below first (n.Union x y) = nat_lt x first && nat_lt y first
children_below first (n.Inter x y) = nat_lt x first && nat_lt y first
children_below first (n.Minus x y) = nat_lt x first && nat_lt y first
children_below first (n.Gate cond body) = nat_lt body first
children_below first (n.Recur index count body) = nat_lt body first
children_below first (n.Below index limit body) = nat_lt body first
children_below first (n.Site site body) = nat_lt body first

-- each node of a graph has children with smaller numbers
abbrev pub HaveEarlierChildren : List Node → Type 0
HaveEarlierChildren nodes = (id : ℕ) (node : Node) → slice_get nodes id ≡ Some node → IsTrue (children_below id node)
