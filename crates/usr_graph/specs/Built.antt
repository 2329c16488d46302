-- What adding a node does to a graph.
use Rattle.std.specs.Prelude.{◌≡◌, ◌↔◌, ℕ, ◌<◌, ◌≤◌, ℤ, List, Some, length, slice_get}
use Rattle.usr_graph.specs.declared.node.Node.{Node}
use Rattle.usr_graph.specs.Members.{Worth, Choice, IsMember, IsOf}

-- all nodes of a graph stay at their numbers, each spelled as before and with the same members under every choice: the graph only gains nodes
pub record Keeps (old new : List Node) : Type 0 where
  pub longer : length old ≤ length new
  pub spelled : (id : ℕ) (node : Node) → slice_get old id ≡ Some node → slice_get new id ≡ Some node
  pub same : (worth : Worth) (choice : Choice) (id : ℕ) (indices : List ℤ) (a : ℤ) → id < length old → IsMember worth choice new id indices a ↔ IsMember worth choice old id indices a

-- a number of a graph has the members of a node over the sets of the graph before
pub record IsAdded (old : List Node) (node : Node) (new : List Node) (id : ℕ) : Type 0 where
  pub there : id < length new
  pub members : (worth : Worth) (choice : Choice) (indices : List ℤ) (a : ℤ) → IsMember worth choice new id indices a ↔ IsOf worth choice (IsMember worth choice old) id node indices a

-- a node of a graph has its members by those of its children
pub record IsNodeOf (nodes : List Node) (id : ℕ) (node : Node) : Type 0 where
  pub members : (worth : Worth) (choice : Choice) (indices : List ℤ) (a : ℤ) → IsMember worth choice nodes id indices a ↔ IsOf worth choice (IsMember worth choice nodes) id node indices a
