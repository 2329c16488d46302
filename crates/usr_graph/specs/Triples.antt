-- The three sets of a triple.
use Rattle.std.specs.Prelude.{◌<◌, ℤ, List, length}
use Rattle.uses.specs.Use.{Use, Tells}
use Rattle.usr_graph.specs.declared.node.Node.{Node}
use Rattle.usr_graph.specs.declared.triple.Triple.{Triple}
use Rattle.usr_graph.specs.Members.{Sets}

-- they are in a graph
pub record IsIn (nodes : List Node) (t : Triple) : Type 0 where
  pub ro : t.ro < length nodes
  pub wf : t.wf < length nodes
  pub rw : t.rw < length nodes

-- they tell how an address is used
abbrev pub TellsAt : Sets → Triple → (indices : List ℤ) → (a : ℤ) → Use → Type 0
TellsAt sets t indices a use_ = Tells (sets t.ro indices a) (sets t.wf indices a) (sets t.rw indices a) use_
