-- Nodes that have no child.
use Rattle.std.specs.Prelude.{◌≡◌, ◌↔◌, ℕ, ◌<◌, ℤ, List, length, Option, Some, None, Contains}
use Rattle.sym_lmad.specs.declared.sym.Sym.{Sym}
use Rattle.usr_graph.specs.declared.node.Node.{Node}
use Rattle.usr_graph.specs.Members.{Worth, Choice, IsMember}

-- a node without members
pub record IsNothing (nodes : List Node) (id : ℕ) : Type 0 where
  pub there : id < length nodes
  pub none : (worth : Worth) (choice : Choice) (indices : List ℤ) (a : ℤ) → IsMember worth choice nodes id indices a → ⊥

-- the one address that a symbol is worth; where it has no value, an open set
abbrev pub AtAddress : Option ℤ → (a : ℤ) → (open_set : Type 0) → Type 0
AtAddress (Some address) a open_set = a ≡ address
AtAddress None a open_set = open_set

-- a node of the address that a symbol is worth
pub record IsUnit (address : Sym) (nodes : List Node) (id : ℕ) : Type 0 where
  pub there : id < length nodes
  pub members : (worth : Worth) (choice : Choice) (indices : List ℤ) (a : ℤ) → IsMember worth choice nodes id indices a ↔ AtAddress (worth address indices) a (Contains (choice id indices) a)
