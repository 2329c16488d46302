-- What the nodes of a graph name.
use Rattle.std.specs.Prelude.{ℕ, Bool, true, ◌&&◌, nat_lt, List, drop, IsTrue}
use Rattle.std.specs.List.{list_all}
use Rattle.sym_lmad.specs.declared.lmad.Dim.{Dim}
use Rattle.sym_lmad.specs.declared.lmad.Lmad.{Lmad}
use Rattle.sym_lmad.specs.declared.sym.Sym.{Sym}
use Rattle.sym_lmad.specs.declared.sym.Sym.TheOpen.{Sym-F}
use Rattle.sym_lmad.specs.declared.sym.Sym.TheOpen as layer
use Rattle.sym_lmad.specs.declared.sym.Sym.TheFolds.{fold-Sym}
use Rattle.usr_graph.specs.declared.node.Cond.{Cond}
use Rattle.usr_graph.specs.declared.node.Node.{Node}
use Rattle.usr_graph.specs.declared.node.Node.TheVariants as n

-- whether all that is named passes two tests, one of the symbols and one of the indices that are bound or a limit
abbrev pub Names : Type 0
Names = (symbols : Sym → Bool) (indices : ℕ → Bool) → Bool

abbrev pub nothing_named : Names
nothing_named = λ symbols indices. true

abbrev pub symbol_named : Sym → Names
symbol_named s = λ symbols indices. symbols s

abbrev pub lmad_named : Lmad → Names
lmad_named lmad = λ symbols indices. symbols lmad.base && list_all (λ (d : Dim). symbols d.count) lmad.dims

abbrev pub cond_named : Cond → Names
cond_named cond = λ symbols indices. symbols cond.left && symbols cond.right

-- by a loop: its index and its count
abbrev pub loop_named : (index : ℕ) → (count : Sym) → Names
loop_named index count = λ symbols indices. indices index && symbols count

-- by a node itself, not by its children
abbrev pub node_named : Node → Names
node_named n.Empty = nothing_named
node_named (n.Leaf lmad) = lmad_named lmad
node_named (n.Union x y) = nothing_named
node_named (n.Inter x y) = nothing_named
node_named (n.Minus x y) = nothing_named
node_named (n.Gate cond body) = cond_named cond
node_named (n.Recur index count body) = loop_named index count
node_named (n.Below index limit body) = λ symbols indices. indices index && indices limit
node_named (n.Site site body) = nothing_named

-- by some nodes
abbrev pub nodes_named : List Node → Names
nodes_named nodes = λ symbols indices. list_all (λ node. node_named node symbols indices) nodes

-- what some nodes put into a graph name is what is given: a test that all of that passes, and that the nodes from some number on pass, these still pass, with those that are new.
-- From the end of the old graph on: all that new nodes name passes it
pub record OnlyNames (given : Names) (old new : List Node) : Type 0 where
  pub pass : (symbols : Sym → Bool) (indices : ℕ → Bool) (first : ℕ) → IsTrue (nodes_named (drop first old) symbols indices) → IsTrue (given symbols indices) → IsTrue (nodes_named (drop first new) symbols indices)

-- ---- two bounds as tests

abbrev pub bounded_step : (entities indices : ℕ) → Sym-F Bool → Bool
bounded_step entities indices (layer.Lit v) = true
bounded_step entities indices (layer.Addr e) = nat_lt e entities
bounded_step entities indices (layer.Cell e) = nat_lt e entities
bounded_step entities indices (layer.Elem e s) = nat_lt e entities && s
bounded_step entities indices (layer.Index i) = nat_lt i indices
bounded_step entities indices (layer.Add x y) = x && y
bounded_step entities indices (layer.Mul c x) = x

-- each entity and each index that a symbol names is below two bounds
abbrev pub symbol_bounded : (entities indices : ℕ) → Sym → Bool
symbol_bounded entities indices = fold-Sym Bool (bounded_step entities indices)

-- each entity and each index that something names or binds is
abbrev pub are_bounded : Names → (entities indices : ℕ) → Bool
are_bounded named entities indices = named (symbol_bounded entities indices) (λ index. nat_lt index indices)

-- where all nodes of a graph are bounded so, and what is given is, all nodes still are
abbrev pub BoundsStay : Type 0
BoundsStay = (given : Names) (old new : List Node) → OnlyNames given old new → (entities indices : ℕ) →
    IsTrue (are_bounded (nodes_named old) entities indices) → IsTrue (are_bounded given entities indices) → IsTrue (are_bounded (nodes_named new) entities indices)
