-- What the sets that the rules make tell of the use of an address.
use Rattle.std.specs.Prelude.{◌≡◌, ℕ, ◌<◌, ℤ, pos, ◌≤ℤ◌, List, Some, length, slice_set}
use Rattle.sym_lmad.specs.declared.sym.Sym.{Sym}
use Rattle.uses.specs.Use.{Use, untouched, joined, joined_over}
use Rattle.usr_graph.specs.declared.node.Cond.{Cond}
use Rattle.usr_graph.specs.declared.node.Node.{Node}
use Rattle.usr_graph.specs.declared.triple.Triple.{Triple}
use Rattle.usr_graph.specs.Members.{Worth, Choice, IsMember, Holds}
use Rattle.usr_graph.specs.Triples.{TellsAt}

-- one after another: by the product of the uses
abbrev pub ThenTells : (old : List Node) (first later : Triple) (new : List Node) (t : Triple) → Type 0
ThenTells old first later new t = (worth : Worth) (choice : Choice) (indices : List ℤ) (a : ℤ) (u v : Use) →
    TellsAt (IsMember worth choice old) first indices a u → TellsAt (IsMember worth choice old) later indices a v → TellsAt (IsMember worth choice new) t indices a (joined u v)

-- under a condition: as without it where it holds, and not at all where it doesn't
abbrev pub GatedTells : (old : List Node) (cond : Cond) (body : Triple) (new : List Node) (t : Triple) → Type 0
GatedTells old cond body new t = (worth : Worth) (choice : Choice) (indices : List ℤ) (x y a : ℤ) (u : Use) →
    worth cond.left indices ≡ Some x → worth cond.right indices ≡ Some y → TellsAt (IsMember worth choice old) body indices a u →
    (Holds x cond.rel y → TellsAt (IsMember worth choice new) t indices a u) × ((Holds x cond.rel y → ⊥) → TellsAt (IsMember worth choice new) t indices a untouched)

-- over a loop: by the product of the uses of its iterations
abbrev pub LoopTells : (old : List Node) (index : ℕ) (count : Sym) (body : Triple) (new : List Node) (t : Triple) → Type 0
LoopTells old index count body new t = (worth : Worth) (choice : Choice) (indices : List ℤ) (n a : ℤ) (uses : ℤ → Use) → worth count indices ≡ Some n → index < length indices →
    ((j : ℤ) → pos 1 ≤ℤ j → j ≤ℤ n → TellsAt (IsMember worth choice old) body (slice_set indices index j) a (uses j)) → TellsAt (IsMember worth choice new) t indices a (joined_over n uses)
