-- The addresses that two iterations of a loop share.
use Rattle.std.specs.Prelude.{◌≡◌, ◌↔◌, ◌⊎◌, ℕ, ◌<◌, ℤ, pos, ◌≤ℤ◌, List, Some, length, slice_set}
use Rattle.sym_lmad.specs.declared.sym.Sym.{Sym}
use Rattle.uses.specs.Laws.{IsFlow, IsAnti, IsOutput}
use Rattle.uses.specs.Over.{Pair}
use Rattle.uses.specs.Use.{Use}
use Rattle.usr_graph.specs.declared.node.Node.{Node}
use Rattle.usr_graph.specs.declared.triple.Triple.{Triple}
use Rattle.usr_graph.specs.Members.{Worth, Choice, IsMember}
use Rattle.usr_graph.specs.Triples.{TellsAt}
use Rattle.dep_eqs.specs.declared.equations.Eqs.{Eqs}

-- where the count has a value and the index a place: an address is a member exactly where, for some k before some j up to the count, it is a member of one of two sets
-- (`earlier`) at k and of one of two others (`later`) at j
pub record IsPairs (old : List Node) (index : ℕ) (count : Sym) (earlier later : ℕ × ℕ) (new : List Node) (id : ℕ) : Type 0 where
  pub there : id < length new
  pub members : (worth : Worth) (choice : Choice) (indices : List ℤ) (n a : ℤ) → worth count indices ≡ Some n → index < length indices →
      IsMember worth choice new id indices a
      ↔ Pair n (λ k j. (IsMember worth choice old earlier.0 (slice_set indices index k) a ⊎ IsMember worth choice old earlier.1 (slice_set indices index k) a)
      × (IsMember worth choice old later.0 (slice_set indices index j) a ⊎ IsMember worth choice old later.1 (slice_set indices index j) a))

-- flow: written at k, and at j read before any write of j. Anti: at k read before any write of k, and written at j. Output: written at both
pub record AreEquations (old : List Node) (index : ℕ) (count : Sym) (t : Triple) (new : List Node) (eqs : Eqs) : Type 0 where
  pub flow : IsPairs old index count (t.wf, t.rw) (t.ro, t.rw) new eqs.flow
  pub anti : IsPairs old index count (t.ro, t.rw) (t.wf, t.rw) new eqs.anti
  pub output : IsPairs old index count (t.wf, t.rw) (t.wf, t.rw) new eqs.output

-- where the sets of each iteration tell how it uses an address, the equations tell of the pairs of iterations that meet there
abbrev pub EquationsTell : (old : List Node) (index : ℕ) (count : Sym) (t : Triple) (new : List Node) (eqs : Eqs) → Type 0
EquationsTell old index count t new eqs = (worth : Worth) (choice : Choice) (indices : List ℤ) (n a : ℤ) (uses : ℤ → Use) → worth count indices ≡ Some n → index < length indices →
    ((j : ℤ) → pos 1 ≤ℤ j → j ≤ℤ n → TellsAt (IsMember worth choice old) t (slice_set indices index j) a (uses j)) →
    (IsMember worth choice new eqs.flow indices a ↔ Pair n (IsFlow uses)) × (IsMember worth choice new eqs.anti indices a ↔ Pair n (IsAnti uses)) × (IsMember worth choice new eqs.output indices a ↔ Pair n (IsOutput uses))

-- the three sets are in a graph
pub record EqsAreIn (nodes : List Node) (eqs : Eqs) : Type 0 where
  pub flow : eqs.flow < length nodes
  pub anti : eqs.anti < length nodes
  pub output : eqs.output < length nodes
