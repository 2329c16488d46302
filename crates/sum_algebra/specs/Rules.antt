-- The sets that the rules make, over those of their arguments.
use Rattle.std.specs.Prelude.{◌≡◌, ◌↔◌, ◌⊎◌, ℕ, ◌<◌, ℤ, List, Some, length, slice_set, Contains}
use Rattle.sym_lmad.specs.declared.sym.Sym.{Sym}
use Rattle.uses.specs.Over.{Over, Before}
use Rattle.usr_graph.specs.declared.node.Cond.{Cond}
use Rattle.usr_graph.specs.declared.node.Node.{Node}
use Rattle.usr_graph.specs.declared.triple.Triple.{Triple}
use Rattle.usr_graph.specs.Members.{Worth, Choice, Sets, IsMember, Where}

-- ---- one after another

module _ (sets : Sets) (first later : Triple) (indices : List ℤ) (a : ℤ) where
  -- read by one of both and written by none
  abbrev pub ReadOnly : Type 0
  ReadOnly = (sets first.ro indices a × ((sets later.wf indices a ⊎ sets later.rw indices a) → ⊥)) ⊎ (sets later.ro indices a × ((sets first.wf indices a ⊎ sets first.rw indices a) → ⊥))

  -- written first by the first one, or by the later one where the first one doesn't read
  abbrev pub WrittenFirst : Type 0
  WrittenFirst = sets first.wf indices a ⊎ (sets later.wf indices a × ((sets first.ro indices a ⊎ sets first.rw indices a) → ⊥))

  -- read and then written by the first one; or by the later one where the first one doesn't write first; or read by the first one and written by the later one
  abbrev pub ReadThenWritten : Type 0
  ReadThenWritten = sets first.rw indices a ⊎ (sets later.rw indices a × (sets first.wf indices a → ⊥)) ⊎ (sets first.ro indices a × sets later.wf indices a)

pub record IsReadOnly (old : List Node) (first later : Triple) (new : List Node) (id : ℕ) : Type 0 where
  pub there : id < length new
  pub members : (worth : Worth) (choice : Choice) (indices : List ℤ) (a : ℤ) → IsMember worth choice new id indices a ↔ ReadOnly (IsMember worth choice old) first later indices a

pub record IsWrittenFirst (old : List Node) (first later : Triple) (new : List Node) (id : ℕ) : Type 0 where
  pub there : id < length new
  pub members : (worth : Worth) (choice : Choice) (indices : List ℤ) (a : ℤ) → IsMember worth choice new id indices a ↔ WrittenFirst (IsMember worth choice old) first later indices a

pub record IsReadThenWritten (old : List Node) (first later : Triple) (new : List Node) (id : ℕ) : Type 0 where
  pub there : id < length new
  pub members : (worth : Worth) (choice : Choice) (indices : List ℤ) (a : ℤ) → IsMember worth choice new id indices a ↔ ReadThenWritten (IsMember worth choice old) first later indices a

-- a triple is that of two others, one after another
pub record IsThen (old : List Node) (first later : Triple) (new : List Node) (t : Triple) : Type 0 where
  pub ro : IsReadOnly old first later new t.ro
  pub wf : IsWrittenFirst old first later new t.wf
  pub rw : IsReadThenWritten old first later new t.rw

-- ---- under a condition

-- a node has the members of another one where a condition holds; where this lacks a value, those of the choice
pub record IsGate (old : List Node) (cond : Cond) (body : ℕ) (new : List Node) (id : ℕ) : Type 0 where
  pub there : id < length new
  pub members : (worth : Worth) (choice : Choice) (indices : List ℤ) (a : ℤ) → IsMember worth choice new id indices a
      ↔ Where (worth cond.left indices) cond.rel (worth cond.right indices) (IsMember worth choice old body indices a) (Contains (choice id indices) a)

pub record IsGated (old : List Node) (cond : Cond) (body : Triple) (new : List Node) (t : Triple) : Type 0 where
  pub ro : IsGate old cond body.ro new t.ro
  pub wf : IsGate old cond body.wf new t.wf
  pub rw : IsGate old cond body.rw new t.rw

-- ---- over a loop

module _ (sets : Sets) (body : Triple) (index : ℕ) (indices : List ℤ) (a : ℤ) where
  -- in the iteration with a value of the index: read before any write of that iteration; written; written first, and read first by no iteration before
  abbrev pub ReadAt : ℤ → Type 0
  ReadAt j = sets body.ro (slice_set indices index j) a ⊎ sets body.rw (slice_set indices index j) a

  abbrev pub WrittenAt : ℤ → Type 0
  WrittenAt j = sets body.wf (slice_set indices index j) a ⊎ sets body.rw (slice_set indices index j) a

  abbrev pub FirstAt : ℤ → Type 0
  FirstAt j = sets body.wf (slice_set indices index j) a × (Before j ReadAt → ⊥)

-- where the count has a value and the index a place, a node has the members that a formula gives
pub record IsOver (old : List Node) (index : ℕ) (count : Sym) (formula : Sets → (indices : List ℤ) → (n a : ℤ) → Type 0) (new : List Node) (id : ℕ) : Type 0 where
  pub there : id < length new
  pub members : (worth : Worth) (choice : Choice) (indices : List ℤ) (n a : ℤ) → worth count indices ≡ Some n → index < length indices →
      IsMember worth choice new id indices a ↔ formula (IsMember worth choice old) indices n a

module _ (body : Triple) (index : ℕ) where
  abbrev pub AllRead : Sets → (indices : List ℤ) → (n a : ℤ) → Type 0
  AllRead sets indices n a = Over n (ReadAt sets body index indices a)

  abbrev pub AllWritten : Sets → (indices : List ℤ) → (n a : ℤ) → Type 0
  AllWritten sets indices n a = Over n (WrittenAt sets body index indices a)

  abbrev pub LoopWrittenFirst : Sets → (indices : List ℤ) → (n a : ℤ) → Type 0
  LoopWrittenFirst sets indices n a = Over n (FirstAt sets body index indices a)

  -- read in some iteration and written in none; written in some iteration and not written first by the loop
  abbrev pub LoopReadOnly : Sets → (indices : List ℤ) → (n a : ℤ) → Type 0
  LoopReadOnly sets indices n a = AllRead sets indices n a × (AllWritten sets indices n a → ⊥)

  abbrev pub LoopReadThenWritten : Sets → (indices : List ℤ) → (n a : ℤ) → Type 0
  LoopReadThenWritten sets indices n a = AllWritten sets indices n a × (LoopWrittenFirst sets indices n a → ⊥)

-- a triple is that of a loop whose iterations have another one
pub record IsOverLoop (old : List Node) (index : ℕ) (count : Sym) (body : Triple) (new : List Node) (t : Triple) : Type 0 where
  pub ro : IsOver old index count (LoopReadOnly body index) new t.ro
  pub wf : IsOver old index count (LoopWrittenFirst body index) new t.wf
  pub rw : IsOver old index count (LoopReadThenWritten body index) new t.rw
