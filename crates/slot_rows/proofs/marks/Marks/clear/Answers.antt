use Rattle.std.proofs.Common.{◌++◌, ◌∷◌, [], subst, arith}
use Rattle.slot_rows.specs.Filled.{AreFilled}
use Rattle.slot_rows.proofs.Bits.{none_marked}
use Rattle.slot_rows.proofs.FilledLemmas.{unfill, last_inside, none_filled, nil_of}
use Rattle.slot_rows.proofs.marks.Marks.clear.Goals as goal

pub invariant_of-self : goal.invariant_of-self
invariant_of-self c =
    let words = c.loop-place.self.words.items in
    let f : AreFilled words (c.pop.new.self.items ++ c.in-Some.place ∷ []) = subst (AreFilled words) c.in-Some.ensures.items c.loop-place.self.filled_are in
    record {
      filled_are = unfill words c.pop.new.self.items c.in-Some.place f;
      room = omega (arith, c.pop.ensures.capacity, c.loop-place.self.room);
      small = c.loop-place.self.small;
    }

pub index_mut-requires : goal.index_mut-requires
index_mut-requires c =
    let words = c.loop-place.self.words.items in
    let f : AreFilled words (c.pop.new.self.items ++ c.in-Some.place ∷ []) = subst (AreFilled words) c.in-Some.ensures.items c.loop-place.self.filled_are in
    omega (arith, last_inside words c.pop.new.self.items c.in-Some.place f, c.loop-place.self.words.ok.0)

pub returns-clause-none : goal.returns-clause-none
returns-clause-none c = λ u.
    let words = c.loop-place.self.words.items in
    none_marked words (none_filled words (subst (AreFilled words) (nil_of c.loop-place.self.filled.items (omega (arith, c.in_default.ensures.cases.0, c.loop-place.self.filled.ok.0))) c.loop-place.self.filled_are)) u
