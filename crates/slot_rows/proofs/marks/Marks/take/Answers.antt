use Rattle.std.proofs.Common.{◌≡◌, ℕ, ◌<◌, ◌++◌, ◌∷◌, [], length, get_or, ap, sym, subst, ◌∙◌, arith}
use Rattle.std.specs.Int.{bit_at}
use Rattle.std.proofs.lemmas.List.{get_or_default}
use Rattle.slot_rows.specs.Filled.{AreFilled}
use Rattle.slot_rows.proofs.Bits.{removed, is_unit, none_marked}
use Rattle.slot_rows.proofs.FilledLemmas.{unfill_if, room_again, last_inside, last_marked, none_filled, nil_of}
use Rattle.slot_rows.proofs.marks.Marks.take.Goals as goal

pub returns-in-None-clause-none : goal.returns-in-None-clause-none
returns-in-None-clause-none c = λ u.
    let words = c.args.self.now.words.items in
    none_marked words (none_filled words (subst (AreFilled words) (nil_of c.args.self.now.filled.items (omega (arith, c.in-None.ensures.cases.0, c.args.self.now.filled.ok.0))) c.args.self.now.filled_are)) u

pub returns-in-None-clause-empty : goal.returns-in-None-clause-empty
returns-in-None-clause-empty c = λ u.
    let words = c.args.self.now.words.items in
    none_marked words (none_filled words (subst (AreFilled words) (nil_of c.args.self.now.filled.items (omega (arith, c.in-None.ensures.cases.0, c.args.self.now.filled.ok.0))) c.args.self.now.filled_are)) u

pub index-word-requires : goal.index-word-requires
index-word-requires c =
    let words = c.args.self.now.words.items in
    let popped = c.pop.new.self.items in
    let place : ℕ = c.in-Some.place in
    let f : AreFilled words (popped ++ place ∷ []) = subst (AreFilled words) c.in-Some.ensures.items c.args.self.now.filled_are in
    omega (arith, last_inside words popped place f, c.args.self.now.words.ok.0)

pub first_mark-bit-requires : goal.first_mark-bit-requires
first_mark-bit-requires c =
    let words = c.args.self.now.words.items in
    let popped = c.pop.new.self.items in
    let place : ℕ = c.in-Some.place in
    let f : AreFilled words (popped ++ place ∷ []) = subst (AreFilled words) c.in-Some.ensures.items c.args.self.now.filled_are in
    let within : place < length words = last_inside words popped place f in
    let read : c.index-word.result.now ≡ get_or words place 0 = c.index-word.ensures ∙ get_or_default words place c.index-word.result.now 0 within in
    omega (arith, read, last_marked words popped place f)

pub push_if-requires : goal.push_if-requires
push_if-requires c = λ h.
    let words = c.args.self.now.words.items in
    let popped = c.pop.new.self.items in
    let place : ℕ = c.in-Some.place in
    let f : AreFilled words (popped ++ place ∷ []) = subst (AreFilled words) c.in-Some.ensures.items c.args.self.now.filled_are in
    omega (arith, room_again words popped place f, c.args.self.now.words.ok.0, c.pop.new.self.ok.0, c.args.self.now.room, c.pop.ensures.capacity)

pub index_mut-requires : goal.index_mut-requires
index_mut-requires c =
    let words = c.args.self.now.words.items in
    let popped = c.pop.new.self.items in
    let place : ℕ = c.in-Some.place in
    let f : AreFilled words (popped ++ place ∷ []) = subst (AreFilled words) c.in-Some.ensures.items c.args.self.now.filled_are in
    omega (arith, last_inside words popped place f, c.args.self.now.words.ok.0)

pub invariant_of-self-2 : goal.invariant_of-self-2
invariant_of-self-2 c =
    let words = c.args.self.now.words.items in
    let popped = c.pop.new.self.items in
    let place : ℕ = c.in-Some.place in
    let f : AreFilled words (popped ++ place ∷ []) = subst (AreFilled words) c.in-Some.ensures.items c.args.self.now.filled_are in
    record {
      filled_are = unfill_if words popped c.push_if.new.places.items place c.without_mark-rest.result f c.push_if.ensures.items;
      room = omega (arith, c.push_if.ensures.capacity, c.pop.ensures.capacity, c.args.self.now.room);
      small = c.args.self.now.small;
    }

pub overflow_mul-result : goal.overflow_mul-result
overflow_mul-result c =
    let words = c.args.self.now.words.items in
    let popped = c.pop.new.self.items in
    let place : ℕ = c.in-Some.place in
    let f : AreFilled words (popped ++ place ∷ []) = subst (AreFilled words) c.in-Some.ensures.items c.args.self.now.filled_are in
    omega (arith, last_inside words popped place f, c.args.self.now.words.ok.0, c.args.self.now.small)

pub overflow_add-result : goal.overflow_add-result
overflow_add-result c =
    let words = c.args.self.now.words.items in
    let popped = c.pop.new.self.items in
    let place : ℕ = c.in-Some.place in
    let f : AreFilled words (popped ++ place ∷ []) = subst (AreFilled words) c.in-Some.ensures.items c.args.self.now.filled_are in
    omega (arith, last_inside words popped place f, c.args.self.now.words.ok.0, c.args.self.now.small, c.first_mark-bit.ensures.within)

pub returns-clause-was : goal.returns-clause-was
returns-clause-was c =
    let words = c.args.self.now.words.items in
    let popped = c.pop.new.self.items in
    let place : ℕ = c.in-Some.place in
    let f : AreFilled words (popped ++ place ∷ []) = subst (AreFilled words) c.in-Some.ensures.items c.args.self.now.filled_are in
    let within : place < length words = last_inside words popped place f in
    let read : c.index-word.result.now ≡ get_or words place 0 = c.index-word.ensures ∙ get_or_default words place c.index-word.result.now 0 within in
    is_unit words place c.first_mark-bit.result c.first_mark-bit.ensures.within (ap (λ z. bit_at z c.first_mark-bit.result) (sym read) ∙ c.first_mark-bit.ensures.marked)

pub returns-clause-taken : goal.returns-clause-taken
returns-clause-taken c = λ u.
    let words = c.args.self.now.words.items in
    let popped = c.pop.new.self.items in
    let place : ℕ = c.in-Some.place in
    let f : AreFilled words (popped ++ place ∷ []) = subst (AreFilled words) c.in-Some.ensures.items c.args.self.now.filled_are in
    let within : place < length words = last_inside words popped place f in
    let read : c.index-word.result.now ≡ get_or words place 0 = c.index-word.ensures ∙ get_or_default words place c.index-word.result.now 0 within in
    removed words place c.first_mark-bit.result c.without_mark-rest.result within c.first_mark-bit.ensures.within c.without_mark-rest.ensures.here (λ i l h. c.without_mark-rest.ensures.others i l h ∙ ap (λ z. bit_at z i) read) u
