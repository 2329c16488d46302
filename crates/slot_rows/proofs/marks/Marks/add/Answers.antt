use Rattle.std.proofs.Common.{◌≡◌, ℕ, ◌/◌, ◌<◌, ◌++◌, ◌∷◌, [], ◌==◌, length, get_or, if◌then◌else◌, ap, sym, ◌∙◌, arith}
use Rattle.std.specs.Int.{bit_at}
use Rattle.std.proofs.lemmas.Bool.{eqb-true}
use Rattle.std.proofs.lemmas.List.{get_or_default}
use Rattle.slot_rows.proofs.Bits.{added}
use Rattle.slot_rows.proofs.FilledLemmas.{fill_if, room_left}
use Rattle.slot_rows.proofs.marks.Marks.add.Goals as goal

pub push_if-requires : goal.push_if-requires
push_if-requires c = λ h.
    let within : c.args.unit / 64 < length c.args.self.now.words.items = omega (arith, c.requires, c.args.self.now.words.ok.0) in
    let read : c.index-word.result.now ≡ get_or c.args.self.now.words.items (c.args.unit / 64) 0 = c.index-word.ensures ∙ get_or_default c.args.self.now.words.items (c.args.unit / 64) c.index-word.result.now 0 within in
    let less = room_left c.args.self.now.words.items c.args.self.now.filled.items (c.args.unit / 64) c.args.self.now.filled_are within (sym read ∙ eqb-true c.index-word.result.now 0 h) in
    omega (arith, less, c.args.self.now.words.ok.0, c.args.self.now.filled.ok.0, c.args.self.now.room)

pub invariant_of-self : goal.invariant_of-self
invariant_of-self c =
    let words = c.args.self.now.words.items in
    let filled = c.args.self.now.filled.items in
    let place : ℕ = c.args.unit / 64 in
    let within : place < length words = omega (arith, c.requires, c.args.self.now.words.ok.0) in
    let read : c.index-word.result.now ≡ get_or words place 0 = c.index-word.ensures ∙ get_or_default words place c.index-word.result.now 0 within in
    record {
      filled_are = fill_if words filled c.push_if.new.places.items place c.with_mark.result c.args.self.now.filled_are within c.with_mark.ensures.some (c.push_if.ensures.items ∙ ap (λ z. if z == 0 then filled ++ place ∷ [] else filled) read);
      room = omega (arith, c.push_if.ensures.capacity, c.args.self.now.room);
      small = c.args.self.now.small;
    }

pub returns-clause-marked : goal.returns-clause-marked
returns-clause-marked c = λ u.
    let words = c.args.self.now.words.items in
    let place : ℕ = c.args.unit / 64 in
    let within : place < length words = omega (arith, c.requires, c.args.self.now.words.ok.0) in
    let read : c.index-word.result.now ≡ get_or words place 0 = c.index-word.ensures ∙ get_or_default words place c.index-word.result.now 0 within in
    added words c.args.unit c.with_mark.result within c.with_mark.ensures.here (λ i h. c.with_mark.ensures.others i h ∙ ap (λ z. bit_at z i) read) u
