use Rattle.std.proofs.Common.{ℕ, ◌<◌, length, ap, sym, ◌∙◌, arith, rules, None, Some, refl, FitsSigned, w64}
use Rattle.std.proofs.lemmas.Int.{to_z-of_z}
use Rattle.std.proofs.lemmas.Option.{slice_get_read}
use Rattle.slot_rows.specs.Row.{number_in}
use Rattle.slot_rows.specs.Rows.{number_at}
use Rattle.slot_rows.specs.Spans.{place_in}
use Rattle.slot_rows.proofs.RowLemmas.{changed_here, changed_others, other_slots, emptied, number_here}
use Rattle.slot_rows.proofs.rows.Rows.take.Goals as goal

pub returns-in-None-clause-none : goal.returns-in-None-clause-none
unfolding number_at
returns-in-None-clause-none c =
    let rows = c.args.self.now.rows.items in
    let xs = c.args.self.now.table.addresses.items in
    let slot : ℕ = c.args.slot in
    let within : slot < length rows = omega (arith, c.requires, c.args.self.now.rows.ok.0) in
    let was = slice_get_read rows (length rows) slot c.index_mut.result.now refl within (search rules) in (
      record {
        here = emptied rows xs slot c.take.new.self within c.in-None.ensures.empty;
        slots = other_slots rows xs slot c.take.new.self;
        window = refl;
        regions = refl;
      },
      λ a. number_here rows xs slot a c.index_mut.result.now was ∙ c.in-None.ensures.none (place_in xs a),
    )

pub returns-in-Some-clause-was : goal.returns-in-Some-clause-was
unfolding number_at
returns-in-Some-clause-was c =
    let rows = c.args.self.now.rows.items in
    let xs = c.args.self.now.table.addresses.items in
    let slot : ℕ = c.args.slot in
    let within : slot < length rows = omega (arith, c.requires, c.args.self.now.rows.ok.0) in
    let was = slice_get_read rows (length rows) slot c.index_mut.result.now refl within (search rules) in
    number_here rows xs slot c.address_of.result c.index_mut.result.now was ∙ ap (number_in c.index_mut.result.now) c.address_of.ensures.unit ∙ c.in-Some.ensures.was ∙ ap (λ z. Some z) (sym (let fits : FitsSigned w64 c.in-Some.number = search rules in to_z-of_z w64 c.in-Some.number fits))

pub returns-in-Some-clause-taken : goal.returns-in-Some-clause-taken
unfolding number_at
returns-in-Some-clause-taken c =
    let rows = c.args.self.now.rows.items in
    let xs = c.args.self.now.table.addresses.items in
    let slot : ℕ = c.args.slot in
    let within : slot < length rows = omega (arith, c.requires, c.args.self.now.rows.ok.0) in
    let was = slice_get_read rows (length rows) slot c.index_mut.result.now refl within (search rules) in
    let unit = c.in-Some.unit in
    record {
      here = changed_here rows xs slot c.address_of.result unit c.index_mut.result.now c.take.new.self None within (sym c.address_of.ensures.unit) c.in-Some.ensures.taken;
      others = changed_others rows xs slot c.address_of.result unit c.index_mut.result.now c.take.new.self None within (search rules) (sym c.address_of.ensures.unit) was c.in-Some.ensures.taken;
      slots = other_slots rows xs slot c.take.new.self;
      window = refl;
      regions = refl;
    }
