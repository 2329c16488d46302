use Rattle.std.proofs.Common.{ℕ, ◌<◌, length, ap, ◌∙◌, arith, rules, Some, refl, FitsSigned, w64, ◌==◌, if◌then◌else◌}
use Rattle.std.proofs.lemmas.Int.{to_z-of_z}
use Rattle.std.proofs.lemmas.Option.{slice_get_read}
use Rattle.slot_rows.specs.Row.{number_in}
use Rattle.slot_rows.specs.Rows.{number_at}
use Rattle.slot_rows.proofs.RowLemmas.{Changes, changed_here, changed_others, other_slots}
use Rattle.slot_rows.proofs.rows.Rows.put.Goals as goal

pub returns : goal.returns
unfolding number_at
returns c =
    let rows = c.args.self.now.rows.items in
    let xs = c.args.self.now.table.addresses.items in
    let slot : ℕ = c.args.slot in
    let within : slot < length rows = omega (arith, c.requires.slot, c.args.self.now.rows.ok.0) in
    let was = slice_get_read rows (length rows) slot c.index_mut.result.now refl within (search rules) in
    let unit = c.unit_of-unit.result in
    let fits : FitsSigned w64 c.args.number = c.ranges.number in
    let changes : Changes c.index_mut.result.now c.put.new.self unit (Some c.args.number) = λ u. c.put.ensures.numbers u ∙ ap (λ z. if u == unit then Some z else number_in c.index_mut.result.now u) (to_z-of_z w64 c.args.number fits) in
    record {
      here = changed_here rows xs slot c.args.address unit c.index_mut.result.now c.put.new.self (Some c.args.number) within c.unit_of-unit.ensures.unit changes;
      others = changed_others rows xs slot c.args.address unit c.index_mut.result.now c.put.new.self (Some c.args.number) within c.unit_of-unit.ensures.within c.unit_of-unit.ensures.unit was changes;
      slots = other_slots rows xs slot c.put.new.self;
      window = refl;
      regions = refl;
    }
