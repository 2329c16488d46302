use Rattle.std.proofs.Common.{ℕ, ◌<◌, length, arith, refl}
use Rattle.slot_rows.specs.Rows.{number_at}
use Rattle.slot_rows.proofs.RowLemmas.{other_slots, emptied}
use Rattle.slot_rows.proofs.rows.Rows.clear.Goals as goal

pub returns : goal.returns
unfolding number_at
returns c =
    let rows = c.args.self.now.rows.items in
    let xs = c.args.self.now.table.addresses.items in
    let slot : ℕ = c.args.slot in
    let within : slot < length rows = omega (arith, c.requires, c.args.self.now.rows.ok.0) in
    record {
      here = emptied rows xs slot c.clear.new.self within c.clear.ensures.none;
      slots = other_slots rows xs slot c.clear.new.self;
      window = refl;
      regions = refl;
    }
