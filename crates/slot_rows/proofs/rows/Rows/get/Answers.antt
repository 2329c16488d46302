use Rattle.std.proofs.Common.{ℕ, ◌<◌, length, ap, sym, ◌∙◌, arith, refl}
use Rattle.std.proofs.lemmas.Option.{slice_get_read}
use Rattle.slot_rows.specs.Row.{number_in}
use Rattle.slot_rows.specs.Rows.{number_at}
use Rattle.slot_rows.proofs.RowLemmas.{number_here}
use Rattle.slot_rows.proofs.rows.Rows.get.Goals as goal

pub returns : goal.returns
unfolding number_at
returns c =
    let rows = c.args.self.now.rows.items in
    let xs = c.args.self.now.table.addresses.items in
    let slot : ℕ = c.args.slot in
    let within : slot < length rows = omega (arith, c.requires.slot, c.args.self.now.rows.ok.0) in
    c.get.ensures ∙ ap (number_in c.index.result.now) c.unit_of.ensures.unit
    ∙ sym (number_here rows xs slot c.args.address c.index.result.now (slice_get_read rows (length rows) slot c.index.result.now refl within c.index.ensures))
