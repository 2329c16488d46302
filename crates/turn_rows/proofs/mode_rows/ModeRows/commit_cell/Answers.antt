use Rattle.std.proofs.Common.{ℕ, ◌≡◌, ◌<◌, ◌∙◌, length, refl, rules}
use Rattle.std.specs.Prelude.{slice_set}
use Rattle.std.proofs.lemmas.Option.{slice_get_read}
use Rattle.interleaving.specs.Region.{merged}
use Rattle.region_run.specs.Machine.{operators}
use Rattle.turn_rows.specs.CellModes.{mode_of, mode_at, own_in}
use Rattle.turn_rows.proofs.OwnRows.{cell_committed, own_read}
use Rattle.turn_rows.proofs.mode_rows.ModeRows.commit_cell.Goals as goal

pub returns-clause-store : goal.returns-clause-store
returns-clause-store g c =
    let values = g.C.Cells.values c.args.cells.now in
    let rows = c.args.self.now.rows.items in
    let row : ℕ = c.args.row in
    let within : row < length rows = c.requires.row in
    let was = slice_get_read rows (length rows) row c.index.result.now refl within c.index.ensures in
    let came : c.merged.result ≡ merged operators (mode_of c.mode.result) c.get-value.result c.get-own.result = search rules in
    let put_so : g.C.Cells.values c.put.new.self ≡ slice_set values c.args.address c.merged.result = search rules in
    cell_committed values (g.C.Cells.values c.put.new.self) c.args.address c.get-value.result c.merged.result (mode_at c.args.self.now c.args.address) (mode_of c.mode.result) (own_in c.args.self.now c.args.row c.args.address) c.get-own.result
    c.requires.held c.get-value.ensures.value c.mode.ensures (c.get-own.ensures ∙ own_read rows row c.args.address c.index.result.now was) came put_so
