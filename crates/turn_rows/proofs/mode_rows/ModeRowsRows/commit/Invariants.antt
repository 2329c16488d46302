use Rattle.std.proofs.Common.{ℕ, ◌≡◌, ◌≢◌, length}
use Rattle.region_run.specs.Machine.{store_of_cells}
use Rattle.turn_rows.specs.CellModes.{mode_at, own_in, count_of}
use Rattle.turn_rows.proofs.OwnRows.{store_to, own_to}
use Rattle.turn_rows.proofs.mode_rows.ModeRowsRows.commit.Given as goal

-- the cells below the address are committed, and the row has nothing of its own there
abbrev pub invariant-loop-address : goal.invariant-loop-address
invariant-loop-address g l = record {
  store : store_of_cells (g.C.Cells.values l.cells) ≡ store_to (mode_at l.fn.self) (store_of_cells (g.C.Cells.values l.fn.cells)) (own_in l.fn.self l.row) l.address;
  own : own_in l.self l.row ≡ own_to (own_in l.fn.self l.row) l.address;
  others : (other : ℕ) → other ≢ l.row → own_in l.self other ≡ own_in l.fn.self other;
  same_modes : l.self.modes ≡ l.fn.self.modes;
  same_count : count_of l.self ≡ count_of l.fn.self;
  same_length : length (g.C.Cells.values l.cells) ≡ length (g.C.Cells.values l.fn.cells);
  same_test : g.C.Cells.may_get l.cells ≡ g.C.Cells.may_get l.fn.cells;
}
