use Rattle.std.proofs.Common.{◌≡◌, ◌≢◌, ℕ, ℤ, length, get_or}
use Rattle.std.specs.Prelude.{unwrap_or}
use Rattle.slot_rows.specs.Rows.{number_at, written_count, window_of, regions_of}
use Rattle.priv_copies.proofs.copies.Copies.commit.Given as goal

-- what is left to be put, over the values so far, is what was to be put over the old values
abbrev pub invariant-loop-address : goal.invariant-loop-address
invariant-loop-address g l = record {
  values : (a : ℕ) (d : ℤ) → unwrap_or (number_at l.self.rows l.slot a) (get_or (g.C.Cells.values l.cells) a d) ≡ unwrap_or (number_at l.initial.self.rows l.slot a) (get_or (g.C.Cells.values l.initial.cells) a d);
  size : length (g.C.Cells.values l.cells) ≡ length (g.C.Cells.values l.initial.cells);
  slots : (s a : ℕ) → s ≢ l.slot → number_at l.self.rows s a ≡ number_at l.initial.self.rows s a;
  window : window_of l.self.rows ≡ window_of l.initial.self.rows;
  regions : regions_of l.self.rows ≡ regions_of l.initial.self.rows;
  reads : g.C.Cells.reads l.cells ≡ g.C.Cells.reads l.initial.cells;
  test : g.C.Cells.may_get l.cells ≡ g.C.Cells.may_get l.initial.cells;
}

abbrev pub decreases-loop-address : goal.decreases-loop-address
decreases-loop-address g l = written_count l.self.rows l.slot (length (g.C.Cells.values l.initial.cells))
