use Rattle.std.proofs.Common.{◌+◌, ◌≡◌, length}
use Rattle.interleaving.specs.Region.{settled}
use Rattle.region_run.specs.Machine.{loop_machine, store_of_cells}
use Rattle.region_run.specs.Running.{pending_of, HoldsTogether, SameLoop}
use Rattle.region_run.proofs.running.Running.settle.Given as goal

abbrev pub invariant-loop-self : goal.invariant-loop-self
invariant-loop-self g l = record {
  together : HoldsTogether (g.P.Asks.is_of l.program) g.P.Asks.meant g.R.Rows.count g.R.Rows.own l.self;
  settled : settled (loop_machine g.P.Asks.event g.P.Asks.resumed g.P.Asks.done l.program) (g.R.Rows.modes l.initial.self.rows) l.initial.self.committed (store_of_cells (g.C.Cells.values l.initial.cells)) (pending_of g.P.Asks.meant (g.P.Asks.start l.program) g.R.Rows.own l.initial.self)
      ≡ settled (loop_machine g.P.Asks.event g.P.Asks.resumed g.P.Asks.done l.program) (g.R.Rows.modes l.initial.self.rows) l.self.committed (store_of_cells (g.C.Cells.values l.cells)) (pending_of g.P.Asks.meant (g.P.Asks.start l.program) g.R.Rows.own l.self);
  same : SameLoop g.R.Rows.modes g.R.Rows.count l.initial.self l.self;
  same_total : g.R.Rows.total l.self.rows ≡ g.R.Rows.total l.initial.self.rows;
  same_length : length (g.C.Cells.values l.cells) ≡ length (g.C.Cells.values l.initial.cells);
  same_test : g.C.Cells.may_get l.cells ≡ g.C.Cells.may_get l.initial.cells;
}

abbrev pub decreases-loop-self : goal.decreases-loop-self
decreases-loop-self g l = length l.self.live.items + l.self.left
