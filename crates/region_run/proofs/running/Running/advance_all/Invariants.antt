use Rattle.std.proofs.Common.{◌≡◌, length, drop, Some}
use Rattle.interleaving.specs.Region.{advanced_all}
use Rattle.region_run.specs.Machine.{loop_machine}
use Rattle.region_run.specs.Running.{region_of, IsRunning, SameLoop}
use Rattle.region_run.proofs.running.Running.advance_all.Given as goal

-- whatever the picks that are left make of the region by now, all make of it as it was
abbrev pub invariant-loop-pick : goal.invariant-loop-pick
invariant-loop-pick g l = record {
  running : IsRunning (g.P.Asks.is_of l.program) g.P.Asks.meant g.R.Rows.count g.R.Rows.own l.self;
  next : advanced_all (loop_machine g.P.Asks.event g.P.Asks.resumed g.P.Asks.done l.program) (g.R.Rows.modes l.initial.self.rows) l.initial.self.window l.picks (Some (region_of g.P.Asks.meant (g.P.Asks.start l.program) g.R.Rows.own l.initial.self (g.C.Cells.values l.initial.cells)))
      ≡ advanced_all (loop_machine g.P.Asks.event g.P.Asks.resumed g.P.Asks.done l.program) (g.R.Rows.modes l.initial.self.rows) l.initial.self.window (drop l.pick-index l.picks) (Some (region_of g.P.Asks.meant (g.P.Asks.start l.program) g.R.Rows.own l.self (g.C.Cells.values l.cells)));
  same : SameLoop g.R.Rows.modes g.R.Rows.count l.initial.self l.self;
  same_total : g.R.Rows.total l.self.rows ≡ g.R.Rows.total l.initial.self.rows;
  same_length : length (g.C.Cells.values l.cells) ≡ length (g.C.Cells.values l.initial.cells);
  same_test : g.C.Cells.may_get l.cells ≡ g.C.Cells.may_get l.initial.cells;
}
