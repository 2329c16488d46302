use Rattle.std.proofs.Common.{rules, ◌∙◌}
use Rattle.region_run.specs.Machine.{store_of_cells}
use Rattle.region_run.proofs.Commits.{settled_stays}
use Rattle.region_run.proofs.running.Running.settle.Goals as goal

pub returns-clause-settled : goal.returns-clause-settled
returns-clause-settled g c =
    c.loop-self.invariant.settled
    ∙ settled_stays (g.P.Asks.is_of c.args.program.now) g.P.Asks.meant (g.P.Asks.start c.args.program.now) g.R.Rows.modes g.R.Rows.count g.R.Rows.own (g.P.Asks.event c.args.program.now) (g.P.Asks.resumed c.args.program.now) (g.P.Asks.done c.args.program.now)
    (g.R.Rows.modes c.args.self.now.rows) c.loop-self.self (store_of_cells (g.C.Cells.values c.loop-self.cells)) (search rules)
