-- The clause on iterations in turn follows from the one on the abstract region.
use Rattle.std.proofs.Common.{rules, arith, None, Some}
use Rattle.std.proofs.lemmas.Grind.{common_steps}
use Rattle.region_run.specs.Machine.{machine_of}
use Rattle.region_run.specs.Running.{region_of}
use Rattle.region_run.proofs.InTurn.{as_in_turn}
use Rattle.region_run.proofs.running.Running.advance_all.Goals as goal

pub returns-then-not-has_run-clause-next : goal.returns-then-not-has_run-clause-next
returns-then-not-has_run-clause-next g c = first_of (search rules, grind (arith, common_steps))

pub returns-then-not-has_run-clause-in_turn : goal.returns-then-not-has_run-clause-in_turn
returns-then-not-has_run-clause-in_turn g c =
    as_in_turn (machine_of (g.P.Asks.event c.args.program.now) (g.P.Asks.resumed c.args.program.now) (g.P.Asks.done c.args.program.now)) (g.R.Rows.modes c.args.self.now.rows) c.args.self.now.variable c.args.self.now.window c.args.picks.now
    (region_of g.P.Asks.meant (g.P.Asks.start c.args.program.now) g.R.Rows.own c.args.self.now (g.C.Cells.values c.args.cells.now)) (Some c.advance-answer.result)
    (region_of g.P.Asks.meant (g.P.Asks.start c.args.program.now) g.R.Rows.own c.advance-answer.new.self (g.C.Cells.values c.advance-answer.new.cells))
    c.requires.running.wide (returns-then-not-has_run-clause-next g c)

pub returns-clause-next : goal.returns-clause-next
returns-clause-next g c = first_of (search rules, grind (arith, common_steps))

pub returns-clause-in_turn : goal.returns-clause-in_turn
returns-clause-in_turn g c =
    as_in_turn (machine_of (g.P.Asks.event c.args.program.now) (g.P.Asks.resumed c.args.program.now) (g.P.Asks.done c.args.program.now)) (g.R.Rows.modes c.args.self.now.rows) c.args.self.now.variable c.args.self.now.window c.args.picks.now
    (region_of g.P.Asks.meant (g.P.Asks.start c.args.program.now) g.R.Rows.own c.args.self.now (g.C.Cells.values c.args.cells.now)) None
    (region_of g.P.Asks.meant (g.P.Asks.start c.args.program.now) g.R.Rows.own c.loop-pick.self (g.C.Cells.values c.loop-pick.cells))
    c.requires.running.wide (returns-clause-next g c)
