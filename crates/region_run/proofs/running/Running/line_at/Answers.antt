use Rattle.std.proofs.Common.{arith}
use Rattle.region_run.proofs.PickedSteps.{found, line_is}
use Rattle.region_run.proofs.running.Running.line_at.Goals as goal

pub overflow_sub-at : goal.overflow_sub-at
overflow_sub-at g c =
    let f = found (g.P.Asks.is_of c.args.program.now) g.P.Asks.meant (g.P.Asks.start c.args.program.now) (g.R.Rows.modes c.args.self.now.rows) g.R.Rows.count g.R.Rows.own c.args.self.now c.args.place c.index.result.now c.requires.together c.requires.place c.index.ensures in
    let e = f.is in omega (arith, e)

pub index-requires-2 : goal.index-requires-2
index-requires-2 g c =
    let f = found (g.P.Asks.is_of c.args.program.now) g.P.Asks.meant (g.P.Asks.start c.args.program.now) (g.R.Rows.modes c.args.self.now.rows) g.R.Rows.count g.R.Rows.own c.args.self.now c.args.place c.index.result.now c.requires.together c.requires.place c.index.ensures in
    let e = f.is in let b = f.below in omega (arith, e, b)

pub returns : goal.returns
returns g c = λ d.
    let f = found (g.P.Asks.is_of c.args.program.now) g.P.Asks.meant (g.P.Asks.start c.args.program.now) (g.R.Rows.modes c.args.self.now.rows) g.R.Rows.count g.R.Rows.own c.args.self.now c.args.place c.index.result.now c.requires.together c.requires.place c.index.ensures in
    line_is (g.P.Asks.is_of c.args.program.now) g.P.Asks.meant (g.P.Asks.start c.args.program.now) (g.R.Rows.modes c.args.self.now.rows) g.R.Rows.count g.R.Rows.own g.P.Asks.line_of c.args.self.now c.args.place c.index.result.now c.index-2.result.now d f c.index-2.ensures c.line.result c.line.ensures
