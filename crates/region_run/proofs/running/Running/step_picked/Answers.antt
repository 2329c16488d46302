use Rattle.std.proofs.Common.{arith}
use Rattle.region_run.proofs.PickedSteps.{found, asked_at, step_is, running_picked, stays_at}
use Rattle.region_run.proofs.running.Running.step_picked.Goals as goal

pub overflow_sub-at : goal.overflow_sub-at
overflow_sub-at g c =
    let f = found (g.P.Asks.is_of c.args.program.now) g.P.Asks.meant (g.P.Asks.start c.args.program.now) (g.R.Rows.modes c.args.self.now.rows) g.R.Rows.count g.R.Rows.own c.args.self.now c.args.place c.index.result.now c.requires.together c.requires.place c.index.ensures in
    let e = f.is in omega (arith, e)

pub step_live-asked-requires-clause-at : goal.step_live-asked-requires-clause-at
step_live-asked-requires-clause-at g c =
    let f = found (g.P.Asks.is_of c.args.program.now) g.P.Asks.meant (g.P.Asks.start c.args.program.now) (g.R.Rows.modes c.args.self.now.rows) g.R.Rows.count g.R.Rows.own c.args.self.now c.args.place c.index.result.now c.requires.together c.requires.place c.index.ensures in
    let e = f.is in let b = f.below in omega (arith, e, b)

pub returns-clause-next : goal.returns-clause-next
returns-clause-next g c =
    let f = found (g.P.Asks.is_of c.args.program.now) g.P.Asks.meant (g.P.Asks.start c.args.program.now) (g.R.Rows.modes c.args.self.now.rows) g.R.Rows.count g.R.Rows.own c.args.self.now c.args.place c.index.result.now c.requires.together c.requires.place c.index.ensures in
    step_is (g.P.Asks.is_of c.args.program.now) g.P.Asks.meant (g.P.Asks.start c.args.program.now) (g.R.Rows.modes c.args.self.now.rows) g.R.Rows.count g.R.Rows.own (g.P.Asks.fault c.args.program.now) (g.P.Asks.event c.args.program.now) (g.P.Asks.resumed c.args.program.now) (g.P.Asks.done c.args.program.now)
    c.args.self.now c.step_live-asked.new.self c.strike.new.self c.args.place c.index.result.now (g.C.Cells.values c.args.cells.now) (g.C.Cells.values c.step_live-asked.new.cells) c.step_live-asked.result c.requires.together f
    (record { changed = c.step_live-asked.ensures.changed; same_count = c.step_live-asked.ensures.same_count; room = c.step_live-asked.ensures.same_room; rest = c.step_live-asked.ensures.same_rest; items = c.strike.ensures.items; places = c.strike.ensures.places; rest_new = c.strike.ensures.rest })

pub returns-clause-together : goal.returns-clause-together
returns-clause-together g c =
    let f = found (g.P.Asks.is_of c.args.program.now) g.P.Asks.meant (g.P.Asks.start c.args.program.now) (g.R.Rows.modes c.args.self.now.rows) g.R.Rows.count g.R.Rows.own c.args.self.now c.args.place c.index.result.now c.requires.together c.requires.place c.index.ensures in
    running_picked (g.P.Asks.is_of c.args.program.now) g.P.Asks.meant (g.P.Asks.start c.args.program.now) (g.R.Rows.modes c.args.self.now.rows) g.R.Rows.count g.R.Rows.own (g.P.Asks.fault c.args.program.now) (g.P.Asks.event c.args.program.now) (g.P.Asks.resumed c.args.program.now) (g.P.Asks.done c.args.program.now)
    c.args.self.now c.step_live-asked.new.self c.strike.new.self c.args.place c.index.result.now (g.C.Cells.values c.args.cells.now) (g.C.Cells.values c.step_live-asked.new.cells) c.step_live-asked.result c.requires.together f
    (record { changed = c.step_live-asked.ensures.changed; same_count = c.step_live-asked.ensures.same_count; room = c.step_live-asked.ensures.same_room; rest = c.step_live-asked.ensures.same_rest; items = c.strike.ensures.items; places = c.strike.ensures.places; rest_new = c.strike.ensures.rest })

pub returns-clause-number : goal.returns-clause-number
returns-clause-number g c = λ number e. (found (g.P.Asks.is_of c.args.program.now) g.P.Asks.meant (g.P.Asks.start c.args.program.now) (g.R.Rows.modes c.args.self.now.rows) g.R.Rows.count g.R.Rows.own c.args.self.now c.args.place number c.requires.together c.requires.place e).is

pub returns-clause-asked : goal.returns-clause-asked
returns-clause-asked g c = λ d.
    let f = found (g.P.Asks.is_of c.args.program.now) g.P.Asks.meant (g.P.Asks.start c.args.program.now) (g.R.Rows.modes c.args.self.now.rows) g.R.Rows.count g.R.Rows.own c.args.self.now c.args.place c.index.result.now c.requires.together c.requires.place c.index.ensures in
    asked_at (g.P.Asks.is_of c.args.program.now) g.P.Asks.meant (g.P.Asks.start c.args.program.now) (g.R.Rows.modes c.args.self.now.rows) g.R.Rows.count g.R.Rows.own (g.P.Asks.fault c.args.program.now) (g.P.Asks.event c.args.program.now) (g.P.Asks.resumed c.args.program.now) (g.P.Asks.done c.args.program.now)
    c.args.self.now c.step_live-asked.new.self c.strike.new.self c.args.place c.index.result.now (g.C.Cells.values c.args.cells.now) (g.C.Cells.values c.step_live-asked.new.cells) c.step_live-asked.result f
    (record { changed = c.step_live-asked.ensures.changed; same_count = c.step_live-asked.ensures.same_count; room = c.step_live-asked.ensures.same_room; rest = c.step_live-asked.ensures.same_rest; items = c.strike.ensures.items; places = c.strike.ensures.places; rest_new = c.strike.ensures.rest }) d

pub returns-clause-stays : goal.returns-clause-stays
returns-clause-stays g c = λ h.
    let f = found (g.P.Asks.is_of c.args.program.now) g.P.Asks.meant (g.P.Asks.start c.args.program.now) (g.R.Rows.modes c.args.self.now.rows) g.R.Rows.count g.R.Rows.own c.args.self.now c.args.place c.index.result.now c.requires.together c.requires.place c.index.ensures in
    stays_at (g.P.Asks.is_of c.args.program.now) g.P.Asks.meant (g.P.Asks.start c.args.program.now) (g.R.Rows.modes c.args.self.now.rows) g.R.Rows.count g.R.Rows.own (g.P.Asks.fault c.args.program.now) (g.P.Asks.event c.args.program.now) (g.P.Asks.resumed c.args.program.now) (g.P.Asks.done c.args.program.now)
    c.args.self.now c.step_live-asked.new.self c.strike.new.self c.args.place c.index.result.now (g.C.Cells.values c.args.cells.now) (g.C.Cells.values c.step_live-asked.new.cells) c.step_live-asked.result c.requires.together f
    (record { changed = c.step_live-asked.ensures.changed; same_count = c.step_live-asked.ensures.same_count; room = c.step_live-asked.ensures.same_room; rest = c.step_live-asked.ensures.same_rest; items = c.strike.ensures.items; places = c.strike.ensures.places; rest_new = c.strike.ensures.rest }) h
