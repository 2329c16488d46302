use Rattle.region_run.proofs.Commits.{between, room_for, running_then, settled_more}
use Rattle.region_run.proofs.running.Running.commit_first.Goals as goal

pub refill-requires-clause-places : goal.refill-requires-clause-places
refill-requires-clause-places g c =
    let b = between (g.P.Asks.is_of c.args.program.now) g.P.Asks.meant (g.P.Asks.start c.args.program.now) g.R.Rows.modes g.R.Rows.count g.R.Rows.own c.in-Some.first c.args.self.now c.commit.new.self _ _ c.requires.together c.in-Some.ensures.some c.commit.ensures.same_count c.requires.first in
    room_for (g.P.Asks.is_of c.args.program.now) g.P.Asks.meant (g.P.Asks.start c.args.program.now) g.R.Rows.modes g.R.Rows.count g.R.Rows.own c.in-Some.first c.args.self.now c.commit.new.self b

pub returns-in-Some-clause-together : goal.returns-in-Some-clause-together
returns-in-Some-clause-together g c =
    let b = between (g.P.Asks.is_of c.args.program.now) g.P.Asks.meant (g.P.Asks.start c.args.program.now) g.R.Rows.modes g.R.Rows.count g.R.Rows.own c.in-Some.first c.args.self.now c.commit.new.self _ _ c.requires.together c.in-Some.ensures.some c.commit.ensures.same_count c.requires.first in
    running_then (g.P.Asks.is_of c.args.program.now) g.P.Asks.meant (g.P.Asks.start c.args.program.now) g.R.Rows.modes g.R.Rows.count g.R.Rows.own c.in-Some.first c.args.self.now c.commit.new.self c.refill.new.self b c.refill.ensures.none c.refill.ensures.began

pub returns-in-Some-clause-settled : goal.returns-in-Some-clause-settled
returns-in-Some-clause-settled g c =
    let b = between (g.P.Asks.is_of c.args.program.now) g.P.Asks.meant (g.P.Asks.start c.args.program.now) g.R.Rows.modes g.R.Rows.count g.R.Rows.own c.in-Some.first c.args.self.now c.commit.new.self _ _ c.requires.together c.in-Some.ensures.some c.commit.ensures.same_count c.requires.first in
    settled_more (g.P.Asks.is_of c.args.program.now) g.P.Asks.meant (g.P.Asks.start c.args.program.now) g.R.Rows.modes g.R.Rows.count g.R.Rows.own (g.P.Asks.event c.args.program.now) (g.P.Asks.resumed c.args.program.now) (g.P.Asks.done c.args.program.now) c.in-Some.first c.args.self.now c.commit.new.self c.refill.new.self _ _ c.in-Some.ensures.some b c.refill.ensures.none c.refill.ensures.began
