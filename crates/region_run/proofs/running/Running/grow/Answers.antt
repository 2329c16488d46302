use Rattle.std.proofs.Common.{◌≡◌, ◌+◌, length, arith, refl, true, pos, ap}
use Rattle.region_run.specs.Places.{numbers}
use Rattle.region_run.specs.Running.{live_of}
use Rattle.region_run.proofs.Places.{numbers_fit}
use Rattle.region_run.proofs.Grows.{grew}
use Rattle.std.proofs.lemmas.List.{length-map}
use Rattle.region_run.proofs.running.Running.grow.Goals as goal

pub refill-requires-clause-places : goal.refill-requires-clause-places
refill-requires-clause-places g c =
    let slots = live_of g.P.Asks.meant g.R.Rows.own c.args.self.now in
    let o : length c.args.self.now.unfinished.items ≡ length (numbers c.args.self.now.committed slots) = ap length c.requires.together.order in
    let n = numbers_fit c.args.self.now.committed slots in
    let l : length slots ≡ length c.args.self.now.live.items = length-map c.args.self.now.live.items _ in
    let f = c.requires.full in let p = c.requires.places in
    omega (arith, o, n, l, f, p)

pub returns : goal.returns
returns g c =
    grew (g.P.Asks.is_of c.args.program.now) g.P.Asks.meant (g.P.Asks.start c.args.program.now) g.R.Rows.modes g.R.Rows.count g.R.Rows.own
    (record { process = c.in_ok-process.process; value = pos 0; row = c.args.row; finished = true }) c.args.self.now (record c.args.self.now { window = c.args.self.now.window + 1 }) c.refill.new.self refl
    (c.in_ok-process.ensures.is_of c.args.program.now c.requires.together.entry) refl c.requires.together c.requires.settled c.requires.left c.requires.below c.requires.row c.requires.full c.requires.room c.requires.places c.refill.ensures.began
