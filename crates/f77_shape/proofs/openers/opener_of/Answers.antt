use Rattle.std.proofs.Common.{◌∙◌, arith}
use Rattle.f77_shape.proofs.OpenerLemmas.{next_smaller, next_same}
use Rattle.f77_shape.proofs.openers.opener_of.Goals as goal

pub loop-end-smaller : goal.loop-end-smaller
loop-end-smaller c = next_smaller c.args.farthest.now c.args.openers.now c.args.place c.loop-end.end c.requires.known c.requires.found c.loop-end-test.true c.loop-end.invariant.within

pub loop-end-preserved : goal.loop-end-preserved
loop-end-preserved c =
    let less = next_smaller c.args.farthest.now c.args.openers.now c.args.place c.loop-end.end c.requires.known c.requires.found c.loop-end-test.true c.loop-end.invariant.within in
    let before = c.loop-end.invariant.within in
    record {
      within = omega (arith, less, before);
      same = next_same c.args.farthest.now c.args.openers.now c.args.place c.loop-end.end c.requires.known c.requires.found c.loop-end-test.true c.loop-end.invariant.within c.if-farthest-end.true ∙ c.loop-end.invariant.same;
    }
