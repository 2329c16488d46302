use Rattle.std.proofs.Common.{arith}
use Rattle.f77_loops.proofs.FollowingLemmas.{knows_back}
use Rattle.f77_loops.proofs.ranges.ranges_of.Goals as goal

pub loop-at-preserved : goal.loop-at-preserved
loop-at-preserved c = record {
  within = omega arith;
  knows = knows_back c.args.number c.loop-at.at c.as_slice-statements.result.now c.index-statements-at.result c.loop-at.following c.go_back.new.self c.loop-at-test.true c.loop-at.invariant.within c.index-statements-at.is c.loop-at.invariant.knows c.in_ok-go_back.ensures;
}
