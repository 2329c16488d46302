use Rattle.std.proofs.Common.{arith}
use Rattle.hyb_outside.proofs.Takes.{takes_more}
use Rattle.hyb_outside.proofs.pieces.offer.Goals as goal

pub loop-done-preserved : goal.loop-done-preserved
loop-done-preserved g c = record {
  within = omega (arith, c.in_ok-done.ensures.within, c.split_at.ensures.back_len);
  took = takes_more c.args.piece.now c.loop-done.done c.in_ok-done.field-0 _ _ _ c.loop-done.invariant.took (rw c.split_at.ensures.back at c.in_ok-done.ensures.takes);
}
