use Rattle.hyb_outside.proofs.Slices.{emits_here_at, emits_next_at, emits_end}
use Rattle.hyb_outside.proofs.pieces.emit.Goals as goal

pub returns-in_err-put : goal.returns-in_err-put
returns-in_err-put g c = c.loop-piece.invariant _ _ (emits_here_at _ _ _ _ _ _ _ c.loop-piece-test.true c.in_err-put.ensures c.from_residual.ensures.0)

pub loop-piece-preserved : goal.loop-piece-preserved
loop-piece-preserved g c r new t = c.loop-piece.invariant _ _ (emits_next_at _ _ _ _ _ _ _ _ c.loop-piece-test.true c.in_ok-put.ensures t)

pub returns : goal.returns
returns g c = c.loop-piece.invariant _ _ (emits_end _ _ _ c.loop-piece-test.false)
