-- Counts that stand still at their end.
use Rattle.std.proofs.Common.{arith}
use Rattle.hyb_base.specs.Count.{CountsRise}

-- below its end a count rises
pub counts_rise : CountsRise
counts_rise before after h = (omega (arith, h), (λ r. omega (arith, h, r), λ l. omega (arith, h, l)))
