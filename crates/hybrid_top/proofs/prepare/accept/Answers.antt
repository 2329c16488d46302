use Rattle.std.proofs.Common.{refl}
use Rattle.hybrid_top.specs.Prepared.{refused}
use Rattle.hybrid_top.proofs.prepare.accept.Goals as goal

pub returns-in-Err-Refused-clause-stops : goal.returns-in-Err-Refused-clause-stops
returns-in-Err-Refused-clause-stops c = refused c.in-Err-Refused.refusal refl (c.in-Err-Refused.ensures.refused c.in-Err-Refused.refusal (cc))
