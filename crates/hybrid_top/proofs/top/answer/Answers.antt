use Rattle.std.proofs.Common.{◌≡◌, ◌≢◌, rules}
use Rattle.hybrid_top.specs.declared.status.Status.TheVariants as status
use Rattle.hybrid_top.proofs.TopLemmas.{performed_cut, performed_then}
use Rattle.hybrid_top.proofs.top.answer.Goals as goal

pub returns-then-eq-clause-answered : goal.returns-then-eq-clause-answered
returns-then-eq-clause-answered g c =
    let cut : c.perform-status.result ≡ status.WriteFault = search rules in
    performed_cut _ _ _ _ _ _ c.perform-status.ensures.performed cut

pub returns-clause-answered : goal.returns-clause-answered
returns-clause-answered g c =
    let written : c.perform-status.result ≢ status.WriteFault = search rules in
    performed_then _ _ _ _ _ _ _ _ c.perform-status.ensures.performed written c.conclude.ensures
