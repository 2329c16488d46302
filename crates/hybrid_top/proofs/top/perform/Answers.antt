use Rattle.std.proofs.Common.{sym, refl}
use Rattle.hybrid_top.specs.Answer.{usage}
use Rattle.hybrid_top.specs.Command.{request_of}
use Rattle.hybrid_top.specs.declared.status.Status.TheVariants as status
use Rattle.hybrid_top.proofs.TopLemmas.{prepared_performs, stop_performs}
use Rattle.hybrid_top.proofs.top.perform.Goals as goal

pub prepare-requires : goal.prepare-requires
prepare-requires g c = c.requires (request_of c.in-Some.command) (sym c.in-Some.ensures.request)

pub returns-in-None-clause-performed : goal.returns-in-None-clause-performed
returns-in-None-clause-performed g c = stop_performs _ _ _ status.Usage _ (usage (sym c.in-None.ensures.request) refl refl)

pub returns-in-Ok-clause-performed : goal.returns-in-Ok-clause-performed
returns-in-Ok-clause-performed g c =
    rw (← c.in-Some.ensures.request) (prepared_performs _ _ (request_of c.in-Some.command) c.in-Ok.machine c.run.result _ _ c.in-Ok.ensures.prepared c.in-Ok.ensures.ends c.run.ensures)

pub returns-in-Err-clause-performed : goal.returns-in-Err-clause-performed
returns-in-Err-clause-performed g c = rw (← c.in-Some.ensures.request) (stop_performs _ _ _ c.in-Err.status _ c.in-Err.ensures.stops)
