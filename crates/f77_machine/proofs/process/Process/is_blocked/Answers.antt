use Rattle.std.proofs.Common.{◌==◌, ◌∙◌, ap}
use Rattle.std.specs.List.{list_any}
use Rattle.f77_machine.proofs.Blocked.{blocked_by_one}
use Rattle.f77_machine.proofs.process.Process.is_blocked.Goals as goal

pub returns : goal.returns
returns c = c.is_variable_of_any.ensures ∙ ap (list_any (λ loop. loop.variable == c.args.address)) c.as_slice.ensures.value ∙ blocked_by_one c.args.self.now c.args.address
