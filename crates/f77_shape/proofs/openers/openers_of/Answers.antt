use Rattle.std.proofs.Common.{ap, ◌∙◌, length}
use Rattle.f77_shape.proofs.OpenerLemmas.{found_tell}
use Rattle.f77_shape.proofs.openers.openers_of.Goals as goal

pub returns-clause-found : goal.returns-clause-found
returns-clause-found c = found_tell c.args.stretches.now c.args.count c.as_slice.result.now c.in_ok-openers.openers.items (rw c.as_slice.ensures.value c.in_ok-farthest.ensures) c.in_ok-openers.ensures.count c.in_ok-openers.ensures.found

pub returns-clause-count : goal.returns-clause-count
returns-clause-count c = c.in_ok-openers.ensures.count ∙ ap length c.as_slice.ensures.value ∙ c.in_ok-farthest.ensures.counted
