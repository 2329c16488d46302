use Rattle.std.proofs.Common.{rules}
use Rattle.sched_text.specs.Picks.{mixed_pick}
use Rattle.sched_text.proofs.mix.mixed.Goals as goal

pub returns : goal.returns
unfolding mixed_pick
returns c = search rules
