use Rattle.sched_text.proofs.Readings.{schedules_sound}
use Rattle.sched_text.proofs.laws.law_of_schedules.Goals as goal

pub returns : goal.returns
returns c = schedules_sound
