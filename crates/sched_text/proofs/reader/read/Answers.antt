use Rattle.std.proofs.Common.{◌≡◌, Ok}
use Rattle.std.proofs.lemmas.Result.{IfOk-weaker}
use Rattle.std.specs.Str.Lines.{lines}
use Rattle.sched_text.specs.Reading.{schedule_from}
use Rattle.sched_text.specs.Schedules.{IsSchedule, Spells}
use Rattle.sched_text.proofs.Readings.{is_spelled, is_bad, is_sound}
use Rattle.sched_text.proofs.reader.read.Goals as goal

pub returns-clause-schedule : goal.returns-clause-schedule
returns-clause-schedule c =
    IfOk-weaker c.read_lines.result (λ s. schedule_from (lines c.args.text.now) ≡ Ok s) IsSchedule (λ s h. is_sound (lines c.args.text.now) s (is_spelled (lines c.args.text.now) s h)) c.read_lines.ensures.ok

pub returns-clause-spelled : goal.returns-clause-spelled
returns-clause-spelled c =
    IfOk-weaker c.read_lines.result (λ s. schedule_from (lines c.args.text.now) ≡ Ok s) (Spells (lines c.args.text.now)) (λ s h. is_spelled (lines c.args.text.now) s h) c.read_lines.ensures.ok

pub returns-clause-bad : goal.returns-clause-bad
returns-clause-bad c = λ line h. is_bad (lines c.args.text.now) line (c.read_lines.ensures.bad line h)
