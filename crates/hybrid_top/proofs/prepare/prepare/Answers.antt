use Rattle.std.proofs.Common.{ap, ◌∙◌}
use Rattle.std.proofs.lemmas.Result.{err_from_is_err_and}
use Rattle.hyb_base.specs.Count.{next_count}
use Rattle.hybrid_top.proofs.PrepareLemmas.{start_stops, program_stops, front_stops, input_stops, schedule_stops}
use Rattle.hybrid_top.proofs.ReadLemmas.{keeps_then}
use Rattle.hybrid_top.proofs.prepare.prepare.Goals as goal

pub returns-in_err-bytes-clause-stops : goal.returns-in_err-bytes-clause-stops
returns-in_err-bytes-clause-stops g c =
    let p = err_from_is_err_and c.from_residual.result c.from_residual.ensures.1 in
    rw (p.1, p.2) (program_stops _ _ _ _ c.in_err-bytes.ensures.stops)

pub returns-in_err-program-clause-stops : goal.returns-in_err-program-clause-stops
returns-in_err-program-clause-stops g c =
    let p = err_from_is_err_and c.from_residual-in_err-program.result c.from_residual-in_err-program.ensures.1 in
    rw (p.1, p.2) (front_stops _ _ _ _ _ c.in_ok-bytes.ensures.end (rw c.as_slice.ensures c.in_ok-bytes.ensures.whole) c.in_err-program.ensures.stops)

pub returns-in_err-input-clause-stops : goal.returns-in_err-input-clause-stops
returns-in_err-input-clause-stops g c =
    let p = err_from_is_err_and c.from_residual-in_err-input.result c.from_residual-in_err-input.ensures.1 in
    rw (p.1, p.2)
    (input_stops _ _ _ _ _ c.as_slice.result.now c.in_ok-program.program c.read.ensures.keeps c.read-2.ensures.keeps c.in_ok-bytes.ensures.end (rw c.as_slice.ensures c.in_ok-bytes.ensures.whole) c.in_ok-program.ensures.accepted c.in_err-input.ensures.stops)

pub returns-in_err-_schedule-clause-stops : goal.returns-in_err-_schedule-clause-stops
returns-in_err-_schedule-clause-stops g c =
    let p = err_from_is_err_and c.from_residual-in_err-_schedule.result c.from_residual-in_err-_schedule.ensures.1 in
    let input = rw c.read.ensures.keeps.content at c.in_ok-input.ensures.whole in
    rw (p.1, p.2)
    (schedule_stops _ _ _ _ _ c.as_slice.result.now c.in_ok-program.program c.in_ok-input.input (keeps_then _ _ _ c.read.ensures.keeps c.read-2.ensures.keeps) c.read-3.ensures.keeps (c.in_ok-input.ensures.end ∙ ap next_count c.in_ok-bytes.ensures.end) (rw c.as_slice.ensures c.in_ok-bytes.ensures.whole) c.in_ok-program.ensures.accepted input c.in_err-_schedule.ensures.stops)

pub returns-clause-stops : goal.returns-clause-stops
returns-clause-stops g c = start_stops _ _ _ c.start.result c.start.ensures.stops
