use Rattle.std.proofs.Common.{◌∙◌, [], ap}
use Rattle.f77_meaning.specs.Demand.{wants}
use Rattle.f77_meaning.specs.Do.{begun_of}
use Rattle.f77_meaning.specs.Step.{do_move, loop_of_do}
use Rattle.f77_machine.specs.Process.{frame_of, process_of, outcome_of_move}
use Rattle.f77_machine.specs.Setting.{setting_in}
use Rattle.f77_machine.proofs.process.Process.begin.Goals as goal

-- what is read is what the parameters ask for
pub returns-in-Wants-clause-next : goal.returns-in-Wants-clause-next
returns-in-Wants-clause-next g c = λ input text.
    let p = c.args.self.now in
    let asked = c.in-Wants.ensures.value ∙ ap (begun_of (setting_in c.args.program.now p.unit) c.args.control.now) c.as_slice.ensures.value in
    c.read.ensures.next c.in-Wants._by (process_of p text) input text
    ∙ ap (λ o. outcome_of_move (do_move c.args.program.now (frame_of p) [] text o (wants c.in-Wants.address c.in-Wants._by)) p (g.C.Cells.values c.args.cells.now) (g.C.Cells.reads c.args.cells.now) input text) c.in-Some.ensures
    ∙ ap (λ d. outcome_of_move (do_move c.args.program.now (frame_of p) [] text (loop_of_do c.args.program.now p.unit p.at) d) p (g.C.Cells.values c.args.cells.now) (g.C.Cells.reads c.args.cells.now) input text) asked

pub returns-in-Wants-clause-place : goal.returns-in-Wants-clause-place
returns-in-Wants-clause-place g c = c.read.ensures.place c.args.program.now
