use Rattle.std.proofs.Common.{◌∙◌, [], ap}
use Rattle.f77_meaning.specs.Assign.{written_of}
use Rattle.f77_meaning.specs.Step.{write_move}
use Rattle.f77_machine.specs.Process.{frame_of, process_of, outcome_of_move}
use Rattle.f77_machine.specs.Setting.{setting_in}
use Rattle.f77_machine.proofs.process.Process.assign.Goals as goal

-- what is read is what the assignment asks for
pub returns-in-Wants-clause-next : goal.returns-in-Wants-clause-next
returns-in-Wants-clause-next g c = λ input text.
    let p = c.args.self.now in
    let asked = c.in-Wants.ensures.value ∙ ap (written_of (setting_in c.args.program.now p.unit) c.args.target.now c.args.value.now) c.as_slice.ensures.value in
    c.read.ensures.next c.in-Wants._by (process_of p text) input text
    ∙ ap (λ d. outcome_of_move (write_move c.args.program.now (frame_of p) [] text d) p (g.C.Cells.values c.args.cells.now) (g.C.Cells.reads c.args.cells.now) input text) asked

pub returns-in-Wants-clause-place : goal.returns-in-Wants-clause-place
returns-in-Wants-clause-place g c = c.read.ensures.place c.args.program.now
