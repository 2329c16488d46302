use Rattle.std.proofs.Common.{◌∙◌, [], ap, sym}
use Rattle.f77_structure.specs.Statements.{terminal_label}
use Rattle.f77_io.specs.Line.{text_of}
use Rattle.f77_meaning.specs.Step.{statement_move}
use Rattle.f77_machine.specs.Process.{frame_of, outcome_of_move}
use Rattle.f77_machine.proofs.process.Process.statement.Goals as goal

pub begin-requires-clause-depth : goal.begin-requires-clause-depth
begin-requires-clause-depth g c = c.requires.depth c.in-Do.terminal (ap terminal_label c.in-Do.is)

pub returns-in-Assign-clause-next : goal.returns-in-Assign-clause-next
returns-in-Assign-clause-next g c = λ input.
    let p = c.args.self.now in
    let text = text_of c.args.line.now in
    c.assign.ensures.next input text
    ∙ ap (λ s. outcome_of_move (statement_move c.args.program.now (frame_of p) [] text s) p (g.C.Cells.values c.args.cells.now) (g.C.Cells.reads c.args.cells.now) input text) (sym c.in-Assign.is)

pub returns-in-Do-clause-next : goal.returns-in-Do-clause-next
returns-in-Do-clause-next g c = λ input.
    let p = c.args.self.now in
    let text = text_of c.args.line.now in
    c.begin.ensures.next input text
    ∙ ap (λ s. outcome_of_move (statement_move c.args.program.now (frame_of p) [] text s) p (g.C.Cells.values c.args.cells.now) (g.C.Cells.reads c.args.cells.now) input text) (sym c.in-Do.is)
