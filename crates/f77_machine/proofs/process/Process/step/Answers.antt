use Rattle.std.proofs.Common.{◌≤◌, ◌∙◌, sym, subst, length}
use Rattle.f77_io.specs.Input.{left_of}
use Rattle.f77_io.specs.Line.{text_of}
use Rattle.f77_meaning.specs.StepOutcome.{line_left}
use Rattle.f77_machine.specs.Process.{process_of}
use Rattle.f77_machine.specs.Reads.{HasRoom}
use Rattle.f77_machine.proofs.Shows.{short_after}
use Rattle.f77_machine.proofs.Steps.{has_meaning, increment_step, is_of_after, loop_room, loops_fit, number_fits, reads_fit, statement_step}
use Rattle.f77_machine.proofs.process.Process.step.Goals as goal

pub increment-requires-clause-depth : goal.increment-requires-clause-depth
increment-requires-clause-depth g c = loops_fit c.args.program.now c.args.self.now (text_of c.args.line.now) c.requires.sound c.requires.is_of

pub statement-requires-clause-meaning : goal.statement-requires-clause-meaning
statement-requires-clause-meaning g c = has_meaning c.args.program.now c.args.self.now c.in-Some.listed.now c.requires.sound (sym c.in-Some.ensures.listed)

pub statement-requires-clause-room : goal.statement-requires-clause-room
statement-requires-clause-room g c = reads_fit c.args.program.now c.args.self.now (text_of c.args.line.now) c.in-Some.listed.now c.requires.is_of (sym c.in-Some.ensures.listed)

pub statement-requires-clause-few : goal.statement-requires-clause-few
statement-requires-clause-few g c = number_fits c.args.program.now c.args.self.now c.in-Some.listed.now c.requires.sound (sym c.in-Some.ensures.listed)

pub statement-requires-clause-depth : goal.statement-requires-clause-depth
statement-requires-clause-depth g c = loop_room c.args.program.now c.args.self.now (text_of c.args.line.now) c.in-Some.listed.now c.requires.sound c.requires.is_of (sym c.in-Some.ensures.listed)

-- the process after the step is one of the program, and keeps its room
pub returns-in-Increment-clause-is_of : goal.returns-in-Increment-clause-is_of
returns-in-Increment-clause-is_of g c =
    let p = c.args.self.now in
    let text = text_of c.args.line.now in
    let input = left_of c.args.input.now in
    let came = c.increment.ensures.next input text ∙ increment_step c.args.program.now p (g.C.Cells.values c.args.cells.now) (g.C.Cells.reads c.args.cells.now) input text c.in-Increment.is in
    record {
      stands = is_of_after c.args.program.now (process_of p text) (process_of c.increment.new.self (line_left c.increment.result text)) c.increment.result _ _ _ _ _ _ _ came c.requires.sound c.requires.is_of.stands;
      line = c.increment.ensures.place.line c.requires.is_of.line;
      room = subst (HasRoom c.args.program.now) (sym c.increment.ensures.place.room) c.requires.is_of.room;
      depth = subst (λ d. length c.args.program.now.loops ≤ d) (sym c.increment.ensures.place.depth) c.requires.is_of.depth;
    }

pub returns-in-Statement-clause-is_of : goal.returns-in-Statement-clause-is_of
returns-in-Statement-clause-is_of g c =
    let p = c.args.self.now in
    let text = text_of c.args.line.now in
    let input = left_of c.args.input.now in
    let came = c.statement.ensures.next input ∙ statement_step c.args.program.now p c.in-Some.listed.now (g.C.Cells.values c.args.cells.now) (g.C.Cells.reads c.args.cells.now) input text c.in-Some.ensures.listed c.in-Statement.is in
    record {
      stands = is_of_after c.args.program.now (process_of p text) (process_of c.statement.new.self (line_left c.statement.result (text_of c.statement.new.line))) c.statement.result _ _ _ _ _ _ _ came c.requires.sound c.requires.is_of.stands;
      line = c.statement.ensures.place.line c.requires.is_of.line;
      room = subst (HasRoom c.args.program.now) (sym c.statement.ensures.place.room) c.requires.is_of.room;
      depth = subst (λ d. length c.args.program.now.loops ≤ d) (sym c.statement.ensures.place.depth) c.requires.is_of.depth;
    }

pub returns-in-Statement-clause-printed : goal.returns-in-Statement-clause-printed
returns-in-Statement-clause-printed g c = λ h.
    let p = c.args.self.now in
    let text = text_of c.args.line.now in
    let input = left_of c.args.input.now in
    let came = c.statement.ensures.next input ∙ statement_step c.args.program.now p c.in-Some.listed.now (g.C.Cells.values c.args.cells.now) (g.C.Cells.reads c.args.cells.now) input text c.in-Some.ensures.listed c.in-Statement.is in
    short_after c.args.program.now (process_of p text) (process_of c.statement.new.self (line_left c.statement.result (text_of c.statement.new.line))) c.statement.result _ _ _ _ _ _ _ came h c.requires.is_of.stands.line
