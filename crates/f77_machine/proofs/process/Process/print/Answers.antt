use Rattle.std.proofs.Common.{◌≡◌, ◌∙◌, [], ap, arith, length}
use Rattle.f77_io.specs.Line.{text_of}
use Rattle.f77_meaning.specs.Process.{Frame, with_done}
use Rattle.f77_meaning.specs.Step.{print_move, reading}
use Rattle.f77_meaning.specs.StepOutcome.{outcome_by}
use Rattle.f77_machine.specs.Process.{frame_of, process_of, outcome_of_move}
use Rattle.f77_machine.proofs.process.Process.print.Goals as goal

pub read-requires-clause-room : goal.read-requires-clause-room
read-requires-clause-room g c =
    let asked = c.in-Asks.ensures.asks in
    let fewer : length c.keep.new.self.answers.items ≡ length c.in-Asks.here.answers.now = ap (λ (f : Frame). length f.answers) c.keep.ensures.frame ∙ ap length asked.kept.same in
    omega (arith, fewer, asked.room, c.requires.room, c.keep.ensures.room)

-- what is read is what the items ask for
pub returns-in-Asks-clause-next : goal.returns-in-Asks-clause-next
returns-in-Asks-clause-next g c = λ input.
    let p = c.args.self.now in
    let here = c.in-Asks.here in
    let text = text_of c.printed.new.line in
    let old = text_of c.args.line.now in
    let framed : frame_of c.keep.new.self ≡ with_done here.items here.cells here.answers.now (frame_of p) = c.keep.ensures.frame ∙ ap (λ answers. with_done here.items here.cells answers (frame_of p)) c.in-Asks.ensures.asks.kept.same in
    c.read.ensures.next c.in-Asks._by (process_of p old) input text
    ∙ ap (λ frame. outcome_by (reading c.in-Asks.address c.in-Asks._by frame [] text) (process_of p old) (g.C.Cells.values c.args.cells.now) (g.C.Cells.reads c.args.cells.now) input) framed
    ∙ ap (λ printed. outcome_of_move (print_move c.args.program.now (frame_of p) [] old printed) p (g.C.Cells.values c.args.cells.now) (g.C.Cells.reads c.args.cells.now) input old) c.in-Asks.ensures.value

pub returns-in-Asks-clause-place : goal.returns-in-Asks-clause-place
returns-in-Asks-clause-place g c =
    let kept = c.keep.ensures.place c.args.program.now in
    let read = c.read.ensures.place c.args.program.now in
    record { line = λ h. read.line (kept.line h); room = read.room ∙ kept.room; depth = read.depth ∙ kept.depth }
