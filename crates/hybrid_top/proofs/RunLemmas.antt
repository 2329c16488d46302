-- Lemmas on the steps of a run, over what runs it.
use Rattle.std.proofs.Common.{◌≡◌, ℕ, suc, ◌<◌, ◌-◌, List, [], ◌∷◌, ℤ, refl, ap, ◌∙◌, arith}
use Rattle.hyb_outside.specs.declared.pieces.SinkName.{SinkName}
use Rattle.hyb_outside.specs.Pieces.{TakesAll, StopsIn}
use Rattle.hyb_outside.specs.SinkSeen.{SinkSeen}
use Rattle.f77_ast.specs.declared.program.Program.{Program}
use Rattle.f77_ast.specs.declared.fault.Fault.{Fault}
use Rattle.f77_ast.specs.declared.step.Stepped.{Stepped}
use Rattle.f77_ast.specs.declared.step.Stepped.TheVariants as step
use Rattle.f77_structure.specs.Units.{source_line}
use Rattle.f77_io.specs.declared.input.Input.{Input}
use Rattle.f77_io.specs.declared.line.Line.{Line}
use Rattle.f77_io.specs.Input.{left_of}
use Rattle.f77_io.specs.Line.{text_of}
use Rattle.f77_meaning.specs.StepOutcome.{line_left, outcome_of_step, outcome_from}
use Rattle.f77_meaning.specs.Process.{listed_at}
use Rattle.f77_meaning.specs.Process as meaning
use Rattle.f77_meaning.specs.Run.{Run, run_from, prefixed, Ended, Faulted}
use Rattle.f77_meaning.proofs.Runs.{stepped_run, run_from-step}
use Rattle.f77_machine.specs.declared.process.Process.{Process}
use Rattle.f77_machine.specs.declared.store.Store.{Store}
use Rattle.f77_machine.specs.Process.{process_of}
use Rattle.f77_machine.specs.Store.{values_of, reads_of}
use Rattle.hybrid_top.specs.Answer.{ran, line_piece, Shows}
use Rattle.hybrid_top.specs.declared.status.Status.{Status}
use Rattle.hybrid_top.specs.declared.status.Status.TheVariants as status
use Rattle.hybrid_top.proofs.ShowLemmas.{shows_along, shows_one_more, shows_printed, shows_cut, shows_stopped}

-- what a run goes on from: a process, the text of its line, storage and input
pub record At : Type 0 where
  pub process : Process
  pub text : List ℕ
  pub store : Store
  pub input : Input

-- what the process stands for there
abbrev pub standing : At → meaning.Process
standing a = process_of a.process a.text

-- the run from there on
abbrev pub run_of : Program → At → ℕ → Run
run_of program a left = run_from program (standing a) (values_of a.store) (left_of a.input) left

-- the run after a step that answered so, where this is the text of the line then
abbrev pub run_after : Program → Stepped → At → ℕ → Run
run_after program did b left = run_from program (process_of b.process (line_left did b.text)) (values_of b.store) (left_of b.input) left

-- a step came to this
abbrev pub Came : Program → (a b : At) → Stepped → Type 0
Came program a b did = outcome_from did (process_of b.process (line_left did b.text)) (values_of b.store) (reads_of b.store) (left_of b.input) b.text ≡ outcome_of_step program (standing a) (values_of a.store) (reads_of a.store) (left_of a.input)

-- a run of one step or more, by what its first step came to
run_more : (program : Program) (a b : At) (did : Stepped) (left : ℕ) → 0 < left → Came program a b did → run_of program a left ≡ stepped_run did b.text (source_line (listed_at program (standing a))) (values_of b.store) (run_after program did b (left - 1))
run_more program a b did left h e =
    let more : left ≡ suc (left - 1) = omega arith in
    ap (run_from program (standing a) (values_of a.store) (left_of a.input)) more
    ∙ run_from-step program (standing a) (process_of b.process (line_left did b.text)) (values_of a.store) (values_of b.store) (reads_of a.store) (reads_of b.store) (left_of a.input) (left_of b.input) b.text did (left - 1) e

-- a line was printed and taken
pub came_printed : (program : Program) (a b : At) (left : ℕ) (r : Status) (x y z : SinkName → SinkSeen) → 0 < left → Came program a b step.Printed → TakesAll (line_piece b.text ∷ []) x y → Shows (ran (run_after program step.Printed b (left - 1))) r y z → Shows (ran (run_of program a left)) r x z
came_printed program a b left r x y z h e took rest =
    shows_along _ _ r x z (run_more program a b step.Printed left h e) (shows_printed b.text (run_after program step.Printed b (left - 1)) r x y z took rest)

-- a line was printed and cut
pub came_cut : (program : Program) (a b : At) (left : ℕ) (x y : SinkName → SinkSeen) → 0 < left → Came program a b step.Printed → StopsIn (line_piece b.text ∷ []) x y → Shows (ran (run_of program a left)) status.WriteFault x y
came_cut program a b left x y h e cut =
    shows_along _ _ status.WriteFault x y (run_more program a b step.Printed left h e) (shows_cut b.text (run_after program step.Printed b (left - 1)) x y cut)

-- the run ended
pub came_ended : (program : Program) (a b : At) (left : ℕ) (x : SinkName → SinkSeen) → 0 < left → Came program a b step.Ended → Shows (ran (run_of program a left)) status.Done x x
came_ended program a b left x h e = shows_along _ _ status.Done x x (run_more program a b step.Ended left h e) (shows_stopped (values_of b.store) 1 Ended x)

-- a fault came
pub came_faulted : (program : Program) (a b : At) (fault : Fault) (line left : ℕ) (x : SinkName → SinkSeen) → 0 < left → line ≡ source_line (listed_at program (standing a)) → Came program a b (step.Faulted fault) → Shows (ran (run_of program a left)) (status.Faulted fault line) x x
came_faulted program a b fault line left x h at e =
    rw at (shows_along _ _ _ x x (run_more program a b (step.Faulted fault) left h e) (shows_stopped (values_of b.store) 1 (Faulted fault (source_line (listed_at program (standing a)))) x))

-- a step without a line, and without an end
abbrev pub GoesOn : Stepped → Type 0
GoesOn (step.Read address by) = Unit {0}
GoesOn (step.Wrote address by control) = Unit {0}
GoesOn step.Inner = Unit {0}
GoesOn step.Printed = ⊥
GoesOn step.Ended = ⊥
GoesOn (step.Faulted fault) = ⊥

-- such a step shows nothing, and leaves the line to the process
one_more_of : (program : Program) (did : Stepped) (b : At) (line : ℕ) (left : ℕ) → GoesOn did → stepped_run did b.text line (values_of b.store) (run_after program did b left) ≡ prefixed [] 1 (run_of program b left)
one_more_of program (step.Read address by) b line left g = refl
one_more_of program (step.Wrote address by control) b line left g = refl
one_more_of program step.Inner b line left g = refl
one_more_of program step.Printed b line left g = absurd g
one_more_of program step.Ended b line left g = absurd g
one_more_of program (step.Faulted fault) b line left g = absurd g

pub came_on : (program : Program) (a b : At) (did : Stepped) (left : ℕ) (r : Status) (x y : SinkName → SinkSeen) → 0 < left → GoesOn did → Came program a b did → Shows (ran (run_of program b (left - 1))) r x y → Shows (ran (run_of program a left)) r x y
came_on program a b did left r x y h g e rest =
    shows_along _ _ r x y (run_more program a b did left h e ∙ one_more_of program did b (source_line (listed_at program (standing a))) (left - 1) g) (shows_one_more (run_of program b (left - 1)) r x y rest)
