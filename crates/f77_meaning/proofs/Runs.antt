-- A run, by what its steps come to.
use Rattle.std.proofs.Common.{◌≡◌, ℕ, suc, ℤ, List, [], ◌∷◌, refl, sym, ap, ◌∙◌}
use Rattle.f77_ast.specs.declared.program.Program.{Program}
use Rattle.f77_ast.specs.declared.step.Stepped.{Stepped}
use Rattle.f77_ast.specs.declared.step.Stepped.TheVariants.{Read, Wrote, Inner, Printed, Ended, Faulted}
use Rattle.f77_structure.specs.Units.{source_line}
use Rattle.f77_meaning.specs.Process.{Process, listed_at}
use Rattle.f77_meaning.specs.Run.{Line, Run, stopped, prefixed, after, run_from}
use Rattle.f77_meaning.specs.Run as run
use Rattle.f77_meaning.specs.Step.{Move, reading, writing, taking, moving, printing, ending, failing, move_of}
use Rattle.f77_meaning.specs.StepOutcome.{StepOutcome, on_input, input_after, outcome_of_step, outcome_by, outcome_from}

-- the run of a step that answered so, where the line holds this after the step, and of the run after it
abbrev pub stepped_run : Stepped → (text : List ℕ) → (line : ℕ) → (store : List ℤ) → Run → Run
stepped_run (Read address by) text line store rest = prefixed [] 1 rest
stepped_run (Wrote address by control) text line store rest = prefixed [] 1 rest
stepped_run Inner text line store rest = prefixed [] 1 rest
stepped_run Printed text line store rest = prefixed (Line text ∷ []) 1 rest
stepped_run Ended text line store rest = stopped store 1 run.Ended
stepped_run (Faulted fault) text line store rest = stopped store 1 (run.Faulted fault line)

-- the run of what a process does next is that of what it comes to
pub after-outcome_by : (move : Move) (p : Process) (store : List ℤ) (count line : ℕ) (input : List ℕ) (go : Process → List ℤ → Run) → let n : StepOutcome = outcome_by move p store count input in after move p store line go ≡ stepped_run n.stepped n.line line n.store (go n.process n.store)
after-outcome_by (reading address by frame below text) p store count line input go = refl
after-outcome_by (writing address value by control next) p store count line input go = refl
after-outcome_by (taking address blocked next) p store count line input go = refl
after-outcome_by (moving next) p store count line input go = refl
after-outcome_by (printing text next) p store count line input go = refl
after-outcome_by ending p store count line input go = refl
after-outcome_by (failing fault) p store count line input go = refl

-- a run of one step or more: where its first step came to this, it is the run of that step and of what comes after it
pub run_from-step : (program : Program) (p q : Process) (old new : List ℤ) (count counted : ℕ) (input rest text : List ℕ) (stepped : Stepped) (left : ℕ) → outcome_from stepped q new counted rest text ≡ outcome_of_step program p old count input → run_from program p old input (suc left) ≡ stepped_run stepped text (source_line (listed_at program p)) new (run_from program q new rest left)
run_from-step program p q old new count counted input rest text stepped left e =
    let by : StepOutcome → Run = λ n. stepped_run n.stepped n.line (source_line (listed_at program p)) n.store (run_from program n.process n.store n.input left) in
    after-outcome_by (on_input (move_of program p) input) p old count (source_line (listed_at program p)) (input_after (move_of program p) input) (λ next store. run_from program next store (input_after (move_of program p) input) left) ∙ ap by (sym e)
