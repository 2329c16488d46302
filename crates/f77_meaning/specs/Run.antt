-- The sequential run of a program.
use Rattle.std.specs.Prelude.{ℕ, zero, suc, ◌+◌, ℤ, pos, List, [], ◌∷◌, ◌++◌, slice_index_or, slice_set}
use Rattle.f77_ast.specs.declared.program.Program.{Program}
use Rattle.f77_ast.specs.declared.fault.Fault.{Fault}
use Rattle.f77_structure.specs.Units.{source_line}
use Rattle.f77_meaning.specs.Process.{Process, first_process, listed_at}
use Rattle.f77_meaning.specs.Step.{Move, reading, writing, taking, moving, printing, ending, failing, move_of, resumed_by}
use Rattle.f77_meaning.specs.StepOutcome.{on_input, input_after}

-- how a run ends: at its end, by a fault at a statement's line, or with its steps spent
pub data End : Type 0 where
  Ended : End
  Faulted : (fault : Fault) (line : ℕ) → End
  Spent : End

-- what a run shows, in order: a printed line
pub data Shown : Type 0 where
  Line : (text : List ℕ) → Shown

-- what a run shows, what it leaves in storage, how many steps it takes and how it ends
pub record Run : Type 0 where
  pub shown : List Shown
  pub store : List ℤ
  pub steps : ℕ
  pub end : End

-- a run that takes so many steps, shows nothing and ends so
abbrev pub stopped : (store : List ℤ) → (steps : ℕ) → End → Run
stopped store steps end = record { shown = []; store = store; steps = steps; end = end }

-- a run with so many steps before it, which show these
abbrev pub prefixed : (shown : List Shown) → (steps : ℕ) → Run → Run
prefixed shown steps run = record { shown = shown ++ run.shown; store = run.store; steps = steps + run.steps; end = run.end }

-- the run of what a process does next, the input being met, and of what comes after it: a read is answered by the store, a write
-- changes it, and nothing else touches it. Each is one step
abbrev pub after : Move → Process → (store : List ℤ) → (line : ℕ) → (Process → List ℤ → Run) → Run
after (reading address by frame below text) p store line go =
    prefixed [] 1 (go (resumed_by (reading address by frame below text) p (slice_index_or store address (pos 0))) store)
after (writing address value by control next) p store line go =
    prefixed [] 1 (go (resumed_by (writing address value by control next) p (pos 0)) (slice_set store address value))
after (taking address blocked next) p store line go = prefixed [] 1 (go (resumed_by (taking address blocked next) p (pos 0)) store)
after (moving next) p store line go = prefixed [] 1 (go (resumed_by (moving next) p (pos 0)) store)
after (printing text next) p store line go = prefixed (Line text ∷ []) 1 (go (resumed_by (printing text next) p (pos 0)) store)
after ending p store line go = stopped store 1 Ended
after (failing fault) p store line go = stopped store 1 (Faulted fault line)

-- the run from a process on, over this storage and input, for so many steps at most
abbrev pub run_from : Program → Process → (store : List ℤ) → (input : List ℕ) → (steps : ℕ) → Run
run_from program p store input zero = stopped store 0 Spent
run_from program p store input (suc left) =
    after (on_input (move_of program p) input) p store (source_line (listed_at program p)) (λ next store. run_from program next store (input_after (move_of program p) input) left)

-- the sequential run on an input, for so many steps at most
abbrev pub sequential_run : Program → (input : List ℕ) → (steps : ℕ) → Run
sequential_run program input steps = run_from program (first_process program) program.layout.first input steps
