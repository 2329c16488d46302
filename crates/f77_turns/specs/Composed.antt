-- A run, cut after some of its steps.
use Rattle.std.specs.Prelude.{ℕ, ◌+◌, ◌≡◌, ◌≢◌, ◌⊎◌, ℤ, List}
use Rattle.f77_ast.specs.declared.program.Program.{Program}
use Rattle.f77_meaning.specs.Process.{Process}
use Rattle.f77_meaning.specs.Run.{Run, Spent, prefixed, run_from}
use Rattle.f77_meaning.specs.Sound.{Fits, IsOf, IsSound}

module _ (program : Program) (p : Process) (store : List ℤ) (input : List ℕ) (k : ℕ) where
  -- the run of k steps at most
  abbrev pub first_steps : Run
  first_steps = run_from program p store input k

  -- it ends before its steps are spent, and every longer run is the same
  pub record Stops : Type 0 where
    pub ends : first_steps.end ≢ Spent
    pub same : (n : ℕ) → run_from program p store input (k + n) ≡ first_steps

  -- it spends its steps and leads to a process of the program and the rest of the input: every longer run shows what it shows, and then is
  -- the run from there over the storage that it leaves, which fits where the storage before fits
  pub record GoesOn : Type 0 where
    pub process : Process
    pub left : List ℕ
    pub spends : first_steps.end ≡ Spent
    pub is_of : IsOf program process
    pub fits : Fits program.layout store → Fits program.layout first_steps.store
    pub same : (n : ℕ) → run_from program p store input (k + n) ≡ prefixed first_steps.shown k (run_from program process first_steps.store left n)

-- a run is composed: its first k steps are the whole of it, or it is a run of k steps and one of the rest
abbrev pub RunsCompose : Type 0
RunsCompose = (program : Program) (p : Process) (store : List ℤ) (input : List ℕ) (k : ℕ) → IsSound program → IsOf program p →
    Stops program p store input k ⊎ GoesOn program p store input k
