-- Active loops as loops of the program, by their ordinals (ANSI X3.9-1978, section 11.10).
use Rattle.std.specs.Prelude.{◌≡◌, ◌≢◌, ℕ, ◌+◌, List, [], ◌∷◌, ◌++◌, All, drop, map, Some}
use Rattle.f77_ast.specs.Loop.{loop_at}
use Rattle.f77_ast.specs.declared.program.Loop.{Loop}
use Rattle.f77_ast.specs.declared.program.Program.{Program}
use Rattle.f77_structure.specs.Loops.{loop_from}
use Rattle.f77_structure.specs.Ranges.{IsDo, terminal_at}
use Rattle.f77_structure.specs.Units.{listing_of, next_place, statement_number}
use Rattle.f77_meaning.specs.Process.{ActiveLoop, Frame, Process}
use Rattle.f77_meaning.specs.Sound.{IsOf, IsSound}
use Rattle.f77_meaning.specs.Step.{loop_of_do}

-- a DO statement of a unit has its loop: the one of its unit, number, line, label and following statements, which the program lists
-- under its ordinal
pub record HasLoop (program : Program) (unit at label : ℕ) (begins : IsDo (listing_of program.units unit) at label) : Type 0 where
  pub loop : Loop
  pub found : loop_of_do program unit at ≡ Some loop
  pub numbered : loop_at program.loops loop.ordinal ≡ Some loop
  pub is : loop ≡ loop_from unit loop.ordinal (statement_number program.units unit at) begins.listed.card.line label (drop (at + 1) (listing_of program.units unit))

-- each DO statement of a unit has its loop
abbrev pub DoStatementsHaveLoops : Type 0
DoStatementsHaveLoops = (program : Program) → IsSound program → (unit at label : ℕ) (begins : IsDo (listing_of program.units unit) at label) → HasLoop program unit at label begins

-- an active loop of a unit is the loop of a DO statement of the unit: it has its ordinal and its range, which is run from where control
-- goes on after the DO statement
pub record IsLoopOf (program : Program) (unit : ℕ) (active : ActiveLoop) : Type 0 where
  pub at : ℕ
  pub label : ℕ
  pub begins : IsDo (listing_of program.units unit) at label
  pub its : HasLoop program unit at label begins
  pub ordinal : active.ordinal ≡ its.loop.ordinal
  pub from : active.from ≡ next_place (listing_of program.units unit) at
  pub last : active.last ≡ terminal_at (listing_of program.units unit) at label

-- each active loop of each frame of a process says which loop of the program it is
abbrev pub ActiveLoopsAreOfProgram : Type 0
ActiveLoopsAreOfProgram = (program : Program) (p : Process) → IsSound program → IsOf program p → All (λ frame. All (IsLoopOf program frame.unit) frame.active) p.frames

-- numbers that are all different
abbrev pub AllDiffer : List ℕ → Type 0
AllDiffer [] = Unit {0}
AllDiffer (n ∷ ns) = All (λ m. m ≢ n) ns × AllDiffer ns

-- the ordinals of the active loops of some frames
abbrev pub ordinals_of : List Frame → List ℕ
ordinals_of [] = []
ordinals_of (frame ∷ below) = map (λ loop. loop.ordinal) frame.active ++ ordinals_of below

-- the active loops of all frames of a process have different ordinals
abbrev pub ActiveLoopsDiffer : Type 0
ActiveLoopsDiffer = (program : Program) (p : Process) → IsSound program → IsOf program p → AllDiffer (ordinals_of p.frames)
