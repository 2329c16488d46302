-- What a step may ask of its program, its process and the storage.
use Rattle.std.specs.Prelude.{◌≡◌, ◌≢◌, ℕ, ◌+◌, ◌^◌, ◌<◌, ◌≤◌, ℤ, List, [], ◌∷◌, length, All, Some, IsSome, IsTrue, slice_get}
use Rattle.f77_ast.specs.Limits.{most_line_bytes}
use Rattle.f77_ast.specs.declared.program.Layout.{Layout}
use Rattle.f77_ast.specs.declared.program.Loop.{Loop}
use Rattle.f77_ast.specs.declared.program.Program.{Program}
use Rattle.f77_ast.specs.declared.program.Unit.{Unit as ProgramUnit}
use Rattle.f77_structure.specs.HasMeaning.{statement_has_meaning}
use Rattle.f77_structure.specs.Loops.{loops_of}
use Rattle.f77_structure.specs.Ranges.{IsDo, RangesNest, terminal_at}
use Rattle.f77_structure.specs.Storage.{IsStorage}
use Rattle.f77_structure.specs.Units.{EndsWithEnd, executes, listing_of, main_unit, next_place, statement_count}
use Rattle.f77_meaning.specs.Do.{has_64_bits, value_after}
use Rattle.f77_meaning.specs.Process.{ActiveLoop, Frame, Process, Stage, at_statement, at_inner, at_entry, at_increment, listed_of}
use Rattle.f77_meaning.specs.Step.{is_terminal, loop_of_do}

-- what every accepted program satisfies: there is a main unit; END is the last statement of each unit, and no other; each statement has
-- a meaning, with its expressions and references; all entities that are stored lie in storage; the loops are those of the DO
-- statements; ranges nest; and statements are counted with 32 bits
pub record IsSound (program : Program) : Type 0 where
  pub main : IsSome (slice_get program.units (main_unit program.units))
  pub ended : All (λ unit. EndsWithEnd unit.listing) program.units
  pub meaning : (u : ℕ) (unit : ProgramUnit) → slice_get program.units u ≡ Some unit → All (λ listed. IsTrue (statement_has_meaning program.units program.layout u listed.stmt)) unit.listing
  pub storage : IsStorage program.layout
  pub loops : program.loops ≡ loops_of program.units
  pub ranges : All (λ unit. RangesNest unit.listing) program.units
  pub counted : statement_count program.units + 1 < 2 ^ 32

-- the numbers of an active loop: an iteration is left to end, the count and the variable's value at the end of the loop have
-- 64 bits, and the variable is an address of storage of so many
pub record NumbersFit (total : ℕ) (loop : ActiveLoop) : Type 0 where
  pub left : loop.done < loop.count
  pub count : loop.count < 2 ^ 63
  pub end : IsTrue (has_64_bits (value_after loop.first loop.increment loop.count))
  pub variable : loop.variable < total

-- an active loop of a unit, in whose range the places from `low` to `high` lie: it is that of a DO statement of the unit, which
-- has this loop of the program, its range is the loop's, and its numbers are in range
pub record IsActive (program : Program) (unit low high : ℕ) (loop : ActiveLoop) : Type 0 where
  pub at : ℕ
  pub label : ℕ
  pub begins : IsDo (listing_of program.units unit) at label
  pub its : Loop
  pub found : loop_of_do program unit at ≡ Some its
  pub ordinal : loop.ordinal ≡ its.ordinal
  pub from : loop.from ≡ next_place (listing_of program.units unit) at
  pub last : loop.last ≡ terminal_at (listing_of program.units unit) at label
  pub above : loop.from ≤ low
  pub below : high ≤ loop.last
  pub numbers : NumbersFit (length program.layout.first) loop

-- active loops, the innermost one first: the places from `low` to `high` lie in the range of the first, and its DO statement
-- and its range in that of the next one, and so on
abbrev pub AreActive : Program → (unit low high : ℕ) → List ActiveLoop → Type 0
AreActive program unit low high [] = Unit {0}
AreActive program unit low high (loop ∷ outer) = (first : IsActive program unit low high loop) × AreActive program unit first.at loop.last outer

-- a stage fits its frame: the statement at which it is, is executable; where the frame increments, it is at the terminal statement of its
-- innermost active loop. Nothing is at a statement inside a logical IF, or at the entry of a unit, yet
abbrev pub FitsStage : Program → Stage → Frame → Type 0
FitsStage program at_statement frame = IsTrue (executes (listed_of program frame))
FitsStage program at_inner frame = ⊥
FitsStage program at_entry frame = ⊥
FitsStage program at_increment frame = IsTrue (is_terminal frame.at frame.active)

-- what a frame knows of its unit's dummies, and of implied DOs: no unit with dummies is entered, and no implied DO runs, yet
pub record FitsUnit (program : Program) (frame : Frame) : Type 0 where
  pub bindings : frame.bindings ≡ []
  pub bounds : frame.bounds ≡ []
  pub implied : frame.implied ≡ []

-- a frame that may come of a program: it is at a statement, which lies in the range of each of its active loops, and at a stage
-- that fits
pub record IsFrame (program : Program) (frame : Frame) : Type 0 where
  pub stands : IsSome (listed_of program frame)
  pub active : AreActive program frame.unit frame.at frame.at frame.active
  pub stage : FitsStage program frame.stage frame
  pub known : FitsUnit program frame

-- a frame is at a call of a unit: none is yet
abbrev pub Calls : Program → Frame → (unit : ℕ) → Type 0
Calls program frame unit = ⊥

-- a frame below one of a unit is of another unit, and at a call
pub record IsBelow (program : Program) (unit : ℕ) (frame : Frame) : Type 0 where
  pub other : frame.unit ≢ unit
  pub calls : Calls program frame unit

-- frames that may come of a program, the last one first
abbrev pub AreFrames : Program → List Frame → Type 0
AreFrames program [] = Unit {0}
AreFrames program (frame ∷ below) = IsFrame program frame × (All (IsBelow program frame.unit) below × AreFrames program below)

-- a process that may come of a program: its frames may, and its line isn't past its limit
pub record IsOf (program : Program) (p : Process) : Type 0 where
  pub some : IsSome (slice_get p.frames 0)
  pub frames : AreFrames program p.frames
  pub line : length p.line ≤ most_line_bytes

-- storage for a layout: one value for each address
pub record Fits (layout : Layout) (store : List ℤ) : Type 0 where
  pub cells : length store ≡ length layout.first
