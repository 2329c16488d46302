-- What a PRINT comes to.
use Rattle.std.specs.Prelude.{◌≡◌, ℕ, ℤ, ◌+◌, ◌<◌, ◌≤◌, ◌^◌, List, [], length, take, Option, None, Some, Result, Ok, Err}
use Rattle.f77_ast.specs.declared.fault.Fault.{Fault}
use Rattle.f77_meaning.specs.Print.{asks, whole, stops, or_blank}
use Rattle.f77_meaning.specs.Print as meaning
use Rattle.f77_meaning.specs.Process.{Frame, with_done}
use Rattle.f77_machine.specs.declared.print.Printing.{Printing}
use Rattle.f77_machine.specs.declared.print.Printed.{Printed}
use Rattle.f77_machine.specs.declared.print.Printed.TheVariants.{GoesOn, Asks, Stops}

-- how far the PRINT of a frame is, with this line
abbrev pub as_printing : Frame → Printing → (line : List ℕ) → meaning.Printing
as_printing frame at line = record { frame = with_done at.items at.cells at.answers.now frame; line = line }

-- where the PRINT of a frame comes to with this line, where it goes on so
abbrev pub go_on : Frame → Printed → (line : List ℕ) → (meaning.Printing → meaning.Printed) → meaning.Printed
go_on frame (GoesOn at) line go = go (as_printing frame at line)
go_on frame (Asks address by at) line go = asks address by (as_printing frame at line)
go_on frame (Stops fault) line go = stops fault

-- where a PRINT without further items comes to: its line is whole
abbrev pub as_printed : Frame → Printed → (line : List ℕ) → meaning.Printed
as_printed frame (GoesOn at) line = whole (or_blank line)
as_printed frame (Asks address by at) line = asks address by (as_printing frame at line)
as_printed frame (Stops fault) line = stops fault

-- the line, where a text was added to it
abbrev pub line_by : Result (Unit {0}) Fault → (line : List ℕ) → Option (List ℕ)
line_by (Ok added) line = Some line
line_by (Err fault) line = None

-- a list begins with another
pub record BeginsWith {X : Type 0} (whole part : List X) : Type 0 where
  pub shorter : length part ≤ length whole
  pub same : take (length part) whole ≡ part

-- an address that is asked for lies in storage of `total` addresses; those of the answers that are kept are the
-- first ones, and fewer than are needed
pub record IsAsked (total need : ℕ) (answers : List ℤ) (after : Printing) (address : ℕ) : Type 0 where
  pub within : address < total
  pub room : length after.answers.now < need
  pub cells : after.cells < 2 ^ 32
  pub kept : BeginsWith answers after.answers.now

abbrev pub AsksWithin : (total need : ℕ) → (answers : List ℤ) → Printed → Type 0
AsksWithin total need answers (GoesOn after) = Unit {0}
AsksWithin total need answers (Asks address by after) = IsAsked total need answers after address
AsksWithin total need answers (Stops fault) = Unit {0}

-- with its next item done
pub record IsNext (before after : Printing) : Type 0 where
  pub items : after.items ≡ before.items + 1
  pub cells : after.cells ≡ 0
  pub answers : after.answers.now ≡ []

abbrev pub Follows : (before : Printing) → Printed → Type 0
Follows before (GoesOn after) = IsNext before after
Follows before (Asks address by after) = Unit {0}
Follows before (Stops fault) = Unit {0}
