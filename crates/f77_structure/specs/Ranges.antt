-- How the ranges of DO-loops lie in a unit (ANSI X3.9-1978, sections 11.10 and 11.10.1).
use Rattle.std.specs.Prelude.{◌≡◌, ℕ, ◌+◌, ◌<◌, ◌≤◌, List, drop, Some, IsTrue, slice_get}
use Rattle.f77_ast.specs.declared.program.Listed.{Listed}
use Rattle.f77_structure.specs.Labels.{distance_to}
use Rattle.f77_structure.specs.Statements.{terminal_label, may_end_range}

-- at this place of a unit stands a DO statement that names this label
pub record IsDo (listing : List Listed) (at label : ℕ) : Type 0 where
  pub listed : Listed
  pub stands : slice_get listing at ≡ Some listed
  pub names : terminal_label listed.stmt ≡ Some label

-- the place of its terminal statement: the first executable statement behind it that has the label
abbrev pub terminal_at : List Listed → (at label : ℕ) → ℕ
terminal_at listing at label = at + 1 + distance_to label (drop (at + 1) listing)

-- there is a terminal statement for the label, and it may end a range
pub record HasRange (listing : List Listed) (at label : ℕ) : Type 0 where
  pub terminal : Listed
  pub stands : slice_get listing (terminal_at listing at label) ≡ Some terminal
  pub ends : IsTrue (may_end_range terminal.stmt)

-- each DO statement of a unit has its range, and where one stands in the range of another, so does all of its own range
pub record RangesNest (listing : List Listed) : Type 0 where
  pub ended : (at label : ℕ) → IsDo listing at label → HasRange listing at label
  pub nested : (outer inner named label : ℕ) → IsDo listing outer named → IsDo listing inner label → outer < inner → inner ≤ terminal_at listing outer named → terminal_at listing inner label ≤ terminal_at listing outer named
