-- The line that PRINT writes (ANSI X3.9-1978, sections 12.8 and 12.8.2; list-directed output, section 13.6, is this project's own).
use Rattle.std.specs.Prelude.{ℕ, zero, suc, ◌+◌, ◌-◌, ◌*◌, nat_le, Bool, true, false, List, [], ◌∷◌, ◌++◌, length, drop, Option, None, Some, if◌then◌else◌}
use Rattle.hyb_base.specs.Decimal.{decimal_of}
use Rattle.hyb_base.specs.declared.ops.RedOp.{RedOp}
use Rattle.f77_ast.specs.Limits.{most_line_bytes}
use Rattle.f77_ast.specs.declared.program.Entity.{Entity}
use Rattle.f77_ast.specs.declared.program.Place.{Place}
use Rattle.f77_ast.specs.declared.program.Place.TheVariants.{Stored, Dummy, Constant}
use Rattle.f77_ast.specs.declared.stmt.Item.{Item}
use Rattle.f77_ast.specs.declared.stmt.Item as item
use Rattle.f77_ast.specs.declared.fault.Fault.{Fault}
use Rattle.f77_ast.specs.declared.fault.Fault.TheVariants.{LineLimit, Subscript}
use Rattle.f77_structure.specs.Arrays.{array_named}
use Rattle.f77_structure.specs.Storage.{elements_of}
use Rattle.f77_structure.specs.Values.{Value, integer, truth, chars}
use Rattle.f77_meaning.specs.Demand.{Demand, gives, wants, calls, fails, Evaluation, Setting, demand_of, place_of, value_at, width}
use Rattle.f77_meaning.specs.Process.{Binding, Frame, with_done}

-- the text of a value: an integer in decimal, a truth as `T` or `F`, characters as they are
abbrev pub truth_text : Bool → List ℕ
truth_text true = 84 ∷ []
truth_text false = 70 ∷ []

abbrev pub text_of : Value → List ℕ
text_of (integer value) = decimal_of value
text_of (truth value) = truth_text value
text_of (chars text) = text

-- the line with a blank and a text more; none where it would pass its limit
abbrev pub with_text : (line text : List ℕ) → Option (List ℕ)
with_text line text = if nat_le (length line + (1 + length text)) most_line_bytes then Some (line ++ (32 ∷ text)) else None

-- a line without items is one blank
abbrev pub or_blank : List ℕ → List ℕ
or_blank [] = 32 ∷ []
or_blank (byte ∷ bytes) = byte ∷ bytes

-- how far a PRINT is: its frame, which says how many items are done, how many addresses of the next one where that is an array, and
-- the answers to the reads of that item; and the line of what is done
pub record Printing : Type 0 where
  pub frame : Frame
  pub line : List ℕ

-- where a PRINT that goes on as far as it can comes to: it asks for a value or calls a unit, and is so far; its line is whole;
-- or it meets a fault
pub data Printed : Type 0 where
  asks : (address : ℕ) (by : Option RedOp) (so_far : Printing) → Printed
  enters : (unit : ℕ) (bindings : List Binding) (so_far : Printing) → Printed
  whole : (line : List ℕ) → Printed
  stops : (fault : Fault) → Printed

-- a PRINT with its next item done, and this line: what the item read is forgotten
abbrev pub next_item : Printing → (line : List ℕ) → Printing
next_item p line = record { frame = with_done (suc p.frame.items) 0 [] p.frame; line = line }

-- a PRINT with the next address of its array done, and this line
abbrev pub next_cell : Printing → (line : List ℕ) → Printing
next_cell p line = record { frame = with_done p.frame.items (suc p.frame.cells) [] p.frame; line = line }

-- goes on where the line isn't past its limit
abbrev pub within_limit : Option (List ℕ) → (List ℕ → Printed) → Printed
within_limit None go = stops LineLimit
within_limit (Some line) go = go line

-- a value goes into the line once it is known; then it goes on with that line
abbrev pub after_value : Demand Value → Printing → (List ℕ → Printed) → Printed
after_value (gives value rest) p go = within_limit (with_text p.line (text_of value)) go
after_value (wants address by) p go = asks address by p
after_value (calls unit bindings) p go = enters unit bindings p
after_value (fails fault) p go = stops fault

module _ (s : Setting) where
  -- the value of the element of an array that comes after `done` others, in the order of their addresses (section 5.2.5), by the place of
  -- the array. Dummies have no meaning yet, and no constant is an array
  abbrev pub element_after : Entity → Place → (done : ℕ) → Evaluation
  element_after array (Stored first) done answers = value_at s (place_of s array (first + done * width array.kind array.len)) answers
  element_after array (Dummy place) done answers = fails Subscript
  element_after array (Constant value) done answers = fails Subscript

  -- an item that is an array, of which `left` elements are left: each of them is an item, which goes into the line once it is read
  abbrev pub after_elements : Entity → (left : ℕ) → Printing → (Printing → Printed) → Printed
  after_elements array zero p go = go (next_item p p.line)
  after_elements array (suc left) p go =
      after_value (element_after array array.place p.frame.cells p.frame.answers) p (λ line. after_elements array left (next_cell p line) go)

  -- an array's name is its elements, and another expression its value
  abbrev pub after_array_or_value : Option Entity → Evaluation → Printing → (Printing → Printed) → Printed
  after_array_or_value (Some array) value p go = after_elements array (elements_of array - p.frame.cells) p go
  after_array_or_value None value p go = after_value (value p.frame.answers) p (λ line. go (next_item p line))

  -- after one item: an array's name is its elements, and another expression its value; an implied DO has no meaning yet
  abbrev pub after_item : Item → Printing → (Printing → Printed) → Printed
  after_item (item.Plain expr) p go = after_array_or_value (array_named s.program.layout s.unit expr) (demand_of s expr) p go
  after_item (item.Implied' items rest control) p go = go (next_item p p.line)

  -- after some items, from left to right: where all are done, the line is whole, and one blank where no item gave a text
  abbrev pub after_items : List Item → Printing → Printed
  after_items [] p = whole (or_blank p.line)
  after_items (first ∷ items) p = after_item first p (after_items items)

  -- where the PRINT of a frame comes to, with this line so far
  abbrev pub printed_of : List Item → Frame → (line : List ℕ) → Printed
  printed_of items frame line = after_items (drop frame.items items) (record { frame = frame; line = line })
