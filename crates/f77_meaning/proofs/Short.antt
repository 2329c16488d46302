-- The line of a PRINT isn't past its limit.
use Rattle.std.proofs.Common.{◌≡◌, ℕ, zero, suc, ◌+◌, ◌-◌, ◌≤◌, ℤ, List, [], ◌∷◌, ◌++◌, length, drop, Bool, true, false, Option, None, Some, refl, if◌then◌else◌, arith, length-append}
use Rattle.std.proofs.lemmas.Bool.{leb-true}
use Rattle.std.specs.Prelude.{nat_le}
use Rattle.f77_ast.specs.Limits.{most_line_bytes}
use Rattle.f77_ast.specs.declared.program.Entity.{Entity}
use Rattle.f77_ast.specs.declared.stmt.Item.{Item}
use Rattle.f77_ast.specs.declared.stmt.Item as item
use Rattle.f77_structure.specs.Arrays.{array_named}
use Rattle.f77_structure.specs.Storage.{elements_of}
use Rattle.f77_structure.specs.Values.{Value}
use Rattle.f77_meaning.specs.Demand.{Demand, gives, wants, calls, fails, demand_of, Setting}
use Rattle.f77_meaning.specs.Print.{Printing, Printed, asks, enters, whole, stops, text_of, with_text, or_blank, next_item, next_cell, within_limit, after_value, element_after, after_elements, after_array_or_value, after_item, after_items, printed_of}
use Rattle.f77_meaning.specs.Process.{Frame}

-- a line that was made isn't past its limit
abbrev pub IsShort : Printed → Type 0
IsShort (asks address by p) = length p.line ≤ most_line_bytes
IsShort (enters unit bindings p) = Unit {0}
IsShort (whole line) = length line ≤ most_line_bytes
IsShort (stops fault) = Unit {0}

-- what goes on from a short line makes a short line
abbrev GoesShort : (Printing → Printed) → Type 0
GoesShort go = (p : Printing) → length p.line ≤ most_line_bytes → IsShort (go p)

-- a line with a text more is short, and so is what goes on from it
text_short : (line text : List ℕ) (go : List ℕ → Printed) → ((more : List ℕ) → length more ≤ most_line_bytes → IsShort (go more)) → IsShort (within_limit (with_text line text) go)
text_short line text go h = by (nat_le (length line + (1 + length text)) most_line_bytes) refl
  where
    by : (fits : Bool) → nat_le (length line + (1 + length text)) most_line_bytes ≡ fits → IsShort (within_limit (if fits then Some (line ++ (32 ∷ text)) else None) go)
    by true e =
        let few : length line + (1 + length text) ≤ most_line_bytes = leb-true (length line + (1 + length text)) most_line_bytes e in
        h (line ++ (32 ∷ text)) (omega (arith, few, length-append line (32 ∷ text)))
    by false e = tt

value_short : (d : Demand Value) (p : Printing) (go : List ℕ → Printed) → ((line : List ℕ) → length line ≤ most_line_bytes → IsShort (go line)) → length p.line ≤ most_line_bytes → IsShort (after_value d p go)
value_short (gives value rest) p go h few = text_short p.line (text_of value) go h
value_short (wants address by) p go h few = few
value_short (calls unit bindings) p go h few = tt
value_short (fails fault) p go h few = tt

elements_short : (s : Setting) (array : Entity) (left : ℕ) (p : Printing) (go : Printing → Printed) → GoesShort go → length p.line ≤ most_line_bytes → IsShort (after_elements s array left p go)
elements_short s array zero p go h few = h (next_item p p.line) few
elements_short s array (suc left) p go h few =
    value_short (element_after s array array.place p.frame.cells p.frame.answers) p (λ line. after_elements s array left (next_cell p line) go) (λ line fits. elements_short s array left (next_cell p line) go h fits) few

array_or_value_short : (s : Setting) (o : Option Entity) (value : List ℤ → Demand Value) (p : Printing) (go : Printing → Printed) → GoesShort go → length p.line ≤ most_line_bytes → IsShort (after_array_or_value s o value p go)
array_or_value_short s (Some array) value p go h few = elements_short s array (elements_of array - p.frame.cells) p go h few
array_or_value_short s None value p go h few = value_short (value p.frame.answers) p (λ line. go (next_item p line)) (λ line fits. h (next_item p line) fits) few

item_short : (s : Setting) (i : Item) (p : Printing) (go : Printing → Printed) → GoesShort go → length p.line ≤ most_line_bytes → IsShort (after_item s i p go)
item_short s (item.Plain expr) p go h few = array_or_value_short s (array_named s.program.layout s.unit expr) (demand_of s expr) p go h few
item_short s (item.Implied' items rest control) p go h few = h (next_item p p.line) few

or_blank_short : (line : List ℕ) → length line ≤ most_line_bytes → length (or_blank line) ≤ most_line_bytes
or_blank_short [] h = omega arith
or_blank_short (byte ∷ bytes) h = h

items_short : (s : Setting) (items : List Item) (p : Printing) → length p.line ≤ most_line_bytes → IsShort (after_items s items p)
items_short s [] p few = or_blank_short p.line few
items_short s (first ∷ items) p few = item_short s first p (after_items s items) (λ q h. items_short s items q h) few

-- the line of a PRINT that goes on from a short one
pub printed_short : (s : Setting) (items : List Item) (frame : Frame) (line : List ℕ) → length line ≤ most_line_bytes → IsShort (printed_of s items frame line)
printed_short s items frame line few =
    items_short s (drop frame.items items) (record { frame = frame; line = line }) few
