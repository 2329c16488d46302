-- DO ranges: their terminal statements, and how they nest (ANSI X3.9-1978, sections 11.10 and 11.10.1).
use Rattle.std.specs.Prelude.{ℕ, Bool, true, false, ◌&&◌, ◌||◌, not, nat_lt, List, Option, None, Some, slice_get}
use Rattle.std.specs.List.{list_any}
use Rattle.f77_ast.specs.declared.program.Listed.{Listed}
use Rattle.f77_structure.specs.Statements.{terminal_label, may_end_range}
use Rattle.f77_structure.specs.Labels.{target_in}
use Rattle.f77_structure.specs.declared.stretches.Stretch.{Stretch}
use Rattle.f77_structure.specs.Blocks.{blocks_of}
use Rattle.f77_structure.specs.Stretches.{holds, ranges_of}

-- whether there is a statement, and it may be a terminal statement
abbrev pub may_end : Option Listed → Bool
may_end None = false
may_end (Some terminal) = may_end_range terminal.stmt

-- whether a DO statement stands in the range of another, whose terminal statement its own one stands behind
abbrev pub crosses : (outer inner : Stretch) → Bool
crosses outer inner = holds outer inner.opens && nat_lt outer.last inner.last

-- DO ranges nest; several may share a terminal statement. Where two ranges cross, both DO statements break the rule, also
-- where a terminal statement is of a kind that may end no range
abbrev pub crosses_a_range : (unit : List Listed) → Stretch → Bool
crosses_a_range unit range = list_any (λ other. crosses range other || crosses other range) (ranges_of unit)

-- whether one of two tests holds, and not the other
abbrev pub is_one_of : Bool → Bool → Bool
is_one_of true other = not other
is_one_of false other = other

-- DO ranges and IF blocks nest, and an ELSE IF or ELSE stands in no DO range in which its IF doesn't stand: a DO statement
-- and its terminal statement stand in the same IF blocks
abbrev pub leaves_a_block : (unit : List Listed) → Stretch → Bool
leaves_a_block unit range = list_any (λ block. is_one_of (holds block range.opens) (holds block range.last)) (blocks_of unit)

-- a DO statement breaks the rule where its terminal statement doesn't stand later in the unit or may be none, where its range
-- crosses another, or where it stands in other IF blocks than its terminal statement
abbrev pub breaks_to : (unit : List Listed) → (place : ℕ) → Option ℕ → Bool
breaks_to unit place None = true
breaks_to unit place (Some target) =
    let range : Stretch = record { opens = place; last = target } in
    not (nat_lt place target && may_end (slice_get unit target)) || crosses_a_range unit range || leaves_a_block unit range

abbrev pub breaks_with : (unit : List Listed) → (place : ℕ) → Option ℕ → Bool
breaks_with unit place None = false
breaks_with unit place (Some label) = breaks_to unit place (target_in label unit)

-- DoNesting: a DO whose terminal statement or nesting breaks these
abbrev pub breaks_range : (unit : List Listed) → ℕ → Listed → List Listed → Bool
breaks_range unit place listed following = breaks_with unit place (terminal_label listed.stmt)
