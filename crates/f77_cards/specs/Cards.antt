-- The cards of a file, and why it has none. A definition over the whole list of lines.
use Rattle.std.specs.Prelude.{ℕ, ◌+◌, Bool, false, not, List, [], ◌∷◌, ◌++◌, map, filter, Option, Some, None, Result, Ok, Err, if◌then◌else◌}
use Rattle.std.specs.List.{flat_map}
use Rattle.f77_ast.specs.declared.program.Card.{Card}
use Rattle.f77_ast.specs.Refusal.{refusal_by, when, first_of}
use Rattle.f77_ast.specs.declared.refusal.Refusal.{Refusal}
use Rattle.f77_ast.specs.declared.rule.Rule.{Rule}
use Rattle.f77_ast.specs.declared.rule.Rule.TheVariants as rule
use Rattle.f77_cards.specs.declared.line.Line.{Line}
use Rattle.f77_cards.specs.Columns.{numbered, is_comment, is_initial, text_field, label_of}
use Rattle.f77_cards.specs.Lines.{lines_of}
use Rattle.f77_cards.specs.Rules.{has_tab, has_bad_character, has_bad_label, is_one_too_many}
use Rattle.f77_cards.specs.Text.{text_from, ends_inside}

-- ---- statements

-- the lines of a file that are no comments
abbrev pub statement_lines : List ℕ → List Line
statement_lines bytes = filter (λ line. not (is_comment line)) (numbered 1 (lines_of bytes))

-- an initial line, and the continuation lines up to the next initial line
pub record Statement : Type 0 where
  pub initial : Line
  pub continuations : List Line

-- continuation lines before any initial line, and the statements after them
pub record Grouped : Type 0 where
  pub leading : List Line
  pub statements : List Statement

-- a line before grouped lines: an initial line takes the continuation lines that stand first
abbrev pub with_line : Line → Grouped → Grouped
with_line line g = if is_initial line then record { leading = []; statements = record { initial = line; continuations = g.leading } ∷ g.statements } else record { leading = line ∷ g.leading; statements = g.statements }

-- lines, grouped
abbrev pub grouped : List Line → Grouped
grouped [] = record { leading = []; statements = [] }
grouped (line ∷ lines) = with_line line (grouped lines)

-- columns 7 to 72 of a statement's lines, joined
abbrev pub joined : Statement → List ℕ
joined s = text_field s.initial ++ flat_map text_field s.continuations

-- the card of a statement (ANSI X3.9-1978, section 3.3)
abbrev pub card_of : Statement → Card
card_of s = record { label = label_of s.initial; line = s.initial.number; text = text_from false (joined s) }

-- ---- what is broken

-- a refusal of a line by a rule
abbrev pub at : Line → Rule → Refusal
at line rule = refusal_by line.number rule

-- codes 1 to 3 of a line, whose column 7 is inside a character constant or outside
abbrev pub line_breaks : Bool → Line → List Refusal
line_breaks inside line = when (has_tab line) (at line rule.Tab) ++ when (has_bad_character inside (text_field line)) (at line rule.BadCharacter) ++ when (has_bad_label line) (at line rule.BadLabel)

-- codes 1 to 4 of continuation lines, of which the first is the k-th of its statement
abbrev pub continuation_breaks : ℕ → Bool → List Line → List Refusal
continuation_breaks k inside [] = []
continuation_breaks k inside (line ∷ lines) = line_breaks inside line ++ when (is_one_too_many k) (at line rule.TooManyContinuations) ++ continuation_breaks (k + 1) (ends_inside inside (text_field line)) lines

-- code 5: a statement's text ends inside a character constant
abbrev pub is_open : Statement → Bool
is_open s = ends_inside false (joined s)

-- codes 1 to 5 of a statement
abbrev pub statement_breaks : Statement → List Refusal
statement_breaks s = line_breaks false s.initial ++ when (is_open s) (at s.initial rule.OpenConstant) ++ continuation_breaks 1 (ends_inside false (text_field s.initial)) s.continuations

-- codes 1 to 3 and 6 of continuation lines before any initial line; code 6: each of them
abbrev pub leading_breaks : Bool → List Line → List Refusal
leading_breaks inside [] = []
leading_breaks inside (line ∷ lines) = line_breaks inside line ++ (at line rule.LeadingContinuation ∷ []) ++ leading_breaks (ends_inside inside (text_field line)) lines

-- all that is broken in grouped lines
abbrev pub breaks_of : Grouped → List Refusal
breaks_of g = leading_breaks false g.leading ++ flat_map statement_breaks g.statements

-- ---- cards

-- the refusal, or the cards where there is none
abbrev pub unless_refused : Option Refusal → List Card → Result (List Card) Refusal
unless_refused None cards = Ok cards
unless_refused (Some refusal) cards = Err refusal

-- the cards of grouped lines, or the first refusal
abbrev pub cards_by : Grouped → Result (List Card) Refusal
cards_by g = unless_refused (first_of (breaks_of g)) (map card_of g.statements)

-- the cards of a file, in order, or the first refusal
abbrev pub cards_of : List ℕ → Result (List Card) Refusal
cards_of bytes = cards_by (grouped (statement_lines bytes))
