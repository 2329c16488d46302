-- Codes 1 to 4: what a line breaks by its own columns, by whether its column 7 is inside a character constant, and by its
-- number among its statement's continuation lines. Comment lines break none. Codes 5 and 6 stand in `Cards`.
use Rattle.std.specs.Prelude.{ℕ, ◌+◌, Bool, false, not, ◌&&◌, ◌||◌, ◌==◌, nat_lt, List, [], ◌∷◌, codes, if◌then◌else◌}
use Rattle.std.specs.Char.{is_ascii_digit, is_ascii_alphabetic}
use Rattle.std.specs.List.{list_all, list_any}
use Rattle.f77_ast.specs.Limits.{most_continuation_lines}
use Rattle.f77_cards.specs.declared.line.Line.{Line}
use Rattle.f77_cards.specs.Columns.{is_blank, is_initial, label_field}
use Rattle.f77_cards.specs.Text.{switched}

-- code 1: a tab in columns 1 to 72
abbrev pub has_tab : Line → Bool
has_tab line = list_any (λ b. b == 9) line.columns

-- what may stand outside character constants: a letter, a digit, a blank or one of these (ANSI X3.9-1978, section 3.1)
abbrev pub may_stand_outside : ℕ → Bool
may_stand_outside b = is_ascii_alphabetic b || is_ascii_digit b || is_blank b || list_any (λ sign. sign == b) (codes "=+-*/(),.$':")

-- what may stand inside them: all but what is below 32 or equal to 127
abbrev pub may_stand_inside : ℕ → Bool
may_stand_inside b = not (nat_lt b 32 || b == 127)

-- what may stand at a place
abbrev pub may_stand : Bool → ℕ → Bool
may_stand inside b = if inside then may_stand_inside b else may_stand_outside b

-- code 2: a byte that may not stand at its place, the first byte being inside a character constant or outside
abbrev pub has_bad_character : Bool → List ℕ → Bool
has_bad_character inside [] = false
has_bad_character inside (b ∷ bytes) = not (may_stand inside b) || has_bad_character (switched inside b) bytes

-- a digit or a blank
abbrev pub is_digit_or_blank : ℕ → Bool
is_digit_or_blank b = is_ascii_digit b || is_blank b

-- `0` or a blank
abbrev pub is_zero_or_blank : ℕ → Bool
is_zero_or_blank b = b == 48 || is_blank b

-- columns 1 to 5 of an initial line: something but digits and blanks, or digits that are zeros alone
abbrev pub is_bad_label : List ℕ → Bool
is_bad_label field = not (list_all is_digit_or_blank field) || (list_any is_ascii_digit field && list_all is_zero_or_blank field)

-- code 3: a bad label on an initial line, or columns 1 to 5 of a continuation line that aren't blank
abbrev pub has_bad_label : Line → Bool
has_bad_label line = if is_initial line then is_bad_label (label_field line) else not (list_all is_blank (label_field line))

-- code 4: the k-th continuation line of a statement is the first that is one too many (ANSI X3.9-1978, section 3.3)
abbrev pub is_one_too_many : ℕ → Bool
is_one_too_many k = k == most_continuation_lines + 1
