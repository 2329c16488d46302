-- What stands in the columns of a line (ANSI X3.9-1978, sections 3.2 and 3.4). A blank is 32, `0` is 48, `*` is 42, `C` and
-- `c` are 67 and 99.
use Rattle.std.specs.Prelude.{ℕ, ◌+◌, ◌-◌, ◌*◌, Bool, ◌||◌, ◌==◌, List, [], ◌∷◌, ◌++◌, take, drop, replicate, slice_index, Option, Some, None, if◌then◌else◌}
use Rattle.std.specs.Char.{is_ascii_digit}
use Rattle.std.specs.List.{list_all, list_any}
use Rattle.f77_cards.specs.declared.line.Line.{Line}

-- a blank
abbrev pub is_blank : ℕ → Bool
is_blank b = b == 32

-- columns 1 to 72 of a line: it counts as filled with blanks to column 72, and bytes past column 72 are ignored
unfoldable pub filled : List ℕ → List ℕ
filled line = take 72 (line ++ replicate 72 32)

-- lines with their numbers, from n on, and their columns
abbrev pub numbered : ℕ → List (List ℕ) → List Line
numbered n [] = []
numbered n (line ∷ lines) = record { number = n; columns = filled line } ∷ numbered (n + 1) lines

-- the byte in a column, counted from 1
abbrev pub column : ℕ → Line → ℕ
column n line = slice_index line.columns (n - 1)

-- columns 1 to 5
abbrev pub label_field : Line → List ℕ
label_field line = take 5 line.columns

-- columns 7 to 72
abbrev pub text_field : Line → List ℕ
text_field line = drop 6 line.columns

-- what makes a comment line in column 1: `C`, `c` or `*`
abbrev pub is_comment_sign : ℕ → Bool
is_comment_sign b = b == 67 || b == 99 || b == 42

-- a comment line: `C`, `c` or `*` in column 1, or blank in columns 1 to 72 (section 3.2.1)
abbrev pub is_comment : Line → Bool
is_comment line = is_comment_sign (column 1 line) || list_all is_blank line.columns

-- an initial line, where it is no comment: blank or `0` in column 6 (section 3.2.2); any other is a continuation line
abbrev pub is_initial : Line → Bool
is_initial line = is_blank (column 6 line) || column 6 line == 48

-- the number that digits write after those that write n; what is no digit is passed over
abbrev pub number_from : ℕ → List ℕ → ℕ
number_from n [] = n
number_from n (b ∷ bytes) = if is_ascii_digit b then number_from (n * 10 + (b - 48)) bytes else number_from n bytes

-- the label of an initial line: the number that the digits of columns 1 to 5 write, none where there is no digit (section 3.4)
abbrev pub label_of : Line → Option ℕ
label_of line = if list_any is_ascii_digit (label_field line) then Some (number_from 0 (label_field line)) else None
