-- The text of a statement (ANSI X3.9-1978, sections 3.1.6 and 4.8). An apostrophe is 39.
use Rattle.std.specs.Prelude.{ℕ, Bool, not, ◌==◌, List, [], ◌∷◌, ◌++◌, if◌then◌else◌}
use Rattle.std.specs.Char.{to_ascii_uppercase}
use Rattle.f77_cards.specs.Columns.{is_blank}

-- whether what follows a byte stands inside a character constant: an apostrophe switches between outside and inside
abbrev pub switched : Bool → ℕ → Bool
switched inside b = if b == 39 then not inside else inside

-- what a byte leaves in the text: inside a character constant itself; outside nothing for a blank, and upper case for
-- lower case
abbrev pub kept : Bool → ℕ → List ℕ
kept inside b = if inside then b ∷ [] else (if is_blank b then [] else to_ascii_uppercase b ∷ [])

-- what bytes leave in the text, the first of them inside a character constant or outside; both of two apostrophes side by
-- side inside a constant stay
abbrev pub text_from : Bool → List ℕ → List ℕ
text_from inside [] = []
text_from inside (b ∷ bytes) = kept inside b ++ text_from (switched inside b) bytes

-- whether what follows bytes stands inside a character constant
abbrev pub ends_inside : Bool → List ℕ → Bool
ends_inside inside [] = inside
ends_inside inside (b ∷ bytes) = ends_inside (switched inside b) bytes
