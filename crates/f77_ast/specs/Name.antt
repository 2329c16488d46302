-- Symbolic names (ANSI X3.9-1978, section 2.2).
use Rattle.std.specs.Prelude.{ℕ, Bool, false, List, [], ◌∷◌, length, IsTrue, nat_le, ◌&&◌, ◌||◌}
use Rattle.std.specs.List.{list_all}

-- a letter: A to Z
abbrev pub is_letter : ℕ → Bool
is_letter byte = nat_le 65 byte && nat_le byte 90

-- a digit: 0 to 9
abbrev pub is_digit : ℕ → Bool
is_digit byte = nat_le 48 byte && nat_le byte 57

-- an alphanumeric character: a letter or a digit
abbrev pub is_alphanumeric : ℕ → Bool
is_alphanumeric byte = is_letter byte || is_digit byte

-- a symbolic name: one to six letters or digits, the first of which is a letter
abbrev pub is_name : List ℕ → Bool
is_name [] = false
is_name (first ∷ rest) = is_letter first && nat_le (length rest) 5 && list_all is_alphanumeric rest

-- the text is a symbolic name
abbrev pub IsName : List ℕ → Type 0
IsName text = IsTrue (is_name text)
