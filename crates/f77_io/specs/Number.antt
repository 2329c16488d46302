-- Numbers of an input, in ASCII: blanks, commas and ends of lines are between them.
use Rattle.std.specs.Prelude.{ℕ, ◌^◌, ℤ, pos, negsuc, neg_ℤ, Bool, ◌==◌, ◌&&◌, ◌||◌, List, [], ◌∷◌, length, take, drop, nat_lt, FitsSigned, Result, Ok, Err, if◌then◌else◌}
use Rattle.std.specs.Bool.{Decides}
use Rattle.std.specs.Char.{is_ascii_digit}
use Rattle.std.specs.Int.{w64}
use Rattle.std.specs.List.{list_all, prefix_len, position_or_len}
use Rattle.f77_ast.specs.declared.fault.Fault.{Fault}
use Rattle.f77_ast.specs.declared.fault.Fault.TheVariants.{InputEnd, InputForm}
use Rattle.hyb_base.specs.Decimal.{IsDigits, value_of}

-- what stands between numbers: a blank, a comma, a CR or an LF
abbrev pub is_separator : ℕ → Bool
is_separator b = b == 32 || b == 44 || b == 13 || b == 10

-- the bytes from the first on that is no separator
abbrev pub after_separators : List ℕ → List ℕ
after_separators bytes = drop (prefix_len is_separator bytes) bytes

-- the bytes up to the next separator or the end
abbrev pub word_at : List ℕ → List ℕ
word_at bytes = take (position_or_len is_separator bytes) bytes

-- the bytes after these
abbrev pub after_word : List ℕ → List ℕ
after_word bytes = drop (position_or_len is_separator bytes) bytes

-- a word without its sign, where it has one: `+` is 43, `-` is 45
abbrev pub digits_of : List ℕ → List ℕ
digits_of [] = []
digits_of (c ∷ cs) = if c == 43 || c == 45 then cs else c ∷ cs

-- the number that digits stand for, behind a sign where there is one
abbrev pub number_of : List ℕ → ℤ
number_of [] = pos 0
number_of (c ∷ cs) = if c == 45 then neg_ℤ (pos (value_of cs)) else pos (value_of (digits_of (c ∷ cs)))

-- a number of 64 bits: an optional sign and digits, and no more
abbrev pub IsNumber : List ℕ → Type 0
IsNumber word = IsDigits (digits_of word) × FitsSigned w64 (number_of word)

-- whether a number is one from -2 ^ 63 to 2 ^ 63 - 1
abbrev pub fits_64 : ℤ → Bool
fits_64 (pos n) = nat_lt n (2 ^ 63)
fits_64 (negsuc n) = nat_lt n (2 ^ 63)

-- whether a word is such a number: the test of `IsNumber`
abbrev pub is_number : List ℕ → Bool
is_number word = (list_all is_ascii_digit (digits_of word) && nat_lt 0 (length (digits_of word))) && fits_64 (number_of word)

-- the test is true exactly of these words
abbrev pub TestsNumbers : Type 0
TestsNumbers = (word : List ℕ) → Decides (is_number word) (IsNumber word)

-- what taking the next number of an input gives: a number and the bytes that are left then, or a fault
pub data Taken : Type 0 where
  number : (value : ℤ) (rest : List ℕ) → Taken
  none : (fault : Fault) → Taken

-- a word, and the bytes after it: what is no number of 64 bits is a fault
abbrev pub taken_word : (word rest : List ℕ) → Taken
taken_word word rest = if is_number word then number (number_of word) rest else none InputForm

-- the bytes from the first one on that is no separator: the end of the input is a fault
abbrev pub taken_from : List ℕ → Taken
taken_from [] = none InputEnd
taken_from (byte ∷ bytes) = taken_word (word_at (byte ∷ bytes)) (after_word (byte ∷ bytes))

-- the next number of an input of which these bytes are left; where there is none, nothing is taken
abbrev pub taken_of : (left : List ℕ) → Taken
taken_of left = taken_from (after_separators left)

-- the same from what a call answers, and the bytes that it leaves
abbrev pub taken_by : Result ℤ Fault → (left : List ℕ) → Taken
taken_by (Ok value) left = number value left
taken_by (Err fault) left = none fault
