-- What a line of a schedule says. A blank is 32.
use Rattle.std.specs.Prelude.{ℕ, ◌^◌, ℤ, Bool, ◌&&◌, ◌==◌, nat_lt, nat_le, nat_eq, List, [], ◌∷◌, ◌++◌, length, take, drop, map, codes, Option, Some, None, if◌then◌else◌}
use Rattle.std.specs.Char.{is_ascii_digit}
use Rattle.std.specs.Cmp.Lexicographic.{pointwise}
use Rattle.std.specs.Int.{w64, cast_signed}
use Rattle.std.specs.List.{list_all, slice_split}
use Rattle.hyb_base.specs.Decimal.{value_of}

-- one digit or more, which stand for less than 2^64
abbrev pub is_number : List ℕ → Bool
is_number text = list_all is_ascii_digit text && nat_lt 0 (length text) && nat_lt (value_of text) (2 ^ 64)

-- the number of a text: zeros in front count for nothing
unfoldable pub number_of : List ℕ → Option ℕ
number_of text = if is_number text then Some (value_of text) else None

-- a number before others, where all are numbers
abbrev pub before_others : Option ℕ → Option (List ℕ) → Option (List ℕ)
before_others None others = None
before_others (Some n) None = None
before_others (Some n) (Some ns) = Some (n ∷ ns)

-- the numbers of some texts, where all are numbers
abbrev pub numbers_of : List (List ℕ) → Option (List ℕ)
numbers_of [] = Some []
numbers_of (text ∷ texts) = before_others (number_of text) (numbers_of texts)

-- the parts of a text between a byte, where there is a text
abbrev pub parts_after : ℕ → Option (List ℕ) → List (List ℕ)
parts_after sign None = []
parts_after sign (Some text) = slice_split (λ b. b == sign) text

-- what follows a word at the front of a line
unfoldable pub after_word : List ℕ → List ℕ → Option (List ℕ)
after_word word line = if pointwise nat_eq (take (length word) line) word then Some (drop (length word) line) else None

-- a number that is a window: 1 to 4,096
abbrev pub in_window : Option ℕ → Option ℕ
in_window None = None
in_window (Some n) = if nat_le 1 n && nat_le n 4096 then Some n else None

abbrev pub number_in : Option (List ℕ) → Option ℕ
number_in None = None
number_in (Some text) = number_of text

-- `WINDOW w`: the window
abbrev pub window_of : List ℕ → Option ℕ
window_of line = in_window (number_in (after_word (codes "WINDOW ") line))

-- `MIX s`: the seed
abbrev pub seed_of : List ℕ → Option ℕ
seed_of line = number_in (after_word (codes "MIX ") line)

abbrev pub numbers_in : Option (List ℕ) → Option (List ℕ)
numbers_in None = None
numbers_in (Some texts) = numbers_of (parts_after 32 (Some texts))

-- `LIST p p p`: the numbers, one or more, with one blank before each
abbrev pub list_of : List ℕ → Option (List ℕ)
list_of line = numbers_in (after_word (codes "LIST ") line)

-- the picks of numbers after other picks; each number is kept by its 64 bits
abbrev pub pushed : Option (List ℕ) → List ℤ → Option (List ℤ)
pushed None picks = None
pushed (Some ns) picks = Some (picks ++ map (cast_signed w64) ns)
