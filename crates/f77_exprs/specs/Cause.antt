-- Why a text spells no expression: by what stands in it outside character constants and dotted words.
use Rattle.std.specs.Prelude.{ℕ, ◌-◌, ◌^◌, Bool, false, not, ◌&&◌, ◌||◌, ◌==◌, nat_le, nat_lt, if◌then◌else◌, List, [], ◌∷◌, length, take, drop, codes}
use Rattle.hyb_base.specs.Decimal.{value_of}
use Rattle.f77_ast.specs.Name.{is_letter, is_digit, is_alphanumeric}
use Rattle.f77_ast.specs.Refusal.{refusal_by}
use Rattle.f77_ast.specs.declared.refusal.Refusal.{Refusal}
use Rattle.f77_ast.specs.declared.rule.Rule.{Rule}
use Rattle.f77_ast.specs.declared.rule.Rule.TheVariants as rule
use Rattle.f77_exprs.specs.declared.cause.Cause.{Cause}
use Rattle.f77_exprs.specs.declared.cause.Cause.TheVariants.{RealLiteral, LiteralRange, NameTooLong, NoExpression}
use Rattle.f77_exprs.specs.Operators.{Text, begins}
use Rattle.f77_exprs.specs.Reading.{sees, digits, alphanumerics}

-- ---- what stands outside constants and dotted words

-- a byte, or a blank in its place
abbrev pub unless : Bool → ℕ → ℕ
unless hidden b = if hidden then 32 else b

-- whether what follows a byte is inside a character constant: an apostrophe begins one, and the next ends it
abbrev pub inside_after : Bool → ℕ → Bool
inside_after inside b = if b == 39 then not inside else inside

-- the text with blanks in place of character constants
abbrev pub without_constants : Bool → Text → Text
without_constants inside [] = []
without_constants inside (b ∷ i) = unless (inside || b == 39) b ∷ without_constants (inside_after inside b) i

-- the dotted words of the grammar: relational and logical operators, and logical constants
abbrev pub dotted_words : List Text
dotted_words = codes ".EQ." ∷ codes ".NE." ∷ codes ".LT." ∷ codes ".LE." ∷ codes ".GT." ∷ codes ".GE." ∷ codes ".NOT." ∷ codes ".AND." ∷ codes ".OR." ∷ codes ".EQV." ∷ codes ".NEQV." ∷ codes ".TRUE." ∷ codes ".FALSE." ∷ []

-- the length of the first of some words that a text begins with: 0 where it begins with none
abbrev pub word_length : List Text → Text → ℕ
word_length [] i = 0
word_length (w ∷ ws) i = if begins w i then length w else word_length ws i

-- how many bytes of a dotted word stand from here on, where so many are left of one that began before
abbrev pub dotted_from : ℕ → Text → ℕ
dotted_from left i = if left == 0 then word_length dotted_words i else left

-- the text with blanks in place of dotted words, which are taken from the left
abbrev pub without_words : ℕ → Text → Text
without_words left [] = []
without_words left (b ∷ i) = unless (nat_lt 0 (dotted_from left (b ∷ i))) b ∷ without_words (dotted_from left (b ∷ i) - 1) i

-- the text with blanks in place of both
abbrev pub outside : Text → Text
outside text = without_words 0 (without_constants false text)

-- ---- what makes each cause, at a place: of the byte before it, and of the text from there on

-- whether a digit comes next
abbrev pub sees_digit : Text → Bool
sees_digit [] = false
sees_digit (b ∷ i) = is_digit b

-- whether a letter comes next
abbrev pub sees_letter : Text → Bool
sees_letter [] = false
sees_letter (b ∷ i) = is_letter b

-- a point with a digit beside it
abbrev pub is_point_at_digit : ℕ → Text → Bool
is_point_at_digit before i = sees 46 i && (is_digit before || sees_digit (drop 1 i))

-- the number run that begins here: all digits that come next, where no letter or digit stands before them
abbrev pub number_run : ℕ → Text → Text
number_run before i = if is_alphanumeric before then [] else take (digits i) i

-- the text after a sign, where one comes next
abbrev pub after_sign : Text → Text
after_sign i = if sees 43 i || sees 45 i then drop 1 i else i

-- an exponent: `E` or `D`, an optional sign and a digit
abbrev pub is_exponent : Text → Bool
is_exponent i = (sees 69 i || sees 68 i) && sees_digit (after_sign (drop 1 i))

-- a number run with an exponent behind it
abbrev pub is_run_with_exponent : ℕ → Text → Bool
is_run_with_exponent before i = nat_lt 0 (length (number_run before i)) && is_exponent (drop (length (number_run before i)) i)

-- a greatest run of letters and digits that begins with a letter, and has more than six of them
abbrev pub is_long_name : ℕ → Text → Bool
is_long_name before i = not (is_alphanumeric before) && sees_letter i && nat_lt 6 (alphanumerics i)

-- what makes a cause; nothing makes the one that is left
abbrev pub makes : Cause → ℕ → Text → Bool
makes RealLiteral before i = is_point_at_digit before i || is_run_with_exponent before i
makes LiteralRange before i = nat_le (2 ^ 63) (value_of (number_run before i))
makes NameTooLong before i = is_long_name before i
makes NoExpression before i = false

-- whether a test holds at some place of a text, behind a byte
abbrev pub somewhere : (ℕ → Text → Bool) → ℕ → Text → Bool
somewhere test before [] = false
somewhere test before (b ∷ i) = test before (b ∷ i) || somewhere test b i

-- whether a cause is made in a text, before whose first byte nothing stands
abbrev pub stands : Cause → Text → Bool
stands cause plain = somewhere (makes cause) 32 plain

-- the first cause that is made in a text: a real literal, a number out of range, a long name, or none of these
abbrev pub first_cause : Text → Cause
first_cause plain = if stands RealLiteral plain then RealLiteral else (if stands LiteralRange plain then LiteralRange else (if stands NameTooLong plain then NameTooLong else NoExpression))

-- ---- the cause of a text that spells no expression

abbrev pub cause_of : Text → Cause
cause_of text = first_cause (outside text)

-- the rule by which a cause refuses
abbrev pub rule_of : Cause → Rule
rule_of NoExpression = rule.NoExpression
rule_of LiteralRange = rule.LiteralRange
rule_of RealLiteral = rule.RealLiteral
rule_of NameTooLong = rule.NameTooLong

-- its refusal: the text stands in no file, so the line is 0
abbrev pub refusal_of : Text → Refusal
refusal_of text = refusal_by 0 (rule_of (cause_of text))
