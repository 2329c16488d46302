-- Values, the cells of storage that hold them, and what operators give on them (ANSI X3.9-1978, sections 4 and 6).
use Rattle.std.specs.Prelude.{ℕ, ◌-◌, ℤ, pos, Bool, true, false, not, ◌&&◌, ◌||◌, List, [], ◌∷◌, ◌++◌, length, map, max, replicate, take, Option, None, Some, unsigned_abs, slice_index_or}
use Rattle.std.specs.Cmp.Lexicographic.{slice_cmp}
use Rattle.std.specs.Int.{int_rem_euclid}
use Rattle.std.specs.declared.cmp.Ordering.{Ordering}
use Rattle.std.specs.Ordering.{is_eq, is_ne, is_lt, is_le, is_gt, is_ge, nat_cmp, int_cmp}
use Rattle.hyb_base.specs.Reduction.{truth_of, number_of, agree}
use Rattle.hyb_base.specs.Wrap.{sum_of, difference_of, product_of, negation_of, quotient_of, power_of}
use Rattle.hyb_base.specs.declared.ops.Rel.{Rel}
use Rattle.hyb_base.specs.declared.ops.Rel.TheVariants as relation
use Rattle.f77_ast.specs.declared.expr.Kind.{Kind}
use Rattle.f77_ast.specs.declared.expr.Kind.TheVariants as kind
use Rattle.f77_ast.specs.declared.expr.Op.{Op}
use Rattle.f77_ast.specs.declared.expr.Op.TheVariants as op
use Rattle.f77_ast.specs.declared.fault.Fault.{Fault}
use Rattle.f77_ast.specs.declared.fault.Fault.TheVariants.{ZeroDivisor}

-- a value: a number of 64 bits, true or false, or characters by their numbers
pub data Value : Type 0 where
  integer : (number : ℤ) → Value
  truth : (holds : Bool) → Value
  chars : (text : List ℕ) → Value

-- the kind of a value
abbrev pub kind_of : Value → Kind
kind_of (integer number) = kind.Integer
kind_of (truth holds) = kind.Logical
kind_of (chars text) = kind.Character

-- the number in the one cell of an INTEGER or LOGICAL
abbrev pub only_number : List ℤ → ℤ
only_number numbers = slice_index_or numbers 0 (pos 0)

-- the character that a cell's number stands for: its least eight bits
abbrev pub character_of : ℤ → ℕ
character_of number = unsigned_abs (int_rem_euclid number (pos 256))

-- the value that the numbers in an entity's cells are: a LOGICAL is true where its number isn't 0
abbrev pub value_of_units : Kind → List ℤ → Value
value_of_units kind.Integer numbers = integer (only_number numbers)
value_of_units kind.Logical numbers = truth (truth_of (only_number numbers))
value_of_units kind.Character numbers = chars (map character_of numbers)

-- the numbers that are written for a value, one for each cell
abbrev pub units_of_value : Value → List ℤ
units_of_value (integer number) = number ∷ []
units_of_value (truth holds) = number_of holds ∷ []
units_of_value (chars text) = map pos text

-- a text of a length: cut, or filled with blanks on the right (section 10.4)
abbrev pub of_length : (len : ℕ) → List ℕ → List ℕ
of_length len text = take len (text ++ replicate (len - length text) 32)

-- what an operator gives: a value, or a fault; and nothing on operands of another kind than its own
pub data Operated : Type 0 where
  yields : (value : Value) → Operated
  breaks : (fault : Fault) → Operated
  means_nothing : Operated

-- on a number alone
abbrev pub on_integer : (ℤ → Operated) → Value → Operated
on_integer give (integer number) = give number
on_integer give (truth holds) = means_nothing
on_integer give (chars text) = means_nothing

-- on true or false alone
abbrev pub on_truth : (Bool → Operated) → Value → Operated
on_truth give (integer number) = means_nothing
on_truth give (truth holds) = give holds
on_truth give (chars text) = means_nothing

-- on characters alone
abbrev pub on_chars : (List ℕ → Operated) → Value → Operated
on_chars give (integer number) = means_nothing
on_chars give (truth holds) = means_nothing
on_chars give (chars text) = give text

-- on two numbers
abbrev pub on_integers : (ℤ → ℤ → Operated) → Value → Value → Operated
on_integers give left right = on_integer (λ x. on_integer (give x) right) left

-- on two truths
abbrev pub on_truths : (Bool → Bool → Operated) → Value → Value → Operated
on_truths give left right = on_truth (λ x. on_truth (give x) right) left

-- on the characters of two values
abbrev pub on_texts : (List ℕ → List ℕ → Operated) → Value → Value → Operated
on_texts give left right = on_chars (λ x. on_chars (give x) right) left

-- a number, or the fault of a zero divisor where there is none
abbrev pub number_or_zero_divisor : Option ℤ → Operated
number_or_zero_divisor (Some number) = yields (integer number)
number_or_zero_divisor None = breaks ZeroDivisor

-- whether a relation holds, by how its left side compares with its right one
abbrev pub holds_by : Rel → Ordering → Bool
holds_by relation.Eq order = is_eq order
holds_by relation.Ne order = is_ne order
holds_by relation.Lt order = is_lt order
holds_by relation.Le order = is_le order
holds_by relation.Gt order = is_gt order
holds_by relation.Ge order = is_ge order

-- how two texts compare: the shorter one filled with blanks, character by character (section 6.3.5)
abbrev pub compared_texts : List ℕ → List ℕ → Ordering
compared_texts left right =
    let len = max (length left) (length right) in
    slice_cmp nat_cmp (of_length len left) (of_length len right)

-- a relation of two numbers, or of two texts (section 6.3)
abbrev pub related : Rel → Value → Value → Operated
related relop (integer x) right = on_integer (λ y. yields (truth (holds_by relop (int_cmp x y)))) right
related relop (truth x) right = means_nothing
related relop (chars x) right = on_chars (λ y. yields (truth (holds_by relop (compared_texts x y)))) right

-- what an operator with one operand gives: `+`, `-` and `.NOT.` (sections 6.1.1 and 6.4.1)
abbrev pub unary_of : Op → Value → Operated
unary_of op.Plus = on_integer (λ x. yields (integer x))
unary_of op.Neg = on_integer (λ x. yields (integer (negation_of x)))
unary_of op.Not = on_truth (λ x. yields (truth (not x)))
unary_of op.Add = λ x. means_nothing
unary_of op.Sub = λ x. means_nothing
unary_of op.Mul = λ x. means_nothing
unary_of op.Div = λ x. means_nothing
unary_of op.Pow = λ x. means_nothing
unary_of op.Cat = λ x. means_nothing
unary_of (op.Rel relop) = λ x. means_nothing
unary_of op.And = λ x. means_nothing
unary_of op.Or = λ x. means_nothing
unary_of op.Eqv = λ x. means_nothing
unary_of op.Neqv = λ x. means_nothing

-- what an operator with two operands gives (sections 6.1.1, 6.2.1, 6.3 and 6.4.1)
abbrev pub binary_of : Op → Value → Value → Operated
binary_of op.Plus = λ x y. means_nothing
binary_of op.Neg = λ x y. means_nothing
binary_of op.Not = λ x y. means_nothing
binary_of op.Add = on_integers (λ x y. yields (integer (sum_of x y)))
binary_of op.Sub = on_integers (λ x y. yields (integer (difference_of x y)))
binary_of op.Mul = on_integers (λ x y. yields (integer (product_of x y)))
binary_of op.Div = on_integers (λ x y. number_or_zero_divisor (quotient_of x y))
binary_of op.Pow = on_integers (λ x y. number_or_zero_divisor (power_of x y))
binary_of op.Cat = on_texts (λ x y. yields (chars (x ++ y)))
binary_of (op.Rel relop) = related relop
binary_of op.And = on_truths (λ x y. yields (truth (x && y)))
binary_of op.Or = on_truths (λ x y. yields (truth (x || y)))
binary_of op.Eqv = on_truths (λ x y. yields (truth (agree x y)))
binary_of op.Neqv = on_truths (λ x y. yields (truth (not (agree x y))))

-- `+` and `-` before an operand (section 6.1.1)
abbrev pub is_sign : Op → Bool
is_sign op.Plus = true
is_sign op.Neg = true
is_sign op.Not = false
is_sign op.Add = false
is_sign op.Sub = false
is_sign op.Mul = false
is_sign op.Div = false
is_sign op.Pow = false
is_sign op.Cat = false
is_sign (op.Rel relop) = false
is_sign op.And = false
is_sign op.Or = false
is_sign op.Eqv = false
is_sign op.Neqv = false

-- `+`, `-`, `*`, `/` and `**` between two operands (section 6.1.1)
abbrev pub is_arithmetic : Op → Bool
is_arithmetic op.Plus = false
is_arithmetic op.Neg = false
is_arithmetic op.Not = false
is_arithmetic op.Add = true
is_arithmetic op.Sub = true
is_arithmetic op.Mul = true
is_arithmetic op.Div = true
is_arithmetic op.Pow = true
is_arithmetic op.Cat = false
is_arithmetic (op.Rel relop) = false
is_arithmetic op.And = false
is_arithmetic op.Or = false
is_arithmetic op.Eqv = false
is_arithmetic op.Neqv = false

-- whether a kind is INTEGER
abbrev pub is_integer_kind : Kind → Bool
is_integer_kind kind.Integer = true
is_integer_kind kind.Logical = false
is_integer_kind kind.Character = false
