-- Laws of values and of the operators on them.
use Rattle.std.specs.Prelude.{◌≡◌, ◌<◌, ℤ, true, All}
use Rattle.f77_ast.specs.declared.expr.Op.{Op}
use Rattle.f77_structure.specs.Values.{Value, integer, truth, chars, kind_of, value_of_units, units_of_value, Operated, yields, breaks, means_nothing, unary_of, binary_of, is_sign, is_arithmetic}

-- the characters of a value have eight bits
abbrev pub HasCharacters : Value → Type 0
HasCharacters (integer number) = Unit {0}
HasCharacters (truth holds) = Unit {0}
HasCharacters (chars text) = All (λ character. character < 256) text

-- a value that is written into cells is read from them again
abbrev pub WrittenValuesAreRead : Type 0
WrittenValuesAreRead = (value : Value) → HasCharacters value → value_of_units (kind_of value) (units_of_value value) ≡ value

-- a number, or a fault
abbrev pub IsNumeric : Operated → Type 0
IsNumeric (yields (integer number)) = Unit {0}
IsNumeric (yields (truth holds)) = ⊥
IsNumeric (yields (chars text)) = ⊥
IsNumeric (breaks fault) = Unit {0}
IsNumeric means_nothing = ⊥

-- a sign of a number gives a number
abbrev pub SignsAreNumeric : Type 0
SignsAreNumeric = (operator : Op) (x : ℤ) → is_sign operator ≡ true → IsNumeric (unary_of operator (integer x))

-- an arithmetic operator on two numbers gives a number, or a fault
abbrev pub ArithmeticIsNumeric : Type 0
ArithmeticIsNumeric = (operator : Op) (x y : ℤ) → is_arithmetic operator ≡ true → IsNumeric (binary_of operator (integer x) (integer y))
