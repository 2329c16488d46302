-- The values of the named constants of a unit (ANSI X3.9-1978, sections 6.7, 8.4.2, 8.6 and 10.4).
--
-- A constant has a value where the names in its expression are constants that have one, no operation faults, and kinds agree;
-- and nothing else has one. So names that go in a circle have none.
use Rattle.std.specs.Prelude.{ℕ, zero, suc, ℤ, pos, Bool, true, false, ◌&&◌, int_le, List, [], ◌∷◌, ◌++◌, length, take, Option, None, Some, option_and_then, unsigned_abs, if◌then◌else◌}
use Rattle.f77_ast.specs.Limits.{most_characters}
use Rattle.f77_ast.specs.declared.expr.Expr.{Expr}
use Rattle.f77_ast.specs.declared.expr.Expr.TheFolds.{fold-Expr, fold-Ref}
use Rattle.f77_ast.specs.declared.expr.Expr.TheOpen.{Expr-F, Part-F, Ref-F}
use Rattle.f77_ast.specs.declared.expr.Expr.TheOpen as layer
use Rattle.f77_ast.specs.declared.expr.Kind.{Kind}
use Rattle.f77_ast.specs.declared.expr.Ref.{Ref}
use Rattle.f77_ast.specs.declared.program.Listed.{Listed}
use Rattle.f77_ast.specs.declared.specification.Length.{Length}
use Rattle.f77_ast.specs.declared.specification.Length.TheVariants as length_of
use Rattle.f77_leaves.specs.Declarations.{Declarations, declarations_of, facts_of, typing_of, name_kind}
use Rattle.f77_leaves.specs.Meant.{same_kind}
use Rattle.f77_leaves.specs.declared.declarations.Declared.{Declared}
use Rattle.f77_leaves.specs.declared.declarations.Fact.{Fact}
use Rattle.f77_leaves.specs.declared.declarations.Fact.TheVariants as fact
use Rattle.f77_leaves.specs.declared.declarations.Typing.{Typing}
use Rattle.f77_structure.specs.Values.{Value, integer, truth, chars, Operated, yields, breaks, means_nothing, kind_of, of_length, unary_of, binary_of}

-- ---- constant expressions (section 6.7)

-- what an operator gives, where that is a value
abbrev pub given_value : Operated → Option Value
given_value (yields value) = Some value
given_value (breaks fault) = None
given_value means_nothing = None

-- a name that neither a list nor a substring follows has its value
abbrev pub alone_value : Option Value → Option (List (Option Value)) → Option (Unit {0}) → Option Value
alone_value value None None = value
alone_value value None (Some part) = None
alone_value value (Some args) part = None

abbrev pub ref_step : (values : List ℕ → Option Value) → Ref-F (Option Value) (Unit {0}) (Option Value) → Option Value
ref_step values reference = alone_value (values reference.name) reference.args reference.part

abbrev pub part_step : Part-F (Option Value) (Unit {0}) (Option Value) → Unit {0}
part_step part = tt

-- one level of an expression: a constant expression holds literals, names of constants and operators
abbrev pub expr_step : Expr-F (Option Value) (Unit {0}) (Option Value) → Option Value
expr_step (layer.Int number) = Some (integer number)
expr_step (layer.Truth holds) = Some (truth holds)
expr_step (layer.Chars text) = Some (chars text)
expr_step (layer.Ref value) = value
expr_step (layer.Unary op operand) = option_and_then (λ x. given_value (unary_of op x)) operand
expr_step (layer.Binary op left right) = option_and_then (λ x. option_and_then (λ y. given_value (binary_of op x y)) right) left
expr_step (layer.Paren inner) = inner

-- the value of an expression, by those of names: none of what isn't constant, or faults, or has operands of wrong kinds
abbrev pub value_of_expr : (values : List ℕ → Option Value) → Expr → Option Value
value_of_expr values = fold-Expr (Option Value) (Unit {0}) (Option Value) expr_step part_step (ref_step values)

abbrev pub value_of_ref : (values : List ℕ → Option Value) → Ref → Option Value
value_of_ref values = fold-Ref (Option Value) (Unit {0}) (Option Value) expr_step part_step (ref_step values)

-- the same of an expression that may be left out
abbrev pub value_of_option : (values : List ℕ → Option Value) → Option Expr → Option Value
value_of_option values None = None
value_of_option values (Some expr) = value_of_expr values expr

-- ---- lengths (section 8.4.2)

-- a number of characters, where it is one that a length may be
abbrev pub length_if : ℤ → Option ℕ
length_if number = if int_le (pos 1) number && int_le number (pos most_characters) then Some (unsigned_abs number) else None

abbrev pub length_by_value : Option Value → Option ℕ
length_by_value None = None
length_by_value (Some (integer number)) = length_if number
length_by_value (Some (truth holds)) = None
length_by_value (Some (chars text)) = None

-- the length that is written, by the values of names: 1 where none is; none for `(*)`, for what isn't constant, and for
-- what no length may be
abbrev pub length_by : (values : List ℕ → Option Value) → Option Length → Option ℕ
length_by values None = Some 1
length_by values (Some (length_of.Digits digits)) = length_if digits
length_by values (Some (length_of.Paren expr)) = length_by_value (value_of_expr values expr)
length_by values (Some length_of.Asterisk) = None

-- the length in a type
abbrev pub written_length : Option Typing → Option Length
written_length None = None
written_length (Some typing) = typing.length

-- the length of a name of CHARACTER
abbrev pub name_length : Declarations → (values : List ℕ → Option Value) → (name : List ℕ) → Option ℕ
name_length unit values name = length_by values (written_length (typing_of unit name))

-- ---- constants (section 8.6)

-- a text as its name keeps it: filled with blanks or cut to the name's length. Where that is none that there may be, which
-- is refused, no more than the greatest length is kept: constants that double one another would grow without end
abbrev pub fitted : Option ℕ → List ℕ → List ℕ
fitted None text = take most_characters text
fitted (Some len) text = of_length len text

abbrev pub kept : Option ℕ → Value → Value
kept len (integer number) = integer number
kept len (truth holds) = truth holds
kept len (chars text) = chars (fitted len text)

-- whether a kind that may be there is this one
abbrev pub is_kind : Option Kind → Kind → Bool
is_kind None kind = false
is_kind (Some own) kind = same_kind own kind

-- the value that a name of this kind and length keeps: one of another kind it doesn't take
abbrev pub taken : Option Kind → Option ℕ → Value → Option Value
taken kind len value = if is_kind kind (kind_of value) then Some (kept len value) else None

-- the value that a constant has by its expression, where names have these values
abbrev pub constant_value : Declarations → (lengths : List ℕ → Option ℕ) → (values : List ℕ → Option Value) → (name : List ℕ) → Option Value
constant_value unit lengths values name = option_and_then (taken (name_kind unit name) (lengths name)) (value_of_option values (unit.known name).value)

-- the values that constants have whose names go no deeper than this: through so many names, one in the expression of the other
abbrev pub values_within : Declarations → (lengths : List ℕ → Option ℕ) → (depth : ℕ) → (name : List ℕ) → Option Value
values_within unit lengths zero name = None
values_within unit lengths (suc depth) name = constant_value unit lengths (values_within unit lengths depth) name

-- the name in a fact that gives it a value
abbrev pub valued_name : (name : List ℕ) → Fact → List (List ℕ)
valued_name name (fact.Typed typing) = []
valued_name name (fact.Bounded bounds) = []
valued_name name fact.Common = []
valued_name name (fact.Valued value) = name ∷ []
valued_name name (fact.Dummy place) = []
valued_name name fact.Heading = []
valued_name name fact.Result = []

abbrev pub valued_names : List Declared → List (List ℕ)
valued_names [] = []
valued_names (declared ∷ rest) = valued_name declared.name declared.fact ++ valued_names rest

-- the names of the constants of a unit, in order
abbrev pub constant_names : List Listed → List (List ℕ)
constant_names listing = valued_names (facts_of listing)

-- the values of the constants of a unit, whose names have these lengths. No chain of different names is longer than there
-- are names: a law says that these are the least values with which each constant has what its expression gives
unfoldable pub values_with : List Listed → (lengths : List ℕ → Option ℕ) → (name : List ℕ) → Option Value
values_with listing lengths = values_within (declarations_of listing) lengths (suc (length (constant_names listing)))

-- no name has a value
abbrev pub no_values : (name : List ℕ) → Option Value
no_values name = None

-- the lengths of the names of a unit. They are numbers, on which no text has a bearing, so the lengths of texts in them are
-- those that are written as digits
abbrev pub lengths_of : List Listed → (name : List ℕ) → Option ℕ
lengths_of listing = name_length (declarations_of listing) (values_with listing (name_length (declarations_of listing) no_values))

-- the values of the constants of a unit
abbrev pub values_of : List Listed → (name : List ℕ) → Option Value
values_of listing = values_with listing (lengths_of listing)
