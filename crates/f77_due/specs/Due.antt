-- Where a constant is due, and there is none (ANSI X3.9-1978, sections 5.1.1, 8.2, 8.4.2, 8.5, 8.6 and 9.1).
use Rattle.std.specs.Prelude.{ℕ, Bool, true, false, not, ◌&&◌, ◌||◌, ◌==◌, List, [], ◌∷◌, Option, None, Some, codes, if◌then◌else◌}
use Rattle.std.specs.List.{list_any}
use Rattle.std.specs.Option.{is_some, is_none, option_map}
use Rattle.f77_ast.specs.declared.data.DataConstant.TheVariants as constant
use Rattle.f77_ast.specs.declared.data.DataConstant.{DataConstant}
use Rattle.f77_ast.specs.declared.data.DataGroup.{DataGroup}
use Rattle.f77_ast.specs.declared.data.DataValue.{DataValue}
use Rattle.f77_ast.specs.declared.data.Repeat.TheVariants as repeat
use Rattle.f77_ast.specs.declared.data.Repeat.{Repeat}
use Rattle.f77_ast.specs.declared.expr.Expr.{Expr}
use Rattle.f77_ast.specs.declared.expr.Expr.TheFolds.{fold-Expr, fold-Ref}
use Rattle.f77_ast.specs.declared.expr.Expr.TheOpen.{Expr-F, Part-F, Ref-F}
use Rattle.f77_ast.specs.declared.expr.Expr.TheOpen as layer
use Rattle.f77_ast.specs.declared.expr.Kind.TheVariants as kind
use Rattle.f77_ast.specs.declared.expr.Part.{Part}
use Rattle.f77_ast.specs.declared.expr.Ref.{Ref, out-Ref}
use Rattle.f77_ast.specs.declared.program.Listed.{Listed}
use Rattle.f77_ast.specs.declared.specification.Bound.{Bound}
use Rattle.f77_ast.specs.declared.specification.CommonGroup.{CommonGroup}
use Rattle.f77_ast.specs.declared.specification.Declarator.{Declarator}
use Rattle.f77_ast.specs.declared.specification.EquivalenceGroup.{EquivalenceGroup}
use Rattle.f77_ast.specs.declared.specification.ImplicitRule.{ImplicitRule}
use Rattle.f77_ast.specs.declared.specification.NamedConstant.{NamedConstant}
use Rattle.f77_ast.specs.declared.specification.Length.TheVariants as length_of
use Rattle.f77_ast.specs.declared.specification.Length.{Length}
use Rattle.f77_ast.specs.declared.specification.TypeSpec.TheVariants as typ
use Rattle.f77_ast.specs.declared.specification.TypeSpec.{TypeSpec}
use Rattle.f77_ast.specs.declared.specification.TypedDeclarator.{TypedDeclarator}
use Rattle.f77_ast.specs.declared.stmt.Stmt.{Stmt}
use Rattle.f77_ast.specs.declared.stmt.Stmt as stmt
use Rattle.f77_leaves.specs.Declarations.{name_kind, holds_letter, typing_by}
use Rattle.f77_leaves.specs.declared.declarations.Known.{Known}
use Rattle.f77_structure.specs.Values.{Value}
use Rattle.f77_constants.specs.Constants.{is_kind, value_of_expr}
use Rattle.f77_due.specs.Unit.{UnitFacts}
use Rattle.f77_due.specs.declared.makeup.Makeup.{Makeup}
use Rattle.f77_due.specs.declared.makeup.Makeup.TheVariants as makeup

-- ---- expressions that are due to be constant

-- what isn't constant, or has no value
abbrev pub lacks_value : UnitFacts → Expr → Bool
lacks_value unit expr = is_none (value_of_expr unit.values expr)

abbrev pub lacks_value_if : UnitFacts → Option Expr → Bool
lacks_value_if unit None = false
lacks_value_if unit (Some expr) = lacks_value unit expr

-- a name that is due to be a constant's
abbrev pub lacks_name : UnitFacts → (name : List ℕ) → Bool
lacks_name unit name = is_none (unit.values name)

-- ---- bounds of what is no dummy argument: both are constant, and none is `*`

abbrev pub lacks_upper : UnitFacts → Option Expr → Bool
lacks_upper unit None = true
lacks_upper unit (Some expr) = lacks_value unit expr

abbrev pub lacks_bound : UnitFacts → Bound → Bool
lacks_bound unit bound = lacks_value_if unit bound.low || lacks_upper unit bound.high

-- ---- bounds of a dummy argument

-- of a whole: constant where both parts are, adjustable where one is and the other is one of both, else neither
abbrev pub both : Makeup → Makeup → Makeup
both makeup.Constant other = other
both makeup.Adjustable makeup.Constant = makeup.Adjustable
both makeup.Adjustable makeup.Adjustable = makeup.Adjustable
both makeup.Adjustable makeup.Neither = makeup.Neither
both makeup.Neither other = makeup.Neither

-- an INTEGER variable that is a dummy argument or has a place in COMMON
abbrev pub is_adjuster : UnitFacts → (name : List ℕ) → Known → Bool
is_adjuster unit name known = is_kind (name_kind unit.declarations name) kind.Integer && (is_none known.bounds && (is_some known.dummy || known.common))

-- a constant's name is constant where it has a value
abbrev pub constant_makeup : Option Value → Makeup
constant_makeup None = makeup.Neither
constant_makeup (Some value) = makeup.Constant

abbrev pub name_makeup : UnitFacts → (name : List ℕ) → Known → Makeup
name_makeup unit name known = if is_some known.value then constant_makeup (unit.values name) else if is_adjuster unit name known then makeup.Adjustable else makeup.Neither

-- a name that a list or a substring follows is neither
abbrev pub alone_makeup : Makeup → Option (List Makeup) → Option (Unit {0}) → Makeup
alone_makeup name None None = name
alone_makeup name None (Some part) = makeup.Neither
alone_makeup name (Some args) part = makeup.Neither

abbrev pub ref_step : UnitFacts → Ref-F Makeup (Unit {0}) Makeup → Makeup
ref_step unit reference = alone_makeup (name_makeup unit reference.name (unit.declarations.known reference.name)) reference.args reference.part

abbrev pub part_step : Part-F Makeup (Unit {0}) Makeup → Unit {0}
part_step part = tt

abbrev pub expr_step : Expr-F Makeup (Unit {0}) Makeup → Makeup
expr_step (layer.Int number) = makeup.Constant
expr_step (layer.Truth holds) = makeup.Constant
expr_step (layer.Chars text) = makeup.Constant
expr_step (layer.Ref reference) = reference
expr_step (layer.Unary op operand) = operand
expr_step (layer.Binary op left right) = both left right
expr_step (layer.Paren inner) = inner

-- what an expression is made of
abbrev pub makeup_of : UnitFacts → Expr → Makeup
makeup_of unit = fold-Expr Makeup (Unit {0}) Makeup expr_step part_step (ref_step unit)

abbrev pub ref_makeup : UnitFacts → Ref → Makeup
ref_makeup unit = fold-Ref Makeup (Unit {0}) Makeup expr_step part_step (ref_step unit)

-- a bound that is made of constants alone has a value; another one is made of these, INTEGER variables that are dummy
-- arguments, and INTEGER variables in COMMON
abbrev pub lacks_by : (lacks : Bool) → Makeup → Bool
lacks_by lacks makeup.Constant = lacks
lacks_by lacks makeup.Adjustable = false
lacks_by lacks makeup.Neither = true

abbrev pub lacks_adjustable : UnitFacts → Expr → Bool
lacks_adjustable unit expr = lacks_by (lacks_value unit expr) (makeup_of unit expr)

abbrev pub lacks_adjustable_if : UnitFacts → Option Expr → Bool
lacks_adjustable_if unit None = false
lacks_adjustable_if unit (Some expr) = lacks_adjustable unit expr

-- no upper bound but the last is `*`
abbrev pub lacks_dummy_upper : UnitFacts → (last : Bool) → Option Expr → Bool
lacks_dummy_upper unit last None = not last
lacks_dummy_upper unit last (Some expr) = lacks_adjustable unit expr

abbrev pub lacks_dummy_bound : UnitFacts → (last : Bool) → Bound → Bool
lacks_dummy_bound unit last bound = lacks_adjustable_if unit bound.low || lacks_dummy_upper unit last bound.high

abbrev pub are_none : List Bound → Bool
are_none [] = true
are_none (bound ∷ bounds) = false

abbrev pub lacks_dummy_bounds : UnitFacts → List Bound → Bool
lacks_dummy_bounds unit [] = false
lacks_dummy_bounds unit (bound ∷ bounds) = lacks_dummy_bound unit (are_none bounds) bound || lacks_dummy_bounds unit bounds

-- ---- declared names

abbrev pub is_dummy : UnitFacts → (name : List ℕ) → Bool
is_dummy unit name = is_some (unit.declarations.known name).dummy

abbrev pub lacks_bounds : UnitFacts → (dummy : Bool) → List Bound → Bool
lacks_bounds unit true bounds = lacks_dummy_bounds unit bounds
lacks_bounds unit false bounds = list_any (lacks_bound unit) bounds

abbrev pub lacks_in_declarator : UnitFacts → Declarator → Bool
lacks_in_declarator unit declarator = lacks_bounds unit (is_dummy unit declarator.name) declarator.bounds

-- ---- lengths

-- a length in parentheses is constant
abbrev pub lacks_length : UnitFacts → Option Length → Bool
lacks_length unit None = false
lacks_length unit (Some (length_of.Digits digits)) = false
lacks_length unit (Some (length_of.Paren expr)) = lacks_value unit expr
lacks_length unit (Some length_of.Asterisk) = false

abbrev pub type_length : TypeSpec → Option Length
type_length typ.Integer = None
type_length typ.Logical = None
type_length (typ.Character len) = len

abbrev pub lacks_in_type : UnitFacts → TypeSpec → Bool
lacks_in_type unit t = lacks_length unit (type_length t)

-- the length `(*)`
abbrev pub is_star : Option Length → Bool
is_star None = false
is_star (Some (length_of.Digits digits)) = false
is_star (Some (length_of.Paren expr)) = false
is_star (Some length_of.Asterisk) = true

-- a name in a type statement: its bounds, its own length, and `(*)` as the length that it has there, where it is no dummy
-- argument
abbrev pub lacks_in_entity : UnitFacts → TypeSpec → TypedDeclarator → Bool
lacks_in_entity unit t entity =
    lacks_in_declarator unit entity.declarator
    || (lacks_length unit entity.length || (is_star (typing_by t entity.length).length && not (is_dummy unit entity.declarator.name)))

-- FUNCTION gives a type to its result, which is no dummy argument
abbrev pub lacks_in_result : UnitFacts → Option TypeSpec → Bool
lacks_in_result unit None = false
lacks_in_result unit (Some t) = lacks_in_type unit t || is_star (type_length t)

-- IMPLICIT gives `(*)` to dummy arguments alone
abbrev pub alphabet : List ℕ
alphabet = codes "ABCDEFGHIJKLMNOPQRSTUVWXYZ"

abbrev pub starts_one : UnitFacts → ImplicitRule → (letter : ℕ) → Bool
starts_one unit rule letter = unit.starts letter && list_any (holds_letter letter) rule.letters

abbrev pub lacks_in_rule : UnitFacts → ImplicitRule → Bool
lacks_in_rule unit rule = lacks_in_type unit rule.typ || (is_star (type_length rule.typ) && list_any (starts_one unit rule) alphabet)

-- ---- COMMON, PARAMETER, EQUIVALENCE and DATA

abbrev pub lacks_in_group : UnitFacts → CommonGroup → Bool
lacks_in_group unit group = list_any (lacks_in_declarator unit) group.members

abbrev pub lacks_in_constant : UnitFacts → NamedConstant → Bool
lacks_in_constant unit constant = lacks_value unit constant.value

-- the subscripts of an array's name are constant; a list after another name has the arguments of a call
abbrev pub lacks_in_list : UnitFacts → Option (List Expr) → Bool
lacks_in_list unit None = false
lacks_in_list unit (Some subscripts) = list_any (lacks_value unit) subscripts

abbrev pub lacks_by_layer : UnitFacts → Ref-F Expr Part Ref → Bool
lacks_by_layer unit reference = is_some (unit.declarations.known reference.name).bounds && lacks_in_list unit reference.args

abbrev pub lacks_in_ref : UnitFacts → Ref → Bool
lacks_in_ref unit reference = lacks_by_layer unit (out-Ref reference)

abbrev pub lacks_in_members : UnitFacts → EquivalenceGroup → Bool
lacks_in_members unit group = list_any (lacks_in_ref unit) group.members

abbrev pub lacks_in_repeat : UnitFacts → Option Repeat → Bool
lacks_in_repeat unit None = false
lacks_in_repeat unit (Some (repeat.Digits digits)) = false
lacks_in_repeat unit (Some (repeat.Named name)) = lacks_name unit name

abbrev pub lacks_in_datum : UnitFacts → DataConstant → Bool
lacks_in_datum unit (constant.Int number) = false
lacks_in_datum unit (constant.Truth holds) = false
lacks_in_datum unit (constant.Chars text) = false
lacks_in_datum unit (constant.Named name) = lacks_name unit name

abbrev pub lacks_in_value : UnitFacts → DataValue → Bool
lacks_in_value unit value = lacks_in_repeat unit value.repeat || lacks_in_datum unit value.constant

abbrev pub lacks_in_data : UnitFacts → DataGroup → Bool
lacks_in_data unit group = list_any (lacks_in_ref unit) group.targets || list_any (lacks_in_value unit) group.values

-- ---- statements

-- whether a constant is due in a statement, and there is none
abbrev pub lacks_constant : UnitFacts → Stmt → Bool
lacks_constant unit (stmt.Assign target value) = false
lacks_constant unit (stmt.Do terminal control) = false
lacks_constant unit stmt.Continue = false
lacks_constant unit stmt.Return = false
lacks_constant unit stmt.Else = false
lacks_constant unit stmt.EndIf = false
lacks_constant unit stmt.End = false
lacks_constant unit (stmt.Stop code) = false
lacks_constant unit (stmt.Goto label) = false
lacks_constant unit (stmt.ComputedGoto labels index) = false
lacks_constant unit (stmt.ArithmeticIf value negative zeroth positive) = false
lacks_constant unit (stmt.LogicalIf' condition pointer inner) = false
lacks_constant unit (stmt.BlockIf condition) = false
lacks_constant unit (stmt.ElseIf condition) = false
lacks_constant unit (stmt.Call name args) = false
lacks_constant unit (stmt.Print items) = false
lacks_constant unit (stmt.Read items) = false
lacks_constant unit (stmt.Program name) = false
lacks_constant unit (stmt.Subroutine name dummies) = false
lacks_constant unit (stmt.Function t name dummies) = lacks_in_result unit t
lacks_constant unit (stmt.Declare t entities) = lacks_in_type unit t || list_any (lacks_in_entity unit t) entities
lacks_constant unit (stmt.Dimension arrays) = list_any (lacks_in_declarator unit) arrays
lacks_constant unit (stmt.Common groups) = list_any (lacks_in_group unit) groups
lacks_constant unit (stmt.Equivalence groups) = list_any (lacks_in_members unit) groups
lacks_constant unit (stmt.Parameter constants) = list_any (lacks_in_constant unit) constants
lacks_constant unit (stmt.Implicit rules) = list_any (lacks_in_rule unit) rules
lacks_constant unit (stmt.Save entries) = false
lacks_constant unit (stmt.Init groups) = list_any (lacks_in_data unit) groups
