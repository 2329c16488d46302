-- How many operands a statement has: its literals, its names and its references.
--
-- One each count: a number, a logical or a character constant of an expression; a reference, beside what stands in its
-- arguments or subscripts and in its substring's bounds; each other name, each time that it stands: a declared name, a
-- dummy argument, a DO variable, a common block in COMMON and SAVE, a constant of PARAMETER, a variable or an array in
-- SAVE, a constant or a repeat by its name in DATA, and the names of PROGRAM, SUBROUTINE, FUNCTION and CALL; a constant
-- and a repeat in DATA; the digits of a CHARACTER length; the digits or the character constant of STOP.
-- So `A(I)` counts 2 and `C(2:3)` counts 3. A sign of a constant in DATA is part of the constant. Operators, labels,
-- asterisks and the letters of IMPLICIT count nothing, and neither, so far, do the lengths of character operands. A
-- logical IF is one statement with the statement that it holds.
use Rattle.std.specs.Prelude.{ℕ, ◌+◌, List, length, sum, sum_by, Option, None, Some}
use Rattle.f77_ast.specs.declared.expr.Expr.{Expr}
use Rattle.f77_ast.specs.declared.expr.Expr.TheFolds.{fold-Expr, fold-Ref}
use Rattle.f77_ast.specs.declared.expr.Expr.TheOpen.{Expr-F, Part-F, Ref-F}
use Rattle.f77_ast.specs.declared.expr.Expr.TheOpen as layer
use Rattle.f77_ast.specs.declared.expr.Part.{Part, out-Part}
use Rattle.f77_ast.specs.declared.expr.Ref.{Ref}
use Rattle.f77_ast.specs.declared.data.DataGroup.{DataGroup}
use Rattle.f77_ast.specs.declared.data.DataValue.{DataValue}
use Rattle.f77_ast.specs.declared.specification.Bound.{Bound}
use Rattle.f77_ast.specs.declared.specification.CommonGroup.{CommonGroup}
use Rattle.f77_ast.specs.declared.specification.Declarator.{Declarator}
use Rattle.f77_ast.specs.declared.specification.EquivalenceGroup.{EquivalenceGroup}
use Rattle.f77_ast.specs.declared.specification.ImplicitRule.{ImplicitRule}
use Rattle.f77_ast.specs.declared.specification.NamedConstant.{NamedConstant}
use Rattle.f77_ast.specs.declared.specification.Length.TheVariants as length_of
use Rattle.f77_ast.specs.declared.specification.Length.{Length}
use Rattle.f77_ast.specs.declared.specification.TypeSpec.TheVariants as typ
use Rattle.f77_ast.specs.declared.specification.TypeSpec.{TypeSpec}
use Rattle.f77_ast.specs.declared.specification.TypedDeclarator.{TypedDeclarator}
use Rattle.f77_ast.specs.declared.stmt.Item.{Item}
use Rattle.f77_ast.specs.declared.stmt.Item.TheFolds.{fold-Item}
use Rattle.f77_ast.specs.declared.stmt.Item.TheOpen.{Item-F}
use Rattle.f77_ast.specs.declared.stmt.Item.TheOpen as item
use Rattle.f77_ast.specs.declared.stmt.LoopControl.{LoopControl}
use Rattle.f77_ast.specs.declared.stmt.Stmt.{Stmt}
use Rattle.f77_ast.specs.declared.stmt.Stmt.TheFolds.{fold-Stmt}
use Rattle.f77_ast.specs.declared.stmt.Stmt.TheOpen.{Stmt-F}
use Rattle.f77_ast.specs.declared.stmt.Stmt.TheOpen as stmt

-- the need of a part that may be there
abbrev pub option_need : {A : Type 0} → (A → ℕ) → Option A → ℕ
option_need need None = 0
option_need need (Some part) = need part

abbrev pub need_if : Option ℕ → ℕ
need_if = option_need (λ need. need)

-- the need of a list that may be there
abbrev pub list_need : Option (List ℕ) → ℕ
list_need None = 0
list_need (Some needs) = sum needs

-- one, where a part that is a single name or literal is there
abbrev pub one_if : {A : Type 0} → Option A → ℕ
one_if None = 0
one_if (Some part) = 1

-- one level of an expression: a literal is one
abbrev pub expr_step : Expr-F ℕ ℕ ℕ → ℕ
expr_step (layer.Int value) = 1
expr_step (layer.Truth value) = 1
expr_step (layer.Chars text) = 1
expr_step (layer.Ref need) = need
expr_step (layer.Unary op need) = need
expr_step (layer.Binary op left right) = left + right
expr_step (layer.Paren need) = need

-- one level of a substring's bounds
abbrev pub part_step : Part-F ℕ ℕ ℕ → ℕ
part_step part = need_if part.low + need_if part.high

-- one level of a reference: it is one beside its arguments or subscripts and its substring's bounds
abbrev pub ref_step : Ref-F ℕ ℕ ℕ → ℕ
ref_step ref = 1 + list_need ref.args + need_if ref.part

-- the need of an expression
abbrev pub expr_need : Expr → ℕ
expr_need = fold-Expr ℕ ℕ ℕ expr_step part_step ref_step

-- the need of a reference
abbrev pub ref_need : Ref → ℕ
ref_need = fold-Ref ℕ ℕ ℕ expr_step part_step ref_step

-- the need of the arguments or subscripts of a reference
abbrev pub args_need : Option (List Expr) → ℕ
args_need None = 0
args_need (Some args) = sum_by expr_need args

-- the need of a substring's bounds
abbrev pub part_need : Option Part → ℕ
part_need None = 0
part_need (Some part) = option_need expr_need (out-Part part).low + option_need expr_need (out-Part part).high

-- the need of the control of a DO or implied DO: its variable is one
abbrev pub control_need : LoopControl → ℕ
control_need control = 1 + expr_need control.first + expr_need control.last + option_need expr_need control.increment

-- one level of an item
abbrev pub item_step : Item-F ℕ → ℕ
item_step (item.Plain expr) = expr_need expr
item_step (item.Implied needs control) = sum needs + control_need control

-- the need of an item
abbrev pub item_need : Item → ℕ
item_need = fold-Item ℕ item_step

-- the need of a length: its digits are one
abbrev pub length_need : Length → ℕ
length_need (length_of.Digits digits) = 1
length_need (length_of.Paren expr) = expr_need expr
length_need length_of.Asterisk = 0

-- the need of a type: its length's
abbrev pub type_need : TypeSpec → ℕ
type_need typ.Integer = 0
type_need typ.Logical = 0
type_need (typ.Character len) = option_need length_need len

-- the need of a bound
abbrev pub bound_need : Bound → ℕ
bound_need bound = option_need expr_need bound.low + option_need expr_need bound.high

-- the need of a declared name with its bounds
abbrev pub declarator_need : Declarator → ℕ
declarator_need declarator = 1 + sum_by bound_need declarator.bounds

-- the same with a length of its own
abbrev pub entity_need : TypedDeclarator → ℕ
entity_need entity = declarator_need entity.declarator + option_need length_need entity.length

-- the need of a group of COMMON: the name of its block, and its members
abbrev pub group_need : CommonGroup → ℕ
group_need group = one_if group.block + sum_by declarator_need group.members

-- the need of a list of EQUIVALENCE
abbrev pub members_need : EquivalenceGroup → ℕ
members_need group = sum_by ref_need group.members

-- the need of a constant of PARAMETER: its name is one
abbrev pub named_need : NamedConstant → ℕ
named_need constant = 1 + expr_need constant.value

-- the need of a rule of IMPLICIT: its type's
abbrev pub rule_need : ImplicitRule → ℕ
rule_need rule = type_need rule.typ

-- the need of a value of DATA: its repeat, and its constant
abbrev pub value_need : DataValue → ℕ
value_need value = one_if value.repeat + 1

-- the need of a group of DATA
abbrev pub data_need : DataGroup → ℕ
data_need group = sum_by ref_need group.targets + sum_by value_need group.values

-- one level of a statement: a logical IF holds a statement
abbrev pub stmt_step : Stmt-F ℕ → ℕ
stmt_step (stmt.Assign target value) = ref_need target + expr_need value
stmt_step (stmt.Do terminal control) = control_need control
stmt_step stmt.Continue = 0
stmt_step stmt.Return = 0
stmt_step stmt.Else = 0
stmt_step stmt.EndIf = 0
stmt_step stmt.End = 0
stmt_step (stmt.Stop code) = one_if code
stmt_step (stmt.Goto label) = 0
stmt_step (stmt.ComputedGoto labels index) = expr_need index
stmt_step (stmt.ArithmeticIf value negative zeroth positive) = expr_need value
stmt_step (stmt.LogicalIf condition inner) = expr_need condition + inner
stmt_step (stmt.BlockIf condition) = expr_need condition
stmt_step (stmt.ElseIf condition) = expr_need condition
stmt_step (stmt.Call name args) = 1 + sum_by expr_need args
stmt_step (stmt.Print items) = sum_by item_need items
stmt_step (stmt.Read items) = sum_by item_need items
stmt_step (stmt.Program name) = 1
stmt_step (stmt.Subroutine name dummies) = 1 + length dummies
stmt_step (stmt.Function t name dummies) = option_need type_need t + 1 + length dummies
stmt_step (stmt.Declare t entities) = type_need t + sum_by entity_need entities
stmt_step (stmt.Dimension arrays) = sum_by declarator_need arrays
stmt_step (stmt.Common groups) = sum_by group_need groups
stmt_step (stmt.Equivalence groups) = sum_by members_need groups
stmt_step (stmt.Parameter constants) = sum_by named_need constants
stmt_step (stmt.Implicit rules) = sum_by rule_need rules
stmt_step (stmt.Save entries) = length entries
stmt_step (stmt.Init groups) = sum_by data_need groups

-- the need of a statement: the number of its literals, names and references
abbrev pub need_of : Stmt → ℕ
need_of = fold-Stmt ℕ stmt_step
