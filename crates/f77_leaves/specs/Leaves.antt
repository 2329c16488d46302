-- What is in a statement, in the order of its text: its literals, and its names, each with what it is there.
--
-- One list serves all that looks at the words of a statement: the rules on names, the limit on names and the count of
-- operands.
use Rattle.std.specs.Prelude.{ℕ, Bool, true, false, not, List, [], ◌∷◌, ◌++◌, length, map, Option, None, Some}
use Rattle.std.specs.List.{flat_map}
use Rattle.std.specs.Option.{is_some}
use Rattle.f77_ast.specs.declared.data.DataConstant.TheVariants as constant
use Rattle.f77_ast.specs.declared.data.DataConstant.{DataConstant}
use Rattle.f77_ast.specs.declared.data.DataGroup.{DataGroup}
use Rattle.f77_ast.specs.declared.data.DataValue.{DataValue}
use Rattle.f77_ast.specs.declared.data.Repeat.TheVariants as repeat
use Rattle.f77_ast.specs.declared.data.Repeat.{Repeat}
use Rattle.f77_ast.specs.declared.expr.Expr.{Expr}
use Rattle.f77_ast.specs.declared.expr.Expr.TheFolds.{fold-Expr, fold-Part, fold-Ref}
use Rattle.f77_ast.specs.declared.expr.Expr.TheOpen.{Expr-F, Part-F, Ref-F}
use Rattle.f77_ast.specs.declared.expr.Expr.TheOpen as layer
use Rattle.f77_ast.specs.declared.expr.Part.{Part}
use Rattle.f77_ast.specs.declared.expr.Ref.{Ref}
use Rattle.f77_ast.specs.declared.specification.Bound.{Bound}
use Rattle.f77_ast.specs.declared.specification.CommonGroup.{CommonGroup}
use Rattle.f77_ast.specs.declared.specification.Declarator.{Declarator}
use Rattle.f77_ast.specs.declared.specification.EquivalenceGroup.{EquivalenceGroup}
use Rattle.f77_ast.specs.declared.specification.ImplicitRule.{ImplicitRule}
use Rattle.f77_ast.specs.declared.specification.NamedConstant.{NamedConstant}
use Rattle.f77_ast.specs.declared.specification.Length.TheVariants as length_of
use Rattle.f77_ast.specs.declared.specification.Length.{Length}
use Rattle.f77_ast.specs.declared.specification.SaveEntry.TheVariants as entry
use Rattle.f77_ast.specs.declared.specification.SaveEntry.{SaveEntry}
use Rattle.f77_ast.specs.declared.specification.TypeSpec.TheVariants as typ
use Rattle.f77_ast.specs.declared.specification.TypeSpec.{TypeSpec}
use Rattle.f77_ast.specs.declared.specification.TypedDeclarator.{TypedDeclarator}
use Rattle.f77_ast.specs.declared.stmt.Item.{Item}
use Rattle.f77_ast.specs.declared.stmt.Item.TheFolds.{fold-Item}
use Rattle.f77_ast.specs.declared.stmt.Item.TheOpen.{Item-F}
use Rattle.f77_ast.specs.declared.stmt.Item.TheOpen as item
use Rattle.f77_ast.specs.declared.stmt.LoopControl.{LoopControl}
use Rattle.f77_ast.specs.declared.stmt.Stmt.{Stmt}
use Rattle.f77_ast.specs.declared.stmt.Stmt.TheFolds.{fold-Stmt}
use Rattle.f77_ast.specs.declared.stmt.Stmt.TheOpen.{Stmt-F}
use Rattle.f77_ast.specs.declared.stmt.Stmt.TheOpen as stmt
use Rattle.f77_ast.specs.declared.stmt.StopCode.{StopCode}
use Rattle.f77_ast.specs.declared.stmt.StopCode.TheVariants as stop
use Rattle.f77_leaves.specs.declared.leaves.Leaf.{Leaf}
use Rattle.f77_leaves.specs.declared.leaves.Leaf.TheVariants.{Literal, Text, Named}
use Rattle.f77_leaves.specs.declared.leaves.Role.{Role}
use Rattle.f77_leaves.specs.declared.leaves.Role.TheVariants as role

-- a name that nothing follows
abbrev pub alone : (name : List ℕ) → Role → Leaf
alone name part = Named (record { name = name; role = part; listed = false })

-- what is in a part that may be left out, and in parts one after the other
abbrev pub leaves_if : Option (List Leaf) → List Leaf
leaves_if None = []
leaves_if (Some leaves) = leaves

-- what is in subscripts or arguments, each of which is an operand where it is a name
abbrev pub operands : List (Role → List Leaf) → List Leaf
operands parts = flat_map (λ part. part role.Operand) parts

abbrev pub operands_if : Option (List (Role → List Leaf)) → List Leaf
operands_if None = []
operands_if (Some parts) = operands parts

-- what is in an operand that may be left out
abbrev pub operand_if : Option (Role → List Leaf) → List Leaf
operand_if None = []
operand_if (Some part) = part role.Operand

-- one level of an expression: where it is nothing but a reference, that has the role that the expression has; all other
-- references in it are operands
abbrev pub expr_step : Expr-F (Role → List Leaf) (List Leaf) (Role → List Leaf) → Role → List Leaf
expr_step (layer.Int value) part = Literal ∷ []
expr_step (layer.Truth value) part = Literal ∷ []
expr_step (layer.Chars text) part = Text (length text) ∷ []
expr_step (layer.Ref reference) part = reference part
expr_step (layer.Unary op operand) part = operand role.Operand
expr_step (layer.Binary op left right) part = left role.Operand ++ right role.Operand
expr_step (layer.Paren inner) part = inner role.Operand

-- one level of a substring's bounds
abbrev pub part_step : Part-F (Role → List Leaf) (List Leaf) (Role → List Leaf) → List Leaf
part_step part = operand_if part.low ++ operand_if part.high

-- one level of a reference: its name, what is in its subscripts or arguments, and in its substring's bounds
abbrev pub ref_step : Ref-F (Role → List Leaf) (List Leaf) (Role → List Leaf) → Role → List Leaf
ref_step reference part =
    Named (record { name = reference.name; role = part; listed = is_some reference.args }) ∷ (operands_if reference.args ++ leaves_if reference.part)

-- what is in an expression, in a substring's bounds and in a reference
abbrev pub expr_leaves : Expr → Role → List Leaf
expr_leaves = fold-Expr (Role → List Leaf) (List Leaf) (Role → List Leaf) expr_step part_step ref_step

abbrev pub part_leaves : Part → List Leaf
part_leaves = fold-Part (Role → List Leaf) (List Leaf) (Role → List Leaf) expr_step part_step ref_step

abbrev pub ref_leaves : Ref → Role → List Leaf
ref_leaves = fold-Ref (Role → List Leaf) (List Leaf) (Role → List Leaf) expr_step part_step ref_step

-- what is in an expression that is an operand, and in one that may be left out
abbrev pub operand_leaves : Expr → List Leaf
operand_leaves expr = expr_leaves expr role.Operand

abbrev pub option_leaves : Option Expr → List Leaf
option_leaves None = []
option_leaves (Some expr) = operand_leaves expr

-- what is in the control of a DO or implied DO
abbrev pub control_leaves : LoopControl → List Leaf
control_leaves control =
    alone control.variable role.Control ∷ (operand_leaves control.first ++ (operand_leaves control.last ++ option_leaves control.increment))

-- what is in the items of an implied DO, in a list of items of this role
abbrev pub inner_leaves : Role → List (Role → List Leaf) → List Leaf
inner_leaves part items = flat_map (λ inner. inner part) items

-- one level of an item
abbrev pub item_step : Item-F (Role → List Leaf) → Role → List Leaf
item_step (item.Plain expr) part = expr_leaves expr part
item_step (item.Implied items control) part = inner_leaves part items ++ control_leaves control

abbrev pub item_leaves : Item → Role → List Leaf
item_leaves = fold-Item (Role → List Leaf) item_step

abbrev pub items_leaves : Role → List Item → List Leaf
items_leaves part items = flat_map (λ one. item_leaves one part) items

-- what is in a length: its digits are a literal
abbrev pub length_leaves : Option Length → List Leaf
length_leaves None = []
length_leaves (Some (length_of.Digits digits)) = Literal ∷ []
length_leaves (Some (length_of.Paren expr)) = operand_leaves expr
length_leaves (Some length_of.Asterisk) = []

-- what is in a type
abbrev pub type_leaves : TypeSpec → List Leaf
type_leaves typ.Integer = []
type_leaves typ.Logical = []
type_leaves (typ.Character len) = length_leaves len

abbrev pub option_type_leaves : Option TypeSpec → List Leaf
option_type_leaves None = []
option_type_leaves (Some t) = type_leaves t

-- what is in a bound
abbrev pub bound_leaves : Bound → List Leaf
bound_leaves bound = option_leaves bound.low ++ option_leaves bound.high

-- a declared name of this role, and what is in its bounds
abbrev pub declarator_leaves : Role → Declarator → List Leaf
declarator_leaves part declarator = alone declarator.name part ∷ flat_map bound_leaves declarator.bounds

-- a name in a type statement is one with bounds where it has some there
abbrev pub typed_role : List Bound → Role
typed_role [] = role.Typed
typed_role (bound ∷ bounds) = role.Shaped

-- what a type statement declares: a name with its bounds, and its length
abbrev pub entity_leaves : TypedDeclarator → List Leaf
entity_leaves entity =
    declarator_leaves (typed_role entity.declarator.bounds) entity.declarator ++ length_leaves entity.length

-- a common block's name
abbrev pub block_leaves : Option (List ℕ) → List Leaf
block_leaves None = []
block_leaves (Some name) = alone name role.Block ∷ []

-- a common block's name, and what is in its members
abbrev pub group_leaves : CommonGroup → List Leaf
group_leaves group = block_leaves group.block ++ flat_map (declarator_leaves role.Common) group.members

-- what is in references of one role
abbrev pub refs_leaves : Role → List Ref → List Leaf
refs_leaves part refs = flat_map (λ reference. ref_leaves reference part) refs

-- what is in a list of EQUIVALENCE
abbrev pub member_leaves : EquivalenceGroup → List Leaf
member_leaves group = refs_leaves role.Member group.members

-- the name of a constant, and what is in its value
abbrev pub named_leaves : NamedConstant → List Leaf
named_leaves constant = alone constant.name role.Constant ∷ operand_leaves constant.value

-- what is in a rule of IMPLICIT
abbrev pub rule_leaves : ImplicitRule → List Leaf
rule_leaves rule = type_leaves rule.typ

-- the name in an entry of SAVE
abbrev pub entry_leaves : SaveEntry → List Leaf
entry_leaves (entry.Entity name) = alone name role.Saved ∷ []
entry_leaves (entry.Block name) = alone name role.Block ∷ []

-- a constant of DATA, and how often it is there
abbrev pub constant_leaves : DataConstant → List Leaf
constant_leaves (constant.Int value) = Literal ∷ []
constant_leaves (constant.Truth value) = Literal ∷ []
constant_leaves (constant.Chars text) = Text (length text) ∷ []
constant_leaves (constant.Named name) = alone name role.Datum ∷ []

abbrev pub repeat_leaves : Option Repeat → List Leaf
repeat_leaves None = []
repeat_leaves (Some (repeat.Digits digits)) = Literal ∷ []
repeat_leaves (Some (repeat.Named name)) = alone name role.Repeat ∷ []

abbrev pub value_leaves : DataValue → List Leaf
value_leaves value = repeat_leaves value.repeat ++ constant_leaves value.constant

abbrev pub data_leaves : DataGroup → List Leaf
data_leaves group = refs_leaves role.Filled group.targets ++ flat_map value_leaves group.values

-- what STOP shows
abbrev pub stop_leaves : Option StopCode → List Leaf
stop_leaves None = []
stop_leaves (Some (stop.Digits digits)) = Literal ∷ []
stop_leaves (Some (stop.Chars text)) = Text (length text) ∷ []

-- names of one role
abbrev pub names_leaves : Role → List (List ℕ) → List Leaf
names_leaves part names = map (λ name. alone name part) names

-- one level of a statement: a logical IF holds a statement
abbrev pub stmt_step : Stmt-F (List Leaf) → List Leaf
stmt_step (stmt.Assign target value) = ref_leaves target role.Target ++ operand_leaves value
stmt_step (stmt.Do terminal control) = control_leaves control
stmt_step stmt.Continue = []
stmt_step stmt.Return = []
stmt_step stmt.Else = []
stmt_step stmt.EndIf = []
stmt_step stmt.End = []
stmt_step (stmt.Stop code) = stop_leaves code
stmt_step (stmt.Goto label) = []
stmt_step (stmt.ComputedGoto labels index) = operand_leaves index
stmt_step (stmt.ArithmeticIf value negative zeroth positive) = operand_leaves value
stmt_step (stmt.LogicalIf condition inner) = operand_leaves condition ++ inner
stmt_step (stmt.BlockIf condition) = operand_leaves condition
stmt_step (stmt.ElseIf condition) = operand_leaves condition
stmt_step (stmt.Call name args) = alone name role.Called ∷ flat_map operand_leaves args
stmt_step (stmt.Print items) = items_leaves role.Operand items
stmt_step (stmt.Read items) = items_leaves role.Input items
stmt_step (stmt.Program name) = alone name role.Heading ∷ []
stmt_step (stmt.Subroutine name dummies) = alone name role.Heading ∷ names_leaves role.Dummy dummies
stmt_step (stmt.Function t name dummies) = option_type_leaves t ++ (alone name role.Function ∷ names_leaves role.Dummy dummies)
stmt_step (stmt.Declare t entities) = type_leaves t ++ flat_map entity_leaves entities
stmt_step (stmt.Dimension arrays) = flat_map (declarator_leaves role.Shaped) arrays
stmt_step (stmt.Common groups) = flat_map group_leaves groups
stmt_step (stmt.Equivalence groups) = flat_map member_leaves groups
stmt_step (stmt.Parameter constants) = flat_map named_leaves constants
stmt_step (stmt.Implicit rules) = flat_map rule_leaves rules
stmt_step (stmt.Save entries) = flat_map entry_leaves entries
stmt_step (stmt.Init groups) = flat_map data_leaves groups

-- what is in a statement
abbrev pub leaves_of : Stmt → List Leaf
leaves_of = fold-Stmt (List Leaf) stmt_step
