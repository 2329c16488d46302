-- The references of a statement that have a list, each with how many subscripts or arguments are in it (ANSI X3.9-1978, sections
-- 5.3, 15.2 and 15.10).
use Rattle.std.specs.Prelude.{ℕ, List, [], ◌∷◌, ◌++◌, length, map, Option, None, Some}
use Rattle.std.specs.List.{flat_map}
use Rattle.std.specs.Option.{option_map}
use Rattle.f77_ast.specs.declared.data.DataGroup.{DataGroup}
use Rattle.f77_ast.specs.declared.expr.Expr.{Expr}
use Rattle.f77_ast.specs.declared.expr.Expr.TheFolds.{fold-Expr, fold-Part, fold-Ref}
use Rattle.f77_ast.specs.declared.expr.Expr.TheOpen.{Expr-F, Part-F, Ref-F}
use Rattle.f77_ast.specs.declared.expr.Expr.TheOpen as layer
use Rattle.f77_ast.specs.declared.expr.Part.{Part}
use Rattle.f77_ast.specs.declared.expr.Ref.{Ref, out-Ref}
use Rattle.f77_ast.specs.declared.specification.Bound.{Bound}
use Rattle.f77_ast.specs.declared.specification.CommonGroup.{CommonGroup}
use Rattle.f77_ast.specs.declared.specification.Declarator.{Declarator}
use Rattle.f77_ast.specs.declared.specification.EquivalenceGroup.{EquivalenceGroup}
use Rattle.f77_ast.specs.declared.specification.ImplicitRule.{ImplicitRule}
use Rattle.f77_ast.specs.declared.specification.Length.TheVariants as length_of
use Rattle.f77_ast.specs.declared.specification.Length.{Length}
use Rattle.f77_ast.specs.declared.specification.NamedConstant.{NamedConstant}
use Rattle.f77_ast.specs.declared.specification.TypeSpec.TheVariants as typ
use Rattle.f77_ast.specs.declared.specification.TypeSpec.{TypeSpec}
use Rattle.f77_ast.specs.declared.specification.TypedDeclarator.{TypedDeclarator}
use Rattle.f77_ast.specs.declared.stmt.Item.{Item}
use Rattle.f77_ast.specs.declared.stmt.Item.TheFolds.{fold-Item}
use Rattle.f77_ast.specs.declared.stmt.Item.TheOpen.{Item-F}
use Rattle.f77_ast.specs.declared.stmt.Item.TheOpen as item
use Rattle.f77_ast.specs.declared.stmt.LoopControl.{LoopControl}
use Rattle.f77_ast.specs.declared.stmt.Stmt.{Stmt}
use Rattle.f77_ast.specs.declared.stmt.Stmt.TheFolds.{fold-Stmt}
use Rattle.f77_ast.specs.declared.stmt.Stmt.TheOpen.{Stmt-F}
use Rattle.f77_ast.specs.declared.stmt.Stmt.TheOpen as stmt

-- a name with a list of so many subscripts or arguments
pub record Reference : Type 0 where
  pub name : List ℕ
  pub count : ℕ

-- ---- expressions

abbrev pub listed_name : (name : List ℕ) → Option (List (List Reference)) → List Reference
listed_name name None = []
listed_name name (Some parts) = record { name = name; count = length parts } ∷ []

abbrev pub in_all : List (List Reference) → List Reference
in_all parts = flat_map (λ part. part) parts

abbrev pub in_list : Option (List (List Reference)) → List Reference
in_list None = []
in_list (Some parts) = in_all parts

abbrev pub if_some : Option (List Reference) → List Reference
if_some None = []
if_some (Some references) = references

abbrev pub expr_step : Expr-F (List Reference) (List Reference) (List Reference) → List Reference
expr_step (layer.Int number) = []
expr_step (layer.Truth holds) = []
expr_step (layer.Chars text) = []
expr_step (layer.Ref references) = references
expr_step (layer.Unary op operand) = operand
expr_step (layer.Binary op left right) = left ++ right
expr_step (layer.Paren inner) = inner

abbrev pub part_step : Part-F (List Reference) (List Reference) (List Reference) → List Reference
part_step part = if_some part.low ++ if_some part.high

-- those in its list, itself where it has one, and those in the bounds of its substring
abbrev pub ref_by : (name : List ℕ) → Option (List (List Reference)) → Option (List Reference) → List Reference
ref_by name args part = (in_list args ++ listed_name name args) ++ if_some part

abbrev pub ref_step : Ref-F (List Reference) (List Reference) (List Reference) → List Reference
ref_step reference = ref_by reference.name reference.args reference.part

abbrev pub expr_references : Expr → List Reference
expr_references = fold-Expr (List Reference) (List Reference) (List Reference) expr_step part_step ref_step

abbrev pub part_references : Part → List Reference
part_references = fold-Part (List Reference) (List Reference) (List Reference) expr_step part_step ref_step

abbrev pub ref_references : Ref → List Reference
ref_references = fold-Ref (List Reference) (List Reference) (List Reference) expr_step part_step ref_step

-- ---- parts of statements

abbrev pub if_there : {A : Type 0} → (A → List Reference) → Option A → List Reference
if_there of None = []
if_there of (Some part) = of part

abbrev pub control_references : LoopControl → List Reference
control_references control = expr_references control.first ++ (expr_references control.last ++ if_there expr_references control.increment)

abbrev pub item_step : Item-F (List Reference) → List Reference
item_step (item.Plain expr) = expr_references expr
item_step (item.Implied items control) = in_all items ++ control_references control

abbrev pub item_references : Item → List Reference
item_references = fold-Item (List Reference) item_step

abbrev pub length_references : Length → List Reference
length_references (length_of.Digits digits) = []
length_references (length_of.Paren expr) = expr_references expr
length_references length_of.Asterisk = []

abbrev pub type_references : TypeSpec → List Reference
type_references typ.Integer = []
type_references typ.Logical = []
type_references (typ.Character len) = if_there length_references len

abbrev pub bound_references : Bound → List Reference
bound_references bound = if_there expr_references bound.low ++ if_there expr_references bound.high

abbrev pub declarator_references : Declarator → List Reference
declarator_references declarator = flat_map bound_references declarator.bounds

abbrev pub entity_references : TypedDeclarator → List Reference
entity_references entity = declarator_references entity.declarator ++ if_there length_references entity.length

abbrev pub group_references : CommonGroup → List Reference
group_references group = flat_map declarator_references group.members

abbrev pub member_references : Ref → List Reference
member_references reference = ref_by (out-Ref reference).name (option_map (map expr_references) (out-Ref reference).args) (option_map part_references (out-Ref reference).part)

abbrev pub equivalence_references : EquivalenceGroup → List Reference
equivalence_references group = flat_map member_references group.members

abbrev pub constant_references : NamedConstant → List Reference
constant_references constant = expr_references constant.value

abbrev pub rule_references : ImplicitRule → List Reference
rule_references rule = type_references rule.typ

abbrev pub data_references : DataGroup → List Reference
data_references group = flat_map member_references group.targets

-- ---- statements

abbrev pub stmt_step : Stmt-F (List Reference) → List Reference
stmt_step (stmt.Assign target value) = ref_references target ++ expr_references value
stmt_step (stmt.Do terminal control) = control_references control
stmt_step stmt.Continue = []
stmt_step stmt.Return = []
stmt_step stmt.Else = []
stmt_step stmt.EndIf = []
stmt_step stmt.End = []
stmt_step (stmt.Stop code) = []
stmt_step (stmt.Goto label) = []
stmt_step (stmt.ComputedGoto labels index) = expr_references index
stmt_step (stmt.ArithmeticIf value negative zeroth positive) = expr_references value
stmt_step (stmt.LogicalIf condition inner) = expr_references condition ++ inner
stmt_step (stmt.BlockIf condition) = expr_references condition
stmt_step (stmt.ElseIf condition) = expr_references condition
stmt_step (stmt.Call name args) = flat_map expr_references args
stmt_step (stmt.Print items) = flat_map item_references items
stmt_step (stmt.Read items) = flat_map item_references items
stmt_step (stmt.Program name) = []
stmt_step (stmt.Subroutine name dummies) = []
stmt_step (stmt.Function t name dummies) = if_there type_references t
stmt_step (stmt.Declare t entities) = type_references t ++ flat_map entity_references entities
stmt_step (stmt.Dimension arrays) = flat_map declarator_references arrays
stmt_step (stmt.Common groups) = flat_map group_references groups
stmt_step (stmt.Equivalence groups) = flat_map equivalence_references groups
stmt_step (stmt.Parameter constants) = flat_map constant_references constants
stmt_step (stmt.Implicit rules) = flat_map rule_references rules
stmt_step (stmt.Save entries) = []
stmt_step (stmt.Init groups) = flat_map data_references groups

-- the references of a statement that have a list
abbrev pub references_of : Stmt → List Reference
references_of = fold-Stmt (List Reference) stmt_step
