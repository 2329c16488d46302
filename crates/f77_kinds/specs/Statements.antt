-- What is broken in a statement: in its expressions, and in what its own places ask for (ANSI X3.9-1978, sections 5.1.1, 5.6, 8
-- to 12).
use Rattle.std.specs.Prelude.{Bool, true, false, not, ◌&&◌, ◌||◌, nat_lt, length, Option}
use Rattle.f77_ast.specs.Limits.{most_dimensions}
use Rattle.f77_ast.specs.declared.data.DataConstant.TheVariants as constant
use Rattle.f77_ast.specs.declared.data.DataConstant.{DataConstant}
use Rattle.f77_ast.specs.declared.data.DataGroup.{DataGroup}
use Rattle.f77_ast.specs.declared.data.DataValue.{DataValue}
use Rattle.f77_ast.specs.declared.data.Repeat.TheVariants as repeat
use Rattle.f77_ast.specs.declared.data.Repeat.{Repeat}
use Rattle.f77_ast.specs.declared.expr.Expr.{Expr}
use Rattle.f77_ast.specs.declared.expr.Kind.{Kind}
use Rattle.f77_ast.specs.declared.expr.Kind.TheVariants as kind
use Rattle.f77_ast.specs.declared.expr.Ref.{Ref}
use Rattle.f77_ast.specs.declared.specification.Bound.{Bound}
use Rattle.f77_ast.specs.declared.specification.CommonGroup.{CommonGroup}
use Rattle.f77_ast.specs.declared.specification.Declarator.{Declarator}
use Rattle.f77_ast.specs.declared.specification.EquivalenceGroup.{EquivalenceGroup}
use Rattle.f77_ast.specs.declared.specification.ImplicitRule.{ImplicitRule}
use Rattle.f77_ast.specs.declared.specification.Length.TheVariants as length_of
use Rattle.f77_ast.specs.declared.specification.Length.{Length}
use Rattle.f77_ast.specs.declared.specification.NamedConstant.{NamedConstant}
use Rattle.f77_ast.specs.declared.specification.TypeSpec.TheVariants as typ
use Rattle.f77_ast.specs.declared.specification.TypeSpec.{TypeSpec}
use Rattle.f77_ast.specs.declared.specification.TypedDeclarator.{TypedDeclarator}
use Rattle.f77_ast.specs.declared.stmt.Item.{Item}
use Rattle.f77_ast.specs.declared.stmt.Item.TheFolds.{fold-Item}
use Rattle.f77_ast.specs.declared.stmt.Item.TheOpen.{Item-F}
use Rattle.f77_ast.specs.declared.stmt.Item.TheOpen as item
use Rattle.f77_ast.specs.declared.stmt.LoopControl.{LoopControl}
use Rattle.f77_ast.specs.declared.stmt.Stmt.{Stmt}
use Rattle.f77_ast.specs.declared.stmt.Stmt.TheFolds.{fold-Stmt}
use Rattle.f77_ast.specs.declared.stmt.Stmt.TheOpen.{Stmt-F}
use Rattle.f77_ast.specs.declared.stmt.Stmt.TheOpen as stmt
use Rattle.f77_leaves.specs.Declarations.{Declarations, name_kind}
use Rattle.f77_kinds.specs.Breaches.{no_breach, clash_if, miscount_if, either, any_of, if_there}
use Rattle.f77_kinds.specs.Found.{is_whole, is_assumed_size, name_found, operand_breach, expr_found, ref_found, member_found}
use Rattle.f77_kinds.specs.Kinds.{fits, kinds_differ}
use Rattle.f77_kinds.specs.declared.breach.Breach.{Breach}
use Rattle.f77_kinds.specs.declared.forms.Form.{Form}
use Rattle.f77_kinds.specs.declared.forms.Form.TheVariants as form
use Rattle.f77_kinds.specs.declared.found.Found.{Found}
use Rattle.f77_kinds.specs.declared.items.Transfer.{Transfer}
use Rattle.f77_kinds.specs.declared.items.Transfer.TheVariants as transfer

-- ---- expressions by their places

-- subscripts apart, all that is to be an INTEGER: array bounds, lengths, values of a DO or implied DO, the index of a computed
-- GO TO, the value of an arithmetic IF
abbrev pub integer_breach : Declarations → Expr → Breach
integer_breach unit expr = operand_breach kind.Integer (expr_found unit expr)

-- the condition of an IF or ELSE IF is LOGICAL
abbrev pub condition_breach : Declarations → Expr → Breach
condition_breach unit expr = operand_breach kind.Logical (expr_found unit expr)

-- an actual argument of CALL is looked at by itself, and may be an array's name alone
abbrev pub actual_breach : Declarations → Expr → Breach
actual_breach unit expr = (expr_found unit expr).breach

-- a value that something of this kind takes: no array's name alone, and of the same kind
abbrev pub is_no_value : Option Kind → Found → Bool
is_no_value taker value = is_whole value.form || kinds_differ taker value.kind

abbrev pub value_breach : Option Kind → Found → Breach
value_breach taker value = either value.breach (clash_if (is_no_value taker value))

-- ---- assignments

-- whether it may be assigned to: a variable, an element or a substring
abbrev pub is_assignable : Form → Bool
is_assignable form.Variable = true
is_assignable form.Constant = false
is_assignable form.Array = false
is_assignable form.AssumedSize = false
is_assignable form.Element = true
is_assignable form.Function = false
is_assignable form.Call = false
is_assignable form.Substring = true
is_assignable form.Value = false

-- a target, and what it is given (section 10)
abbrev pub assignment_breach : Found → Found → Breach
assignment_breach target value = either target.breach (either (clash_if (not (is_assignable target.form))) (value_breach target.kind value))

-- ---- DO, implied DO, READ and PRINT

-- whether it is a variable
abbrev pub is_variable : Form → Bool
is_variable form.Variable = true
is_variable form.Constant = false
is_variable form.Array = false
is_variable form.AssumedSize = false
is_variable form.Element = false
is_variable form.Function = false
is_variable form.Call = false
is_variable form.Substring = false
is_variable form.Value = false

-- the variable of a DO or implied DO is an INTEGER variable (sections 11.10 and 12.8.2.3)
abbrev pub is_loop_variable : Found → Bool
is_loop_variable found = is_variable found.form && fits kind.Integer found.kind

abbrev pub control_breach : Declarations → LoopControl → Breach
control_breach unit control =
    either (clash_if (not (is_loop_variable (name_found unit control.variable)))) (either (integer_breach unit control.first) (either (integer_breach unit control.last) (if_there (integer_breach unit) control.increment)))

-- whether READ may set it: a variable, an element, or an array whose last upper bound isn't `*`
abbrev pub is_readable : Form → Bool
is_readable form.Variable = true
is_readable form.Constant = false
is_readable form.Array = true
is_readable form.AssumedSize = false
is_readable form.Element = true
is_readable form.Function = false
is_readable form.Call = false
is_readable form.Substring = false
is_readable form.Value = false

-- an item of READ is INTEGER; one of PRINT is anything but an array whose last upper bound is `*` (section 12.8.2)
abbrev pub is_input : Found → Bool
is_input found = is_readable found.form && fits kind.Integer found.kind

abbrev pub plain_breach : Transfer → Found → Breach
plain_breach transfer.Input found = either found.breach (clash_if (not (is_input found)))
plain_breach transfer.Output found = either found.breach (clash_if (is_assumed_size found.form))

-- one level of an item
abbrev pub item_step : Declarations → Transfer → Item-F Breach → Breach
item_step unit way (item.Plain expr) = plain_breach way (expr_found unit expr)
item_step unit way (item.Implied items control) = either (any_of (λ breach. breach) items) (control_breach unit control)

abbrev pub item_breach : Declarations → Transfer → Item → Breach
item_breach unit way = fold-Item Breach (item_step unit way)

-- ---- specification statements and DATA

-- a length (section 8.4.2)
abbrev pub length_breach : Declarations → Length → Breach
length_breach unit (length_of.Digits digits) = no_breach
length_breach unit (length_of.Paren expr) = integer_breach unit expr
length_breach unit length_of.Asterisk = no_breach

abbrev pub type_breach : Declarations → TypeSpec → Breach
type_breach unit typ.Integer = no_breach
type_breach unit typ.Logical = no_breach
type_breach unit (typ.Character len) = if_there (length_breach unit) len

-- the bounds of a dimension (section 5.1.1.1)
abbrev pub dimension_breach : Declarations → Bound → Breach
dimension_breach unit bound = either (if_there (integer_breach unit) bound.low) (if_there (integer_breach unit) bound.high)

-- a declared name: it has no more than seven dimensions (section 5.1.1)
abbrev pub declarator_breach : Declarations → Declarator → Breach
declarator_breach unit declarator = either (any_of (dimension_breach unit) declarator.bounds) (miscount_if (nat_lt most_dimensions (length declarator.bounds)))

abbrev pub entity_breach : Declarations → TypedDeclarator → Breach
entity_breach unit entity = either (declarator_breach unit entity.declarator) (if_there (length_breach unit) entity.length)

abbrev pub group_breach : Declarations → CommonGroup → Breach
group_breach unit group = any_of (declarator_breach unit) group.members

-- a member of EQUIVALENCE, and what takes values of DATA: no array whose last upper bound is `*` (sections 8.2.2 and 9.1)
abbrev pub member_breach : Declarations → Ref → Breach
member_breach unit reference = let found = member_found unit reference in either found.breach (clash_if (is_assumed_size found.form))

abbrev pub equivalence_breach : Declarations → EquivalenceGroup → Breach
equivalence_breach unit group = any_of (member_breach unit) group.members

-- a constant of PARAMETER and its value are of one kind (section 8.6)
abbrev pub constant_breach : Declarations → NamedConstant → Breach
constant_breach unit named = value_breach (name_kind unit named.name) (expr_found unit named.value)

abbrev pub rule_breach : Declarations → ImplicitRule → Breach
rule_breach unit rule = type_breach unit rule.typ

-- a repeat in DATA is an INTEGER, and no name between its slashes that of an array whose last upper bound is `*`
-- (sections 5.6 and 9.1)
abbrev pub is_repeat : Found → Bool
is_repeat found = not (is_assumed_size found.form) && fits kind.Integer found.kind

abbrev pub repeat_breach : Declarations → Repeat → Breach
repeat_breach unit (repeat.Digits digits) = no_breach
repeat_breach unit (repeat.Named name) = clash_if (not (is_repeat (name_found unit name)))

abbrev pub data_constant_breach : Declarations → DataConstant → Breach
data_constant_breach unit (constant.Int number) = no_breach
data_constant_breach unit (constant.Truth value) = no_breach
data_constant_breach unit (constant.Chars text) = no_breach
data_constant_breach unit (constant.Named name) = clash_if (is_assumed_size (name_found unit name).form)

abbrev pub data_value_breach : Declarations → DataValue → Breach
data_value_breach unit value = either (if_there (repeat_breach unit) value.repeat) (data_constant_breach unit value.constant)

abbrev pub data_breach : Declarations → DataGroup → Breach
data_breach unit group = either (any_of (member_breach unit) group.targets) (any_of (data_value_breach unit) group.values)

-- ---- statements

-- one level of a statement: a logical IF holds a statement
abbrev pub stmt_step : Declarations → Stmt-F Breach → Breach
stmt_step unit (stmt.Assign target value) = assignment_breach (ref_found unit target) (expr_found unit value)
stmt_step unit (stmt.Do terminal control) = control_breach unit control
stmt_step unit stmt.Continue = no_breach
stmt_step unit stmt.Return = no_breach
stmt_step unit stmt.Else = no_breach
stmt_step unit stmt.EndIf = no_breach
stmt_step unit stmt.End = no_breach
stmt_step unit (stmt.Stop code) = no_breach
stmt_step unit (stmt.Goto label) = no_breach
stmt_step unit (stmt.ComputedGoto labels index) = integer_breach unit index
stmt_step unit (stmt.ArithmeticIf value negative zeroth positive) = integer_breach unit value
stmt_step unit (stmt.LogicalIf condition inner) = either (condition_breach unit condition) inner
stmt_step unit (stmt.BlockIf condition) = condition_breach unit condition
stmt_step unit (stmt.ElseIf condition) = condition_breach unit condition
stmt_step unit (stmt.Call name args) = any_of (actual_breach unit) args
stmt_step unit (stmt.Print items) = any_of (item_breach unit transfer.Output) items
stmt_step unit (stmt.Read items) = any_of (item_breach unit transfer.Input) items
stmt_step unit (stmt.Program name) = no_breach
stmt_step unit (stmt.Subroutine name dummies) = no_breach
stmt_step unit (stmt.Function t name dummies) = if_there (type_breach unit) t
stmt_step unit (stmt.Declare t entities) = either (type_breach unit t) (any_of (entity_breach unit) entities)
stmt_step unit (stmt.Dimension arrays) = any_of (declarator_breach unit) arrays
stmt_step unit (stmt.Common groups) = any_of (group_breach unit) groups
stmt_step unit (stmt.Equivalence groups) = any_of (equivalence_breach unit) groups
stmt_step unit (stmt.Parameter constants) = any_of (constant_breach unit) constants
stmt_step unit (stmt.Implicit rules) = any_of (rule_breach unit) rules
stmt_step unit (stmt.Save entries) = no_breach
stmt_step unit (stmt.Init groups) = any_of (data_breach unit) groups

-- what is broken in a statement
abbrev pub stmt_breach : Declarations → Stmt → Breach
stmt_breach unit = fold-Stmt Breach (stmt_step unit)
