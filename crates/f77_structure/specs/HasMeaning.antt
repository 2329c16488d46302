-- Which expressions and statements have a meaning: those that a step knows what to do with.
--
-- A statement without one is in no accepted program. What a later kind of statement, expression or operator means joins
-- the meaning of a program, and is then let in here.
use Rattle.std.specs.Prelude.{ℕ, Bool, true, false, ◌&&◌, ◌||◌, List, [], ◌∷◌, Option, None, Some}
use Rattle.std.specs.List.{list_all}
use Rattle.std.specs.Option.{is_some}
use Rattle.f77_ast.specs.Entity.{entity_in}
use Rattle.f77_ast.specs.declared.expr.Expr.{Expr}
use Rattle.f77_ast.specs.declared.expr.Expr.TheFolds.{fold-Expr, fold-Ref}
use Rattle.f77_ast.specs.declared.expr.Expr.TheOpen.{Expr-F, Part-F, Ref-F}
use Rattle.f77_ast.specs.declared.expr.Expr.TheOpen as layer
use Rattle.f77_ast.specs.declared.expr.Ref.{Ref, out-Ref}
use Rattle.f77_ast.specs.declared.program.Entity.{Entity}
use Rattle.f77_ast.specs.declared.program.Layout.{Layout}
use Rattle.f77_ast.specs.declared.program.Unit.{Unit as ProgramUnit}
use Rattle.f77_ast.specs.declared.stmt.Item.{Item}
use Rattle.f77_ast.specs.declared.stmt.Item as item
use Rattle.f77_ast.specs.declared.stmt.LoopControl.{LoopControl}
use Rattle.f77_ast.specs.declared.stmt.Stmt.{Stmt}
use Rattle.f77_ast.specs.declared.stmt.Stmt as stmt
use Rattle.f77_structure.specs.Arrays.{array_named}
use Rattle.f77_structure.specs.Literals.{constant_number}
use Rattle.f77_structure.specs.Storage.{is_scalar, is_stored, is_vector}
use Rattle.f77_structure.specs.Values.{is_integer_kind, is_sign, is_arithmetic}

-- whether an entity is an INTEGER variable in storage; dummies have no meaning yet
abbrev pub is_integer_variable : Option Entity → Bool
is_integer_variable None = false
is_integer_variable (Some entity) = is_integer_kind entity.kind && (is_stored entity.place && is_scalar entity.bounds)

-- whether an entity is an INTEGER constant; constants of other types have no meaning yet
abbrev pub is_integer_constant : Option Entity → Bool
is_integer_constant None = false
is_integer_constant (Some entity) = is_integer_kind entity.kind && (is_some (constant_number entity.place) && is_scalar entity.bounds)

-- whether an entity is an INTEGER array of one dimension in storage
abbrev pub is_integer_vector : Option Entity → Bool
is_integer_vector None = false
is_integer_vector (Some entity) = is_integer_kind entity.kind && (is_stored entity.place && is_vector entity.bounds)

-- whether a name with such subscripts has a meaning: a variable or a constant without, an array of one dimension with one that has a meaning
abbrev pub names_integer : Option Entity → Option (List Bool) → Bool
names_integer found None = is_integer_variable found || is_integer_constant found
names_integer found (Some []) = false
names_integer found (Some (subscript ∷ [])) = is_integer_vector found && subscript
names_integer found (Some (first ∷ second ∷ subscripts)) = false

-- whether an entity is there and in storage, where what an assignment gives it is kept
abbrev pub is_kept : Option Entity → Bool
is_kept None = false
is_kept (Some entity) = is_stored entity.place

-- there is no substring
abbrev pub is_whole : Option (Unit {0}) → Bool
is_whole None = true
is_whole (Some part) = false

-- one level of an expression: numbers, references, arithmetic operators and parentheses have a meaning
abbrev pub meaning_step : Expr-F Bool (Unit {0}) Bool → Bool
meaning_step (layer.Int number) = true
meaning_step (layer.Truth value) = false
meaning_step (layer.Chars text) = false
meaning_step (layer.Ref ref) = ref
meaning_step (layer.Unary op operand) = is_sign op && operand
meaning_step (layer.Binary op left right) = is_arithmetic op && (left && right)
meaning_step (layer.Paren inner) = inner

abbrev pub meaning_part : Part-F Bool (Unit {0}) Bool → Unit {0}
meaning_part part = tt

abbrev pub meaning_ref : List ProgramUnit → Layout → (unit : ℕ) → Ref-F Bool (Unit {0}) Bool → Bool
meaning_ref units layout unit ref = is_whole ref.part && names_integer (entity_in layout.entities unit ref.name) ref.args

-- the units of a program, its layout, and the unit in which something is written
module _ (units : List ProgramUnit) (layout : Layout) (unit : ℕ) where
  -- whether an expression has a meaning in a unit: all its references name INTEGER entities, and its operators are arithmetic
  abbrev pub expr_has_meaning : Expr → Bool
  expr_has_meaning = fold-Expr Bool (Unit {0}) Bool meaning_step meaning_part (meaning_ref units layout unit)

  -- whether a reference has one
  abbrev pub ref_has_meaning : Ref → Bool
  ref_has_meaning = fold-Ref Bool (Unit {0}) Bool meaning_step meaning_part (meaning_ref units layout unit)

  -- whether the left side of an assignment has one: a variable or an element, no constant
  abbrev pub target_has_meaning : Ref → Bool
  target_has_meaning target = ref_has_meaning target && is_kept (entity_in layout.entities unit (out-Ref target).name)

  -- whether an item has one, which may also be an array's name alone; an implied DO has none yet
  abbrev pub item_has_meaning : Item → Bool
  item_has_meaning (item.Plain expr) = expr_has_meaning expr || is_integer_vector (array_named layout unit expr)
  item_has_meaning (item.Implied' items rest control) = false

  -- whether a parameter of a DO statement has one, which may be left out
  abbrev pub increment_has_meaning : Option Expr → Bool
  increment_has_meaning None = true
  increment_has_meaning (Some increment) = expr_has_meaning increment

  -- whether the control of a DO statement has one: its variable is an INTEGER variable
  abbrev pub control_has_meaning : LoopControl → Bool
  control_has_meaning control =
      is_integer_variable (entity_in layout.entities unit control.variable) && (expr_has_meaning control.first && (expr_has_meaning control.last && increment_has_meaning control.increment))

  -- whether a statement has one. PROGRAM and the specification statements take no step; DATA, unit headings of subprograms
  -- and all other statements have none yet
  abbrev pub statement_has_meaning : Stmt → Bool
  statement_has_meaning (stmt.Assign target value) = target_has_meaning target && expr_has_meaning value
  statement_has_meaning (stmt.Do terminal control) = control_has_meaning control
  statement_has_meaning stmt.Continue = true
  statement_has_meaning stmt.Return = false
  statement_has_meaning stmt.Else = false
  statement_has_meaning stmt.EndIf = false
  statement_has_meaning stmt.End = true
  statement_has_meaning (stmt.Stop code) = false
  statement_has_meaning (stmt.Goto label) = false
  statement_has_meaning (stmt.ComputedGoto labels index) = false
  statement_has_meaning (stmt.ArithmeticIf value negative zeroth positive) = false
  statement_has_meaning (stmt.LogicalIf' condition pointer inner) = false
  statement_has_meaning (stmt.BlockIf condition) = false
  statement_has_meaning (stmt.ElseIf condition) = false
  statement_has_meaning (stmt.Call name args) = false
  statement_has_meaning (stmt.Print items) = list_all item_has_meaning items
  statement_has_meaning (stmt.Read items) = false
  statement_has_meaning (stmt.Program name) = true
  statement_has_meaning (stmt.Subroutine name dummies) = false
  statement_has_meaning (stmt.Function typ name dummies) = false
  statement_has_meaning (stmt.Declare typ entities) = true
  statement_has_meaning (stmt.Dimension arrays) = true
  statement_has_meaning (stmt.Common groups) = true
  statement_has_meaning (stmt.Equivalence groups) = true
  statement_has_meaning (stmt.Parameter constants) = true
  statement_has_meaning (stmt.Implicit rules) = true
  statement_has_meaning (stmt.Save entries) = true
  statement_has_meaning (stmt.Init groups) = false
