-- The code of statements.
use Rattle.std.specs.Prelude.{ℕ, ◌+◌, ◌-◌, ◌==◌, ◌++◌, pos, Bool, List, [], ◌∷◌, Option, None, Some, if◌then◌else◌}
use Rattle.std.specs.List.{flat_map}
use Rattle.std.specs.Option.{is_some}
use Rattle.f77_ast.specs.Entity.{number_in}
use Rattle.f77_ast.specs.declared.code.Instr.{Instr}
use Rattle.f77_ast.specs.declared.code.Instr.TheVariants.{Lit, Entity, Store, Count, Next, Emit, EmitArray}
use Rattle.f77_ast.specs.declared.code.Instr.TheVariants as instr
use Rattle.f77_ast.specs.declared.expr.Expr.{Expr, out-Expr}
use Rattle.f77_ast.specs.declared.expr.Expr.TheOpen.{Expr-F}
use Rattle.f77_ast.specs.declared.expr.Expr.TheOpen as layer
use Rattle.f77_ast.specs.declared.expr.Part.{Part}
use Rattle.f77_ast.specs.declared.expr.Ref.{Ref}
use Rattle.f77_ast.specs.declared.program.Layout.{Layout}
use Rattle.f77_ast.specs.declared.program.Loop.{Loop}
use Rattle.f77_ast.specs.declared.stmt.Item.{Item}
use Rattle.f77_ast.specs.declared.stmt.Item as item
use Rattle.f77_ast.specs.declared.stmt.LoopControl.{LoopControl}
use Rattle.f77_ast.specs.declared.stmt.Stmt.{Stmt}
use Rattle.f77_ast.specs.declared.stmt.Stmt as stmt
use Rattle.f77_structure.specs.Arrays.{array_named}
use Rattle.f77_structure.specs.Loops.{loop_with_range_from}
use Rattle.f77_structure.specs.Statements.{is_executable}
use Rattle.f77_code.specs.Accumulations.{Joining, accumulation_code, joining_code}
use Rattle.f77_code.specs.Exprs.{expr_code, ref_code}

-- whether a loop ends at a statement of the file
abbrev pub ends_at : (number : ℕ) → Loop → Bool
ends_at number loop = loop.from + (loop.last - loop.from) == number

-- the ends of the iterations of the loops that end at a statement, the last loop first, which is the innermost one
abbrev pub turn_if : Bool → Loop → List Instr
turn_if ends loop = if ends then Next loop.ordinal ∷ [] else []

abbrev pub turns_code : List Loop → (number : ℕ) → List Instr
turns_code [] number = []
turns_code (loop ∷ loops) number = turns_code loops number ++ turn_if (ends_at number loop) loop

-- the place of an expression that is a reference
abbrev pub layer_place : Layout → (unit : ℕ) → Expr-F Expr Part Ref → List Instr
layer_place layout unit (layer.Int number) = []
layer_place layout unit (layer.Truth holds) = []
layer_place layout unit (layer.Chars text) = []
layer_place layout unit (layer.Ref ref) = ref_code layout unit ref
layer_place layout unit (layer.Unary op operand) = []
layer_place layout unit (layer.Binary op left right) = []
layer_place layout unit (layer.Paren inner) = []

module _ (layout : Layout) (unit : ℕ) where
  -- the value of the right side, and the write; of an accumulation what v is joined with, its read and the write
  abbrev pub assigned_code : Option Joining → Expr → List Instr
  assigned_code None value = expr_code layout unit value ++ Store ∷ []
  assigned_code (Some joining) value = accumulation_code (Some joining)

  -- an assignment: what is assigned to comes first
  abbrev pub assign_code : Ref → Expr → List Instr
  assign_code target value = ref_code layout unit target ++ assigned_code (joining_code layout unit target value) value

  -- the increment, 1 where it is left out
  abbrev pub increment_code : Option Expr → List Instr
  increment_code None = Lit (pos 1) ∷ []
  increment_code (Some increment) = expr_code layout unit increment

  -- the three parameters of a DO
  abbrev pub parameters_code : LoopControl → List Instr
  parameters_code control = expr_code layout unit control.first ++ expr_code layout unit control.last ++ increment_code control.increment

  -- a DO, by the number of its variable, and its loop. Each DO has one; where none is known, its tree ends
  -- the run. A name of nothing has no meaning
  abbrev pub do_code : LoopControl → Option ℕ → Option Loop → List Instr
  do_code control None loop = instr.Stop ∷ []
  do_code control (Some number) None = instr.Stop ∷ []
  do_code control (Some number) (Some loop) = Entity number ∷ parameters_code control ++ Count loop.ordinal ∷ []

  -- an expression that is an item: the elements of an array, or a value
  abbrev pub plain_code : Expr → List Instr
  plain_code expr = if is_some (array_named layout unit expr) then layer_place layout unit (out-Expr expr) ++ EmitArray ∷ [] else expr_code layout unit expr ++ Emit ∷ []

  -- an item of PRINT; an implied DO has no meaning yet
  abbrev pub item_code : Item → List Instr
  item_code (item.Plain expr) = plain_code expr
  item_code (item.Implied' items rest control) = []

  abbrev pub items_code : List Item → List Instr
  items_code items = flat_map item_code items

module _ (loops : List Loop) (layout : Layout) (unit : ℕ) where
  -- the code of statement `number` of the file, but for the ends of iterations. END ends the run, as no unit is called yet, and so does a
  -- statement that has no meaning yet, as its tree does. What isn't executable has no code
  abbrev pub own_code : (number : ℕ) → Stmt → List Instr
  own_code number (stmt.Assign target value) = assign_code layout unit target value
  own_code number (stmt.Do terminal control) = do_code layout unit control (number_in layout.entities unit control.variable) (loop_with_range_from loops (number + 1))
  own_code number stmt.Continue = instr.Move ∷ []
  own_code number stmt.Return = instr.Stop ∷ []
  own_code number stmt.Else = instr.Stop ∷ []
  own_code number stmt.EndIf = instr.Stop ∷ []
  own_code number stmt.End = instr.Stop ∷ []
  own_code number (stmt.Stop code) = instr.Stop ∷ []
  own_code number (stmt.Goto label) = instr.Stop ∷ []
  own_code number (stmt.ComputedGoto labels index) = instr.Stop ∷ []
  own_code number (stmt.ArithmeticIf value negative zeroth positive) = instr.Stop ∷ []
  own_code number (stmt.LogicalIf' condition pointer inner) = instr.Stop ∷ []
  own_code number (stmt.BlockIf condition) = instr.Stop ∷ []
  own_code number (stmt.ElseIf condition) = instr.Stop ∷ []
  own_code number (stmt.Call name args) = instr.Stop ∷ []
  own_code number (stmt.Print items) = items_code layout unit items ++ instr.Print ∷ []
  own_code number (stmt.Read items) = instr.Stop ∷ []
  own_code number (stmt.Program name) = []
  own_code number (stmt.Subroutine name dummies) = []
  own_code number (stmt.Function typ name dummies) = []
  own_code number (stmt.Declare typ entities) = []
  own_code number (stmt.Dimension arrays) = []
  own_code number (stmt.Common groups) = []
  own_code number (stmt.Equivalence groups) = []
  own_code number (stmt.Parameter constants) = []
  own_code number (stmt.Implicit rules) = []
  own_code number (stmt.Save entries) = []
  own_code number (stmt.Init groups) = []

  -- the same, with the ends of iterations
  abbrev pub executed_code : (number : ℕ) → Stmt → List Instr
  executed_code number stmt = own_code number stmt ++ turns_code loops number

  abbrev pub statement_code : (number : ℕ) → Stmt → List Instr
  statement_code number stmt = if is_executable stmt then executed_code number stmt else []
