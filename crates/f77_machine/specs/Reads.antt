-- How many answers the reads of an item or a statement need at most.
use Rattle.std.specs.Prelude.{◌≡◌, ℕ, ◌+◌, ◌≤◌, max, List, [], ◌∷◌, All, Option, None, Some, slice_get}
use Rattle.f77_ast.specs.declared.expr.Expr.{Expr}
use Rattle.f77_ast.specs.declared.expr.Expr.TheFolds.{fold-Expr, fold-Ref}
use Rattle.f77_ast.specs.declared.expr.Expr.TheOpen.{Expr-F, Part-F, Ref-F}
use Rattle.f77_ast.specs.declared.expr.Expr.TheOpen as layer
use Rattle.f77_ast.specs.declared.expr.Ref.{Ref}
use Rattle.f77_ast.specs.declared.program.Entity.{Entity}
use Rattle.f77_ast.specs.declared.program.Layout.{Layout}
use Rattle.f77_ast.specs.declared.program.Listed.{Listed}
use Rattle.f77_ast.specs.declared.program.Program.{Program}
use Rattle.f77_ast.specs.declared.program.Unit.{Unit as ProgramUnit}
use Rattle.f77_ast.specs.declared.stmt.Item.{Item}
use Rattle.f77_ast.specs.declared.stmt.Item as item
use Rattle.f77_ast.specs.declared.stmt.LoopControl.{LoopControl}
use Rattle.f77_ast.specs.declared.stmt.Stmt.{Stmt}
use Rattle.f77_ast.specs.declared.stmt.Stmt as stmt
use Rattle.f77_structure.specs.Arrays.{array_named}

-- one level: each reference reads one address, after what its subscripts read
abbrev pub reads_step : Expr-F ℕ (Unit {0}) ℕ → ℕ
reads_step (layer.Int number) = 0
reads_step (layer.Truth value) = 0
reads_step (layer.Chars text) = 0
reads_step (layer.Ref ref) = 1 + ref
reads_step (layer.Unary op operand) = operand
reads_step (layer.Binary op left right) = left + right
reads_step (layer.Paren inner) = inner

abbrev pub part_reads : Part-F ℕ (Unit {0}) ℕ → Unit {0}
part_reads part = tt

-- the subscripts of a reference: none, or one; more have no meaning yet
abbrev pub args_reads : Option (List ℕ) → ℕ
args_reads None = 0
args_reads (Some []) = 0
args_reads (Some (subscript ∷ [])) = subscript
args_reads (Some (subscript ∷ second ∷ others)) = 0

abbrev pub ref_step : Ref-F ℕ (Unit {0}) ℕ → ℕ
ref_step ref = args_reads ref.args

-- how many addresses an expression reads at most
abbrev pub reads_in : Expr → ℕ
reads_in = fold-Expr ℕ (Unit {0}) ℕ reads_step part_reads ref_step

-- how many the subscripts of a reference read at most
abbrev pub subscript_reads : Ref → ℕ
subscript_reads = fold-Ref ℕ (Unit {0}) ℕ reads_step part_reads ref_step

-- an item that is an array reads an element at a time, each of which is an item of its own
abbrev pub array_or_value_reads : Option Entity → ℕ → ℕ
array_or_value_reads (Some array) reads = 1
array_or_value_reads None reads = reads

-- an item needs answers to its own reads alone; an implied DO has no meaning yet
abbrev pub item_reads : Layout → (unit : ℕ) → Item → ℕ
item_reads layout unit (item.Plain expr) = array_or_value_reads (array_named layout unit expr) (reads_in expr)
item_reads layout unit (item.Implied' items rest control) = 0

-- the most that one of some items needs
abbrev pub most_reads : Layout → (unit : ℕ) → List Item → ℕ
most_reads layout unit [] = 0
most_reads layout unit (item ∷ items) = max (item_reads layout unit item) (most_reads layout unit items)

-- a parameter of a DO statement that may be left out
abbrev pub increment_reads : Option Expr → ℕ
increment_reads None = 0
increment_reads (Some increment) = reads_in increment

-- the control of a DO statement
abbrev pub control_reads : LoopControl → ℕ
control_reads control = reads_in control.first + (reads_in control.last + increment_reads control.increment)

-- a statement of a unit; those without a meaning read nothing
abbrev pub statement_reads : Layout → (unit : ℕ) → Stmt → ℕ
statement_reads layout unit (stmt.Assign target value) = subscript_reads target + reads_in value
statement_reads layout unit (stmt.Do terminal control) = control_reads control
statement_reads layout unit stmt.Continue = 0
statement_reads layout unit stmt.Return = 0
statement_reads layout unit stmt.Else = 0
statement_reads layout unit stmt.EndIf = 0
statement_reads layout unit stmt.End = 0
statement_reads layout unit (stmt.Stop code) = 0
statement_reads layout unit (stmt.Goto label) = 0
statement_reads layout unit (stmt.ComputedGoto labels index) = 0
statement_reads layout unit (stmt.ArithmeticIf value negative zeroth positive) = 0
statement_reads layout unit (stmt.LogicalIf' condition pointer inner) = 0
statement_reads layout unit (stmt.BlockIf condition) = 0
statement_reads layout unit (stmt.ElseIf condition) = 0
statement_reads layout unit (stmt.Call name args) = 0
statement_reads layout unit (stmt.Print items) = most_reads layout unit items
statement_reads layout unit (stmt.Read items) = 0
statement_reads layout unit (stmt.Program name) = 0
statement_reads layout unit (stmt.Subroutine name dummies) = 0
statement_reads layout unit (stmt.Function typ name dummies) = 0
statement_reads layout unit (stmt.Declare typ entities) = 0
statement_reads layout unit (stmt.Dimension arrays) = 0
statement_reads layout unit (stmt.Common groups) = 0
statement_reads layout unit (stmt.Equivalence groups) = 0
statement_reads layout unit (stmt.Parameter constants) = 0
statement_reads layout unit (stmt.Implicit rules) = 0
statement_reads layout unit (stmt.Save entries) = 0
statement_reads layout unit (stmt.Init groups) = 0

-- none of some statements of a unit needs more answers than there is room for
abbrev pub AllHaveRoom : Layout → (unit : ℕ) → List Listed → (room : ℕ) → Type 0
AllHaveRoom layout unit listing room = All (λ listed. statement_reads layout unit listed.stmt ≤ room) listing

-- no statement of a program does
abbrev pub HasRoom : Program → (room : ℕ) → Type 0
HasRoom program room = (u : ℕ) (unit : ProgramUnit) → slice_get program.units u ≡ Some unit → AllHaveRoom program.layout u unit.listing room
