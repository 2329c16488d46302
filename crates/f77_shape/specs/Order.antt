-- The order of statements in a unit (ANSI X3.9-1978, section 3.5).
use Rattle.std.specs.Prelude.{ℕ, Bool, true, false, ◌&&◌, ◌||◌, nat_lt, List, take}
use Rattle.std.specs.List.{list_any}
use Rattle.f77_ast.specs.declared.program.Listed.{Listed}
use Rattle.f77_ast.specs.declared.stmt.Stmt.{Stmt}
use Rattle.f77_ast.specs.declared.stmt.Stmt as stmt
use Rattle.f77_structure.specs.Statements.{inner_of}
use Rattle.f77_structure.specs.Units.{is_main}

-- the part of a unit in which a statement stands: 1 for PROGRAM, SUBROUTINE and FUNCTION, 2 for IMPLICIT and PARAMETER, 3
-- for the other declarations, 4 for DATA and executable statements
abbrev pub part_of : Stmt → ℕ
part_of (stmt.Program name) = 1
part_of (stmt.Subroutine name dummies) = 1
part_of (stmt.Function typ name dummies) = 1
part_of (stmt.Implicit rules) = 2
part_of (stmt.Parameter constants) = 2
part_of (stmt.Declare typ entities) = 3
part_of (stmt.Dimension arrays) = 3
part_of (stmt.Common groups) = 3
part_of (stmt.Equivalence groups) = 3
part_of (stmt.Save entries) = 3
part_of (stmt.Assign target value) = 4
part_of (stmt.Do terminal control) = 4
part_of stmt.Continue = 4
part_of stmt.Return = 4
part_of stmt.Else = 4
part_of stmt.EndIf = 4
part_of stmt.End = 4
part_of (stmt.Stop code) = 4
part_of (stmt.Goto label) = 4
part_of (stmt.ComputedGoto labels index) = 4
part_of (stmt.ArithmeticIf value negative zeroth positive) = 4
part_of (stmt.LogicalIf' condition pointer inner) = 4
part_of (stmt.BlockIf condition) = 4
part_of (stmt.ElseIf condition) = 4
part_of (stmt.Call name args) = 4
part_of (stmt.Print items) = 4
part_of (stmt.Read items) = 4
part_of (stmt.Init groups) = 4

-- the last part of which statements may stand before a statement. PROGRAM, SUBROUTINE and FUNCTION stand only first.
-- IMPLICIT stands before all declarations but PARAMETER. Declarations stand before DATA and executable statements; DATA may
-- stand anywhere after the declarations
abbrev pub follows_part : Stmt → ℕ
follows_part (stmt.Program name) = 0
follows_part (stmt.Subroutine name dummies) = 0
follows_part (stmt.Function typ name dummies) = 0
follows_part (stmt.Implicit rules) = 2
follows_part (stmt.Parameter constants) = 3
follows_part (stmt.Declare typ entities) = 3
follows_part (stmt.Dimension arrays) = 3
follows_part (stmt.Common groups) = 3
follows_part (stmt.Equivalence groups) = 3
follows_part (stmt.Save entries) = 3
follows_part (stmt.Assign target value) = 4
follows_part (stmt.Do terminal control) = 4
follows_part stmt.Continue = 4
follows_part stmt.Return = 4
follows_part stmt.Else = 4
follows_part stmt.EndIf = 4
follows_part stmt.End = 4
follows_part (stmt.Stop code) = 4
follows_part (stmt.Goto label) = 4
follows_part (stmt.ComputedGoto labels index) = 4
follows_part (stmt.ArithmeticIf value negative zeroth positive) = 4
follows_part (stmt.LogicalIf' condition pointer inner) = 4
follows_part (stmt.BlockIf condition) = 4
follows_part (stmt.ElseIf condition) = 4
follows_part (stmt.Call name args) = 4
follows_part (stmt.Print items) = 4
follows_part (stmt.Read items) = 4
follows_part (stmt.Init groups) = 4

-- whether an earlier statement stands before this one in wrong order
abbrev pub is_late : (earlier : List Listed) → Stmt → Bool
is_late earlier s = list_any (λ other. nat_lt (follows_part s) (part_of other.stmt)) earlier

-- whether a statement is RETURN, or a logical IF that holds one
abbrev pub is_return : Stmt → Bool
is_return stmt.Return = true
is_return (stmt.Assign target value) = false
is_return (stmt.Do terminal control) = false
is_return stmt.Continue = false
is_return stmt.Else = false
is_return stmt.EndIf = false
is_return stmt.End = false
is_return (stmt.Stop code) = false
is_return (stmt.Goto label) = false
is_return (stmt.ComputedGoto labels index) = false
is_return (stmt.ArithmeticIf value negative zeroth positive) = false
is_return (stmt.LogicalIf' condition pointer inner) = false
is_return (stmt.BlockIf condition) = false
is_return (stmt.ElseIf condition) = false
is_return (stmt.Call name args) = false
is_return (stmt.Print items) = false
is_return (stmt.Read items) = false
is_return (stmt.Program name) = false
is_return (stmt.Subroutine name dummies) = false
is_return (stmt.Function typ name dummies) = false
is_return (stmt.Declare typ entities) = false
is_return (stmt.Dimension arrays) = false
is_return (stmt.Common groups) = false
is_return (stmt.Equivalence groups) = false
is_return (stmt.Parameter constants) = false
is_return (stmt.Implicit rules) = false
is_return (stmt.Save entries) = false
is_return (stmt.Init groups) = false

abbrev pub has_return : Stmt → Bool
has_return s = is_return (inner_of s)

-- StatementOrder: a statement that stands behind one before which it should stand, or a RETURN in a main unit; RETURN stands only
-- in subprograms (section 15.8)
abbrev pub is_out_of_order : (unit : List Listed) → ℕ → Listed → List Listed → Bool
is_out_of_order unit place listed following = is_late (take place unit) listed.stmt || (is_main unit && has_return listed.stmt)
