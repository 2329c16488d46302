-- What a single statement is to its unit (ANSI X3.9-1978, sections 7, 11 and 15).
use Rattle.std.specs.Prelude.{ℕ, Bool, true, false, List, Option, None, Some}
use Rattle.f77_ast.specs.declared.stmt.Stmt.{Stmt, out-Stmt}
use Rattle.f77_ast.specs.declared.stmt.Stmt.TheOpen.{Stmt-F}
use Rattle.f77_ast.specs.declared.stmt.Stmt.TheOpen as layer
use Rattle.f77_ast.specs.declared.stmt.Stmt as stmt

-- whether a statement is executable: all but PROGRAM, SUBROUTINE, FUNCTION, the specification statements and DATA
-- (section 7)
abbrev pub is_executable : Stmt → Bool
is_executable (stmt.Assign target value) = true
is_executable (stmt.Do terminal control) = true
is_executable stmt.Continue = true
is_executable stmt.Return = true
is_executable stmt.Else = true
is_executable stmt.EndIf = true
is_executable stmt.End = true
is_executable (stmt.Stop code) = true
is_executable (stmt.Goto label) = true
is_executable (stmt.ComputedGoto labels index) = true
is_executable (stmt.ArithmeticIf value negative zeroth positive) = true
is_executable (stmt.LogicalIf' condition pointer inner) = true
is_executable (stmt.BlockIf condition) = true
is_executable (stmt.ElseIf condition) = true
is_executable (stmt.Call name args) = true
is_executable (stmt.Print items) = true
is_executable (stmt.Read items) = true
is_executable (stmt.Program name) = false
is_executable (stmt.Subroutine name dummies) = false
is_executable (stmt.Function typ name dummies) = false
is_executable (stmt.Declare typ entities) = false
is_executable (stmt.Dimension arrays) = false
is_executable (stmt.Common groups) = false
is_executable (stmt.Equivalence groups) = false
is_executable (stmt.Parameter constants) = false
is_executable (stmt.Implicit rules) = false
is_executable (stmt.Save entries) = false
is_executable (stmt.Init groups) = false

-- whether a statement may be the terminal statement of a DO-loop: it is executable, and no unconditional GO TO, arithmetic
-- IF, block IF, ELSE IF, ELSE, END IF, RETURN, STOP, END or DO (section 11.10)
abbrev pub may_end_range : Stmt → Bool
may_end_range (stmt.Assign target value) = true
may_end_range (stmt.Do terminal control) = false
may_end_range stmt.Continue = true
may_end_range stmt.Return = false
may_end_range stmt.Else = false
may_end_range stmt.EndIf = false
may_end_range stmt.End = false
may_end_range (stmt.Stop code) = false
may_end_range (stmt.Goto label) = false
may_end_range (stmt.ComputedGoto labels index) = true
may_end_range (stmt.ArithmeticIf value negative zeroth positive) = false
may_end_range (stmt.LogicalIf' condition pointer inner) = true
may_end_range (stmt.BlockIf condition) = false
may_end_range (stmt.ElseIf condition) = false
may_end_range (stmt.Call name args) = true
may_end_range (stmt.Print items) = true
may_end_range (stmt.Read items) = true
may_end_range (stmt.Program name) = false
may_end_range (stmt.Subroutine name dummies) = false
may_end_range (stmt.Function typ name dummies) = false
may_end_range (stmt.Declare typ entities) = false
may_end_range (stmt.Dimension arrays) = false
may_end_range (stmt.Common groups) = false
may_end_range (stmt.Equivalence groups) = false
may_end_range (stmt.Parameter constants) = false
may_end_range (stmt.Implicit rules) = false
may_end_range (stmt.Save entries) = false
may_end_range (stmt.Init groups) = false

-- the label of the terminal statement that a DO statement names
abbrev pub terminal_label : Stmt → Option ℕ
terminal_label (stmt.Assign target value) = None
terminal_label (stmt.Do terminal control) = Some terminal
terminal_label stmt.Continue = None
terminal_label stmt.Return = None
terminal_label stmt.Else = None
terminal_label stmt.EndIf = None
terminal_label stmt.End = None
terminal_label (stmt.Stop code) = None
terminal_label (stmt.Goto label) = None
terminal_label (stmt.ComputedGoto labels index) = None
terminal_label (stmt.ArithmeticIf value negative zeroth positive) = None
terminal_label (stmt.LogicalIf' condition pointer inner) = None
terminal_label (stmt.BlockIf condition) = None
terminal_label (stmt.ElseIf condition) = None
terminal_label (stmt.Call name args) = None
terminal_label (stmt.Print items) = None
terminal_label (stmt.Read items) = None
terminal_label (stmt.Program name) = None
terminal_label (stmt.Subroutine name dummies) = None
terminal_label (stmt.Function typ name dummies) = None
terminal_label (stmt.Declare typ entities) = None
terminal_label (stmt.Dimension arrays) = None
terminal_label (stmt.Common groups) = None
terminal_label (stmt.Equivalence groups) = None
terminal_label (stmt.Parameter constants) = None
terminal_label (stmt.Implicit rules) = None
terminal_label (stmt.Save entries) = None
terminal_label (stmt.Init groups) = None

-- a closed loop is one that may be judged and run in any order: it shows nothing and isn't left on the way. A statement
-- is a barrier where no loop with it in its range is closed: READ, PRINT, WRITE, STOP and RETURN. Calls, jumps and
-- logical IF have no words here yet
abbrev pub is_barrier : Stmt → Bool
is_barrier (stmt.Assign target value) = false
is_barrier (stmt.Do terminal control) = false
is_barrier stmt.Continue = false
is_barrier stmt.Return = true
is_barrier stmt.Else = false
is_barrier stmt.EndIf = false
is_barrier stmt.End = false
is_barrier (stmt.Stop code) = true
is_barrier (stmt.Goto label) = false
is_barrier (stmt.ComputedGoto labels index) = false
is_barrier (stmt.ArithmeticIf value negative zeroth positive) = false
is_barrier (stmt.LogicalIf' condition pointer inner) = false
is_barrier (stmt.BlockIf condition) = false
is_barrier (stmt.ElseIf condition) = false
is_barrier (stmt.Call name args) = false
is_barrier (stmt.Print items) = true
is_barrier (stmt.Read items) = true
is_barrier (stmt.Program name) = false
is_barrier (stmt.Subroutine name dummies) = false
is_barrier (stmt.Function typ name dummies) = false
is_barrier (stmt.Declare typ entities) = false
is_barrier (stmt.Dimension arrays) = false
is_barrier (stmt.Common groups) = false
is_barrier (stmt.Equivalence groups) = false
is_barrier (stmt.Parameter constants) = false
is_barrier (stmt.Implicit rules) = false
is_barrier (stmt.Save entries) = false
is_barrier (stmt.Init groups) = false

-- the statement that a logical IF holds; of any other statement it itself
abbrev pub held_or : Stmt → Stmt-F Stmt → Stmt
held_or s (layer.Assign target value) = s
held_or s (layer.Do terminal control) = s
held_or s layer.Continue = s
held_or s layer.Return = s
held_or s layer.Else = s
held_or s layer.EndIf = s
held_or s layer.End = s
held_or s (layer.Stop code) = s
held_or s (layer.Goto label) = s
held_or s (layer.ComputedGoto labels index) = s
held_or s (layer.ArithmeticIf value negative zeroth positive) = s
held_or s (layer.LogicalIf condition inner) = inner
held_or s (layer.BlockIf condition) = s
held_or s (layer.ElseIf condition) = s
held_or s (layer.Call name args) = s
held_or s (layer.Print items) = s
held_or s (layer.Read items) = s
held_or s (layer.Program name) = s
held_or s (layer.Subroutine name dummies) = s
held_or s (layer.Function typ name dummies) = s
held_or s (layer.Declare typ entities) = s
held_or s (layer.Dimension arrays) = s
held_or s (layer.Common groups) = s
held_or s (layer.Equivalence groups) = s
held_or s (layer.Parameter constants) = s
held_or s (layer.Implicit rules) = s
held_or s (layer.Save entries) = s
held_or s (layer.Init groups) = s

abbrev pub inner_of : Stmt → Stmt
inner_of s = held_or s (out-Stmt s)

-- whether a statement is END
abbrev pub is_end : Stmt → Bool
is_end (stmt.Assign target value) = false
is_end (stmt.Do terminal control) = false
is_end stmt.Continue = false
is_end stmt.Return = false
is_end stmt.Else = false
is_end stmt.EndIf = false
is_end stmt.End = true
is_end (stmt.Stop code) = false
is_end (stmt.Goto label) = false
is_end (stmt.ComputedGoto labels index) = false
is_end (stmt.ArithmeticIf value negative zeroth positive) = false
is_end (stmt.LogicalIf' condition pointer inner) = false
is_end (stmt.BlockIf condition) = false
is_end (stmt.ElseIf condition) = false
is_end (stmt.Call name args) = false
is_end (stmt.Print items) = false
is_end (stmt.Read items) = false
is_end (stmt.Program name) = false
is_end (stmt.Subroutine name dummies) = false
is_end (stmt.Function typ name dummies) = false
is_end (stmt.Declare typ entities) = false
is_end (stmt.Dimension arrays) = false
is_end (stmt.Common groups) = false
is_end (stmt.Equivalence groups) = false
is_end (stmt.Parameter constants) = false
is_end (stmt.Implicit rules) = false
is_end (stmt.Save entries) = false
is_end (stmt.Init groups) = false

-- whether a statement is SUBROUTINE or FUNCTION
abbrev pub begins_subprogram : Stmt → Bool
begins_subprogram (stmt.Assign target value) = false
begins_subprogram (stmt.Do terminal control) = false
begins_subprogram stmt.Continue = false
begins_subprogram stmt.Return = false
begins_subprogram stmt.Else = false
begins_subprogram stmt.EndIf = false
begins_subprogram stmt.End = false
begins_subprogram (stmt.Stop code) = false
begins_subprogram (stmt.Goto label) = false
begins_subprogram (stmt.ComputedGoto labels index) = false
begins_subprogram (stmt.ArithmeticIf value negative zeroth positive) = false
begins_subprogram (stmt.LogicalIf' condition pointer inner) = false
begins_subprogram (stmt.BlockIf condition) = false
begins_subprogram (stmt.ElseIf condition) = false
begins_subprogram (stmt.Call name args) = false
begins_subprogram (stmt.Print items) = false
begins_subprogram (stmt.Read items) = false
begins_subprogram (stmt.Program name) = false
begins_subprogram (stmt.Subroutine name dummies) = true
begins_subprogram (stmt.Function typ name dummies) = true
begins_subprogram (stmt.Declare typ entities) = false
begins_subprogram (stmt.Dimension arrays) = false
begins_subprogram (stmt.Common groups) = false
begins_subprogram (stmt.Equivalence groups) = false
begins_subprogram (stmt.Parameter constants) = false
begins_subprogram (stmt.Implicit rules) = false
begins_subprogram (stmt.Save entries) = false
begins_subprogram (stmt.Init groups) = false

-- the name that PROGRAM, SUBROUTINE or FUNCTION gives a unit
abbrev pub header_name : Stmt → Option (List ℕ)
header_name (stmt.Assign target value) = None
header_name (stmt.Do terminal control) = None
header_name stmt.Continue = None
header_name stmt.Return = None
header_name stmt.Else = None
header_name stmt.EndIf = None
header_name stmt.End = None
header_name (stmt.Stop code) = None
header_name (stmt.Goto label) = None
header_name (stmt.ComputedGoto labels index) = None
header_name (stmt.ArithmeticIf value negative zeroth positive) = None
header_name (stmt.LogicalIf' condition pointer inner) = None
header_name (stmt.BlockIf condition) = None
header_name (stmt.ElseIf condition) = None
header_name (stmt.Call name args) = None
header_name (stmt.Print items) = None
header_name (stmt.Read items) = None
header_name (stmt.Program name) = Some name
header_name (stmt.Subroutine name dummies) = Some name
header_name (stmt.Function typ name dummies) = Some name
header_name (stmt.Declare typ entities) = None
header_name (stmt.Dimension arrays) = None
header_name (stmt.Common groups) = None
header_name (stmt.Equivalence groups) = None
header_name (stmt.Parameter constants) = None
header_name (stmt.Implicit rules) = None
header_name (stmt.Save entries) = None
header_name (stmt.Init groups) = None
