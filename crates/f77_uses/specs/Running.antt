-- The variables of DO-loops in their ranges (ANSI X3.9-1978, section 11.10.5).
use Rattle.std.specs.Prelude.{ℕ, suc, Bool, true, false, ◌&&◌, ◌||◌, nat_le, List, [], ◌∷◌, take, Option, None, Some}
use Rattle.std.specs.List.{list_any}
use Rattle.f77_ast.specs.declared.program.Listed.{Listed}
use Rattle.f77_ast.specs.declared.stmt.Stmt.{Stmt}
use Rattle.f77_ast.specs.declared.stmt.Stmt as stmt
use Rattle.f77_leaves.specs.Declarations.{same_name}
use Rattle.f77_leaves.specs.Leaves.{leaves_of}
use Rattle.f77_structure.specs.Stretches.{range_at}
use Rattle.f77_leaves.specs.declared.leaves.Mention.{Mention}
use Rattle.f77_leaves.specs.declared.leaves.Role.{Role}
use Rattle.f77_leaves.specs.declared.leaves.Role.TheVariants as role
use Rattle.f77_structure.specs.declared.stretches.Stretch.{Stretch}
use Rattle.f77_uses.specs.Uses.{on_name}

-- the variable of a DO statement
abbrev pub do_variable : Stmt → Option (List ℕ)
do_variable (stmt.Assign target value) = None
do_variable (stmt.Do terminal control) = Some control.variable
do_variable stmt.Continue = None
do_variable stmt.Return = None
do_variable stmt.Else = None
do_variable stmt.EndIf = None
do_variable stmt.End = None
do_variable (stmt.Stop code) = None
do_variable (stmt.Goto label) = None
do_variable (stmt.ComputedGoto labels index) = None
do_variable (stmt.ArithmeticIf value negative zeroth positive) = None
do_variable (stmt.LogicalIf' condition pointer inner) = None
do_variable (stmt.BlockIf condition) = None
do_variable (stmt.ElseIf condition) = None
do_variable (stmt.Call name args) = None
do_variable (stmt.Print items) = None
do_variable (stmt.Read items) = None
do_variable (stmt.Program name) = None
do_variable (stmt.Subroutine name dummies) = None
do_variable (stmt.Function t name dummies) = None
do_variable (stmt.Declare t entities) = None
do_variable (stmt.Dimension arrays) = None
do_variable (stmt.Common groups) = None
do_variable (stmt.Equivalence groups) = None
do_variable (stmt.Parameter constants) = None
do_variable (stmt.Implicit rules) = None
do_variable (stmt.Save entries) = None
do_variable (stmt.Init groups) = None

abbrev pub is_variable : (name : List ℕ) → Option (List ℕ) → Bool
is_variable name None = false
is_variable name (Some variable) = same_name name variable

-- whether a range that may be there reaches a place
abbrev pub reaches : (place : ℕ) → Option Stretch → Bool
reaches place None = false
reaches place (Some range) = nat_le place range.last

-- whether a name is the variable of a DO statement at a place, whose range reaches a later one
abbrev pub is_run_by : (unit : List Listed) → (name : List ℕ) → (later : ℕ) → (place : ℕ) → Listed → Bool
is_run_by unit name later place listed = is_variable name (do_variable listed.stmt) && reaches later (range_at unit place listed)

abbrev pub is_run_among : (unit : List Listed) → (name : List ℕ) → (later : ℕ) → (place : ℕ) → List Listed → Bool
is_run_among unit name later place [] = false
is_run_among unit name later place (listed ∷ following) = is_run_by unit name later place listed || is_run_among unit name later (suc place) following

-- whether a name is the variable of a DO statement before a place, in whose range the place is
abbrev pub is_running : (unit : List Listed) → (place : ℕ) → (name : List ℕ) → Bool
is_running unit place name = is_run_among unit name place 0 (take place unit)

-- what a statement gives a value, by name: the target of an assignment, an item of READ, the variable of a DO or implied DO
abbrev pub is_assigned : Role → Bool
is_assigned role.Heading = false
is_assigned role.Function = false
is_assigned role.Dummy = false
is_assigned role.Typed = false
is_assigned role.Shaped = false
is_assigned role.Common = false
is_assigned role.Block = false
is_assigned role.Member = false
is_assigned role.Filled = false
is_assigned role.Constant = false
is_assigned role.Repeat = false
is_assigned role.Datum = false
is_assigned role.Saved = false
is_assigned role.Called = false
is_assigned role.Target = true
is_assigned role.Input = true
is_assigned role.Control = true
is_assigned role.Operand = false

abbrev pub assigns_running : (unit : List Listed) → (place : ℕ) → Mention → Bool
assigns_running unit place mention = is_assigned mention.role && is_running unit place mention.name

-- DoVariableAssigned: in the range of a DO, an assignment, READ, DO or implied DO that gives its variable a value, also inside
-- a logical IF
abbrev pub assigns_a_running : (unit : List Listed) → ℕ → Listed → Bool
assigns_a_running unit place listed = list_any (on_name (assigns_running unit place)) (leaves_of listed.stmt)
