-- The labels that statements name (ANSI X3.9-1978, section 3.4).
use Rattle.std.specs.Prelude.{ℕ, suc, ◌==◌, ◌&&◌, Bool, false, List, [], ◌∷◌, ◌++◌, Option, None, Some, if◌then◌else◌}
use Rattle.std.specs.List.{list_any, position_or_len}
use Rattle.std.specs.Option.{option_to_list}
use Rattle.f77_ast.specs.declared.program.Listed.{Listed}
use Rattle.f77_ast.specs.declared.stmt.Stmt.{Stmt}
use Rattle.f77_ast.specs.declared.stmt.Stmt as stmt
use Rattle.f77_structure.specs.Statements.{terminal_label, is_executable, inner_of}

-- whether this label is there
abbrev pub is_label : ℕ → Option ℕ → Bool
is_label label None = false
is_label label (Some other) = label == other

-- whether a statement is executable and has this label
abbrev pub has_label : ℕ → Listed → Bool
has_label label listed = is_label label listed.card.label && is_executable listed.stmt

-- how many of some statements stand before the first executable one with a label; all where there is none
abbrev pub distance_to : ℕ → List Listed → ℕ
distance_to label listing = position_or_len (has_label label) listing

-- the labels to which GO TO, a computed GO TO or an arithmetic IF goes on
abbrev pub gone_to : Stmt → List ℕ
gone_to (stmt.Assign target value) = []
gone_to (stmt.Do terminal control) = []
gone_to stmt.Continue = []
gone_to stmt.Return = []
gone_to stmt.Else = []
gone_to stmt.EndIf = []
gone_to stmt.End = []
gone_to (stmt.Stop code) = []
gone_to (stmt.Goto label) = label ∷ []
gone_to (stmt.ComputedGoto labels index) = labels
gone_to (stmt.ArithmeticIf value negative zeroth positive) = negative ∷ zeroth ∷ positive ∷ []
gone_to (stmt.LogicalIf' condition pointer inner) = []
gone_to (stmt.BlockIf condition) = []
gone_to (stmt.ElseIf condition) = []
gone_to (stmt.Call name args) = []
gone_to (stmt.Print items) = []
gone_to (stmt.Read items) = []
gone_to (stmt.Program name) = []
gone_to (stmt.Subroutine name dummies) = []
gone_to (stmt.Function typ name dummies) = []
gone_to (stmt.Declare typ entities) = []
gone_to (stmt.Dimension arrays) = []
gone_to (stmt.Common groups) = []
gone_to (stmt.Equivalence groups) = []
gone_to (stmt.Parameter constants) = []
gone_to (stmt.Implicit rules) = []
gone_to (stmt.Save entries) = []
gone_to (stmt.Init groups) = []

-- the same, also where a logical IF holds the statement
abbrev pub jumps_of : Stmt → List ℕ
jumps_of s = gone_to (inner_of s)

-- all labels that a statement names: those to which it goes on, and that of a DO statement's terminal statement
abbrev pub labels_of : Stmt → List ℕ
labels_of s = option_to_list (terminal_label s) ++ jumps_of s

-- the place of the first executable statement with a label among some statements, the first of which stands at this place
abbrev pub target_from : (place label : ℕ) → List Listed → Option ℕ
target_from place label [] = None
target_from place label (listed ∷ following) = if has_label label listed then Some place else target_from (suc place) label following

-- a label means the first executable statement of its unit that has it
abbrev pub target_in : (label : ℕ) → List Listed → Option ℕ
target_in label listing = target_from 0 label listing

-- whether some statement has a label, executable or not
abbrev pub has_any : Option ℕ → List Listed → Bool
has_any None listing = false
has_any (Some label) listing = list_any (λ other. is_label label other.card.label) listing
