-- That code is the code of a unit, said by what it does.
use Rattle.std.specs.Prelude.{◌≡◌, ℕ, zero, suc, ◌+◌, ◌<◌, ◌≤◌, pos, Bool, true, false, not, List, [], ◌∷◌, drop, length, Some, IsTrue, unsigned_abs, slice_get, slice_index_or}
use Rattle.std.specs.List.{prefix_len}
use Rattle.f77_ast.specs.declared.code.Code.{Code}
use Rattle.f77_ast.specs.declared.code.Instr.{Instr}
use Rattle.f77_ast.specs.declared.code.Instr.TheVariants as instr
use Rattle.f77_ast.specs.declared.program.Listed.{Listed}
use Rattle.f77_ast.specs.declared.program.Loop.{Loop}
use Rattle.f77_ast.specs.declared.program.Program.{Program}
use Rattle.f77_ast.specs.declared.stmt.Stmt.{Stmt}
use Rattle.f77_ast.specs.declared.stmt.Stmt as stmt
use Rattle.f77_structure.specs.HasMeaning.{statement_has_meaning}
use Rattle.f77_structure.specs.Needs.{need_of}
use Rattle.f77_structure.specs.Ranges.{IsDo, terminal_at}
use Rattle.f77_structure.specs.Statements.{is_executable}
use Rattle.f77_structure.specs.Units.{listing_of, next_place}
use Rattle.f77_meaning.specs.Height.{FallBelow, HoldsAtMost, turn_ordinals}
use Rattle.f77_meaning.specs.Perform.{performed}
use Rattle.f77_meaning.specs.Process.{ActiveLoop, Frame, listed_of}
use Rattle.f77_meaning.specs.Step.{increment_move, loop_of_do, statement_move}

-- whether an instruction ends an item of PRINT
abbrev pub ends_item : Instr → Bool
ends_item (instr.Lit n) = false
ends_item (instr.Truth b) = false
ends_item (instr.Text n) = false
ends_item (instr.Entity n) = false
ends_item (instr.Index n) = false
ends_item instr.Slice = false
ends_item instr.SliceFrom = false
ends_item (instr.Unary op) = false
ends_item (instr.Binary op) = false
ends_item (instr.Intrinsic f n) = false
ends_item instr.Bind = false
ends_item (instr.Enter u n) = false
ends_item (instr.Fix n) = false
ends_item instr.Load = false
ends_item instr.Store = false
ends_item (instr.Accumulate op) = false
ends_item (instr.Branch t) = false
ends_item instr.When = false
ends_item (instr.Jump t) = false
ends_item (instr.Choose t n) = false
ends_item (instr.Sign t) = false
ends_item instr.Move = false
ends_item (instr.Count d) = false
ends_item (instr.Next d) = false
ends_item (instr.CountItems t) = false
ends_item (instr.NextItems t) = false
ends_item instr.Emit = true
ends_item instr.EmitArray = true
ends_item instr.Print = false
ends_item instr.Take = false
ends_item instr.TakeArray = false
ends_item instr.Leave = false
ends_item instr.Stop = false

-- whether it ends an iteration of a DO
abbrev pub ends_iteration : Instr → Bool
ends_iteration (instr.Lit n) = false
ends_iteration (instr.Truth b) = false
ends_iteration (instr.Text n) = false
ends_iteration (instr.Entity n) = false
ends_iteration (instr.Index n) = false
ends_iteration instr.Slice = false
ends_iteration instr.SliceFrom = false
ends_iteration (instr.Unary op) = false
ends_iteration (instr.Binary op) = false
ends_iteration (instr.Intrinsic f n) = false
ends_iteration instr.Bind = false
ends_iteration (instr.Enter u n) = false
ends_iteration (instr.Fix n) = false
ends_iteration instr.Load = false
ends_iteration instr.Store = false
ends_iteration (instr.Accumulate op) = false
ends_iteration (instr.Branch t) = false
ends_iteration instr.When = false
ends_iteration (instr.Jump t) = false
ends_iteration (instr.Choose t n) = false
ends_iteration (instr.Sign t) = false
ends_iteration instr.Move = false
ends_iteration (instr.Count d) = false
ends_iteration (instr.Next d) = true
ends_iteration (instr.CountItems t) = false
ends_iteration (instr.NextItems t) = false
ends_iteration instr.Emit = false
ends_iteration instr.EmitArray = false
ends_iteration instr.Print = false
ends_iteration instr.Take = false
ends_iteration instr.TakeArray = false
ends_iteration instr.Leave = false
ends_iteration instr.Stop = false

-- the instructions from the one at which the code of a statement begins
abbrev pub code_at : Code → (at : ℕ) → List Instr
code_at code at = drop (unsigned_abs (slice_index_or code.starts at (pos 0))) code.instrs

-- the instructions after the next one that ends an item
abbrev pub after_item_end : List Instr → List Instr
after_item_end is = drop (prefix_len (λ i. not (ends_item i)) is + 1) is

-- the instructions after so many items
abbrev pub after_item_ends : (items : ℕ) → List Instr → List Instr
after_item_ends zero is = is
after_item_ends (suc items) is = after_item_ends items (after_item_end is)

-- the instructions from the next one on that ends an iteration
abbrev pub from_iteration_end : List Instr → List Instr
from_iteration_end is = drop (prefix_len (λ i. not (ends_iteration i)) is) is

-- how many items a statement has: those of PRINT, as no other has a meaning yet
abbrev pub item_count : Stmt → ℕ
item_count (stmt.Assign target value) = 0
item_count (stmt.Do terminal control) = 0
item_count stmt.Continue = 0
item_count stmt.Return = 0
item_count stmt.Else = 0
item_count stmt.EndIf = 0
item_count stmt.End = 0
item_count (stmt.Stop code) = 0
item_count (stmt.Goto label) = 0
item_count (stmt.ComputedGoto labels index) = 0
item_count (stmt.ArithmeticIf value negative zeroth positive) = 0
item_count (stmt.LogicalIf' condition pointer inner) = 0
item_count (stmt.BlockIf condition) = 0
item_count (stmt.ElseIf condition) = 0
item_count (stmt.Call name args) = 0
item_count (stmt.Print items) = length items
item_count (stmt.Read items) = 0
item_count (stmt.Program name) = 0
item_count (stmt.Subroutine name dummies) = 0
item_count (stmt.Function typ name dummies) = 0
item_count (stmt.Declare typ entities) = 0
item_count (stmt.Dimension arrays) = 0
item_count (stmt.Common groups) = 0
item_count (stmt.Equivalence groups) = 0
item_count (stmt.Parameter constants) = 0
item_count (stmt.Implicit rules) = 0
item_count (stmt.Save entries) = 0
item_count (stmt.Init groups) = 0

-- a frame of a unit is at a statement that is executable and has a meaning, with no more items done than that has
pub record IsAt (program : Program) (unit : ℕ) (frame : Frame) (listed : Listed) : Type 0 where
  pub same : frame.unit ≡ unit
  pub stands : listed_of program frame ≡ Some listed
  pub executable : IsTrue (is_executable listed.stmt)
  pub meaning : IsTrue (statement_has_meaning program.units program.layout frame.unit listed.stmt)
  pub items : frame.items ≤ item_count listed.stmt

-- a frame of a unit is at the terminal statement of its innermost active loop, which is that of a DO statement of the unit
pub record IsTurning (program : Program) (unit : ℕ) (frame : Frame) (active : ActiveLoop) (outer : List ActiveLoop) : Type 0 where
  pub same : frame.unit ≡ unit
  pub innermost : frame.active ≡ active ∷ outer
  pub at : ℕ
  pub label : ℕ
  pub begins : IsDo (listing_of program.units unit) at label
  pub its : Loop
  pub found : loop_of_do program unit at ≡ Some its
  pub ordinal : active.ordinal ≡ its.ordinal
  pub terminal : frame.at ≡ terminal_at (listing_of program.units unit) at label
  pub listed : Listed
  pub stands : listed_of program frame ≡ Some listed
  pub executable : IsTrue (is_executable listed.stmt)

-- Code is that of a unit where, from the instruction at which a statement begins, after the items that are done, on no operand and on
-- every list of answers, it comes to the step to which the statement's trees come, without lacking an operand or leaving one, and holds no
-- more than the statement's operand need and one (the increment that DO leaves out); where at the end of an iteration, from the first
-- instruction on that ends one, it comes to that step, and the ends of inner loops come before those of outer ones; and where control goes
-- on at the places that it names.
pub record IsCodeOf (program : Program) (unit : ℕ) (code : Code) : Type 0 where
  pub starts : length code.starts ≡ length (listing_of program.units unit)
  pub nexts : (at : ℕ) → at < length (listing_of program.units unit) → slice_get code.nexts at ≡ Some (pos (next_place (listing_of program.units unit) at))
  pub steps : (frame : Frame) (below : List Frame) (line : List ℕ) (listed : Listed) → IsAt program unit frame listed →
      performed program code.texts below (after_item_ends frame.items (code_at code frame.at)) [] frame.answers (record { frame = frame; line = line })
      ≡ Some (statement_move program frame below line listed.stmt)
  pub turns : (frame : Frame) (below : List Frame) (line : List ℕ) (active : ActiveLoop) (outer : List ActiveLoop) → IsTurning program unit frame active outer →
      performed program code.texts below (from_iteration_end (code_at code frame.at)) [] [] (record { frame = frame; line = line })
      ≡ Some (increment_move program frame below line frame.active)
  pub inner_first : (at : ℕ) (listed : Listed) → slice_get (listing_of program.units unit) at ≡ Some listed → IsTrue (is_executable listed.stmt) → FallBelow (length program.loops + 1) (turn_ordinals (from_iteration_end (code_at code at)))
  pub room : (at : ℕ) (listed : Listed) → slice_get (listing_of program.units unit) at ≡ Some listed → IsTrue (is_executable listed.stmt) → IsTrue (statement_has_meaning program.units program.layout unit listed.stmt) →
      HoldsAtMost (need_of listed.stmt + 1) (code_at code at) 0
