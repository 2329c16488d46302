-- IF blocks, by the places of their statements in a unit, counted from 0 (ANSI X3.9-1978, sections 11.6 to 11.9).
use Rattle.std.specs.Prelude.{ℕ, suc, ◌-◌, Bool, true, false, List, [], ◌∷◌, ◌++◌, Option, None, Some, if◌then◌else◌}
use Rattle.std.specs.Option.{option_to_list}
use Rattle.f77_ast.specs.declared.program.Listed.{Listed}
use Rattle.f77_ast.specs.declared.stmt.Stmt.{Stmt}
use Rattle.f77_ast.specs.declared.stmt.Stmt as stmt
use Rattle.f77_structure.specs.declared.blocks.IfPart.{IfPart}
use Rattle.f77_structure.specs.declared.blocks.IfPart.TheVariants as part
use Rattle.f77_structure.specs.declared.stretches.Stretch.{Stretch}

-- which statement of a block IF a statement is; none of any other
abbrev pub if_part : Stmt → Option IfPart
if_part (stmt.Assign target value) = None
if_part (stmt.Do terminal control) = None
if_part stmt.Continue = None
if_part stmt.Return = None
if_part stmt.Else = Some part.Else
if_part stmt.EndIf = Some part.EndIf
if_part stmt.End = None
if_part (stmt.Stop code) = None
if_part (stmt.Goto label) = None
if_part (stmt.ComputedGoto labels index) = None
if_part (stmt.ArithmeticIf value negative zeroth positive) = None
if_part (stmt.LogicalIf' condition pointer inner) = None
if_part (stmt.BlockIf condition) = Some part.If
if_part (stmt.ElseIf condition) = Some part.ElseIf
if_part (stmt.Call name args) = None
if_part (stmt.Print items) = None
if_part (stmt.Read items) = None
if_part (stmt.Program name) = None
if_part (stmt.Subroutine name dummies) = None
if_part (stmt.Function typ name dummies) = None
if_part (stmt.Declare typ entities) = None
if_part (stmt.Dimension arrays) = None
if_part (stmt.Common groups) = None
if_part (stmt.Equivalence groups) = None
if_part (stmt.Parameter constants) = None
if_part (stmt.Implicit rules) = None
if_part (stmt.Save entries) = None
if_part (stmt.Init groups) = None

-- for each IF that is open behind a statement, the innermost first, the place of its last part so far: IF with THEN opens an
-- IF, ELSE IF and ELSE are the next part of the innermost one, END IF closes it. Without an open IF they are part of none; an
-- ELSE IF or ELSE after the ELSE of its IF is a part of it all the same
abbrev pub parts_by : Option IfPart → (place : ℕ) → List ℕ → List ℕ
parts_by None place parts = parts
parts_by (Some part.If) place parts = place ∷ parts
parts_by (Some part.ElseIf) place [] = []
parts_by (Some part.ElseIf) place (before ∷ parts) = place ∷ parts
parts_by (Some part.Else) place [] = []
parts_by (Some part.Else) place (before ∷ parts) = place ∷ parts
parts_by (Some part.EndIf) place [] = []
parts_by (Some part.EndIf) place (before ∷ parts) = parts

abbrev pub parts_behind : Stmt → (place : ℕ) → List ℕ → List ℕ
parts_behind s place parts = parts_by (if_part s) place parts

-- whether a statement ends the IF block before it: ELSE IF, ELSE or END IF
abbrev pub ends_by : Option IfPart → Bool
ends_by None = false
ends_by (Some part.If) = false
ends_by (Some part.ElseIf) = true
ends_by (Some part.Else) = true
ends_by (Some part.EndIf) = true

abbrev pub ends_block : Stmt → Bool
ends_block s = ends_by (if_part s)

-- an IF block is the statements, none or more, between an IF with THEN, an ELSE IF or an ELSE and the next ELSE IF, ELSE or
-- END IF of the same IF: the block that ends before a statement at a place, by the last parts of the IFs that are open there
abbrev pub block_before : Stmt → (place : ℕ) → (parts : List ℕ) → Option Stretch
block_before s place [] = None
block_before s place (part ∷ parts) = if ends_block s then Some (record { opens = part; last = place - 1 }) else None

abbrev pub blocks_from : (parts : List ℕ) → (place : ℕ) → List Listed → List Stretch
blocks_from parts place [] = []
blocks_from parts place (listed ∷ following) = option_to_list (block_before listed.stmt place parts) ++ blocks_from (parts_behind listed.stmt place parts) (suc place) following

-- the IF blocks of a unit, in the order in which they end
abbrev pub blocks_of : List Listed → List Stretch
blocks_of unit = blocks_from [] 0 unit
