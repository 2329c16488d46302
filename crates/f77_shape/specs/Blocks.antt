-- Block IFs: IF with THEN, ELSE IF, ELSE and END IF (ANSI X3.9-1978, sections 11.6 to 11.9).
use Rattle.std.specs.Prelude.{ℕ, suc, ◌-◌, ◌==◌, Bool, true, false, List, [], ◌∷◌, take, Option, None, Some}
use Rattle.f77_ast.specs.declared.program.Listed.{Listed}
use Rattle.f77_ast.specs.declared.stmt.Stmt.{Stmt}
use Rattle.f77_structure.specs.declared.blocks.IfPart.{IfPart}
use Rattle.f77_structure.specs.declared.blocks.IfPart.TheVariants as part
use Rattle.f77_structure.specs.Blocks.{if_part}

-- the IFs that are open behind a statement, the innermost first, and whether the ELSE of each has stood: IF with THEN opens
-- one, END IF closes the innermost one
abbrev pub opened_by_part : Option IfPart → List Bool → List Bool
opened_by_part None ifs = ifs
opened_by_part (Some part.If) ifs = false ∷ ifs
opened_by_part (Some part.ElseIf) ifs = ifs
opened_by_part (Some part.Else) [] = []
opened_by_part (Some part.Else) (has_else ∷ ifs) = true ∷ ifs
opened_by_part (Some part.EndIf) [] = []
opened_by_part (Some part.EndIf) (has_else ∷ ifs) = ifs

abbrev pub opened_by : Stmt → List Bool → List Bool
opened_by s ifs = opened_by_part (if_part s) ifs

-- the same behind some statements
abbrev pub open_after : List Bool → List Listed → List Bool
open_after ifs [] = ifs
open_after ifs (listed ∷ following) = open_after (opened_by listed.stmt ifs) following

-- the IFs of a unit that are open at a place
abbrev pub open_at : (unit : List Listed) → (place : ℕ) → List Bool
open_at unit place = open_after [] (take place unit)

-- whether no IF is open
abbrev pub none_open : List Bool → Bool
none_open [] = true
none_open (has_else ∷ ifs) = false

-- whether no IF is open, or the innermost one's ELSE has stood
abbrev pub takes_no_else : List Bool → Bool
takes_no_else [] = true
takes_no_else (has_else ∷ ifs) = has_else

-- whether a statement lacks its IF, or stands behind the ELSE of its IF
abbrev pub is_misplaced_by : (ifs : List Bool) → Option IfPart → Bool
is_misplaced_by ifs None = false
is_misplaced_by ifs (Some part.If) = false
is_misplaced_by ifs (Some part.ElseIf) = takes_no_else ifs
is_misplaced_by ifs (Some part.Else) = takes_no_else ifs
is_misplaced_by ifs (Some part.EndIf) = none_open ifs

abbrev pub is_misplaced : (ifs : List Bool) → Stmt → Bool
is_misplaced ifs s = is_misplaced_by ifs (if_part s)

-- how many END IFs of some statements have their IF before these
abbrev pub ends_count_by : Option IfPart → ℕ → ℕ
ends_count_by None count = count
ends_count_by (Some part.If) count = count - 1
ends_count_by (Some part.ElseIf) count = count
ends_count_by (Some part.Else) count = count
ends_count_by (Some part.EndIf) count = suc count

abbrev pub ends_count : Stmt → ℕ → ℕ
ends_count s count = ends_count_by (if_part s) count

abbrev pub ends_in : List Listed → ℕ
ends_in [] = 0
ends_in (listed ∷ following) = ends_count listed.stmt (ends_in following)

-- IfNesting: an ELSE IF, ELSE or END IF without its IF, an ELSE IF or ELSE after an ELSE of the same IF
abbrev pub is_misplaced_part : (unit : List Listed) → ℕ → Listed → List Listed → Bool
is_misplaced_part unit place listed following = is_misplaced (open_at unit place) listed.stmt

-- IfNesting: an IF without its END IF
abbrev pub lacks_end_by : Option IfPart → (ends : ℕ) → Bool
lacks_end_by None ends = false
lacks_end_by (Some part.If) ends = ends == 0
lacks_end_by (Some part.ElseIf) ends = false
lacks_end_by (Some part.Else) ends = false
lacks_end_by (Some part.EndIf) ends = false

abbrev pub lacks_end : Stmt → (ends : ℕ) → Bool
lacks_end s ends = lacks_end_by (if_part s) ends

abbrev pub is_unended : ℕ → Listed → List Listed → Bool
is_unended place listed following = lacks_end listed.stmt (ends_in following)
