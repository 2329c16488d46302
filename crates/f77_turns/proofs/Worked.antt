-- Cases worked by hand: a loop from 5 down by 2, of three iterations, as the only one of a frame; the same in another loop with the same
-- terminal statement; a logical IF; and ordinals.
use Rattle.std.proofs.Common.{◌≡◌, ℕ, pos, negsuc, List, [], ◌∷◌, None, Some, refl, sym, ap, ◌∙◌, arith}
use Rattle.f77_ast.specs.declared.program.Program.{Program}
use Rattle.f77_ast.specs.declared.step.Control.TheVariants.{Turned}
use Rattle.f77_ast.specs.declared.expr.Expr.{Expr}
use Rattle.f77_ast.specs.declared.stmt.Item.{Item}
use Rattle.f77_ast.specs.declared.stmt.Stmt.{Stmt, Print, out-roll-Stmt, roll-Stmt}
use Rattle.f77_ast.specs.declared.stmt.Stmt.TheOpen.{Stmt-F}
use Rattle.f77_ast.specs.declared.stmt.Stmt.TheOpen as layer
use Rattle.f77_ast.specs.declared.stmt.Stmt.TheVariants as stmt
use Rattle.f77_ast.specs.declared.stmt.Stmt.TheVariants.{rolls-LogicalIf}
use Rattle.f77_structure.specs.Statements.{held_or}
use Rattle.f77_structure.specs.Units.{listing_of, next_place}
use Rattle.f77_meaning.specs.Event.{writes}
use Rattle.f77_meaning.specs.Process.{ActiveLoop, Frame, at_increment, at_inner, at_statement, come_to, entering, process_with}
use Rattle.f77_meaning.specs.Step.{event, once_done}
use Rattle.f77_turns.specs.Kept.{statement_at_stage}
use Rattle.f77_turns.specs.Ordinals.{AllDiffer, ordinals_of}
use Rattle.f77_turns.specs.Turns.{at_iteration}

-- the fourth loop of a file: its range is the places 3 to 7, and its variable is at address 9
a_loop : (ordinal done : ℕ) → ActiveLoop
a_loop ordinal done = record { ordinal = ordinal; from = 3; last = 7; variable = 9; first = pos 5; increment = negsuc 1; count = 3; done = done }

-- a frame of unit 0 at place 7, where it increments these loops
a_frame : List ActiveLoop → Frame
a_frame loops = come_to 7 at_increment loops (entering 0 7 at_increment [])

module _ (program : Program) where
  -- two iterations have ended with this turn: the variable is 5 - 2 * 2 = 1, and the third iteration begins
  second_turn : event program (process_with [] (a_frame (a_loop 4 1 ∷ []) ∷ [])) ≡ writes 9 (pos 1) None (Some (Turned 4))
  unfolding a_loop a_frame
  second_turn = refl

  third_begins : once_done program (process_with [] (a_frame (a_loop 4 1 ∷ []) ∷ [])) ≡ process_with [] (at_iteration 2 (a_loop 4 0) [] (a_frame []) ∷ [])
  unfolding a_loop a_frame
  third_begins = refl

  -- all three have ended with this one: the variable is 5 - 3 * 2 = -1, and control goes on after the loop
  third_turn : event program (process_with [] (a_frame (a_loop 4 2 ∷ []) ∷ [])) ≡ writes 9 (negsuc 0) None (Some (Turned 4))
  unfolding a_loop a_frame
  third_turn = refl

  loop_is_over : once_done program (process_with [] (a_frame (a_loop 4 2 ∷ []) ∷ [])) ≡ process_with [] (come_to (next_place (listing_of program.units 0) 7) at_statement [] (a_frame []) ∷ [])
  unfolding a_loop a_frame
  loop_is_over = refl

  -- the same in a loop with the same terminal statement, one iteration of which has ended: its second one ends only with the next
  -- step, the turn of that loop
  inner_is_over : once_done program (process_with [] (a_frame (a_loop 4 2 ∷ a_loop 3 1 ∷ []) ∷ [])) ≡ process_with [] (a_frame (a_loop 3 1 ∷ []) ∷ [])
  unfolding a_loop a_frame
  inner_is_over = refl

  outer_turns : once_done program (process_with [] (a_frame (a_loop 3 1 ∷ []) ∷ [])) ≡ process_with [] (at_iteration 2 (a_loop 3 0) [] (a_frame []) ∷ [])
  unfolding a_loop a_frame
  outer_turns = refl

-- two frames with three loops
three_ordinals : ordinals_of (a_frame (a_loop 2 0 ∷ a_loop 1 0 ∷ []) ∷ a_frame (a_loop 3 0 ∷ []) ∷ []) ≡ 2 ∷ 1 ∷ 3 ∷ []
unfolding a_loop a_frame
three_ordinals = refl

-- inside a logical IF the steps are those of the statement that it holds
held_print : (condition : Expr) (items : List Item) → statement_at_stage at_inner (stmt.LogicalIf condition (Print items)) ≡ Some (Print items)
held_print condition items =
    let layered : Stmt-F Stmt = layer.LogicalIf condition (Print items) in
    ap (statement_at_stage at_inner) (sym (rolls-LogicalIf condition (Print items))) ∙ ap (λ l. Some (held_or (roll-Stmt layered) l)) (out-roll-Stmt layered)

-- two equal numbers aren't all different
not_twice : AllDiffer (2 ∷ 1 ∷ 2 ∷ []) → ⊥
not_twice all = all.0 1 0 (omega arith) refl
