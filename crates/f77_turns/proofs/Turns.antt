-- What a turn leaves of its frame.
use Rattle.std.proofs.Common.{◌≡◌, ℕ, suc, ◌<◌, Bool, true, false, cond, List, ◌∷◌, None, Some, refl, subst, arith}
use Rattle.std.specs.Prelude.{nat_lt}
use Rattle.f77_ast.specs.declared.program.Program.{Program}
use Rattle.f77_ast.specs.declared.step.Control.TheVariants.{Turned}
use Rattle.f77_structure.specs.Units.{next_place}
use Rattle.f77_meaning.specs.Do.{next_value, turned}
use Rattle.f77_meaning.specs.Process.{ActiveLoop, Frame, at_statement, at_increment, come_to}
use Rattle.f77_meaning.specs.Sound.{AreActive, AreFrames}
use Rattle.f77_meaning.specs.Step.{is_terminal, listing_in, past, past_increment}
use Rattle.f77_turns.specs.Turns.{IsAfterTurn, goes_on, is_over, TurnsClear}
use Rattle.f77_turns.proofs.Marks.{leads, turns}

-- where the last iteration has ended, the frame goes on without the loop
over : (program : Program) (at : ℕ) (loop : ActiveLoop) (outer : List ActiveLoop) (frame : Frame) → suc loop.done ≡ loop.count → IsAfterTurn frame loop outer (past program at outer frame)
over program at loop outer frame none = by (is_terminal at outer)
  where
    by : (b : Bool) → IsAfterTurn frame loop outer (cond b (come_to at at_increment outer frame) (come_to (next_place (listing_in program frame) at) at_statement outer frame))
    by true = is_over none at at_increment refl
    by false = is_over none (next_place (listing_in program frame) at) at_statement refl

after_turn : (program : Program) (loop : ActiveLoop) (outer : List ActiveLoop) (frame : Frame) → loop.done < loop.count → IsAfterTurn frame loop outer (past_increment program (loop ∷ outer) frame)
after_turn program loop outer frame left = by (nat_lt (suc loop.done) loop.count) refl
  where
    less : (a b : ℕ) → nat_lt a b ≡ true → a < b
    less a b h = grind (arith, h)

    last : (a b : ℕ) → a < b → nat_lt (suc a) b ≡ false → suc a ≡ b
    last a b l h = grind (arith, l, h)

    by : (b : Bool) → nat_lt (suc loop.done) loop.count ≡ b → IsAfterTurn frame loop outer (cond b (come_to loop.from at_statement (turned loop ∷ outer) frame) (past program frame.at outer frame))
    by true e = goes_on (less (suc loop.done) loop.count e) refl
    by false e = over program frame.at loop outer frame (last loop.done loop.count left e)

pub turns_clear : TurnsClear
turns_clear program p sound is t = record {
  leads = leads program p t.loop.variable (next_value t.loop) None (Some (Turned t.loop.ordinal)) (past_increment program (t.loop ∷ t.outer) t.frame ∷ t.below) (turns program p t);
  after = after_turn program t.loop t.outer t.frame actives.0.numbers.left;
}
  where
    frames : AreFrames program (t.frame ∷ t.below)
    frames = subst (AreFrames program) t.frames is.frames

    actives : AreActive program t.frame.unit t.frame.at t.frame.at (t.loop ∷ t.outer)
    actives = subst (AreActive program t.frame.unit t.frame.at t.frame.at) t.active frames.0.active
