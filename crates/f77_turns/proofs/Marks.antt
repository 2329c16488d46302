-- The marks of loops on writes.
use Rattle.std.proofs.Common.{◌≡◌, ℕ, ℤ, Bool, true, false, List, ◌∷◌, Option, None, Some, refl, sym, ap, ◌∙◌}
use Rattle.hyb_base.specs.declared.ops.RedOp.{RedOp}
use Rattle.f77_ast.specs.declared.program.Loop.{Loop}
use Rattle.f77_ast.specs.declared.program.Program.{Program}
use Rattle.f77_ast.specs.declared.step.Control.{Control}
use Rattle.f77_ast.specs.declared.step.Control.TheVariants.{Began, Turned}
use Rattle.f77_ast.specs.declared.stmt.LoopControl.{LoopControl}
use Rattle.f77_ast.specs.declared.stmt.Stmt.{Stmt, Assign, Continue, Do, Print}
use Rattle.f77_meaning.specs.Assign.{Written, written_of}
use Rattle.f77_meaning.specs.Demand.{Demand, gives, wants, calls, fails, setting_of}
use Rattle.f77_meaning.specs.Do.{Begun, active_from, begun_of, next_value}
use Rattle.f77_meaning.specs.Event.{writes}
use Rattle.f77_meaning.specs.Print.{Printed, asks, enters, whole, stops, printed_of}
use Rattle.f77_meaning.specs.Process.{Frame, Process, is_blocked, process_with}
use Rattle.f77_meaning.specs.Step.{Move, writing, ending, do_move, done_by, event, event_of, listing_in, loop_of_do, move_of, past_do, past_increment, past_statement, print_move, resumed_by, statement_move, unless_blocked, write_move}
use Rattle.f77_turns.specs.Turns.{Turn, Beginning, LeadsTo, BeginningsAreMarked, TurnsAreMarked}
use Rattle.f77_turns.proofs.Positions.{Position, nowhere, stating, turning, Stating, position, move_of_statement, move_of_turn}

-- a move that is no marked write
abbrev pub IsUnmarked : Move → Type 0
IsUnmarked move = (address : ℕ) (value : ℤ) (by : Option RedOp) (control : Control) → event_of move ≡ writes address value by (Some control) → ⊥

ending_unmarked : IsUnmarked ending
ending_unmarked address value by control e = absurd (cc)

module _ (program : Program) (frame : Frame) (below : List Frame) (line : List ℕ) where
  write_unmarked : (d : Demand Written) → IsUnmarked (write_move program frame below line d)
  write_unmarked (gives w rest) address value by control e = none (is_blocked w.address (frame ∷ below)) e
    where
      none : (blocked : Bool) → event_of (unless_blocked blocked (writing w.address w.value w.by None (process_with line (past_statement program frame ∷ below)))) ≡ writes address value by (Some control) → ⊥
      none true e = absurd (cc)
      none false e = let c : writes w.address w.value w.by None ≡ writes address value by (Some control) = e in let n : None ≡ Some control = cc in absurd (cc)
  write_unmarked (wants a m) address value by control e = absurd (cc)
  write_unmarked (calls unit bindings) address value by control e = absurd (cc)
  write_unmarked (fails fault) address value by control e = absurd (cc)

  print_unmarked : (q : Printed) → IsUnmarked (print_move program frame below line q)
  print_unmarked (asks a m q) address value by control e = absurd (cc)
  print_unmarked (enters unit bindings q) address value by control e = absurd (cc)
  print_unmarked (whole text) address value by control e = absurd (cc)
  print_unmarked (stops fault) address value by control e = absurd (cc)

module _ (program : Program) (p : Process) where
  -- a marked write is one of a turn, or of a DO statement
  pub data Marked (control : Control) : Type 0 where
    by_turn : (t : Turn p) → Turned t.loop.ordinal ≡ control → Marked control
    by_do : (b : Beginning program p) → Began b.loop.ordinal ≡ control → Marked control

  -- the move of a DO statement that begins
  begins : (b : Beginning program p) → move_of program p ≡ writing b.begun.variable b.begun.first None (Some (Began b.loop.ordinal)) (process_with p.line (past_do program (active_from (listing_in program b.frame) b.frame.at b.loop b.begun) b.frame ∷ b.below))
  begins b =
      move_of_statement program p b.frame b.below b.frames b.listed b.stage b.here ∙ ap (statement_move program b.frame b.below p.line) b.is_do
      ∙ ap (λ o. do_move program b.frame b.below p.line o (begun_of (setting_of program b.frame) b.control b.frame.answers)) b.its
      ∙ ap (do_move program b.frame b.below p.line (Some b.loop)) b.known
      ∙ ap (λ blocked. unless_blocked blocked (writing b.begun.variable b.begun.first None (Some (Began b.loop.ordinal)) (process_with p.line (past_do program (active_from (listing_in program b.frame) b.frame.at b.loop b.begun) b.frame ∷ b.below))))
      (sym (ap (is_blocked b.begun.variable) b.frames) ∙ b.free)

  -- the move of a turn
  pub turns : (t : Turn p) → move_of program p ≡ writing t.loop.variable (next_value t.loop) None (Some (Turned t.loop.ordinal)) (process_with p.line (past_increment program (t.loop ∷ t.outer) t.frame ∷ t.below))
  turns t = move_of_turn program p t.frame t.below t.frames (t.loop ∷ t.outer) t.stage t.active

  -- what a write leads to
  pub leads : (address : ℕ) (value : ℤ) (by : Option RedOp) (control : Option Control) (frames : List Frame) → move_of program p ≡ writing address value by control (process_with p.line frames) → LeadsTo program p frames
  leads address value by control frames e = record { done = ap (λ move. done_by move p) e; resumed = λ answer. ap (λ move. resumed_by move p answer) e }

  module _ (address : ℕ) (value : ℤ) (by : Option RedOp) (control : Control) where
    unmarked : (move : Move) → move_of program p ≡ move → IsUnmarked move → event program p ≡ writes address value by (Some control) → Marked control
    unmarked move e none w = absurd (none address value by control (sym (ap event_of e) ∙ w))

    begun_marked : (s : Stating program p) (terminal : ℕ) (c : LoopControl) → s.listed.stmt ≡ Do terminal c → (o : Option Loop) → loop_of_do program s.frame.unit s.frame.at ≡ o → (d : Demand Begun) → begun_of (setting_of program s.frame) c s.frame.answers ≡ d →
        event_of (do_move program s.frame s.below p.line o d) ≡ writes address value by (Some control) → Marked control
    begun_marked s terminal c is None its d known w = absurd (cc)
    begun_marked s terminal c is (Some loop) its (gives b rest) known w = free (is_blocked b.variable (s.frame ∷ s.below)) refl w
      where
        free : (blocked : Bool) → is_blocked b.variable (s.frame ∷ s.below) ≡ blocked → event_of (unless_blocked blocked (writing b.variable b.first None (Some (Began loop.ordinal)) (process_with p.line (past_do program (active_from (listing_in program s.frame) s.frame.at loop b) s.frame ∷ s.below)))) ≡ writes address value by (Some control) → Marked control
        free true f w = absurd (cc)
        free false f w =
            let same : writes b.variable b.first None (Some (Began loop.ordinal)) ≡ writes address value by (Some control) = w in
            by_do
            (record {
              frame = s.frame;
              below = s.below;
              listed = s.listed;
              terminal = terminal;
              control = c;
              loop = loop;
              begun = b;
              rest = rest;
              frames = s.frames;
              stage = s.stage;
              here = s.here;
              is_do = is;
              its = its;
              known = known;
              free = ap (is_blocked b.variable) s.frames ∙ f;
            })
            cc
    begun_marked s terminal c is (Some loop) its (wants a m) known w = absurd (cc)
    begun_marked s terminal c is (Some loop) its (calls unit bindings) known w = absurd (cc)
    begun_marked s terminal c is (Some loop) its (fails fault) known w = absurd (cc)

    stated : (s : Stating program p) (stmt : Stmt) → s.listed.stmt ≡ stmt → move_of program p ≡ statement_move program s.frame s.below p.line stmt → event program p ≡ writes address value by (Some control) → Marked control
    stated s (Assign target v) is e w =
        unmarked (statement_move program s.frame s.below p.line (Assign target v)) e (write_unmarked program s.frame s.below p.line (written_of (setting_of program s.frame) target v s.frame.answers)) w
    stated s (Do terminal c) is e w =
        begun_marked s terminal c is (loop_of_do program s.frame.unit s.frame.at) refl (begun_of (setting_of program s.frame) c s.frame.answers) refl (sym (ap event_of e) ∙ w)
    stated s Continue is e w = let c = sym (ap event_of e) ∙ w in absurd (cc)
    stated s (Print items) is e w =
        unmarked (statement_move program s.frame s.below p.line (Print items)) e (print_unmarked program s.frame s.below p.line (printed_of (setting_of program s.frame) items s.frame p.line)) w
    stated s _ is e w = unmarked ending e ending_unmarked w

    marked_at : Position program p → event program p ≡ writes address value by (Some control) → Marked control
    marked_at (nowhere e) w = unmarked ending e ending_unmarked w
    marked_at (stating s e) w = stated s s.listed.stmt refl e w
    marked_at (turning t e) w =
        let c : writes t.loop.variable (next_value t.loop) None (Some (Turned t.loop.ordinal)) ≡ writes address value by (Some control) = sym (ap event_of e) ∙ w in
        by_turn t cc

  turn_of : (ordinal : ℕ) → Marked (Turned ordinal) → (t : Turn p) × (t.loop.ordinal ≡ ordinal)
  turn_of ordinal (by_turn t e) = (t, cc)
  turn_of ordinal (by_do b e) = absurd (cc)

  beginning_of : (ordinal : ℕ) → Marked (Began ordinal) → (b : Beginning program p) × (b.loop.ordinal ≡ ordinal)
  beginning_of ordinal (by_turn t e) = absurd (cc)
  beginning_of ordinal (by_do b e) = (b, cc)

pub turns_marked : TurnsAreMarked
turns_marked program p = record {
  marked = λ t. ap event_of (turns program p t);
  turns = λ address value by ordinal w. turn_of program p ordinal (marked_at program p address value by (Turned ordinal) (position program p) w);
}

pub beginnings_marked : BeginningsAreMarked
beginnings_marked program p = record {
  marked = λ b. ap event_of (begins program p b);
  leads = λ b. leads program p b.begun.variable b.begun.first None (Some (Began b.loop.ordinal)) (past_do program (active_from (listing_in program b.frame) b.frame.at b.loop b.begun) b.frame ∷ b.below) (begins program p b);
  begins = λ address value by ordinal w. beginning_of program p ordinal (marked_at program p address value by (Began ordinal) (position program p) w);
}
