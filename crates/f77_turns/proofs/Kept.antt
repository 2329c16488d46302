-- What a step keeps: the line but at a PRINT, and unit, bindings and bounds of each frame.
use Rattle.std.proofs.Common.{◌≡◌, ◌⊎◌, inl, inr, ℕ, suc, ◌==◌, ℤ, Bool, true, false, cond, List, ◌∷◌, map, Option, None, Some, refl, sym, ap, subst, ◌∙◌}
use Rattle.std.specs.Prelude.{nat_lt}
use Rattle.f77_ast.specs.declared.program.Loop.{Loop}
use Rattle.f77_ast.specs.declared.program.Program.{Program}
use Rattle.f77_ast.specs.declared.step.Control.TheVariants.{Began}
use Rattle.f77_ast.specs.declared.stmt.Stmt.{Stmt, Assign, Continue, Do, Print}
use Rattle.f77_structure.specs.Units.{next_place}
use Rattle.f77_meaning.specs.Assign.{Written, written_of}
use Rattle.f77_meaning.specs.Demand.{Demand, gives, wants, calls, fails, Setting, setting_of}
use Rattle.f77_meaning.specs.Do.{Begun, active_from, begun_of, turned}
use Rattle.f77_meaning.specs.Print.{Printed, asks, enters, whole, stops, printed_of}
use Rattle.f77_meaning.specs.Process.{ActiveLoop, Frame, Process, at_statement, at_increment, come_to, is_blocked, process_with}
use Rattle.f77_meaning.specs.Step.{Move, reading, writing, taking, moving, printing, ending, failing, do_move, done_by, increment_move, is_terminal, listing_in, loop_of_do, move_of, past, past_do, past_increment, past_statement, print_move, resumed_by, statement_move, unless_blocked, write_move}
use Rattle.f77_meaning.proofs.Marks.{StaysAt, Unmarked, printed_unmarked}
use Rattle.f77_turns.specs.Kept.{IsAtPrint, KeepsLine, OnlyPrintsChangeLines, StepsKeepSettings, statement_at_stage}
use Rattle.f77_turns.proofs.Positions.{Position, nowhere, stating, turning, Stating, position}

-- a move that leaves this line
abbrev Leaves : (line : List ℕ) → Move → Type 0
Leaves line (reading address by frame below text) = text ≡ line
Leaves line (writing address value by control after) = after.line ≡ line
Leaves line (taking address blocked after) = after.line ≡ line
Leaves line (moving after) = after.line ≡ line
Leaves line (printing text after) = ⊥
Leaves line ending = Unit {0}
Leaves line (failing fault) = Unit {0}

resumed_leaves : (move : Move) (p : Process) (answer : ℤ) → Leaves p.line move → (resumed_by move p answer).line ≡ p.line
resumed_leaves (reading address by frame below text) p answer h = h
resumed_leaves (writing address value by control after) p answer h = h
resumed_leaves (taking address blocked after) p answer h = h
resumed_leaves (moving after) p answer h = h
resumed_leaves (printing text after) p answer h = absurd h
resumed_leaves ending p answer h = refl
resumed_leaves (failing fault) p answer h = refl

done_leaves : (move : Move) (p : Process) → Leaves p.line move → (done_by move p).line ≡ p.line
done_leaves (reading address by frame below text) p h = refl
done_leaves (writing address value by control after) p h = h
done_leaves (taking address blocked after) p h = h
done_leaves (moving after) p h = h
done_leaves (printing text after) p h = absurd h
done_leaves ending p h = refl
done_leaves (failing fault) p h = refl

keeps_line : (program : Program) (p : Process) → Leaves p.line (move_of program p) → KeepsLine program p
keeps_line program p h = record { resumed = λ answer. resumed_leaves (move_of program p) p answer h; done = done_leaves (move_of program p) p h }

unless_leaves : (line : List ℕ) (blocked : Bool) (move : Move) → Leaves line move → Leaves line (unless_blocked blocked move)
unless_leaves line true move h = tt
unless_leaves line false move h = h

module _ (program : Program) (frame : Frame) (below : List Frame) (line : List ℕ) where
  write_leaves : (d : Demand Written) → Leaves line (write_move program frame below line d)
  write_leaves (gives w rest) = unless_leaves line (is_blocked w.address (frame ∷ below)) (writing w.address w.value w.by None (process_with line (past_statement program frame ∷ below))) refl
  write_leaves (wants address by) = refl
  write_leaves (calls unit bindings) = tt
  write_leaves (fails fault) = tt

  do_leaves : (o : Option Loop) (d : Demand Begun) → Leaves line (do_move program frame below line o d)
  do_leaves None d = tt
  do_leaves (Some loop) (gives b rest) =
      unless_leaves line (is_blocked b.variable (frame ∷ below)) (writing b.variable b.first None (Some (Began loop.ordinal)) (process_with line (past_do program (active_from (listing_in program frame) frame.at loop b) frame ∷ below))) refl
  do_leaves (Some loop) (wants address by) = refl
  do_leaves (Some loop) (calls unit bindings) = tt
  do_leaves (Some loop) (fails fault) = tt

pub only_prints_change_lines : OnlyPrintsChangeLines
only_prints_change_lines program p = by (position program p)
  where
    leaves : (move : Move) → move_of program p ≡ move → Leaves p.line move → KeepsLine program p ⊎ IsAtPrint program p
    leaves move e h = inl (keeps_line program p (subst (Leaves p.line) (sym e) h))

    stated : (s : Stating program p) (stmt : Stmt) → s.listed.stmt ≡ stmt → move_of program p ≡ statement_move program s.frame s.below p.line stmt → KeepsLine program p ⊎ IsAtPrint program p
    stated s (Assign target value) is e =
        leaves (statement_move program s.frame s.below p.line (Assign target value)) e (write_leaves program s.frame s.below p.line (written_of (setting_of program s.frame) target value s.frame.answers))
    stated s (Do terminal control) is e =
        leaves (statement_move program s.frame s.below p.line (Do terminal control)) e (do_leaves program s.frame s.below p.line (loop_of_do program s.frame.unit s.frame.at) (begun_of (setting_of program s.frame) control s.frame.answers))
    stated s Continue is e = leaves (statement_move program s.frame s.below p.line Continue) e refl
    stated s (Print items) is e =
        inr (record { frame = s.frame; below = s.below; frames = s.frames; listed = s.listed; here = s.here; items = items; is_print = ap (λ stage. statement_at_stage stage s.listed.stmt) s.stage ∙ ap Some is })
    stated s _ is e = leaves ending e tt

    by : Position program p → KeepsLine program p ⊎ IsAtPrint program p
    by (nowhere e) = leaves ending e tt
    by (stating s e) = stated s s.listed.stmt refl e
    by (turning t e) = leaves (increment_move program t.frame t.below p.line (t.loop ∷ t.outer)) e refl

module _ (program : Program) where
  -- unit, bindings and bounds of some frames
  abbrev settings : List Frame → List Setting
  settings frames = map (setting_of program) frames

  -- a move that leaves those of these frames
  abbrev Holds : (frames : List Frame) → Move → Type 0
  Holds frames (reading address by frame below text) = settings (frame ∷ below) ≡ settings frames
  Holds frames (writing address value by control after) = settings after.frames ≡ settings frames
  Holds frames (taking address blocked after) = settings after.frames ≡ settings frames
  Holds frames (moving after) = settings after.frames ≡ settings frames
  Holds frames (printing text after) = settings after.frames ≡ settings frames
  Holds frames ending = Unit {0}
  Holds frames (failing fault) = Unit {0}

  resumed_holds : (move : Move) (p : Process) (answer : ℤ) → Holds p.frames move → settings (resumed_by move p answer).frames ≡ settings p.frames
  resumed_holds (reading address by frame below text) p answer h = h
  resumed_holds (writing address value by control after) p answer h = h
  resumed_holds (taking address blocked after) p answer h = h
  resumed_holds (moving after) p answer h = h
  resumed_holds (printing text after) p answer h = h
  resumed_holds ending p answer h = refl
  resumed_holds (failing fault) p answer h = refl

  done_holds : (move : Move) (p : Process) → Holds p.frames move → settings (done_by move p).frames ≡ settings p.frames
  done_holds (reading address by frame below text) p h = refl
  done_holds (writing address value by control after) p h = h
  done_holds (taking address blocked after) p h = h
  done_holds (moving after) p h = h
  done_holds (printing text after) p h = h
  done_holds ending p h = refl
  done_holds (failing fault) p h = refl

  unless_holds : (frames : List Frame) (blocked : Bool) (move : Move) → Holds frames move → Holds frames (unless_blocked blocked move)
  unless_holds frames true move h = tt
  unless_holds frames false move h = h

  -- a frame that stays at its statement keeps its own
  stays_keeps : (frame next : Frame) → StaysAt frame next → setting_of program next ≡ setting_of program frame
  stays_keeps frame next k i = record { program = program; unit = k.unit i; bindings = k.bindings i; bounds = k.bounds i }

  -- and so does one that goes on
  past_keeps : (at : ℕ) (active : List ActiveLoop) (frame : Frame) → setting_of program (past program at active frame) ≡ setting_of program frame
  past_keeps at active frame = by (is_terminal at active)
    where
      by : (b : Bool) → setting_of program (cond b (come_to at at_increment active frame) (come_to (next_place (listing_in program frame) at) at_statement active frame)) ≡ setting_of program frame
      by true = refl
      by false = refl

  past_do_keeps : (loop : ActiveLoop) (frame : Frame) → setting_of program (past_do program loop frame) ≡ setting_of program frame
  past_do_keeps loop frame = by (loop.count == 0)
    where
      by : (b : Bool) → setting_of program (cond b (past program loop.last frame.active frame) (come_to loop.from at_statement (loop ∷ frame.active) frame)) ≡ setting_of program frame
      by true = past_keeps loop.last frame.active frame
      by false = refl

  past_increment_keeps : (loop : ActiveLoop) (outer : List ActiveLoop) (frame : Frame) → setting_of program (past_increment program (loop ∷ outer) frame) ≡ setting_of program frame
  past_increment_keeps loop outer frame = by (nat_lt (suc loop.done) loop.count)
    where
      by : (b : Bool) → setting_of program (cond b (come_to loop.from at_statement (turned loop ∷ outer) frame) (past program frame.at outer frame)) ≡ setting_of program frame
      by true = refl
      by false = past_keeps frame.at outer frame

  module _ (frame : Frame) (below : List Frame) (line : List ℕ) where
    first : (next : Frame) → setting_of program next ≡ setting_of program frame → settings (next ∷ below) ≡ settings (frame ∷ below)
    first next e = ap (λ s. s ∷ settings below) e

    here : settings (past_statement program frame ∷ below) ≡ settings (frame ∷ below)
    here = first (past_statement program frame) (past_keeps frame.at frame.active frame)

    write_holds : (d : Demand Written) → Holds (frame ∷ below) (write_move program frame below line d)
    write_holds (gives w rest) = unless_holds (frame ∷ below) (is_blocked w.address (frame ∷ below)) (writing w.address w.value w.by None (process_with line (past_statement program frame ∷ below))) here
    write_holds (wants address by) = refl
    write_holds (calls unit bindings) = tt
    write_holds (fails fault) = tt

    do_holds : (o : Option Loop) (d : Demand Begun) → Holds (frame ∷ below) (do_move program frame below line o d)
    do_holds None d = tt
    do_holds (Some loop) (gives b rest) =
        let new : ActiveLoop = active_from (listing_in program frame) frame.at loop b in
        unless_holds (frame ∷ below) (is_blocked b.variable (frame ∷ below)) (writing b.variable b.first None (Some (Began loop.ordinal)) (process_with line (past_do program new frame ∷ below))) (first (past_do program new frame) (past_do_keeps new frame))
    do_holds (Some loop) (wants address by) = refl
    do_holds (Some loop) (calls unit bindings) = tt
    do_holds (Some loop) (fails fault) = tt

    print_holds : (q : Printed) → Unmarked frame q → Holds (frame ∷ below) (print_move program frame below line q)
    print_holds (asks address by q) k = first q.frame (stays_keeps frame q.frame k.1)
    print_holds (enters unit bindings q) k = tt
    print_holds (whole text) k = here
    print_holds (stops fault) k = tt

    statement_holds : (s : Stmt) → Holds (frame ∷ below) (statement_move program frame below line s)
    statement_holds (Assign target value) = write_holds (written_of (setting_of program frame) target value frame.answers)
    statement_holds (Do terminal control) = do_holds (loop_of_do program frame.unit frame.at) (begun_of (setting_of program frame) control frame.answers)
    statement_holds Continue = here
    statement_holds (Print items) = print_holds (printed_of (setting_of program frame) items frame line) (printed_unmarked (setting_of program frame) frame items line)
    statement_holds _ = tt

  move_holds : (p : Process) → Position program p → Holds p.frames (move_of program p)
  move_holds p (nowhere e) = subst (Holds p.frames) (sym e) tt
  move_holds p (stating s e) =
      subst (Holds p.frames) (sym e) (subst (λ fs. Holds fs (statement_move program s.frame s.below p.line s.listed.stmt)) (sym s.frames) (statement_holds s.frame s.below p.line s.listed.stmt))
  move_holds p (turning t e) =
      subst (Holds p.frames) (sym e)
      (subst (λ fs. Holds fs (increment_move program t.frame t.below p.line (t.loop ∷ t.outer))) (sym t.frames)
      (first t.frame t.below p.line (past_increment program (t.loop ∷ t.outer) t.frame) (past_increment_keeps t.loop t.outer t.frame)))

pub steps_keep_settings : StepsKeepSettings
steps_keep_settings program p =
    let h : Holds program p.frames (move_of program p) = move_holds program p (position program p) in
    record { resumed = λ answer. resumed_holds program (move_of program p) p answer h; done = done_holds program (move_of program p) p h }
