-- What a step does to the frames, by the statement at which the process is.
use Rattle.std.proofs.Common.{◌≡◌, ◌≢◌, ℕ, zero, suc, ◌==◌, ◌<◌, ◌≤◌, ℤ, Bool, true, false, cond, List, ◌∷◌, Option, None, Some, refl, sym, ap, subst, ◌∙◌, arith}
use Rattle.std.specs.Prelude.{nat_lt}
use Rattle.hyb_base.specs.declared.ops.RedOp.{RedOp}
use Rattle.f77_ast.specs.declared.program.Loop.{Loop}
use Rattle.f77_ast.specs.declared.program.Program.{Program}
use Rattle.f77_ast.specs.declared.step.Control.{Control}
use Rattle.f77_ast.specs.declared.step.Control.TheVariants.{Began}
use Rattle.f77_ast.specs.declared.stmt.LoopControl.{LoopControl}
use Rattle.f77_ast.specs.declared.stmt.Stmt.{Stmt, Assign, Continue, Do, Print}
use Rattle.f77_structure.specs.Units.{next_place}
use Rattle.f77_meaning.specs.Assign.{Written, written_of}
use Rattle.f77_meaning.specs.Demand.{Demand, gives, wants, calls, fails, setting_of}
use Rattle.f77_meaning.specs.Do.{Begun, active_from, begun_of, turned}
use Rattle.f77_meaning.specs.Event.{reads, writes, takes, prints, ends, faults}
use Rattle.f77_meaning.specs.Print.{Printed, asks, enters, whole, stops, printed_of}
use Rattle.f77_meaning.specs.Process.{ActiveLoop, Frame, Process, Stage, at_statement, at_increment, come_to, is_blocked, process_with, with_answer}
use Rattle.f77_meaning.specs.Step.{Move, reading, writing, taking, moving, printing, ending, failing, do_move, done_by, event, event_of, is_terminal, listing_in, loop_of_do, move_of, past, past_do, past_increment, past_statement, print_move, resumed_by, statement_move, unless_blocked, write_move}
use Rattle.f77_meaning.proofs.Marks.{StaysAt, Unmarked, fresh_frames_write_none, printed_unmarked, stays}
use Rattle.f77_turns.specs.Frames.{KeepsFrames, LoopsAfter, stay, joins, stays_out, turns, leaves, StepsKeepFrames}
use Rattle.f77_turns.specs.Kept.{IsAtPrint, statement_at_stage}
use Rattle.f77_turns.specs.Steps.{IsAtRead, LinesAndNumbersAreOfStatements, MarkedWritesFollowReads}
use Rattle.f77_turns.specs.Turns.{Beginning, Turn}
use Rattle.f77_turns.proofs.Positions.{Position, nowhere, stating, turning, Stating, position}

-- a frame that has come to some place with these loops
record Placed (active : List ActiveLoop) (frame next : Frame) : Type 0 where
  at : ℕ
  stage : Stage
  is : next ≡ come_to at stage active frame

past_placed : (program : Program) (at : ℕ) (active : List ActiveLoop) (frame : Frame) → Placed active frame (past program at active frame)
past_placed program at active frame = by (is_terminal at active)
  where
    by : (b : Bool) → Placed active frame (cond b (come_to at at_increment active frame) (come_to (next_place (listing_in program frame) at) at_statement active frame))
    by true = record { at = at; stage = at_increment; is = refl }
    by false = record { at = next_place (listing_in program frame) at; stage = at_statement; is = refl }

module _ (program : Program) (p : Process) where
  -- the frames after a step from a last frame, with some below: the last one has come to some place, with loops that a step makes
  record Comes (frame : Frame) (below frames : List Frame) : Type 0 where
    at : ℕ
    stage : Stage
    active : List ActiveLoop
    is : frames ≡ come_to at stage active frame ∷ below
    loops : LoopsAfter program p frame.active active

  comes : (frame : Frame) (below : List Frame) (active : List ActiveLoop) (next : Frame) → Placed active frame next → LoopsAfter program p frame.active active → Comes frame below (next ∷ below)
  comes frame below active next place loops = record { at = place.at; stage = place.stage; active = active; is = ap (λ f. f ∷ below) place.is; loops = loops }

  -- what a process does next, from a last frame with some below
  abbrev Steps : (frame : Frame) (below : List Frame) → Move → Type 0
  Steps frame below (reading address by next rest line) = StaysAt frame next × (rest ≡ below)
  Steps frame below (writing address value by control after) = Comes frame below after.frames
  Steps frame below (taking address blocked after) = IsAtRead program p × Comes frame below after.frames
  Steps frame below (moving after) = Comes frame below after.frames
  Steps frame below (printing text after) = IsAtPrint program p × Comes frame below after.frames
  Steps frame below ending = Unit {0}
  Steps frame below (failing fault) = Unit {0}

  module _ (frame : Frame) (below : List Frame) where
    unless_steps : (blocked : Bool) (move : Move) → Steps frame below move → Steps frame below (unless_blocked blocked move)
    unless_steps true move h = tt
    unless_steps false move h = h

    -- the frame goes on behind its statement
    further : Comes frame below (past_statement program frame ∷ below)
    further = comes frame below frame.active (past_statement program frame) (past_placed program frame.at frame.active frame) (stay refl)

    write_steps : (d : Demand Written) → Steps frame below (write_move program frame below p.line d)
    write_steps (gives w rest) = unless_steps (is_blocked w.address (frame ∷ below)) (writing w.address w.value w.by None (process_with p.line (past_statement program frame ∷ below))) further
    write_steps (wants address by) = (stays frame, refl)
    write_steps (calls unit bindings) = tt
    write_steps (fails fault) = tt

    print_steps : IsAtPrint program p → (q : Printed) → Unmarked frame q → Steps frame below (print_move program frame below p.line q)
    print_steps here (asks address by q) u = (u.1, refl)
    print_steps here (enters unit bindings q) u = tt
    print_steps here (whole text) u = (here, further)
    print_steps here (stops fault) u = tt

    -- a loop that begins
    begun_comes : (b : Beginning program p) → b.frame ≡ frame → Comes frame below (past_do program (active_from (listing_in program b.frame) b.frame.at b.loop b.begun) frame ∷ below)
    begun_comes b same = by (b.begun.count == 0) refl
      where
        none : (n : ℕ) → (n == 0) ≡ true → n ≡ 0
        none n h = grind (arith, h)

        some : (n : ℕ) → (n == 0) ≡ false → n ≢ 0
        some zero h e = absurd (cc)
        some (suc n) h e = absurd (omega (arith, e))

        new : ActiveLoop
        new = active_from (listing_in program b.frame) b.frame.at b.loop b.begun

        by : (t : Bool) → (b.begun.count == 0) ≡ t → Comes frame below (cond t (past program new.last frame.active frame) (come_to new.from at_statement (new ∷ frame.active) frame) ∷ below)
        by true h = comes frame below frame.active (past program new.last frame.active frame) (past_placed program new.last frame.active frame) (stays_out b (none b.begun.count h) refl)
        by false h =
            comes frame below (new ∷ frame.active) (come_to new.from at_statement (new ∷ frame.active) frame) (record { at = new.from; stage = at_statement; is = refl }) (joins b (some b.begun.count h) refl)

  -- a loop that turns
  turn_comes : (t : Turn p) → Comes t.frame t.below (past_increment program (t.loop ∷ t.outer) t.frame ∷ t.below)
  turn_comes t = by (nat_lt (suc t.loop.done) t.loop.count) refl
    where
      less : (a b : ℕ) → nat_lt a b ≡ true → a < b
      less a b h = grind (arith, h)

      not_less : (a b : ℕ) → nat_lt a b ≡ false → b ≤ a
      not_less a b h = grind (arith, h)

      by : (b : Bool) → nat_lt (suc t.loop.done) t.loop.count ≡ b → Comes t.frame t.below (cond b (come_to t.loop.from at_statement (turned t.loop ∷ t.outer) t.frame) (past program t.frame.at t.outer t.frame) ∷ t.below)
      by true h =
          comes t.frame t.below (turned t.loop ∷ t.outer) (come_to t.loop.from at_statement (turned t.loop ∷ t.outer) t.frame) (record { at = t.loop.from; stage = at_statement; is = refl })
          (turns t (less (suc t.loop.done) t.loop.count h) refl)
      by false h = comes t.frame t.below t.outer (past program t.frame.at t.outer t.frame) (past_placed program t.frame.at t.outer t.frame) (leaves t (not_less (suc t.loop.done) t.loop.count h) refl)

  module _ (s : Stating program p) where
    do_steps : (terminal : ℕ) (control : LoopControl) → s.listed.stmt ≡ Do terminal control → (o : Option Loop) → loop_of_do program s.frame.unit s.frame.at ≡ o → (d : Demand Begun) → begun_of (setting_of program s.frame) control s.frame.answers ≡ d → Steps s.frame s.below (do_move program s.frame s.below p.line o d)
    do_steps terminal control is None its d known = tt
    do_steps terminal control is (Some loop) its (gives b rest) known = free (is_blocked b.variable (s.frame ∷ s.below)) refl
      where
        free : (blocked : Bool) → is_blocked b.variable (s.frame ∷ s.below) ≡ blocked →
            Steps s.frame s.below (unless_blocked blocked (writing b.variable b.first None (Some (Began loop.ordinal)) (process_with p.line (past_do program (active_from (listing_in program s.frame) s.frame.at loop b) s.frame ∷ s.below))))
        free true f = tt
        free false f =
            begun_comes s.frame s.below
            (record {
              frame = s.frame;
              below = s.below;
              listed = s.listed;
              terminal = terminal;
              control = control;
              loop = loop;
              begun = b;
              rest = rest;
              frames = s.frames;
              stage = s.stage;
              here = s.here;
              is_do = is;
              its = its;
              known = known;
              free = ap (is_blocked b.variable) s.frames ∙ f;
            })
            refl
    do_steps terminal control is (Some loop) its (wants address by) known = (stays s.frame, refl)
    do_steps terminal control is (Some loop) its (calls unit bindings) known = tt
    do_steps terminal control is (Some loop) its (fails fault) known = tt

    statement_steps : (stmt : Stmt) → s.listed.stmt ≡ stmt → Steps s.frame s.below (statement_move program s.frame s.below p.line stmt)
    statement_steps (Assign target value) is = write_steps s.frame s.below (written_of (setting_of program s.frame) target value s.frame.answers)
    statement_steps (Do terminal control) is = do_steps terminal control is (loop_of_do program s.frame.unit s.frame.at) refl (begun_of (setting_of program s.frame) control s.frame.answers) refl
    statement_steps Continue is = further s.frame s.below
    statement_steps (Print items) is =
        print_steps s.frame s.below
        (record { frame = s.frame; below = s.below; frames = s.frames; listed = s.listed; here = s.here; items = items; is_print = ap (λ stage. statement_at_stage stage s.listed.stmt) s.stage ∙ ap Some is })
        (printed_of (setting_of program s.frame) items s.frame p.line) (printed_unmarked (setting_of program s.frame) s.frame items p.line)
    statement_steps _ is = tt

  -- a process has nothing to do, or steps from its last frame
  data StepsFrom : Type 0 where
    nothing : move_of program p ≡ ending → StepsFrom
    from : (frame : Frame) (below : List Frame) → p.frames ≡ frame ∷ below → Steps frame below (move_of program p) → StepsFrom

  steps_at : Position program p → StepsFrom
  steps_at (nowhere e) = nothing e
  steps_at (stating s e) = from s.frame s.below s.frames (subst (Steps s.frame s.below) (sym e) (statement_steps s s.listed.stmt refl))
  steps_at (turning t e) = from t.frame t.below t.frames (subst (Steps t.frame t.below) (sym e) (turn_comes t))

  steps_from : StepsFrom
  steps_from = steps_at (position program p)

  -- a line comes of a PRINT
  prints_at : (frame : Frame) (below : List Frame) (move : Move) → Steps frame below move → (text : List ℕ) → event_of move ≡ prints text → IsAtPrint program p
  prints_at frame below (reading address by next rest line) h text e = absurd (cc)
  prints_at frame below (writing address value by control after) h text e = absurd (cc)
  prints_at frame below (taking address blocked after) h text e = absurd (cc)
  prints_at frame below (moving after) h text e = absurd (cc)
  prints_at frame below (printing line after) h text e = h.0
  prints_at frame below ending h text e = absurd (cc)
  prints_at frame below (failing fault) h text e = absurd (cc)

  printing_steps : (text : List ℕ) → event program p ≡ prints text → StepsFrom → IsAtPrint program p
  printing_steps text w (nothing e) = let c : ends ≡ prints text = sym (ap event_of e) ∙ w in absurd (cc)
  printing_steps text w (from frame below frames h) = prints_at frame below (move_of program p) h text w

  -- a number of the input is taken at a READ
  takes_at : (frame : Frame) (below : List Frame) (move : Move) → Steps frame below move → (address : ℕ) (blocked : Bool) → event_of move ≡ takes address blocked → IsAtRead program p
  takes_at frame below (reading a by next rest line) h address blocked e = absurd (cc)
  takes_at frame below (writing a value by control after) h address blocked e = absurd (cc)
  takes_at frame below (taking a b after) h address blocked e = h.0
  takes_at frame below (moving after) h address blocked e = absurd (cc)
  takes_at frame below (printing line after) h address blocked e = absurd (cc)
  takes_at frame below ending h address blocked e = absurd (cc)
  takes_at frame below (failing fault) h address blocked e = absurd (cc)

  taking_steps : (address : ℕ) (blocked : Bool) → event program p ≡ takes address blocked → StepsFrom → IsAtRead program p
  taking_steps address blocked w (nothing e) = let c : ends ≡ takes address blocked = sym (ap event_of e) ∙ w in absurd (cc)
  taking_steps address blocked w (from frame below frames h) = takes_at frame below (move_of program p) h address blocked w

  -- a process whose last frame has come to some place isn't before the write of an accumulation
  module _ (address : ℕ) (value : ℤ) (op : RedOp) (control : Option Control) where
    comes_to_none : (frame : Frame) (below : List Frame) (after : Process) → Comes frame below after.frames → event program after ≡ writes address value (Some op) control → ⊥
    comes_to_none frame below after c w = fresh_frames_write_none program after (come_to c.at c.stage c.active frame) below address value op control c.is refl w

    none_after : (frame : Frame) (below : List Frame) (move : Move) → move_of program p ≡ move → Steps frame below move → event program (done_by move p) ≡ writes address value (Some op) control → ⊥
    none_after frame below (reading a by next rest line) e h w = let c : reads a by ≡ writes address value (Some op) control = sym (ap event_of e) ∙ w in absurd (cc)
    none_after frame below (writing a v by ctl after) e h w = comes_to_none frame below after h w
    none_after frame below (taking a blocked after) e h w = comes_to_none frame below after h.1 w
    none_after frame below (moving after) e h w = comes_to_none frame below after h w
    none_after frame below (printing text after) e h w = comes_to_none frame below after h.1 w
    none_after frame below ending e h w = let c : ends ≡ writes address value (Some op) control = sym (ap event_of e) ∙ w in absurd (cc)
    none_after frame below (failing fault) e h w = let c : faults fault ≡ writes address value (Some op) control = sym (ap event_of e) ∙ w in absurd (cc)

    none_follows : StepsFrom → event program (done_by (move_of program p) p) ≡ writes address value (Some op) control → ⊥
    none_follows (nothing e) w =
        let there : event program p ≡ writes address value (Some op) control = subst (λ move. event program (done_by move p) ≡ writes address value (Some op) control) e w in
        let c : ends ≡ writes address value (Some op) control = sym (ap event_of e) ∙ there in
        absurd (cc)
    none_follows (from frame below frames h) w = none_after frame below (move_of program p) refl h w

  module _ (frame : Frame) (below : List Frame) (frames : p.frames ≡ frame ∷ below) where
    waits : KeepsFrames program p frame below p
    waits = record { last = frame; frames = frames; unit = refl; loops = stay refl }

    goes_on : (after : Process) → Comes frame below after.frames → KeepsFrames program p frame below after
    goes_on after c = record { last = come_to c.at c.stage c.active frame; frames = c.is; unit = refl; loops = c.loops }

    done_keeps : (move : Move) → Steps frame below move → KeepsFrames program p frame below (done_by move p)
    done_keeps (reading address by next rest line) h = waits
    done_keeps (writing address value by control after) h = goes_on after h
    done_keeps (taking address blocked after) h = goes_on after h.1
    done_keeps (moving after) h = goes_on after h
    done_keeps (printing text after) h = goes_on after h.1
    done_keeps ending h = waits
    done_keeps (failing fault) h = waits

    resumed_keeps : (move : Move) (answer : ℤ) → Steps frame below move → KeepsFrames program p frame below (resumed_by move p answer)
    resumed_keeps (reading address by next rest line) answer h = record { last = with_answer answer next; frames = ap (λ fs. with_answer answer next ∷ fs) h.1; unit = h.0.unit; loops = stay h.0.active }
    resumed_keeps (writing address value by control after) answer h = goes_on after h
    resumed_keeps (taking address blocked after) answer h = goes_on after h.1
    resumed_keeps (moving after) answer h = goes_on after h
    resumed_keeps (printing text after) answer h = goes_on after h.1
    resumed_keeps ending answer h = waits
    resumed_keeps (failing fault) answer h = waits

    -- the same, from the last frame that is known otherwise
    steps_here : StepsFrom → Steps frame below (move_of program p)
    steps_here (nothing e) = subst (Steps frame below) (sym e) tt
    steps_here (from last rest is h) =
        let both : last ∷ rest ≡ frame ∷ below = sym is ∙ frames in
        let first : last ≡ frame = cc in
        let others : rest ≡ below = cc in
        subst (λ b. Steps frame b (move_of program p)) others (subst (λ f. Steps f rest (move_of program p)) first h)

pub lines_and_numbers : LinesAndNumbersAreOfStatements
lines_and_numbers program p = record {
  prints = λ text e. printing_steps program p text e (steps_from program p);
  takes = λ address blocked e. taking_steps program p address blocked e (steps_from program p);
}

pub marked_writes_follow_reads : MarkedWritesFollowReads
marked_writes_follow_reads program p address value op control e = none_follows program p address value op control (steps_from program p) e

pub steps_keep_frames : StepsKeepFrames
steps_keep_frames program p frame below frames =
    let h = steps_here program p frame below frames (steps_from program p) in
    record { done = done_keeps program p frame below frames (move_of program p) h; resumed = λ answer. resumed_keeps program p frame below frames (move_of program p) answer h }
