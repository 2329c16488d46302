-- A run ends only at an END.
use Rattle.std.proofs.Common.{◌≡◌, ◌⊎◌, inl, inr, ℕ, Bool, true, false, List, [], ◌∷◌, length, Option, None, Some, IsSome, IsTrue, refl, sym, subst, slice_get}
use Rattle.f77_ast.specs.declared.program.Listed.{Listed}
use Rattle.f77_ast.specs.declared.program.Loop.{Loop}
use Rattle.f77_ast.specs.declared.program.Program.{Program}
use Rattle.f77_ast.specs.declared.step.Control.TheVariants.{Began}
use Rattle.f77_ast.specs.declared.stmt.Stmt.{Stmt, Assign, Continue, Do, End, Print}
use Rattle.f77_structure.specs.HasMeaning.{statement_has_meaning}
use Rattle.f77_structure.specs.Ranges.{IsDo}
use Rattle.f77_structure.specs.Statements.{is_executable, terminal_label}
use Rattle.f77_structure.specs.Units.{executes, listing_of}
use Rattle.f77_meaning.specs.Assign.{Written, written_of}
use Rattle.f77_meaning.specs.Demand.{Demand, gives, wants, calls, fails, setting_of}
use Rattle.f77_meaning.specs.Do.{Begun, active_from, begun_of}
use Rattle.f77_meaning.specs.Event.{ends}
use Rattle.f77_meaning.specs.Print.{Printed, asks, enters, whole, stops, printed_of}
use Rattle.f77_meaning.specs.Process.{ActiveLoop, Frame, Process, Stage, at_statement, at_inner, at_entry, at_increment, is_blocked, listed_of, process_with}
use Rattle.f77_meaning.specs.Sound.{AreFrames, FitsStage, IsSound}
use Rattle.f77_meaning.specs.Step.{Move, reading, writing, taking, moving, printing, ending, failing, begin_move, do_move, event_of, frames_move, increment_move, is_terminal, listed_move, listing_in, loop_of_do, past_do, past_statement, print_move, stage_move, statement_move, unless_blocked, write_move}
use Rattle.f77_turns.specs.Ends.{EndsAt, by_end, RunsEndAtEnd}
use Rattle.f77_turns.specs.Ordinals.{HasLoop}
use Rattle.f77_turns.proofs.Addresses.{statement_means}
use Rattle.f77_turns.proofs.Assigned.{WritesIn, written_asks}
use Rattle.f77_turns.proofs.Begun.{BeginsIn, begun_asks}
use Rattle.f77_turns.proofs.Cells.{Asks}
use Rattle.f77_turns.proofs.Loops.{do_statements_have_loops}
use Rattle.f77_turns.proofs.Printed.{PrintsIn, printed_in}

-- a move that isn't the end of the run
abbrev GoesOn : Move → Type 0
GoesOn (reading address by frame below line) = Unit {0}
GoesOn (writing address value by control after) = Unit {0}
GoesOn (taking address blocked after) = Unit {0}
GoesOn (moving after) = Unit {0}
GoesOn (printing text after) = Unit {0}
GoesOn ending = ⊥
GoesOn (failing fault) = Unit {0}

never_ends : (move : Move) → GoesOn move → event_of move ≡ ends → ⊥
never_ends (reading address by frame below line) h e = absurd (cc)
never_ends (writing address value by control after) h e = absurd (cc)
never_ends (taking address blocked after) h e = absurd (cc)
never_ends (moving after) h e = absurd (cc)
never_ends (printing text after) h e = absurd (cc)
never_ends ending h e = h
never_ends (failing fault) h e = absurd (cc)

unless_goes_on : (blocked : Bool) (move : Move) → GoesOn move → GoesOn (unless_blocked blocked move)
unless_goes_on true move h = tt
unless_goes_on false move h = h

module _ (program : Program) (sound : IsSound program) (frame : Frame) (below : List Frame) (line : List ℕ) where
  abbrev total : ℕ
  total = length program.layout.first

  write_goes_on : (d : Demand Written) → Asks total (WritesIn (setting_of program frame) sound.storage) d → GoesOn (write_move program frame below line d)
  write_goes_on (gives w rest) h = unless_goes_on (is_blocked w.address (frame ∷ below)) (writing w.address w.value w.by None (process_with line (past_statement program frame ∷ below))) tt
  write_goes_on (wants address by) h = tt
  write_goes_on (calls unit bindings) h = h
  write_goes_on (fails fault) h = tt

  begin_goes_on : (loop : Loop) (d : Demand Begun) → Asks total (BeginsIn (setting_of program frame) sound.storage) d → GoesOn (begin_move program frame below line loop d)
  begin_goes_on loop (gives b rest) h =
      unless_goes_on (is_blocked b.variable (frame ∷ below)) (writing b.variable b.first None (Some (Began loop.ordinal)) (process_with line (past_do program (active_from (listing_in program frame) frame.at loop b) frame ∷ below))) tt
  begin_goes_on loop (wants address by) h = tt
  begin_goes_on loop (calls unit bindings) h = h
  begin_goes_on loop (fails fault) h = tt

  print_goes_on : (q : Printed) → PrintsIn (setting_of program frame) sound.storage q → GoesOn (print_move program frame below line q)
  print_goes_on (asks address by q) h = tt
  print_goes_on (enters unit bindings q) h = h
  print_goes_on (whole text) h = tt
  print_goes_on (stops fault) h = tt

  -- each DO statement has its loop
  do_goes_on : (label : ℕ) → IsDo (listing_of program.units frame.unit) frame.at label → (d : Demand Begun) → Asks total (BeginsIn (setting_of program frame) sound.storage) d → GoesOn (do_move program frame below line (loop_of_do program frame.unit frame.at) d)
  do_goes_on label begins d h =
      let its : HasLoop program frame.unit frame.at label begins = do_statements_have_loops program sound frame.unit frame.at label begins in
      subst (λ o. GoesOn (do_move program frame below line o d)) (sym its.found) (begin_goes_on its.loop d h)

  -- an executable statement with a meaning goes on, or is END
  statement_goes_on : (s : Stmt) → ((label : ℕ) → terminal_label s ≡ Some label → IsDo (listing_of program.units frame.unit) frame.at label) → IsTrue (statement_has_meaning program.units program.layout frame.unit s) → IsTrue (is_executable s) → GoesOn (statement_move program frame below line s) ⊎ (s ≡ End)
  statement_goes_on (Assign target value) begins m x =
      inl (write_goes_on (written_of (setting_of program frame) target value frame.answers) (written_asks (setting_of program frame) sound.storage target value m frame.answers))
  statement_goes_on (Do terminal control) begins m x =
      inl (do_goes_on terminal (begins terminal refl) (begun_of (setting_of program frame) control frame.answers) (begun_asks (setting_of program frame) sound.storage control m frame.answers))
  statement_goes_on Continue begins m x = inl tt
  statement_goes_on End begins m x = inr refl
  statement_goes_on (Print items) begins m x =
      inl (print_goes_on (printed_of (setting_of program frame) items frame line) (printed_in (setting_of program frame) sound.storage items m frame line))
  statement_goes_on _ begins m x = absurd (cc)

  -- an incrementation processing is one of a loop
  increment_goes_on : (active : List ActiveLoop) → IsTrue (is_terminal frame.at active) → GoesOn (increment_move program frame below line active)
  increment_goes_on [] h = absurd (cc)
  increment_goes_on (loop ∷ outer) h = tt

module _ (program : Program) (sound : IsSound program) (p : Process) where
  frame_ends : (frame : Frame) (below : List Frame) → p.frames ≡ frame ∷ below → FitsStage program frame.stage frame → event_of (stage_move program frame below p.line frame.stage) ≡ ends → EndsAt program p
  frame_ends frame below frames fits e = staged frame.stage refl fits e
    where
      stated : frame.stage ≡ at_statement → (listed : Listed) → listed_of program frame ≡ Some listed → event_of (statement_move program frame below p.line listed.stmt) ≡ ends → GoesOn (statement_move program frame below p.line listed.stmt) ⊎ (listed.stmt ≡ End) → EndsAt program p
      stated st listed here e (inl goes) = absurd (never_ends (statement_move program frame below p.line listed.stmt) goes e)
      stated st listed here e (inr is) = record { frame = frame; below = below; frames = frames; stage = st; listed = listed; here = here; ends_run = by_end is }

      found_ends : frame.stage ≡ at_statement → (found : Option Listed) → listed_of program frame ≡ found → IsTrue (executes found) → event_of (listed_move program frame below p.line found) ≡ ends → EndsAt program p
      found_ends st None here runs e = absurd (cc)
      found_ends st (Some listed) here runs e =
          stated st listed here e
          (statement_goes_on program sound frame below p.line listed.stmt (λ label names. record { listed = listed; stands = here; names = names }) (statement_means program sound frame listed here) runs)

      staged : (stage : Stage) → frame.stage ≡ stage → FitsStage program stage frame → event_of (stage_move program frame below p.line stage) ≡ ends → EndsAt program p
      staged at_statement st fits e = found_ends st (listed_of program frame) refl fits e
      staged at_inner st fits e = absurd fits
      staged at_entry st fits e = absurd fits
      staged at_increment st fits e = absurd (never_ends (increment_move program frame below p.line frame.active) (increment_goes_on program sound frame below p.line frame.active fits) e)

  frames_end : (frames : List Frame) → p.frames ≡ frames → IsSome (slice_get frames 0) → AreFrames program frames → event_of (frames_move program frames p.line) ≡ ends → EndsAt program p
  frames_end [] same some are e = absurd (cc)
  frames_end (frame ∷ below) same some are e = frame_ends frame below same are.0.stage e

pub runs_end_at_end : RunsEndAtEnd
runs_end_at_end program p sound is e = frames_end program sound p p.frames refl is.some is.frames e
