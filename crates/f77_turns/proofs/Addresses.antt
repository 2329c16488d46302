-- Each address of an event lies in storage.
use Rattle.std.proofs.Common.{◌≡◌, ℕ, ◌<◌, Bool, true, false, List, ◌∷◌, All, length, Option, None, Some, IsTrue, refl, sym, subst, ◌∙◌, slice_get}
use Rattle.std.proofs.lemmas.Option.{get_or_from_slice_get, slice_get_within}
use Rattle.std.specs.Option.{option_and_then}
use Rattle.f77_ast.specs.declared.program.Listed.{Listed}
use Rattle.f77_ast.specs.declared.program.Loop.{Loop}
use Rattle.f77_ast.specs.declared.program.Program.{Program}
use Rattle.f77_ast.specs.declared.program.Unit.{Unit as ProgramUnit}
use Rattle.f77_ast.specs.declared.step.Control.TheVariants.{Began}
use Rattle.f77_ast.specs.declared.stmt.Stmt.{Stmt, Assign, Continue, Do, Print}
use Rattle.f77_structure.proofs.UnitLemmas.{statement_in}
use Rattle.f77_structure.specs.HasMeaning.{statement_has_meaning}
use Rattle.f77_meaning.specs.Assign.{Written, written_of}
use Rattle.f77_meaning.specs.Demand.{Demand, gives, wants, calls, fails, setting_of}
use Rattle.f77_meaning.specs.Do.{Begun, active_from, begun_of}
use Rattle.f77_meaning.specs.Print.{Printed, asks, enters, whole, stops, printed_of}
use Rattle.f77_meaning.specs.Process.{Frame, Process, is_blocked, listed_of, process_with}
use Rattle.f77_meaning.specs.Sound.{AreActive, AreFrames, IsOf, IsSound}
use Rattle.f77_meaning.specs.Step.{Move, writing, do_move, event_of, listing_in, loop_of_do, move_of, past_do, past_statement, print_move, statement_move, unless_blocked, write_move}
use Rattle.f77_turns.specs.Addresses.{EventsLieInStorage, LiesBelow}
use Rattle.f77_turns.specs.Turns.{Turn}
use Rattle.f77_turns.proofs.Assigned.{WritesIn, written_asks}
use Rattle.f77_turns.proofs.Begun.{BeginsIn, begun_asks}
use Rattle.f77_turns.proofs.Cells.{Asks}
use Rattle.f77_turns.proofs.Positions.{Position, nowhere, stating, turning, Stating, position}
use Rattle.f77_turns.proofs.Printed.{PrintsIn, printed_in}

-- the address of what a process does next lies in storage of so many
abbrev MovesIn : (total : ℕ) → Move → Type 0
MovesIn total move = LiesBelow total (event_of move)

unless_in : (total : ℕ) (blocked : Bool) (move : Move) → MovesIn total move → MovesIn total (unless_blocked blocked move)
unless_in total true move h = tt
unless_in total false move h = h

module _ (program : Program) (sound : IsSound program) (frame : Frame) (below : List Frame) (line : List ℕ) where
  abbrev total : ℕ
  total = length program.layout.first

  write_in : (d : Demand Written) → Asks total (WritesIn (setting_of program frame) sound.storage) d → MovesIn total (write_move program frame below line d)
  write_in (gives w rest) h = unless_in total (is_blocked w.address (frame ∷ below)) (writing w.address w.value w.by None (process_with line (past_statement program frame ∷ below))) h
  write_in (wants address by) h = h
  write_in (calls unit bindings) h = tt
  write_in (fails fault) h = tt

  do_in : (o : Option Loop) (d : Demand Begun) → Asks total (BeginsIn (setting_of program frame) sound.storage) d → MovesIn total (do_move program frame below line o d)
  do_in None d h = tt
  do_in (Some loop) (gives b rest) h =
      unless_in total (is_blocked b.variable (frame ∷ below)) (writing b.variable b.first None (Some (Began loop.ordinal)) (process_with line (past_do program (active_from (listing_in program frame) frame.at loop b) frame ∷ below))) h
  do_in (Some loop) (wants address by) h = h
  do_in (Some loop) (calls unit bindings) h = tt
  do_in (Some loop) (fails fault) h = tt

  print_in : (q : Printed) → PrintsIn (setting_of program frame) sound.storage q → MovesIn total (print_move program frame below line q)
  print_in (asks address by q) h = h
  print_in (enters unit bindings q) h = tt
  print_in (whole text) h = tt
  print_in (stops fault) h = tt

  statement_in_storage : (s : Stmt) → IsTrue (statement_has_meaning program.units program.layout frame.unit s) → MovesIn total (statement_move program frame below line s)
  statement_in_storage (Assign target value) m =
      write_in (written_of (setting_of program frame) target value frame.answers) (written_asks (setting_of program frame) sound.storage target value m frame.answers)
  statement_in_storage (Do terminal control) m =
      do_in (loop_of_do program frame.unit frame.at) (begun_of (setting_of program frame) control frame.answers) (begun_asks (setting_of program frame) sound.storage control m frame.answers)
  statement_in_storage Continue m = tt
  statement_in_storage (Print items) m = print_in (printed_of (setting_of program frame) items frame line) (printed_in (setting_of program frame) sound.storage items m frame line)
  statement_in_storage _ m = tt

module _ (program : Program) (sound : IsSound program) where
  -- what holds of all of a list holds of one of it
  one_of : {X : Type 0} (P : X → Type 0) (xs : List X) (k : ℕ) (x : X) → All P xs → slice_get xs k ≡ Some x → P x
  one_of P xs k x all e = subst P (get_or_from_slice_get xs k x x e) (all k x (slice_get_within xs k x e))

  -- a statement of a unit has a meaning, and so has that of a frame
  means : (unit at : ℕ) (listed : Listed) (o : Option ProgramUnit) → slice_get program.units unit ≡ o → option_and_then (λ u. slice_get u.listing at) o ≡ Some listed → IsTrue (statement_has_meaning program.units program.layout unit listed.stmt)
  means unit at listed None e h = absurd (cc)
  means unit at listed (Some u) e h = one_of (λ l. IsTrue (statement_has_meaning program.units program.layout unit l.stmt)) u.listing at listed (sound.meaning unit u e) h

  pub statement_means : (frame : Frame) (listed : Listed) → listed_of program frame ≡ Some listed → IsTrue (statement_has_meaning program.units program.layout frame.unit listed.stmt)
  statement_means frame listed here = means frame.unit frame.at listed (slice_get program.units frame.unit) refl (sym (statement_in program.units frame.unit frame.at) ∙ here)

  stated_in : (p : Process) (s : Stating program p) → MovesIn (length program.layout.first) (statement_move program s.frame s.below p.line s.listed.stmt)
  stated_in p s = statement_in_storage program sound s.frame s.below p.line s.listed.stmt (statement_means s.frame s.listed s.here)

  turned_in : (p : Process) → IsOf program p → (t : Turn p) → t.loop.variable < length program.layout.first
  turned_in p is t = actives.0.numbers.variable
    where
      frames : AreFrames program (t.frame ∷ t.below)
      frames = subst (AreFrames program) t.frames is.frames

      actives : AreActive program t.frame.unit t.frame.at t.frame.at (t.loop ∷ t.outer)
      actives = subst (AreActive program t.frame.unit t.frame.at t.frame.at) t.active frames.0.active

  move_in : (p : Process) → IsOf program p → Position program p → MovesIn (length program.layout.first) (move_of program p)
  move_in p is (nowhere e) = subst (MovesIn (length program.layout.first)) (sym e) tt
  move_in p is (stating s e) = subst (MovesIn (length program.layout.first)) (sym e) (stated_in p s)
  move_in p is (turning t e) = subst (MovesIn (length program.layout.first)) (sym e) (turned_in p is t)

pub events_lie_in_storage : EventsLieInStorage
events_lie_in_storage program p sound is = move_in program sound p is (position program p)
