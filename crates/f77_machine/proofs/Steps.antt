-- A step, by where the process is.
use Rattle.std.proofs.Common.{◌≡◌, ℕ, zero, suc, ◌+◌, ◌<◌, ◌≤◌, ◌^◌, ℤ, List, [], ◌∷◌, All, length, Some, IsTrue, refl, sym, ap, subst, ◌∙◌, arith, slice_get}
use Rattle.std.proofs.lemmas.Option.{get_or_from_slice_get, slice_get_within}
use Rattle.f77_ast.specs.declared.program.Listed.{Listed}
use Rattle.f77_ast.specs.declared.program.Program.{Program}
use Rattle.f77_ast.specs.declared.program.Unit.{Unit as ProgramUnit}
use Rattle.f77_ast.specs.declared.step.Stepped.{Stepped}
use Rattle.f77_structure.specs.HasMeaning.{statement_has_meaning}
use Rattle.f77_structure.specs.Units.{listing_of, statement_number}
use Rattle.f77_structure.proofs.Rising.{counted_in}
use Rattle.f77_meaning.specs.Process as meaning
use Rattle.f77_meaning.specs.Process.{first_process, listed_of}
use Rattle.f77_meaning.specs.Sound.{IsOf, IsSound}
use Rattle.f77_meaning.specs.Step.{Move, increment_move, listed_move, move_of, stage_move, statement_move}
use Rattle.f77_meaning.specs.StepOutcome.{answer_of, on_input, outcome_from, outcome_of_step}
use Rattle.f77_meaning.proofs.Stands.{IsOf-first, IsOf-resumed_by, leads, leads_on_input}
use Rattle.f77_machine.specs.Active.{actives_of}
use Rattle.f77_machine.specs.Process.{frame_of, process_of, stage_of, outcome_of_move, HasLine, HasLoopRoom, IsProcessOf}
use Rattle.f77_machine.specs.Reads.{statement_reads, HasRoom}
use Rattle.f77_machine.specs.declared.process.Process.{Process}
use Rattle.f77_machine.specs.declared.process.Stage.TheVariants.{Statement, Increment}
use Rattle.f77_machine.proofs.Actives.{length-actives_of}
use Rattle.f77_machine.proofs.Room.{fewer_active, no_more_active}

-- after a step of a process of a program comes a process of the program
pub is_of_after : (program : Program) (p q : meaning.Process) (stepped : Stepped) (old new : List ℤ) (count counted : ℕ) (input rest text : List ℕ) → outcome_from stepped q new counted rest text ≡ outcome_of_step program p old count input → IsSound program → IsOf program p → IsOf program q
is_of_after program p q stepped old new count counted input rest text e sound is =
    let did : Move = on_input (move_of program p) input in
    subst (IsOf program) (sym (ap (λ n. n.process) e))
    (IsOf-resumed_by program did p (answer_of did old) is (leads_on_input program (move_of program p) input (leads program p.frames p.line sound is.frames is.line)))

-- no more loops are active than a process has room for
pub loops_fit : (program : Program) (p : Process) (text : List ℕ) → IsSound program → IsProcessOf program p text → length p.active.items ≤ p.depth
loops_fit program p text sound is_of =
    omega (arith, no_more_active program p.unit p.at p.at (actives_of p.active.items) sound is_of.stands.frames.0.active, length-actives_of p.active.items, is_of.depth)

-- a step of the incrementation processing
pub increment_step : (program : Program) (p : Process) (store : List ℤ) (count : ℕ) (input text : List ℕ) → p.stage ≡ Increment → outcome_of_move (increment_move program (frame_of p) [] text (actives_of p.active.items)) p store count input text ≡ outcome_of_step program (process_of p text) store count input
increment_step program p store count input text h =
    ap (λ stage. outcome_of_move (stage_move program (frame_of p) [] text (stage_of stage)) p store count input text) (sym h)

-- a step of a statement
pub statement_step : (program : Program) (p : Process) (listed : Listed) (store : List ℤ) (count : ℕ) (input text : List ℕ) → Some listed ≡ listed_of program (frame_of p) → p.stage ≡ Statement → outcome_of_move (statement_move program (frame_of p) [] text listed.stmt) p store count input text ≡ outcome_of_step program (process_of p text) store count input
statement_step program p listed store count input text e h =
    ap (λ found. outcome_of_move (listed_move program (frame_of p) [] text found) p store count input text) e
    ∙ ap (λ stage. outcome_of_move (stage_move program (frame_of p) [] text (stage_of stage)) p store count input text) (sym h)

-- at a DO statement there is room for one more
pub loop_room : (program : Program) (p : Process) (text : List ℕ) (listed : Listed) → IsSound program → IsProcessOf program p text → listed_of program (frame_of p) ≡ Some listed → HasLoopRoom listed.stmt p
loop_room program p text listed sound is_of e = λ label names.
    omega (
      arith,
      fewer_active program p.unit p.at label (actives_of p.active.items) sound (record { listed = listed; stands = e; names = names }) is_of.stands.frames.0.active,
      length-actives_of p.active.items,
      is_of.depth,
    )

-- a statement is in a unit
record StandsIn (units : List ProgramUnit) (u at : ℕ) (listed : Listed) : Type 0 where
  unit : ProgramUnit
  entered : slice_get units u ≡ Some unit
  stands : slice_get unit.listing at ≡ Some listed

stands_in : (units : List ProgramUnit) (u at : ℕ) (listed : Listed) → slice_get (listing_of units u) at ≡ Some listed → StandsIn units u at listed
stands_in [] u at listed e = absurd (cc)
stands_in (first ∷ units) zero at listed e = record { unit = first; entered = refl; stands = e }
stands_in (first ∷ units) (suc u) at listed e =
    let rest : StandsIn units u at listed = stands_in units u at listed e in
    record { unit = rest.unit; entered = rest.entered; stands = rest.stands }

-- what holds of all statements holds of one that is there
one_of : (P : Listed → Type 0) (listing : List Listed) (at : ℕ) (listed : Listed) → All P listing → slice_get listing at ≡ Some listed → P listed
one_of P listing at listed all e = subst P (get_or_from_slice_get listing at listed listed e) (all at listed (slice_get_within listing at listed e))

-- a statement at which a process is needs no more answers than there is room for
pub reads_fit : (program : Program) (p : Process) (text : List ℕ) (listed : Listed) → IsProcessOf program p text → listed_of program (frame_of p) ≡ Some listed → statement_reads program.layout p.unit listed.stmt ≤ p.room
reads_fit program p text listed is_of e =
    let here : StandsIn program.units p.unit p.at listed = stands_in program.units p.unit p.at listed e in
    one_of (λ l. statement_reads program.layout p.unit l.stmt ≤ p.room) here.unit.listing p.at listed (is_of.room p.unit here.unit here.entered) here.stands

-- it has a meaning
pub has_meaning : (program : Program) (p : Process) (listed : Listed) → IsSound program → listed_of program (frame_of p) ≡ Some listed → IsTrue (statement_has_meaning program.units program.layout p.unit listed.stmt)
has_meaning program p listed sound e =
    let here : StandsIn program.units p.unit p.at listed = stands_in program.units p.unit p.at listed e in
    one_of (λ l. IsTrue (statement_has_meaning program.units program.layout p.unit l.stmt)) here.unit.listing p.at listed (sound.meaning p.unit here.unit here.entered) here.stands

-- it is one of the file, whose statements are counted with 32 bits
pub number_fits : (program : Program) (p : Process) (listed : Listed) → IsSound program → listed_of program (frame_of p) ≡ Some listed → statement_number program.units p.unit p.at + 1 < 2 ^ 32
number_fits program p listed sound e =
    omega (arith, counted_in program.units p.unit, slice_get_within (listing_of program.units p.unit) p.at listed e, sound.counted)

-- a process as it is before the first step, with its line and its room, is one of the program
pub is_of_first : (program : Program) (p : Process) → IsSound program → process_of p [] ≡ first_process program → HasLine program p → HasRoom program p.room → length program.loops ≤ p.depth → IsProcessOf program p []
is_of_first program p sound first line room depth = record { stands = subst (IsOf program) (sym first) (IsOf-first program sound); line = line; room = room; depth = depth }
