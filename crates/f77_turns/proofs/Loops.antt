-- The loops of a program, found by their DO statements and by their ordinals.
use Rattle.std.proofs.Common.{◌≡◌, ℕ, suc, ◌+◌, ◌==◌, Bool, true, false, cond, List, [], ◌∷◌, All, Some, drop, refl, sym, ap, subst, ◌∙◌, slice_get, eqb-true}
use Rattle.std.proofs.lemmas.List.Elements.{All-cons, All-nil}
use Rattle.f77_ast.proofs.Loops.{loop_at-numbered}
use Rattle.f77_ast.specs.Loop.{IsNumbered, loop_at}
use Rattle.f77_ast.specs.declared.program.Loop.{Loop}
use Rattle.f77_ast.specs.declared.program.Program.{Program}
use Rattle.f77_structure.specs.Loops.{loop_from, loop_with_range_from}
use Rattle.f77_structure.specs.Ranges.{IsDo}
use Rattle.f77_structure.specs.Units.{listing_of, statement_number}
use Rattle.f77_structure.proofs.LoopLemmas.{loops_of-numbered}
use Rattle.f77_meaning.specs.Process.{ActiveLoop, Frame}
use Rattle.f77_meaning.specs.Sound.{AreActive, AreFrames, IsActive, IsSound}
use Rattle.f77_meaning.specs.Step.{loop_of_do}
use Rattle.f77_turns.specs.Ordinals.{ActiveLoopsAreOfProgram, DoStatementsHaveLoops, HasLoop, IsLoopOf}
use Rattle.f77_turns.proofs.DoStatements.{Found, found_of}

-- a loop that is found is in the list, and its range begins with the statement
pub record InList (loops : List Loop) (number : ℕ) (loop : Loop) : Type 0 where
  pub place : ℕ
  pub there : slice_get loops place ≡ Some loop
  pub from : loop.from ≡ number

pub in_list : (loops : List Loop) (number : ℕ) (loop : Loop) → loop_with_range_from loops number ≡ Some loop → InList loops number loop
in_list [] number loop e = absurd (cc)
in_list (x ∷ xs) number loop e = by (x.from == number) refl (in_list xs number loop) e
  where
    by : (b : Bool) → (x.from == number) ≡ b → (loop_with_range_from xs number ≡ Some loop → InList xs number loop) → cond b (Some x) (loop_with_range_from xs number) ≡ Some loop → InList (x ∷ xs) number loop
    by true t rest h =
        let same : x ≡ loop = cc in
        record { place = 0; there = ap Some same; from = ap (λ l. l.from) (sym same) ∙ eqb-true x.from number t }
    by false t rest h =
        let r : InList xs number loop = rest h in
        record { place = suc r.place; there = r.there; from = r.from }

module _ (program : Program) (sound : IsSound program) where
  numbered : IsNumbered program.loops
  numbered = subst IsNumbered (sym sound.loops) (loops_of-numbered program.units)

  -- what is found is the loop of its ordinal
  pub its_ordinal : (unit at : ℕ) (loop : Loop) → loop_of_do program unit at ≡ Some loop → loop_at program.loops loop.ordinal ≡ Some loop
  its_ordinal unit at loop e =
      let i : InList program.loops (statement_number program.units unit at + 1) loop = in_list program.loops (statement_number program.units unit at + 1) loop e in
      ap (loop_at program.loops) (numbered i.place loop i.there) ∙ loop_at-numbered program.loops i.place numbered ∙ i.there

  module _ (unit at label : ℕ) (begins : IsDo (listing_of program.units unit) at label) where
    its : Found program.loops unit (statement_number program.units unit at) begins.listed.card.line label (drop (at + 1) (listing_of program.units unit))
    its = subst (λ loops. Found loops unit (statement_number program.units unit at) begins.listed.card.line label (drop (at + 1) (listing_of program.units unit))) (sym sound.loops) (found_of program.units unit at label begins)

    -- the loop that is found is that of the DO statement
    pub is_its : (loop : Loop) → loop_of_do program unit at ≡ Some loop → loop ≡ loop_from unit loop.ordinal (statement_number program.units unit at) begins.listed.card.line label (drop (at + 1) (listing_of program.units unit))
    is_its loop e =
        let both : Some (loop_from unit its.ordinal (statement_number program.units unit at) begins.listed.card.line label (drop (at + 1) (listing_of program.units unit))) ≡ Some loop = sym its.found ∙ e in
        let same : loop_from unit its.ordinal (statement_number program.units unit at) begins.listed.card.line label (drop (at + 1) (listing_of program.units unit)) ≡ loop = cc in
        let ordinal : its.ordinal ≡ loop.ordinal = ap (λ l. l.ordinal) same in
        sym same ∙ ap (λ o. loop_from unit o (statement_number program.units unit at) begins.listed.card.line label (drop (at + 1) (listing_of program.units unit))) ordinal

    pub do_has_loop : HasLoop program unit at label begins
    do_has_loop = record {
      loop = loop_from unit its.ordinal (statement_number program.units unit at) begins.listed.card.line label (drop (at + 1) (listing_of program.units unit));
      found = its.found;
      numbered = its_ordinal unit at _ its.found;
      is = refl;
    }

  -- an active loop is one of the program
  abbrev pub is_loop_of : (unit low high : ℕ) (loop : ActiveLoop) → IsActive program unit low high loop → IsLoopOf program unit loop
  is_loop_of unit low high loop a = record {
    at = a.at;
    label = a.label;
    begins = a.begins;
    its = record { loop = a.its; found = a.found; numbered = its_ordinal unit a.at a.its a.found; is = is_its unit a.at a.label a.begins a.its a.found };
    ordinal = a.ordinal;
    from = a.from;
    last = a.last;
  }

  active_are : (unit low high : ℕ) (active : List ActiveLoop) → AreActive program unit low high active → All (IsLoopOf program unit) active
  active_are unit low high [] a = All-nil (IsLoopOf program unit)
  active_are unit low high (loop ∷ outer) a = All-cons (IsLoopOf program unit) loop outer (is_loop_of unit low high loop a.0) (active_are unit a.0.at loop.last outer a.1)

  frames_are : (frames : List Frame) → AreFrames program frames → All (λ frame. All (IsLoopOf program frame.unit) frame.active) frames
  frames_are [] a = All-nil (λ frame. All (IsLoopOf program frame.unit) frame.active)
  frames_are (frame ∷ below) a =
      All-cons (λ frame. All (IsLoopOf program frame.unit) frame.active) frame below (active_are frame.unit frame.at frame.at frame.active a.0.active) (frames_are below a.1.1)

pub do_statements_have_loops : DoStatementsHaveLoops
do_statements_have_loops program sound unit at label begins = do_has_loop program sound unit at label begins

pub active_loops_are_of_program : ActiveLoopsAreOfProgram
active_loops_are_of_program program p sound is = frames_are program sound p.frames is.frames
