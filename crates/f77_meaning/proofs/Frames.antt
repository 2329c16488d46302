-- A frame of a sound program is at a statement after each step, in the range of each active loop.
use Rattle.std.proofs.Common.{◌≡◌, ◌≢◌, ℕ, suc, ◌+◌, ◌<◌, ◌≤◌, ◌^◌, ◌==◌, List, [], ◌∷◌, length, Option, Some, IsSome, IsTrue, refl, sym, ap, subst, ◌∙◌, arith, slice_get, Bool, true, false, cond}
use Rattle.std.specs.Prelude.{nat_lt}
use Rattle.f77_ast.specs.declared.program.Listed.{Listed}
use Rattle.f77_ast.specs.declared.program.Loop.{Loop}
use Rattle.f77_ast.specs.declared.program.Program.{Program}
use Rattle.f77_structure.specs.Loops.{loop_with_range_from}
use Rattle.f77_structure.specs.Ranges.{HasRange, IsDo, RangesNest, terminal_at}
use Rattle.f77_structure.specs.Units.{statement_number, listing_of, next_place, EndsWithEnd, executes}
use Rattle.f77_structure.proofs.Loops.{range_of_loop}
use Rattle.f77_structure.proofs.UnitLemmas.{goes_on, terminal_goes_on, of_unit, do_goes_on, executes_here, executes_some, next_executes, next_least, terminal_executes}
use Rattle.f77_meaning.specs.Do.{Begun, active_from, has_64_bits, turned, value_after}
use Rattle.f77_meaning.specs.Process.{ActiveLoop, Frame, Stage, at_statement, at_increment, come_to}
use Rattle.f77_meaning.specs.Sound.{AreActive, FitsUnit, NumbersFit, IsActive, IsFrame, IsSound}
use Rattle.f77_meaning.specs.Step.{is_terminal, listing_in, loop_of_do, past, past_do, past_increment}

-- a statement is there where one is found
pub is_some : {A : Type 0} (o : Option A) (x : A) → o ≡ Some x → IsSome o
is_some o x e = subst (λ p. IsSome p) (sym e) refl

-- an active loop, in whose range other places lie
abbrev within : (program : Program) (u low high lower higher : ℕ) (loop : ActiveLoop) (a : IsActive program u low high loop) → loop.from ≤ lower → higher ≤ loop.last → IsActive program u lower higher loop
within program u low high lower higher loop a l h =
    record { at = a.at; label = a.label; begins = a.begins; its = a.its; found = a.found; ordinal = a.ordinal; from = a.from; last = a.last; above = l; below = h; numbers = a.numbers }

-- active loops in whose ranges places lie have those within them in their ranges
narrower : (program : Program) (u low high lower higher : ℕ) (active : List ActiveLoop) → AreActive program u low high active → low ≤ lower → higher ≤ high → AreActive program u lower higher active
narrower program u low high lower higher [] a l h = tt
narrower program u low high lower higher (loop ∷ outer) a l h =
    (within program u low high lower higher loop a.0 (omega (arith, a.0.above, l)) (omega (arith, a.0.below, h)), a.1)

-- what a frame knows of its unit, in a frame that comes to another place
known_there : (program : Program) (frame : Frame) (at : ℕ) (stage : Stage) (active : List ActiveLoop) → FitsUnit program frame → FitsUnit program (come_to at stage active frame)
known_there program frame at stage active known = record { bindings = known.bindings; bounds = known.bounds; implied = refl }

module _ (program : Program) (sound : IsSound program) (u : ℕ) where
  abbrev listing : List Listed
  listing = listing_of program.units u

  -- the range of a DO statement
  range : (at label : ℕ) → IsDo listing at label → HasRange listing at label
  range at label begins = (of_unit RangesNest program.units u at begins.listed sound.ranges begins.stands).ended at label begins

  -- its terminal statement is executable
  terminal_runs : (at label last : ℕ) (begins : IsDo listing at label) → last ≡ terminal_at listing at label → executes (slice_get listing last) ≡ true
  terminal_runs at label last begins same =
      let r : HasRange listing at label = range at label begins in
      subst (λ n. executes (slice_get listing n) ≡ true) (sym same) (executes_here (slice_get listing (terminal_at listing at label)) r.terminal r.stands (terminal_executes r.terminal.stmt r.ends))

  -- control goes on after a DO statement at an executable statement
  range_begins : (at label : ℕ) → IsDo listing at label → executes (slice_get listing (next_place listing at)) ≡ true
  range_begins at label begins =
      next_executes listing begins.listed at (of_unit EndsWithEnd program.units u at begins.listed sound.ended begins.stands) begins.stands (do_goes_on begins.listed.stmt label begins.names)

  -- the place after one that isn't that of the terminal statement of the innermost active loop lies in its range too
  one_further : (at : ℕ) (active : List ActiveLoop) → AreActive program u at at active → is_terminal at active ≡ false → AreActive program u (next_place listing at) (next_place listing at) active
  one_further at [] a e = tt
  one_further at (loop ∷ outer) a e =
      let other : loop.last ≢ at = λ same. false_not_true (sym e ∙ equal_told loop.last at same) in
      let before : at < loop.last = less loop.last at a.0.below other in
      let later : next_place listing at ≤ loop.last = next_least listing at loop.last before (terminal_runs a.0.at a.0.label loop.last a.0.begins a.0.last) in
      (within program u at at (next_place listing at) (next_place listing at) loop a.0 (omega (arith, a.0.above)) later, a.1)
    where
      false_not_true : false ≡ true → ⊥
      false_not_true h = absurd cc

      equal_told : (a b : ℕ) → a ≡ b → (a == b) ≡ true
      equal_told a b h = grind (arith, h)

      less : (a b : ℕ) → b ≤ a → a ≢ b → b < a
      less a b h n = grind (arith, h, n)

module _ (program : Program) (sound : IsSound program) (frame : Frame) (known : FitsUnit program frame) where
  -- after a statement that isn't END, in the range of each active loop, a frame is one of the program
  pub past_is_frame : (at : ℕ) (active : List ActiveLoop) (listed : Listed) → slice_get (listing_in program frame) at ≡ Some listed → goes_on listed.stmt → AreActive program frame.unit at at active → executes (slice_get (listing_in program frame) at) ≡ true → IsFrame program (past program at active frame)
  past_is_frame at active listed here goes actives runs = by (is_terminal at active) refl
    where
      next : executes (slice_get (listing_in program frame) (next_place (listing_in program frame) at)) ≡ true
      next = next_executes (listing_in program frame) listed at (of_unit EndsWithEnd program.units frame.unit at listed sound.ended here) here goes

      by : (b : Bool) → is_terminal at active ≡ b → IsFrame program (cond b (come_to at at_increment active frame) (come_to (next_place (listing_in program frame) at) at_statement active frame))
      by true e = record { stands = is_some (slice_get (listing_in program frame) at) listed here; active = actives; stage = e; known = known_there program frame at at_increment active known }
      by false e =
          record {
            stands = executes_some (slice_get (listing_in program frame) (next_place (listing_in program frame) at)) next;
            active = one_further program sound frame.unit at active actives e;
            stage = next;
            known = known_there program frame (next_place (listing_in program frame) at) at_statement active known;
          }

  -- after the terminal statement of a loop of the unit
  past_terminal : (at label last : ℕ) (active : List ActiveLoop) (begins : IsDo (listing_in program frame) at label) → last ≡ terminal_at (listing_in program frame) at label → AreActive program frame.unit last last active → IsFrame program (past program last active frame)
  past_terminal at label last active begins same actives =
      let r : HasRange (listing_in program frame) at label = range program sound frame.unit at label begins in
      past_is_frame last active r.terminal (subst (λ n. slice_get (listing_in program frame) n ≡ Some r.terminal) (sym same) r.stands) (terminal_goes_on r.terminal.stmt r.ends) actives (terminal_runs program sound frame.unit at label last begins same)

  -- at the first statement of the range of a loop
  at_range : (at label : ℕ) (loop : ActiveLoop) (outer : List ActiveLoop) → IsDo (listing_in program frame) at label → loop.from ≡ next_place (listing_in program frame) at → AreActive program frame.unit loop.from loop.from (loop ∷ outer) → IsFrame program (come_to loop.from at_statement (loop ∷ outer) frame)
  at_range at label loop outer begins from actives =
      let runs : executes (slice_get (listing_in program frame) loop.from) ≡ true = subst (λ n. executes (slice_get (listing_in program frame) n) ≡ true) (sym from) (range_begins program sound frame.unit at label begins) in
      record { stands = executes_some (slice_get (listing_in program frame) loop.from) runs; active = actives; stage = runs; known = known_there program frame loop.from at_statement (loop ∷ outer) known }

  -- after the incrementation processing of the innermost active loop a frame is one of the program
  pub past_increment_is_frame : (active : List ActiveLoop) → AreActive program frame.unit frame.at frame.at active → IsTrue (is_terminal frame.at active) → IsFrame program (past_increment program active frame)
  past_increment_is_frame [] actives e = absurd (cc)
  past_increment_is_frame (loop ∷ outer) actives e = by (nat_lt (suc loop.done) loop.count) refl
    where
      a : IsActive program frame.unit frame.at frame.at loop
      a = actives.0

      here : loop.last ≡ frame.at
      here = grind (arith, e)

      again : (suc loop.done < loop.count) → NumbersFit (length program.layout.first) (turned loop)
      again h = record { left = h; count = a.numbers.count; end = a.numbers.end; variable = a.numbers.variable }

      less : (x y : ℕ) → nat_lt x y ≡ true → x < y
      less x y h = grind (arith, h)

      by : (b : Bool) → nat_lt (suc loop.done) loop.count ≡ b → IsFrame program (cond b (come_to loop.from at_statement (turned loop ∷ outer) frame) (past program frame.at outer frame))
      by true h =
          at_range a.at a.label (turned loop) outer a.begins a.from
          (record { at = a.at; label = a.label; begins = a.begins; its = a.its; found = a.found; ordinal = a.ordinal; from = a.from; last = a.last; above = omega arith; below = omega (arith, a.above, here); numbers = again (less (suc loop.done) loop.count h) }, actives.1)
      by false h =
          past_terminal a.at a.label frame.at outer a.begins (sym here ∙ a.last)
          (narrower program frame.unit a.at loop.last frame.at frame.at outer actives.1 (omega (arith, a.above, a.from)) (omega (arith, here)))

-- the numbers with which a loop becomes active
pub record Begins (total : ℕ) (begun : Begun) : Type 0 where
  pub count : begun.count < 2 ^ 63
  pub end : IsTrue (has_64_bits (value_after begun.first begun.increment begun.count))
  pub variable : begun.variable < total

-- after a DO statement whose parameters are known a frame is one of the program
pub past_do_is_frame : (program : Program) (frame : Frame) (label : ℕ) (loop : Loop) (begun : Begun) → IsSound program → FitsUnit program frame → IsDo (listing_in program frame) frame.at label → loop_of_do program frame.unit frame.at ≡ Some loop → Begins (length program.layout.first) begun → AreActive program frame.unit frame.at frame.at frame.active → IsFrame program (past_do program (active_from (listing_in program frame) frame.at loop begun) frame)
past_do_is_frame program frame label loop begun sound known begins_here found begins actives = by (begun.count == 0) refl
  where
    listing : List Listed
    listing = listing_in program frame

    new : ActiveLoop
    new = active_from listing frame.at loop begun

    nested : RangesNest listing
    nested = of_unit RangesNest program.units frame.unit frame.at begins_here.listed sound.ranges begins_here.stands

    last : new.last ≡ terminal_at listing frame.at label
    last = ap (λ d. frame.at + 1 + d) (range_of_loop program.units frame.unit frame.at label loop begins_here (subst (λ loops. loop_with_range_from loops (statement_number program.units frame.unit frame.at + 1) ≡ Some loop) sound.loops found))

    -- its range begins no later than at its terminal statement
    from : new.from ≤ new.last
    from = next_least listing frame.at new.last (omega (arith, last)) (terminal_runs program sound frame.unit frame.at label new.last begins_here last)

    -- the range lies in that of the innermost active loop
    outer : (others : List ActiveLoop) → AreActive program frame.unit frame.at frame.at others → AreActive program frame.unit frame.at new.last others
    outer [] a = tt
    outer (first ∷ rest) a =
        let inside : terminal_at listing frame.at label ≤ terminal_at listing a.0.at a.0.label = nested.nested a.0.at frame.at a.0.label label a.0.begins begins_here (omega (arith, a.0.above, a.0.from)) (omega (arith, a.0.below, a.0.last)) in
        (within program frame.unit frame.at frame.at frame.at new.last first a.0 a.0.above (omega (arith, inside, last, a.0.last)), a.1)

    some : (n : ℕ) → (n == 0) ≡ false → 0 < n
    some n h = grind (arith, h)

    by : (b : Bool) → (begun.count == 0) ≡ b → IsFrame program (cond b (past program new.last frame.active frame) (come_to new.from at_statement (new ∷ frame.active) frame))
    by true h =
        past_terminal program sound frame known frame.at label new.last frame.active begins_here last
        (narrower program frame.unit frame.at new.last new.last new.last frame.active (outer frame.active actives) (omega (arith, from)) (omega arith))
    by false h =
        at_range program sound frame known frame.at label new frame.active begins_here refl (
          record {
            at = frame.at;
            label = label;
            begins = begins_here;
            its = loop;
            found = found;
            ordinal = refl;
            from = refl;
            last = last;
            above = omega arith;
            below = from;
            numbers = record { left = some begun.count h; count = begins.count; end = begins.end; variable = begins.variable };
          },
          outer frame.active actives,
        )
