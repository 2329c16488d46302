-- The code of a unit is its code.
use Rattle.std.proofs.Common.{◌≡◌, ℕ, zero, suc, ◌+◌, ◌-◌, ◌≤◌, ◌==◌, ◌∷◌, ◌++◌, pos, Bool, true, false, cond, List, [], length, drop, Some, IsTrue, refl, sym, ap, subst, ◌∙◌, append_assoc, arith, slice_get, eqb-true}
use Rattle.std.specs.Prelude.{IfOk, Result, Ok, Err, unsigned_abs}
use Rattle.std.specs.List.{list_all}
use Rattle.f77_ast.proofs.Loops.{loop_at-numbered}
use Rattle.f77_ast.specs.Loop.{IsNumbered, loop_at}
use Rattle.f77_ast.specs.declared.code.Code.{Code}
use Rattle.f77_ast.specs.declared.code.Instr.{Instr}
use Rattle.f77_ast.specs.declared.code.Instr.TheVariants as instr
use Rattle.f77_ast.specs.declared.program.Listed.{Listed}
use Rattle.f77_ast.specs.declared.program.Loop.{Loop}
use Rattle.f77_ast.specs.declared.program.Program.{Program}
use Rattle.f77_ast.specs.declared.stmt.Stmt.{Stmt}
use Rattle.f77_ast.specs.declared.stmt.Stmt as stmt
use Rattle.f77_structure.specs.HasMeaning.{expr_has_meaning, item_has_meaning, statement_has_meaning, target_has_meaning}
use Rattle.f77_structure.specs.Labels.{distance_to}
use Rattle.f77_structure.specs.Loops.{loop_with_range_from, loops_of}
use Rattle.f77_structure.specs.Ranges.{IsDo, terminal_at}
use Rattle.f77_structure.specs.Statements.{is_executable}
use Rattle.f77_structure.specs.Units.{listing_of, next_place, statement_number, statements_before}
use Rattle.f77_structure.proofs.LoopLemmas.{loops_of-numbered}
use Rattle.f77_structure.proofs.Loops.{range_of_loop}
use Rattle.f77_structure.specs.Needs.{need_of}
use Rattle.f77_meaning.specs.Height.{FallBelow, HoldsAtMost, turn_ordinals}
use Rattle.f77_meaning.specs.IsCodeOf.{IsCodeOf, after_item_ends, code_at, from_iteration_end, item_count}
use Rattle.f77_meaning.specs.Perform.{performed}
use Rattle.f77_meaning.specs.Print.{Printing}
use Rattle.f77_meaning.specs.Process.{ActiveLoop, Frame, listed_of}
use Rattle.f77_meaning.specs.Step.{increment_move, loop_of_do, statement_move}
use Rattle.f77_code.specs.Statements.{items_code, own_code, statement_code, turns_code}
use Rattle.f77_code.specs.Units.{instrs_from, unit_code}
use Rattle.f77_code.proofs.Expressions.{first_of_two, second_of_two}
use Rattle.f77_code.proofs.Lists.{Begins, begins, next_at, starts_length}
use Rattle.f77_code.proofs.Prints.{items_steps}
use Rattle.f77_code.proofs.Quiet.{items_passed, own_turnless}
use Rattle.f77_code.proofs.Falling.{falls}
use Rattle.f77_code.proofs.Rooms.{own_room}
use Rattle.f77_code.proofs.Steps.{assign_steps, do_steps}
use Rattle.f77_code.proofs.Turning.{own_passed, turn_found}

-- a loop that is found is in the list, and its range begins with the statement
record InList (loops : List Loop) (number : ℕ) (loop : Loop) : Type 0 where
  place : ℕ
  there : slice_get loops place ≡ Some loop
  from : loop.from ≡ number

in_list : (loops : List Loop) (number : ℕ) (loop : Loop) → loop_with_range_from loops number ≡ Some loop → InList loops number loop
in_list [] number loop e = absurd (cc)
in_list (x ∷ xs) number loop e = by (x.from == number) refl (in_list xs number loop) e
  where
    by : (b : Bool) → (x.from == number) ≡ b → (loop_with_range_from xs number ≡ Some loop → InList xs number loop) → cond b (Some x) (loop_with_range_from xs number) ≡ Some loop → InList (x ∷ xs) number loop
    by true t rest h =
        let same : x ≡ loop = cc in
        record { place = 0; there = ap Some same; from = ap (λ l. l.from) (sym same) ∙ eqb-true x.from number t }
    by false t rest h =
        let r : InList xs number loop = rest h in
        record { place = suc r.place; there = r.there; from = r.from }

-- no item is done
none_done : (n : ℕ) (is : List Instr) → n ≤ 0 → after_item_ends n is ≡ is
none_done zero is h = refl
none_done (suc n) is h = absurd (omega (arith, h))

module _ (program : Program) (loops : program.loops ≡ loops_of program.units) where
  numbered : IsNumbered program.loops
  numbered = subst IsNumbered (sym loops) (loops_of-numbered program.units)

  -- a loop that is found has its ordinal's place
  its_ordinal : (number : ℕ) (loop : Loop) → loop_with_range_from program.loops number ≡ Some loop → loop_at program.loops loop.ordinal ≡ Some loop
  its_ordinal number loop e =
      let i : InList program.loops number loop = in_list program.loops number loop e in
      ap (loop_at program.loops) (numbered i.place loop i.there) ∙ loop_at-numbered program.loops i.place numbered ∙ i.there

  -- the code of a unit
  abbrev code_for : ℕ → Code
  code_for unit = unit_code program.loops program.layout unit (1 + statements_before program.units unit) (listing_of program.units unit)

  -- from the code of a statement on
  record StartsHere (unit at : ℕ) (listed : Listed) : Type 0 where
    following : List Listed
    is : code_at (code_for unit) at ≡ statement_code program.loops program.layout unit (statement_number program.units unit at) listed.stmt ++ instrs_from program.loops program.layout unit (suc (statement_number program.units unit at)) following

  starts_here : (unit at : ℕ) (listed : Listed) → slice_get (listing_of program.units unit) at ≡ Some listed → StartsHere unit at listed
  starts_here unit at listed e =
      let b : Begins program.loops program.layout unit (1 + statements_before program.units unit) 0 at (listing_of program.units unit) listed = begins program.loops program.layout unit (1 + statements_before program.units unit) 0 at (listing_of program.units unit) listed e in
      record {
        following = b.following;
        is =
            ap (λ z. drop (unsigned_abs z) (instrs_from program.loops program.layout unit (1 + statements_before program.units unit) (listing_of program.units unit))) b.start
            ∙ ap (λ n. drop n (instrs_from program.loops program.layout unit (1 + statements_before program.units unit) (listing_of program.units unit))) (none_first b.offset)
            ∙ b.code
            ∙ ap (λ n. statement_code program.loops program.layout unit n listed.stmt ++ instrs_from program.loops program.layout unit (suc n) b.following) (grouped (statements_before program.units unit) at);
      }
    where
      none_first : (n : ℕ) → 0 + n ≡ n
      none_first n = omega arith

      grouped : (a b : ℕ) → (1 + a) + b ≡ 1 + (a + b)
      grouped a b = omega arith

  module _ (frame : Frame) (below : List Frame) (line : List ℕ) where
    abbrev p : Printing
    p = record { frame = frame; line = line }

    abbrev number : ℕ
    number = statement_number program.units frame.unit frame.at

    -- the own code of a statement
    own_steps : (s : Stmt) (is : List Instr) → IsTrue (is_executable s) → IsTrue (statement_has_meaning program.units program.layout frame.unit s) → frame.items ≤ item_count s →
        performed program [] below (after_item_ends frame.items (own_code program.loops program.layout frame.unit number s ++ is)) [] frame.answers p ≡ Some (statement_move program frame below line s)
    own_steps (stmt.Assign target v) is runs m items =
        ap (λ c. performed program [] below c [] frame.answers p) (none_done frame.items (own_code program.loops program.layout frame.unit number (stmt.Assign target v) ++ is) items)
        ∙ assign_steps program [] below p target v is
        (first_of_two (target_has_meaning program.units program.layout frame.unit target) (expr_has_meaning program.units program.layout frame.unit v) m)
        (second_of_two (target_has_meaning program.units program.layout frame.unit target) (expr_has_meaning program.units program.layout frame.unit v) m)
    own_steps (stmt.Do terminal control) is runs m items =
        ap (λ c. performed program [] below c [] frame.answers p) (none_done frame.items (own_code program.loops program.layout frame.unit number (stmt.Do terminal control) ++ is) items)
        ∙ do_steps program [] below p control (loop_with_range_from program.loops (number + 1)) is m (λ loop e. its_ordinal (number + 1) loop e)
    own_steps stmt.Continue is runs m items = ap (λ c. performed program [] below c [] frame.answers p) (none_done frame.items (instr.Move ∷ is) items)
    own_steps stmt.End is runs m items = ap (λ c. performed program [] below c [] frame.answers p) (none_done frame.items (instr.Stop ∷ is) items)
    own_steps (stmt.Print list) is runs m items =
        ap (λ c. performed program [] below (after_item_ends frame.items c) [] frame.answers p) (append_assoc (items_code program.layout frame.unit list) (instr.Print ∷ []) is)
        ∙ ap (λ c. performed program [] below c [] frame.answers p) (items_passed program.layout frame.unit frame.items list (instr.Print ∷ is) items program.units m)
        ∙ items_steps program [] below is (drop frame.items list) frame.unit (left_mean frame.items list m) p refl
      where
        left_mean : (k : ℕ) (list : _) → IsTrue (list_all (item_has_meaning program.units program.layout frame.unit) list) → IsTrue (list_all (item_has_meaning program.units program.layout frame.unit) (drop k list))
        left_mean zero list h = h
        left_mean (suc k) [] h = refl
        left_mean (suc k) (x ∷ xs) h = left_mean k xs (second_of_two (item_has_meaning program.units program.layout frame.unit x) (list_all (item_has_meaning program.units program.layout frame.unit) xs) h)
    own_steps _ is runs m items = absurd (cc)

    -- the code of a statement, from its start
    steps_here : (listed : Listed) → listed_of program frame ≡ Some listed → IsTrue (is_executable listed.stmt) → IsTrue (statement_has_meaning program.units program.layout frame.unit listed.stmt) → frame.items ≤ item_count listed.stmt →
        performed program [] below (after_item_ends frame.items (code_at (code_for frame.unit) frame.at)) [] frame.answers p ≡ Some (statement_move program frame below line listed.stmt)
    steps_here listed e runs m items =
        let h : StartsHere frame.unit frame.at listed = starts_here frame.unit frame.at listed e in
        let turns : List Instr = turns_code program.loops number in
        let own : List Instr = own_code program.loops program.layout frame.unit number listed.stmt in
        let rest : List Instr = instrs_from program.loops program.layout frame.unit (suc number) h.following in
        ap (λ c. performed program [] below (after_item_ends frame.items c) [] frame.answers p)
        (h.is ∙ ap (λ b. cond b (own ++ turns) [] ++ rest) runs ∙ append_assoc own turns rest)
        ∙ own_steps listed.stmt (turns ++ rest) runs m items

    -- the ends of iterations
    turns_here : (listed : Listed) (active : ActiveLoop) (outer : List ActiveLoop) (at label : ℕ) (its : Loop) → listed_of program frame ≡ Some listed → IsTrue (is_executable listed.stmt) → frame.active ≡ active ∷ outer → IsDo (listing_of program.units frame.unit) at label → loop_of_do program frame.unit at ≡ Some its → active.ordinal ≡ its.ordinal → frame.at ≡ terminal_at (listing_of program.units frame.unit) at label →
        performed program [] below (from_iteration_end (code_at (code_for frame.unit) frame.at)) [] [] p ≡ Some (increment_move program frame below line frame.active)
    turns_here listed active outer at label its e runs innermost begins_here found ordinal terminal =
        let h : StartsHere frame.unit frame.at listed = starts_here frame.unit frame.at listed e in
        let turns : List Instr = turns_code program.loops number in
        let own : List Instr = own_code program.loops program.layout frame.unit number listed.stmt in
        let rest : List Instr = instrs_from program.loops program.layout frame.unit (suc number) h.following in
        let i : InList program.loops (statement_number program.units frame.unit at + 1) its = in_list program.loops (statement_number program.units frame.unit at + 1) its found in
        let range : its.last - its.from ≡ distance_to label (drop (at + 1) (listing_of program.units frame.unit)) =
        range_of_loop program.units frame.unit at label its begins_here (subst (λ l. loop_with_range_from l (statement_number program.units frame.unit at + 1) ≡ Some its) loops found) in
        let from : its.from ≡ statement_number program.units frame.unit at + 1 = i.from in
        let ends : its.from + (its.last - its.from) ≡ number = omega (arith, range, from, terminal) in
        ap (λ c. performed program [] below (from_iteration_end c) [] [] p) (h.is ∙ ap (λ b. cond b (own ++ turns) [] ++ rest) runs ∙ append_assoc own turns rest)
        ∙ ap (λ c. performed program [] below c [] [] p) (own_passed own (turns ++ rest) (own_turnless program.loops program.layout frame.unit number listed.stmt))
        ∙ (turn_found program [] below p active outer innermost program.loops number i.place its rest i.there (same_number (its.from + (its.last - its.from)) number ends) ordinal).turns
      where
        same_number : (a b : ℕ) → a ≡ b → (a == b) ≡ true
        same_number a b e = grind (arith, e)

  -- the ends of inner loops come before those of outer ones
  falls_here : (unit at : ℕ) (listed : Listed) → slice_get (listing_of program.units unit) at ≡ Some listed → FallBelow (length program.loops + 1) (turn_ordinals (from_iteration_end (code_at (code_for unit) at)))
  falls_here unit at listed e =
      let h : StartsHere unit at listed = starts_here unit at listed e in
      subst (λ c. FallBelow (length program.loops + 1) (turn_ordinals (from_iteration_end c))) (sym h.is)
      (falls program.loops program.layout unit numbered (statement_number program.units unit at) (listed ∷ h.following))

  -- the operands of a statement
  room_here : (unit at : ℕ) (listed : Listed) → slice_get (listing_of program.units unit) at ≡ Some listed → IsTrue (is_executable listed.stmt) → IsTrue (statement_has_meaning program.units program.layout unit listed.stmt) → HoldsAtMost (need_of listed.stmt + 1) (code_at (code_for unit) at) 0
  room_here unit at listed e runs m =
      let h : StartsHere unit at listed = starts_here unit at listed e in
      let number : ℕ = statement_number program.units unit at in
      let own : List Instr = own_code program.loops program.layout unit number listed.stmt in
      let turns : List Instr = turns_code program.loops number in
      let rest : List Instr = instrs_from program.loops program.layout unit (suc number) h.following in
      subst (λ c. HoldsAtMost (need_of listed.stmt + 1) c 0) (sym (h.is ∙ ap (λ b. cond b (own ++ turns) [] ++ rest) runs ∙ append_assoc own turns rest))
      (own_room program unit number listed.stmt (turns ++ rest) runs m)

  -- the code of a unit is its code
  pub code_is : (unit : ℕ) → IsCodeOf program unit (code_for unit)
  code_is unit = record {
    starts = starts_length program.loops program.layout unit (1 + statements_before program.units unit) 0 (listing_of program.units unit);
    nexts = λ at h. next_at (listing_of program.units unit) 0 at (listing_of program.units unit) h ∙ ap (λ n. Some (pos (next_place (listing_of program.units unit) n))) (none_first at);
    steps = λ frame below line listed h.
        subst (λ u. performed program [] below (after_item_ends frame.items (code_at (code_for u) frame.at)) [] frame.answers (record { frame = frame; line = line }) ≡ Some (statement_move program frame below line listed.stmt)) h.same
        (steps_here frame below line listed h.stands h.executable h.meaning h.items);
    turns = λ frame below line active outer h.
        subst (λ u. performed program [] below (from_iteration_end (code_at (code_for u) frame.at)) [] [] (record { frame = frame; line = line }) ≡ Some (increment_move program frame below line frame.active)) h.same
        (turns_here frame below line h.listed active outer h.at h.label h.its h.stands h.executable h.innermost
        (subst (λ u. IsDo (listing_of program.units u) h.at h.label) (sym h.same) h.begins) (subst (λ u. loop_of_do program u h.at ≡ Some h.its) (sym h.same) h.found) h.ordinal
        (subst (λ u. frame.at ≡ terminal_at (listing_of program.units u) h.at h.label) (sym h.same) h.terminal));
    inner_first = λ at listed e runs. falls_here unit at listed e;
    room = room_here unit;
  }
    where
      none_first : (n : ℕ) → 0 + n ≡ n
      none_first n = omega arith

-- what follows from a fact of a result
pub ok_through : {A E : Type 0} (P Q : A → Type 0) (r : Result A E) → ((a : A) → P a → Q a) → IfOk r P → IfOk r Q
ok_through P Q (Ok a) f h = f a h
ok_through P Q (Err e) f h = tt
