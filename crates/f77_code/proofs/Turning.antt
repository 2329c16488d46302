-- The end of an iteration comes to its step.
use Rattle.std.proofs.Common.{◌≡◌, ℕ, zero, suc, ◌+◌, ◌==◌, ◌∷◌, ◌++◌, Bool, true, false, cond, List, [], length, drop, None, Some, refl, sym, ap, ◌∙◌, append_assoc, arith, slice_get}
use Rattle.std.specs.Prelude.{◌&&◌, not}
use Rattle.std.specs.List.{list_all, prefix_len}
use Rattle.std.proofs.lemmas.List.Folds.{list_all-append}
use Rattle.std.proofs.Math.Seq.{drop-append-add}
use Rattle.f77_ast.specs.declared.code.Instr.{Instr}
use Rattle.f77_ast.specs.declared.code.Instr.TheVariants as instr
use Rattle.f77_ast.specs.declared.program.Loop.{Loop}
use Rattle.f77_ast.specs.declared.program.Program.{Program}
use Rattle.f77_meaning.specs.IsCodeOf.{ends_iteration, from_iteration_end}
use Rattle.f77_meaning.specs.Perform.{performed, turned_by}
use Rattle.f77_meaning.specs.Print.{Printing}
use Rattle.f77_meaning.specs.Process.{ActiveLoop, Frame}
use Rattle.f77_meaning.specs.Step.{increment_move}
use Rattle.f77_code.specs.Statements.{ends_at, turn_if, turns_code}
use Rattle.f77_code.proofs.Expressions.{first_of_two, second_of_two}
use Rattle.f77_code.proofs.Quiet.{Turnless}

same_number : (a b : ℕ) → a ≡ b → (a == b) ≡ true
same_number a b e = grind (arith, e)

-- all of them end iterations
pub turns_end : (loops : List Loop) (number : ℕ) → list_all ends_iteration (turns_code loops number) ≡ true
turns_end [] number = refl
turns_end (loop ∷ loops) number = list_all-append ends_iteration (turns_code loops number) (turn_if (ends_at number loop) loop) ∙ (λ i. turns_end loops number i && one (ends_at number loop) i)
  where
    one : (b : Bool) → list_all ends_iteration (turn_if b loop) ≡ true
    one true = refl
    one false = refl

-- code without the end of an iteration is passed
passes : (code following : List Instr) → list_all (λ i. not (ends_iteration i)) code ≡ true → prefix_len (λ i. not (ends_iteration i)) (code ++ following) ≡ length code + prefix_len (λ i. not (ends_iteration i)) following
passes [] following h = none (prefix_len (λ i. not (ends_iteration i)) following)
  where
    none : (n : ℕ) → n ≡ 0 + n
    none n = omega arith
passes (x ∷ code) following h =
    ap (λ b. cond b (1 + prefix_len (λ i. not (ends_iteration i)) (code ++ following)) 0) (first_of_two (not (ends_iteration x)) (list_all (λ i. not (ends_iteration i)) code) h)
    ∙ ap (λ n. 1 + n) (passes code following (second_of_two (not (ends_iteration x)) (list_all (λ i. not (ends_iteration i)) code) h))
    ∙ more (length code) (prefix_len (λ i. not (ends_iteration i)) following)
  where
    more : (m n : ℕ) → 1 + (m + n) ≡ suc m + n
    more m n = omega arith

pub own_passed : (code following : List Instr) → Turnless code → from_iteration_end (code ++ following) ≡ from_iteration_end following
own_passed code following h = ap (λ n. drop n (code ++ following)) (passes code following h.all) ∙ drop-append-add code following (prefix_len (λ i. not (ends_iteration i)) following)

module _ (program : Program) (texts : List (List ℕ)) (below : List Frame) (p : Printing) (active : ActiveLoop) (outer : List ActiveLoop) (innermost : p.frame.active ≡ active ∷ outer) where
  -- code comes to the end of an iteration
  pub record Turns (code : List Instr) : Type 0 where
    pub turns : performed program texts below code [] [] p ≡ Some (increment_move program p.frame below p.line p.frame.active)

  its_own : (ordinal : ℕ) (is : List Instr) → active.ordinal ≡ ordinal → Turns (instr.Next ordinal ∷ is)
  its_own ordinal is e = record {
    turns =
        ap (λ a. turned_by program texts below ordinal a p (performed program texts below is [] [] p)) innermost
        ∙ ap (λ b. cond b (Some (increment_move program p.frame below p.line (active ∷ outer))) (performed program texts below is [] [] p)) (same_number active.ordinal ordinal e)
        ∙ ap (λ a. Some (increment_move program p.frame below p.line a)) (sym innermost);
  }

  another : (ordinal : ℕ) (is : List Instr) → Turns is → Turns (instr.Next ordinal ∷ is)
  another ordinal is h = record { turns = ap (λ a. turned_by program texts below ordinal a p (performed program texts below is [] [] p)) innermost ∙ by (active.ordinal == ordinal) ∙ ap (λ a. Some (increment_move program p.frame below p.line a)) (sym innermost) }
    where
      by : (b : Bool) → cond b (Some (increment_move program p.frame below p.line (active ∷ outer))) (performed program texts below is [] [] p) ≡ Some (increment_move program p.frame below p.line (active ∷ outer))
      by true = refl
      by false = h.turns ∙ ap (λ a. Some (increment_move program p.frame below p.line a)) innermost

  one_turn : (b : Bool) (loop : Loop) (is : List Instr) → Turns is → Turns (turn_if b loop ++ is)
  one_turn true loop is h = another loop.ordinal is h
  one_turn false loop is h = h

  regrouped : (a b is : List Instr) → Turns (a ++ (b ++ is)) → Turns ((a ++ b) ++ is)
  regrouped a b is h = record { turns = ap (λ c. performed program texts below c [] [] p) (append_assoc a b is) ∙ h.turns }

  all_turns : (loops : List Loop) (number : ℕ) (is : List Instr) → Turns is → Turns (turns_code loops number ++ is)
  all_turns [] number is h = h
  all_turns (loop ∷ loops) number is h = regrouped (turns_code loops number) (turn_if (ends_at number loop) loop) is (all_turns loops number (turn_if (ends_at number loop) loop ++ is) (one_turn (ends_at number loop) loop is h))

  -- the loop's own end is among them
  pub found_turn : (loops : List Loop) (number place : ℕ) (loop : Loop) (is : List Instr) → slice_get loops place ≡ Some loop → ends_at number loop ≡ true → active.ordinal ≡ loop.ordinal → Turns (turns_code loops number ++ is)
  found_turn [] number place loop is e ends o = absurd (cc)
  found_turn (x ∷ xs) number zero loop is e ends o =
      let same : x ≡ loop = cc in
      let here : ends_at number x ≡ true = ap (ends_at number) same ∙ ends in
      let mine : active.ordinal ≡ x.ordinal = o ∙ ap (λ l. l.ordinal) (sym same) in
      regrouped (turns_code xs number) (turn_if (ends_at number x) x) is
      (all_turns xs number (turn_if (ends_at number x) x ++ is)
      (record { turns = ap (λ b. performed program texts below (turn_if b x ++ is) [] [] p) here ∙ (its_own x.ordinal is mine).turns }))
  found_turn (x ∷ xs) number (suc place) loop is e ends o =
      regrouped (turns_code xs number) (turn_if (ends_at number x) x) is (found_turn xs number place loop (turn_if (ends_at number x) x ++ is) e ends o)

  -- and they are reached first
  first_turn : (code rest : List Instr) → list_all ends_iteration code ≡ true → ((is : List Instr) → Turns (code ++ is)) → Turns (from_iteration_end (code ++ rest))
  first_turn [] rest all h = absurd (let none : None ≡ Some (increment_move program p.frame below p.line p.frame.active) = (h []).turns in cc)
  first_turn (i ∷ code) rest all h =
      record {
        turns =
            ap (λ b. performed program texts below (drop (cond (not b) (1 + prefix_len (λ i. not (ends_iteration i)) (code ++ rest)) 0) (i ∷ code ++ rest)) [] [] p) (first_of_two (ends_iteration i) (list_all ends_iteration code) all)
            ∙ (h rest).turns;
      }

  pub turn_found : (loops : List Loop) (number place : ℕ) (loop : Loop) (rest : List Instr) → slice_get loops place ≡ Some loop → ends_at number loop ≡ true → active.ordinal ≡ loop.ordinal → Turns (from_iteration_end (turns_code loops number ++ rest))
  turn_found loops number place loop rest e ends o = first_turn (turns_code loops number) rest (turns_end loops number) (λ is. found_turn loops number place loop is e ends o)
