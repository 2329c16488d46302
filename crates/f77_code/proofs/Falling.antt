-- The ends of inner loops come before those of outer ones.
use Rattle.std.proofs.Common.{◌≡◌, ℕ, suc, ◌+◌, ◌<◌, ◌∷◌, ◌++◌, Bool, true, false, cond, List, [], length, drop, Option, None, Some, refl, sym, ap, subst, ◌∙◌, append_assoc, arith, slice_get}
use Rattle.std.specs.Prelude.{not}
use Rattle.std.specs.List.{list_all, prefix_len}
use Rattle.std.proofs.Math.ListN.{length-append}
use Rattle.f77_ast.specs.Entity.{number_in}
use Rattle.f77_ast.specs.Loop.{IsNumbered}
use Rattle.f77_ast.specs.declared.code.Instr.{Instr}
use Rattle.f77_ast.specs.declared.code.Instr.TheVariants as instr
use Rattle.f77_ast.specs.declared.expr.Expr.{Expr}
use Rattle.f77_ast.specs.declared.expr.Ref.{Ref}
use Rattle.f77_ast.specs.declared.program.Layout.{Layout}
use Rattle.f77_ast.specs.declared.program.Listed.{Listed}
use Rattle.f77_ast.specs.declared.program.Loop.{Loop}
use Rattle.f77_ast.specs.declared.stmt.LoopControl.{LoopControl}
use Rattle.f77_ast.specs.declared.stmt.Stmt.{Stmt}
use Rattle.f77_ast.specs.declared.stmt.Stmt as stmt
use Rattle.f77_structure.specs.Loops.{loop_with_range_from}
use Rattle.f77_structure.specs.Statements.{is_executable}
use Rattle.f77_meaning.specs.Height.{FallBelow, turn_ordinals}
use Rattle.f77_meaning.specs.IsCodeOf.{ends_iteration, from_iteration_end}
use Rattle.f77_code.specs.Accumulations.{Joining, joining_code}
use Rattle.f77_code.specs.Exprs.{expr_code, ref_code}
use Rattle.f77_code.specs.Statements.{assign_code, assigned_code, do_code, ends_at, items_code, own_code, parameters_code, turn_if, turns_code}
use Rattle.f77_code.specs.Units.{instrs_from}
use Rattle.f77_code.proofs.Expressions.{first_of_two}
use Rattle.f77_code.proofs.Quiet.{own_turnless}
use Rattle.f77_code.proofs.Turning.{own_passed, turns_end}

-- an instruction that ends no iteration
other : (i : Instr) (is : List Instr) → (not (ends_iteration i)) ≡ true → turn_ordinals (i ∷ is) ≡ []
other (instr.Lit n) is h = refl
other (instr.Truth b) is h = refl
other (instr.Text n) is h = refl
other (instr.Entity n) is h = refl
other (instr.Index n) is h = refl
other (instr.Slice) is h = refl
other (instr.SliceFrom) is h = refl
other (instr.Unary op) is h = refl
other (instr.Binary op) is h = refl
other (instr.Intrinsic f n) is h = refl
other (instr.Bind) is h = refl
other (instr.Enter u n) is h = refl
other (instr.Fix n) is h = refl
other (instr.Load) is h = refl
other (instr.Store) is h = refl
other (instr.Accumulate op) is h = refl
other (instr.Branch t) is h = refl
other (instr.When) is h = refl
other (instr.Jump t) is h = refl
other (instr.Choose t n) is h = refl
other (instr.Sign t) is h = refl
other (instr.Move) is h = refl
other (instr.Count d) is h = refl
other (instr.Next d) is h = absurd (cc)
other (instr.CountItems t) is h = refl
other (instr.NextItems t) is h = refl
other (instr.Emit) is h = refl
other (instr.EmitArray) is h = refl
other (instr.Print) is h = refl
other (instr.Take) is h = refl
other (instr.TakeArray) is h = refl
other (instr.Leave) is h = refl
other (instr.Stop) is h = refl

-- code that ends none, where there is any
none_first : (code is : List Instr) → list_all (λ i. not (ends_iteration i)) code ≡ true → 0 < length code → turn_ordinals (code ++ is) ≡ []
none_first [] is h some = absurd (omega (arith, some))
none_first (i ∷ code) is h some = other i (code ++ is) (first_of_two (not (ends_iteration i)) (list_all (λ i. not (ends_iteration i)) code) h)

last_some : (code : List Instr) (i : Instr) → 0 < length (code ++ i ∷ [])
last_some code i = simp length-append (omega arith)

module _ (layout : Layout) (unit : ℕ) where
  assigned_some : (j : Option Joining) (v : Expr) → 0 < length (assigned_code layout unit j v)
  assigned_some None v = last_some (expr_code layout unit v) instr.Store
  assigned_some (Some j) v = last_some j.code (instr.Accumulate j.op)

  longer : (a b : List Instr) → 0 < length b → 0 < length (a ++ b)
  longer a b h = simp length-append (omega (arith, h))

  assign_some : (target : Ref) (v : Expr) → 0 < length (assign_code layout unit target v)
  assign_some target v = longer (ref_code layout unit target) (assigned_code layout unit (joining_code layout unit target v) v) (assigned_some (joining_code layout unit target v) v)

  do_some : (control : LoopControl) (number : Option ℕ) (loop : Option Loop) → 0 < length (do_code layout unit control number loop)
  do_some control None loop = omega arith
  do_some control (Some n) None = omega arith
  do_some control (Some n) (Some loop) = last_some (instr.Entity n ∷ parameters_code layout unit control) (instr.Count loop.ordinal)

-- a higher bound
higher : (low high : ℕ) (ordinals : List ℕ) → low < high → FallBelow low ordinals → FallBelow high ordinals
higher low high [] h f = tt
higher low high (x ∷ xs) h f = (omega (arith, h, f.0), f.1)

-- the loops have these ordinals
abbrev From : ℕ → List Loop → Type 0
From ordinal loops = (place : ℕ) (loop : Loop) → slice_get loops place ≡ Some loop → loop.ordinal ≡ ordinal + place

turns_fall : (ordinal number : ℕ) (loops : List Loop) (rest : List Instr) → From ordinal loops → FallBelow ordinal (turn_ordinals rest) → FallBelow (ordinal + length loops) (turn_ordinals (turns_code loops number ++ rest))
turns_fall ordinal number [] rest from f = subst (λ n. FallBelow n (turn_ordinals rest)) (none_more ordinal) f
  where
    none_more : (n : ℕ) → n ≡ n + 0
    none_more n = omega arith
turns_fall ordinal number (loop ∷ loops) rest from f =
    subst (λ n. FallBelow n (turn_ordinals (turns_code (loop ∷ loops) number ++ rest))) (moved ordinal (length loops))
    (subst (λ c. FallBelow (suc ordinal + length loops) (turn_ordinals c)) (sym (append_assoc (turns_code loops number) (turn_if (ends_at number loop) loop) rest))
    (turns_fall (suc ordinal) number loops (turn_if (ends_at number loop) loop ++ rest) later (one (ends_at number loop))))
  where
    moved : (a b : ℕ) → suc a + b ≡ a + suc b
    moved a b = omega arith

    later : From (suc ordinal) loops
    later place x e = omega (arith, from (suc place) x e)

    here : loop.ordinal ≡ ordinal
    here = omega (arith, from 0 loop refl)

    one : (b : Bool) → FallBelow (suc ordinal) (turn_ordinals (turn_if b loop ++ rest))
    one true = (omega (arith, here), subst (λ n. FallBelow n (turn_ordinals rest)) (sym here) f)
    one false = higher ordinal (suc ordinal) (turn_ordinals rest) (omega arith) f

-- from the first end of an iteration on
from_first : (bound : ℕ) (code rest : List Instr) → list_all ends_iteration code ≡ true → FallBelow bound (turn_ordinals (code ++ rest)) → FallBelow bound (turn_ordinals (from_iteration_end rest)) → FallBelow bound (turn_ordinals (from_iteration_end (code ++ rest)))
from_first bound [] rest all f g = g
from_first bound (i ∷ code) rest all f g =
    subst (λ b. FallBelow bound (turn_ordinals (drop (cond (not b) (1 + prefix_len (λ i. not (ends_iteration i)) (code ++ rest)) 0) (i ∷ code ++ rest)))) (sym (first_of_two (ends_iteration i) (list_all ends_iteration code) all)) f

module _ (loops : List Loop) (layout : Layout) (unit : ℕ) where
  own_some : (number : ℕ) (s : Stmt) → is_executable s ≡ true → 0 < length (own_code loops layout unit number s)
  own_some number (stmt.Assign target value) runs = assign_some layout unit target value
  own_some number (stmt.Do terminal control) runs = do_some layout unit control (number_in layout.entities unit control.variable) (loop_with_range_from loops (number + 1))
  own_some number stmt.Continue runs = omega arith
  own_some number stmt.Return runs = omega arith
  own_some number stmt.Else runs = omega arith
  own_some number stmt.EndIf runs = omega arith
  own_some number stmt.End runs = omega arith
  own_some number (stmt.Stop code) runs = omega arith
  own_some number (stmt.Goto label) runs = omega arith
  own_some number (stmt.ComputedGoto labels index) runs = omega arith
  own_some number (stmt.ArithmeticIf value negative zeroth positive) runs = omega arith
  own_some number (stmt.LogicalIf' condition pointer inner) runs = omega arith
  own_some number (stmt.BlockIf condition) runs = omega arith
  own_some number (stmt.ElseIf condition) runs = omega arith
  own_some number (stmt.Call name args) runs = omega arith
  own_some number (stmt.Print items) runs = last_some (items_code layout unit items) instr.Print
  own_some number (stmt.Read items) runs = omega arith
  own_some number (stmt.Program name) runs = absurd (cc)
  own_some number (stmt.Subroutine name dummies) runs = absurd (cc)
  own_some number (stmt.Function typ name dummies) runs = absurd (cc)
  own_some number (stmt.Declare typ entities) runs = absurd (cc)
  own_some number (stmt.Dimension arrays) runs = absurd (cc)
  own_some number (stmt.Common groups) runs = absurd (cc)
  own_some number (stmt.Equivalence groups) runs = absurd (cc)
  own_some number (stmt.Parameter constants) runs = absurd (cc)
  own_some number (stmt.Implicit rules) runs = absurd (cc)
  own_some number (stmt.Save entries) runs = absurd (cc)
  own_some number (stmt.Init groups) runs = absurd (cc)

  -- code of statements doesn't begin with the end of an iteration
  begins_without : (number : ℕ) (listing : List Listed) → turn_ordinals (instrs_from loops layout unit number listing) ≡ []
  begins_without number [] = refl
  begins_without number (x ∷ xs) = by (begins_without (suc number) xs) (is_executable x.stmt) refl
    where
      by : turn_ordinals (instrs_from loops layout unit (suc number) xs) ≡ [] → (b : Bool) → is_executable x.stmt ≡ b → turn_ordinals (cond b (own_code loops layout unit number x.stmt ++ turns_code loops number) [] ++ instrs_from loops layout unit (suc number) xs) ≡ []
      by later true e =
          ap turn_ordinals (append_assoc (own_code loops layout unit number x.stmt) (turns_code loops number) (instrs_from loops layout unit (suc number) xs))
          ∙ none_first (own_code loops layout unit number x.stmt) (turns_code loops number ++ instrs_from loops layout unit (suc number) xs) (own_turnless loops layout unit number x.stmt).all (own_some number x.stmt e)
      by later false e = later

  pub falls : IsNumbered loops → (number : ℕ) (listing : List Listed) → FallBelow (length loops + 1) (turn_ordinals (from_iteration_end (instrs_from loops layout unit number listing)))
  falls numbered number [] = tt
  falls numbered number (x ∷ xs) = by (falls numbered (suc number) xs) (is_executable x.stmt)
    where
      from : From 1 loops
      from place loop e = omega (arith, numbered place loop e)

      swapped : (n : ℕ) → 1 + n ≡ n + 1
      swapped n = omega arith

      by : FallBelow (length loops + 1) (turn_ordinals (from_iteration_end (instrs_from loops layout unit (suc number) xs))) → (b : Bool) → FallBelow (length loops + 1) (turn_ordinals (from_iteration_end (cond b (own_code loops layout unit number x.stmt ++ turns_code loops number) [] ++ instrs_from loops layout unit (suc number) xs)))
      by later true =
          subst (λ c. FallBelow (length loops + 1) (turn_ordinals c))
          (sym (ap from_iteration_end (append_assoc (own_code loops layout unit number x.stmt) (turns_code loops number) (instrs_from loops layout unit (suc number) xs))
          ∙ own_passed (own_code loops layout unit number x.stmt) (turns_code loops number ++ instrs_from loops layout unit (suc number) xs) (own_turnless loops layout unit number x.stmt)))
          (from_first (length loops + 1) (turns_code loops number) (instrs_from loops layout unit (suc number) xs) (turns_end loops number)
          (subst (λ n. FallBelow n (turn_ordinals (turns_code loops number ++ instrs_from loops layout unit (suc number) xs))) (swapped (length loops))
          (turns_fall 1 number loops (instrs_from loops layout unit (suc number) xs) from (subst (λ o. FallBelow 1 o) (sym (begins_without (suc number) xs)) tt)))
          later)
      by later false = later
