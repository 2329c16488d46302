-- The turns of the loops that read: while an operator or a comma comes next.
use Rattle.std.proofs.Common.{◌≡◌, ℕ, zero, suc, ◌≤◌, ◌<◌, [], ◌∷◌, ◌++◌, List, true, false, length, drop, Option, Some, None, refl, sym, ap, ◌∙◌, arith}
use Rattle.f77_ast.specs.declared.expr.Expr.{Expr}
use Rattle.f77_exprs.specs.declared.operators.Infix.{Infix}
use Rattle.f77_exprs.specs.Operators.{Text, spelling, infixes, is_here, first_passing}
use Rattle.f77_exprs.specs.Reading.{Outcome, Parser, and_then, skip, binary, more_operands, sees, after, more_arguments, arguments}
use Rattle.f77_exprs.proofs.Words.{infix_shorter}

-- the whole is what so many turns more make of it, and they are enough for the text that is left
pub record Turns {A : Type 0} (whole : Outcome A) (next : ℕ → Outcome A) (left : ℕ) : Type 0 where
  pub turns : ℕ
  pub enough : left ≤ turns
  pub same : whole ≡ next turns

-- the operator of a level that comes next
abbrev Found : ℕ → Text → Option Infix
Found k i = first_passing is_here (infixes k) i

module _ (operand : Parser Expr) (k : ℕ) where
  -- no operator comes next
  pub no_turn : (n : ℕ) (a : Expr) (i : Text) → Found k i ≡ None → more_operands operand k n a i ≡ Some (a, i)
  unfolding more_operands
  no_turn zero a i e = refl
  no_turn (suc n) a i e = rw e refl

  pub ended : (whole : Outcome Expr) (a : Expr) (i j : Text) → Turns whole (λ n. more_operands operand k n a i) (length i) → Found k i ≡ None → j ≡ skip spelling (Found k i) i → whole ≡ Some (a, j)
  ended whole a i j t none e = rw (e, none) (t.same ∙ no_turn t.turns a i none)

  -- an operator comes next
  pub one_turn : (n : ℕ) (a : Expr) (i : Text) (o : Infix) → Found k i ≡ Some o → more_operands operand k (suc n) a i ≡ and_then (operand (skip spelling (Some o) i)) (λ right. more_operands operand k n (binary o a right))
  unfolding more_operands
  one_turn n a i o e = rw e refl

  turned : (whole : Outcome Expr) (a : Expr) (i : Text) (o : Infix) → Turns whole (λ n. more_operands operand k n a i) (length i) → Found k i ≡ Some o → (m : ℕ) × (length (skip spelling (Some o) i) ≤ m) × (whole ≡ and_then (operand (skip spelling (Some o) i)) (λ right. more_operands operand k m (binary o a right)))
  turned whole a i o t e = by t.turns t.enough t.same
    where
      by : (n : ℕ) → length i ≤ n → whole ≡ more_operands operand k n a i → (m : ℕ) × (length (skip spelling (Some o) i) ≤ m) × (whole ≡ and_then (operand (skip spelling (Some o) i)) (λ right. more_operands operand k m (binary o a right)))
      by zero le w = let s : length (skip spelling (Some o) i) < length i = infix_shorter k i o e in absurd (omega arith)
      by (suc n) le w = let s : length (skip spelling (Some o) i) < length i = infix_shorter k i o e in (n, omega arith, w ∙ one_turn n a i o e)

  pub turn_fails : (whole : Outcome Expr) (a : Expr) (i j : Text) (o : Infix) → Turns whole (λ n. more_operands operand k n a i) (length i) → Found k i ≡ Some o → j ≡ skip spelling (Found k i) i → operand j ≡ None → whole ≡ None
  turn_fails whole a i j o t e at none =
      let w = turned whole a i o t e in
      let here : operand (skip spelling (Some o) i) ≡ None = ap operand (sym (at ∙ ap (λ x. skip spelling x i) e)) ∙ none in
      w.2 ∙ ap (λ x. and_then x (λ right. more_operands operand k w.0 (binary o a right))) here

  pub turn_goes : (whole : Outcome Expr) (a b x : Expr) (i j r : Text) (o : Infix) → x ≡ binary o a b → Turns whole (λ n. more_operands operand k n a i) (length i) → Found k i ≡ Some o → j ≡ skip spelling (Found k i) i → operand j ≡ Some (b, r) → length r ≤ length j → Turns whole (λ n. more_operands operand k n x r) (length r)
  turn_goes whole a b x i j r o is t e at found le =
      let w = turned whole a i o t e in
      let same : j ≡ skip spelling (Some o) i = at ∙ ap (λ x. skip spelling x i) e in
      let here : operand (skip spelling (Some o) i) ≡ Some (b, r) = ap operand (sym same) ∙ found in
      let l : length j ≡ length (skip spelling (Some o) i) = ap length same in
      record {
        turns = w.0;
        enough = omega arith;
        same = w.2 ∙ ap (λ x. and_then x (λ right. more_operands operand k w.0 (binary o a right))) here ∙ ap (λ x. more_operands operand k w.0 x r) (sym is);
      }

-- ---- the arguments of a reference

module _ (inner : Parser Expr) where
  pub no_more : (n : ℕ) (found : List Expr) (i : Text) → sees 44 i ≡ false → more_arguments inner n found i ≡ Some (found, i)
  unfolding more_arguments
  no_more zero found i e = refl
  no_more (suc n) found i e = rw e refl

  pub arguments_start : (first : Expr) (found : List Expr) (i : Text) → found ≡ first ∷ [] → Turns (arguments inner first i) (λ n. more_arguments inner n found i) (length i)
  unfolding arguments
  arguments_start first found i is = record { turns = length i; enough = omega arith; same = ap (λ x. more_arguments inner (length i) x i) (sym is) }

  pub arguments_ended : (whole : Outcome (List Expr)) (found : List Expr) (i j : Text) → Turns whole (λ n. more_arguments inner n found i) (length i) → sees 44 i ≡ false → j ≡ after 44 i → whole ≡ Some (found, j)
  arguments_ended whole found i j t none e = rw (e, none) (t.same ∙ no_more t.turns found i none)

  pub one_more_argument : (n : ℕ) (found : List Expr) (i : Text) → sees 44 i ≡ true → more_arguments inner (suc n) found i ≡ and_then (inner (drop 1 i)) (λ a. more_arguments inner n (found ++ a ∷ []))
  unfolding more_arguments
  one_more_argument n found i e = rw e refl

  shorter : (i : Text) → sees 44 i ≡ true → length (drop 1 i) < length i
  shorter [] e = cc
  shorter (b ∷ i) e = omega arith

  argument_turned : (whole : Outcome (List Expr)) (found : List Expr) (i : Text) → Turns whole (λ n. more_arguments inner n found i) (length i) → sees 44 i ≡ true → (m : ℕ) × (length (drop 1 i) ≤ m) × (whole ≡ and_then (inner (drop 1 i)) (λ a. more_arguments inner m (found ++ a ∷ [])))
  argument_turned whole found i t e = by t.turns t.enough t.same
    where
      by : (n : ℕ) → length i ≤ n → whole ≡ more_arguments inner n found i → (m : ℕ) × (length (drop 1 i) ≤ m) × (whole ≡ and_then (inner (drop 1 i)) (λ a. more_arguments inner m (found ++ a ∷ [])))
      by zero le w = let s : length (drop 1 i) < length i = shorter i e in absurd (omega arith)
      by (suc n) le w = let s : length (drop 1 i) < length i = shorter i e in (n, omega arith, w ∙ one_more_argument n found i e)

  pub argument_fails : (whole : Outcome (List Expr)) (found : List Expr) (i j : Text) → Turns whole (λ n. more_arguments inner n found i) (length i) → sees 44 i ≡ true → j ≡ after 44 i → inner j ≡ None → whole ≡ None
  argument_fails whole found i j t e at none =
      let w = argument_turned whole found i t e in
      let same : j ≡ drop 1 i = at ∙ (rw e refl) in
      w.2 ∙ ap (λ x. and_then x (λ a. more_arguments inner w.0 (found ++ a ∷ []))) (ap inner (sym same) ∙ none)

  pub argument_goes : (whole : Outcome (List Expr)) (found more : List Expr) (a : Expr) (i j r : Text) → more ≡ found ++ a ∷ [] → Turns whole (λ n. more_arguments inner n found i) (length i) → sees 44 i ≡ true → j ≡ after 44 i → inner j ≡ Some (a, r) → length r ≤ length j → Turns whole (λ n. more_arguments inner n more r) (length r)
  argument_goes whole found more a i j r is t e at got le =
      let w = argument_turned whole found i t e in
      let same : j ≡ drop 1 i = at ∙ (rw e refl) in
      let l : length j ≡ length (drop 1 i) = ap length same in
      record {
        turns = w.0;
        enough = omega arith;
        same = w.2 ∙ ap (λ x. and_then x (λ a. more_arguments inner w.0 (found ++ a ∷ []))) (ap inner (sym same) ∙ got) ∙ ap (λ x. more_arguments inner w.0 x r) (sym is);
      }
