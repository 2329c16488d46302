-- What is spelled is read, and no text spells two trees.
use Rattle.std.proofs.Common.{◌<◌, ◌≡◌, ℕ, suc, ◌≤◌, List, [], ◌∷◌, ◌++◌, length, Option, Some, None, Ok, Err, refl, sym, ap, ◌∙◌, subst, arith}
use Rattle.std.proofs.lemmas.List.{append_assoc, append-nil}
use Rattle.f77_ast.specs.declared.expr.Expr.{Expr}
use Rattle.f77_ast.specs.declared.expr.Part.{Part}
use Rattle.f77_exprs.specs.declared.operators.Infix.{Infix}
use Rattle.f77_exprs.specs.declared.operators.Infix.TheVariants as between
use Rattle.f77_exprs.specs.declared.operators.Prefix.TheVariants as before
use Rattle.f77_exprs.specs.Operators.{Text, spelling, below, grouping, left_level}
use Rattle.f77_exprs.specs.Spelling.{top_level, Spells, truth, falsehood, parentheses, lower, joined, SpellsArguments, no_list, empty_list, list, SpellsAll, last, more, SpellsPart, no_part, SpellsBound, left_out, given}
use Rattle.f77_exprs.specs.Spelling as spelled
use Rattle.f77_ast.specs.declared.refusal.Refusal.{Refusal}
use Rattle.f77_ast.specs.declared.refusal.FrontError.TheVariants.{Refused}
use Rattle.f77_exprs.specs.Answer.{Answers}
use Rattle.f77_exprs.specs.Cause.{refusal_of}
use Rattle.f77_exprs.proofs.Sound.{read_is_spelled}
use Rattle.f77_exprs.specs.Reading.{alphanumerics, expr_within, all_of, expr_of}
use Rattle.f77_exprs.proofs.Complete.{Free, Starts, Bare, Complete, level_read, lower_step, prefix_step, joined_step, ending, whole_read}
use Rattle.f77_exprs.proofs.Primaries.{CompleteBound, CompletePart, CompleteAll, CompleteArguments, number_step, truth_step, falsehood_step, constant_step, parentheses_step, left_out_step, given_step, no_part_step, part_step, last_step, more_step, no_list_step, empty_list_step, list_step, reference_step, letter_starts, digit_starts, letter_bare, digit_bare}

-- ---- what a spelling begins with

pub starts : {k : ℕ} {a : Expr} {s : Text} → Spells k a s → (r : Text) → Starts (s ++ r)
starts (spelled.number s all fits) r = digit_starts s r all
starts truth r = (refl, refl, refl, refl)
starts falsehood r = (refl, refl, refl, refl)
starts (spelled.constant bytes some) r = (refl, refl, refl, refl)
starts (spelled.reference n {s = s} {t = t} is h g) r = subst Starts (sym (append_assoc n (s ++ t) r)) (letter_starts n ((s ++ t) ++ r) is)
starts (parentheses h) r = (refl, refl, refl, refl)
starts (lower h) r = starts h r
starts (spelled.prefixed before.Plus h) r = (refl, refl, refl, refl)
starts (spelled.prefixed before.Neg h) r = (refl, refl, refl, refl)
starts (spelled.prefixed before.Not h) r = (refl, refl, refl, refl)
starts (joined o {s = s} {t = t} h g) r = subst Starts (sym (append_assoc s (spelling o ++ t) r)) (starts h ((spelling o ++ t) ++ r))

starts_all : {all : List Expr} {s : Text} → SpellsAll all s → (r : Text) → Starts (s ++ r)
starts_all (last h) r = starts h r
starts_all (more {s = s} {t = t} h g) r = subst Starts (sym (append_assoc s (44 ∷ t) r)) (starts h ((44 ∷ t) ++ r))

wider : (j k : ℕ) (t : Text) → j ≤ k → Bare j t → Bare k t
wider j k t le h = ((λ lt. h.0 (omega arith)), (λ lt. h.1 (omega arith)), (λ lt. h.2 (omega arith)))

left_within : (o : Infix) → left_level o ≤ suc (below o)
left_within between.Pow = omega arith
left_within between.Mul = omega arith
left_within between.Div = omega arith
left_within between.Add = omega arith
left_within between.Sub = omega arith
left_within between.Cat = omega arith
left_within between.Eq = omega arith
left_within between.Ne = omega arith
left_within between.Lt = omega arith
left_within between.Le = omega arith
left_within between.Gt = omega arith
left_within between.Ge = omega arith
left_within between.And = omega arith
left_within between.Or = omega arith
left_within between.Eqv = omega arith
left_within between.Neqv = omega arith

pub bare : {k : ℕ} {a : Expr} {s : Text} → Spells k a s → (r : Text) → Bare k (s ++ r)
bare (spelled.number s all fits) r = digit_bare s r all
bare truth r = ((λ lt. refl), (λ lt. refl), (λ lt. refl))
bare falsehood r = ((λ lt. refl), (λ lt. refl), (λ lt. refl))
bare (spelled.constant bytes some) r = ((λ lt. refl), (λ lt. refl), (λ lt. refl))
bare (spelled.reference n {s = s} {t = t} is h g) r = subst (Bare 0) (sym (append_assoc n (s ++ t) r)) (letter_bare n ((s ++ t) ++ r) is)
bare (parentheses h) r = ((λ lt. refl), (λ lt. refl), (λ lt. refl))
bare (lower {k = k} {s = s} h) r = wider k (suc k) (s ++ r) (omega arith) (bare h r)
bare (spelled.prefixed before.Plus h) r = ((λ lt. absurd (omega arith)), (λ lt. absurd (omega arith)), (λ lt. refl))
bare (spelled.prefixed before.Neg h) r = ((λ lt. absurd (omega arith)), (λ lt. absurd (omega arith)), (λ lt. refl))
bare (spelled.prefixed before.Not h) r = ((λ lt. absurd (omega arith)), (λ lt. absurd (omega arith)), (λ lt. absurd (omega arith)))
bare (joined o {s = s} {t = t} h g) r = wider (left_level o) (suc (below o)) ((s ++ (spelling o ++ t)) ++ r) (left_within o) (subst (Bare (left_level o)) (sym (append_assoc s (spelling o ++ t) r)) (bare h ((spelling o ++ t) ++ r)))

-- no letter or digit stands behind a name
part_stops : {part : Option Part} {t : Text} → SpellsPart part t → (r : Text) → alphanumerics r ≡ 0 → alphanumerics (t ++ r) ≡ 0
part_stops no_part r e = e
part_stops (spelled.part h g) r e = refl

stops : {arguments : Option (List Expr)} {part : Option Part} {s t : Text} → SpellsArguments arguments s → SpellsPart part t → (r : Text) → alphanumerics r ≡ 0 → alphanumerics (s ++ (t ++ r)) ≡ 0
stops no_list g r e = part_stops g r e
stops empty_list g r e = refl
stops (list h) g r e = refl

-- ---- the induction

mutual
  pub complete : {k : ℕ} {a : Expr} {s : Text} → Spells k a s → Complete k a s
  complete (spelled.number s all fits) = number_step s all fits
  complete truth = truth_step
  complete falsehood = falsehood_step
  complete (spelled.constant bytes some) = constant_step bytes some
  complete (spelled.reference n is h g) = reference_step n _ _ _ _ is (stops h g) (complete_arguments h) (complete_part g)
  complete (parentheses h) = parentheses_step _ _ (complete h)
  complete (lower {k = k} {a = a} {s = s} h) = lower_step (grouping (suc k)) k a s refl (bare h) (level_read k a s (complete h))
  complete (spelled.prefixed o h) = prefix_step o _ _ (complete h)
  complete (joined o h g) = joined_step o _ _ _ _ (starts g) (complete h) (complete g)

  complete_arguments : {arguments : Option (List Expr)} {s : Text} → SpellsArguments arguments s → CompleteArguments arguments s
  complete_arguments no_list = no_list_step
  complete_arguments empty_list = empty_list_step
  complete_arguments (list h) = list_step _ _ (starts_all h) (complete_all h)

  complete_all : {all : List Expr} {s : Text} → SpellsAll all s → CompleteAll all s
  complete_all (last h) = last_step _ _ (complete h)
  complete_all (more h g) = more_step _ _ _ _ (complete h) (complete_all g)

  complete_part : {part : Option Part} {t : Text} → SpellsPart part t → CompletePart part t
  complete_part no_part = no_part_step
  complete_part (spelled.part h g) = part_step _ _ _ _ (complete_bound h) (complete_bound g)

  complete_bound : {low : Option Expr} {s : Text} → SpellsBound low s → CompleteBound low s
  complete_bound left_out = left_out_step
  complete_bound (given h) = given_step _ _ (starts h) (complete h)

-- what is spelled as an expr is read, before any rest that may follow
pub expr_is_read : (a : Expr) (s : Text) → Spells top_level a s → (depth : ℕ) → length s < depth → (r : Text) → Free top_level r → expr_within depth (s ++ r) ≡ Some (a, r)
expr_is_read a s h = whole_read a s (complete h)

pub spelled_is_read : (text : Text) (a : Expr) → Spells top_level a text → expr_of text ≡ Some a
unfolding expr_of
spelled_is_read text a h =
    ap all_of (ap (expr_within (suc (length text))) (sym (append-nil text)) ∙ whole_read a text (complete h) (suc (length text)) (omega arith) [] ending)

pub one_tree : (text : Text) (one other : Expr) → Spells top_level one text → Spells top_level other text → one ≡ other
one_tree text one other h g =
    let p = spelled_is_read text one h in
    let q = spelled_is_read text other g in
    let e : Some one ≡ Some other = sym p ∙ q in
    cc

-- ---- what is answered

pub answers_tree : (text : Text) (tree : Expr) → Some tree ≡ expr_of text → Answers text (Ok tree)
answers_tree text tree e = (read_is_spelled text tree (sym e), λ other h. one_tree text other tree h (read_is_spelled text tree (sym e)))

pub answers_none : (text : Text) (refusal : Refusal) → None ≡ expr_of text → refusal ≡ refusal_of text → Answers text (Err (Refused refusal))
answers_none text refusal e is = ((λ tree h. let k : None ≡ Some tree = e ∙ spelled_is_read text tree h in cc), is)
