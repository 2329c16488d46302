-- The levels, gone through from the tightest, make of a text what the grammar makes of it.
use Rattle.std.proofs.Common.{◌≡◌, ℕ, zero, suc, ◌+◌, ◌-◌, ◌≤◌, ◌<◌, Some, None, refl, sym, ap, ◌∙◌, subst, arith}
use Rattle.f77_ast.specs.declared.expr.Expr.{Expr}
use Rattle.f77_exprs.specs.declared.reader.Heads.{Heads}
use Rattle.f77_exprs.specs.Operators.{Text, grouping}
use Rattle.f77_exprs.specs.Reading.{Outcome, Parser, and_then, pure, next_prefix, prefixed, rest_of, primary, level, expr_within}
use Rattle.f77_exprs.specs.Climbing.{heads, head_at, climbed}

associates : {A B C : Type 0} (o : Outcome A) (f : A → Parser B) (g : B → Parser C) → and_then (and_then o f) g ≡ and_then o (λ a i. and_then (f a i) g)
associates (Some p) f g = refl
associates None f g = refl

ends : {A : Type 0} (o : Outcome A) → o ≡ and_then o (λ a. pure a)
ends (Some p) = refl
ends None = refl

module _ (inner : Parser Expr) where
  -- one level more
  climbs : (k : ℕ) (i j : Text) (h : Heads) (o : Outcome Expr) → next_prefix (suc k) i ≡ Some (head_at h (suc k), j) → level inner k j ≡ and_then o (climbed inner h k) → level inner (suc k) i ≡ and_then o (climbed inner h (suc k))
  unfolding level climbed
  climbs k i j h o e below =
      ap (λ x. and_then x (λ found. λ i. and_then (level inner k i) (λ first. rest_of (grouping (suc k)) (level inner k) (suc k) (prefixed found first)))) e
      ∙ ap (λ x. and_then x (λ first. rest_of (grouping (suc k)) (level inner k) (suc k) (prefixed (head_at h (suc k)) first))) below
      ∙ associates o (climbed inner h k) (λ first. rest_of (grouping (suc k)) (level inner k) (suc k) (prefixed (head_at h (suc k)) first))

  abbrev Same : ℕ → Heads → Text → Text → Type 0
  Same k h i j = level inner k i ≡ and_then (primary inner j) (climbed inner h k)

  primaries : (h : Heads) (i : Text) → Same 0 h i i
  unfolding level climbed
  primaries h i = ends (primary inner i)

  factors : (h : Heads) (i : Text) → Same 1 h i i
  factors h i = climbs 0 i i h (primary inner i) refl (primaries h i)

  terms : (h : Heads) (i : Text) → Same 2 h i i
  terms h i = climbs 1 i i h (primary inner i) refl (factors h i)

  sums : (h : Heads) (i j : Text) → next_prefix 3 i ≡ Some (h.sign, j) → Same 3 h i j
  sums h i j e = climbs 2 i j h (primary inner j) e (terms h j)

  characters : (h : Heads) (i j : Text) → next_prefix 3 i ≡ Some (h.sign, j) → Same 4 h i j
  characters h i j e = climbs 3 i i h (primary inner j) refl (sums h i j e)

  relations : (h : Heads) (i j : Text) → next_prefix 3 i ≡ Some (h.sign, j) → Same 5 h i j
  relations h i j e = climbs 4 i i h (primary inner j) refl (characters h i j e)

  negations : (h : Heads) (i m j : Text) → next_prefix 6 i ≡ Some (h.negation, m) → next_prefix 3 m ≡ Some (h.sign, j) → Same 6 h i j
  negations h i m j f e = climbs 5 i m h (primary inner j) f (relations h m j e)

  conjunctions : (h : Heads) (i m j : Text) → next_prefix 6 i ≡ Some (h.negation, m) → next_prefix 3 m ≡ Some (h.sign, j) → Same 7 h i j
  conjunctions h i m j f e = climbs 6 i i h (primary inner j) refl (negations h i m j f e)

  disjunctions : (h : Heads) (i m j : Text) → next_prefix 6 i ≡ Some (h.negation, m) → next_prefix 3 m ≡ Some (h.sign, j) → Same 8 h i j
  disjunctions h i m j f e = climbs 7 i i h (primary inner j) refl (conjunctions h i m j f e)

  whole : (h : Heads) (i m j : Text) → next_prefix 6 i ≡ Some (h.negation, m) → next_prefix 3 m ≡ Some (h.sign, j) → Same 9 h i j
  whole h i m j f e = climbs 8 i i h (primary inner j) refl (disjunctions h i m j f e)

  abbrev Is : ℕ → Text → Outcome Heads → Type 0
  Is k i (Some p) = Same k p.0 i p.1
  Is k i None = Unit {0}

  is : (k : ℕ) (i : Text) → k ≤ 9 → Is k i (heads k i)
  is zero i le = primaries _ i
  is (suc zero) i le = factors _ i
  is (suc (suc zero)) i le = terms _ i
  is (suc (suc (suc zero))) i le = sums _ i _ refl
  is (suc (suc (suc (suc zero)))) i le = characters _ i _ refl
  is (suc (suc (suc (suc (suc zero))))) i le = relations _ i _ refl
  is (suc (suc (suc (suc (suc (suc zero)))))) i le = negations _ i _ _ refl refl
  is (suc (suc (suc (suc (suc (suc (suc zero))))))) i le = conjunctions _ i _ _ refl refl
  is (suc (suc (suc (suc (suc (suc (suc (suc zero)))))))) i le = disjunctions _ i _ _ refl refl
  is (suc (suc (suc (suc (suc (suc (suc (suc (suc zero))))))))) i le = whole _ i _ _ refl refl
  is (suc (suc (suc (suc (suc (suc (suc (suc (suc (suc k)))))))))) i le = absurd (omega arith)

  level_climbs : (k : ℕ) (i j : Text) (h : Heads) → k ≤ 9 → heads k i ≡ Some (h, j) → Same k h i j
  level_climbs k i j h le e = subst (Is k i) e (is k i le)

  pub level_missing : (k : ℕ) (i j : Text) (h : Heads) → k ≤ 9 → heads k i ≡ Some (h, j) → primary inner j ≡ None → level inner k i ≡ None
  level_missing k i j h le e none = level_climbs k i j h le e ∙ ap (λ x. and_then x (climbed inner h k)) none

  pub level_is : (k : ℕ) (i j r : Text) (h : Heads) (a : Expr) (o : Outcome Expr) → k ≤ 9 → heads k i ≡ Some (h, j) → primary inner j ≡ Some (a, r) → climbed inner h k a r ≡ o → level inner k i ≡ o
  level_is k i j r h a o le e found there = level_climbs k i j h le e ∙ ap (λ x. and_then x (climbed inner h k)) found ∙ there

  pub climbed_none : (h : Heads) (a : Expr) (r : Text) → climbed inner h 0 a r ≡ Some (a, r)
  unfolding climbed
  climbed_none h a r = refl

  -- what is read of one level more
  pub climbed_one : (m : ℕ) (h : Heads) (a b x : Expr) (r j : Text) (o : Outcome Expr) → climbed inner h m a r ≡ Some (b, j) → x ≡ prefixed (head_at h (m + 1)) b → rest_of (grouping (m + 1)) (level inner m) (m + 1) x j ≡ o → climbed inner h (m + 1) a r ≡ o
  unfolding climbed
  climbed_one m h a b x r j o e is there =
      let k : m + 1 ≡ suc m = omega arith in
      ap (λ n. climbed inner h n a r) k
      ∙ ap (λ y. and_then y (λ first. rest_of (grouping (suc m)) (level inner m) (suc m) (prefixed (head_at h (suc m)) first))) e
      ∙ ap (λ n. rest_of (grouping n) (level inner m) n (prefixed (head_at h n) b) j) (sym k)
      ∙ ap (λ y. rest_of (grouping (m + 1)) (level inner m) (m + 1) y j) (sym is)
      ∙ there

  -- what is missing at a level is missing at all above
  pub climbed_missing : (n m : ℕ) (h : Heads) (a : Expr) (r : Text) → climbed inner h m a r ≡ None → climbed inner h (n + m) a r ≡ None
  unfolding climbed
  climbed_missing zero m h a r e = let k : 0 + m ≡ m = omega arith in ap (λ x. climbed inner h x a r) k ∙ e
  climbed_missing (suc n) m h a r e =
      let k : suc n + m ≡ suc (n + m) = omega arith in
      ap (λ x. climbed inner h x a r) k
      ∙ ap (λ y. and_then y (λ first. rest_of (grouping (suc (n + m))) (level inner (n + m)) (suc (n + m)) (prefixed (head_at h (suc (n + m))) first))) (climbed_missing n m h a r e)

  pub level_fails : (k m : ℕ) (i j r : Text) (h : Heads) (a : Expr) → k ≤ 9 → m ≤ k → heads k i ≡ Some (h, j) → primary inner j ≡ Some (a, r) → climbed inner h m a r ≡ None → level inner k i ≡ None
  level_fails k m i j r h a le within e found none =
      let s : k - m + m ≡ k = omega arith in
      level_is k i j r h a None le e found (subst (λ n. climbed inner h n a r ≡ None) s (climbed_missing (k - m) m h a r none))

-- ---- the depth of parentheses

pub no_depth : (depth : ℕ) (i : Text) → depth ≡ 0 → expr_within depth i ≡ None
unfolding expr_within
no_depth zero i e = refl
no_depth (suc depth) i e = absurd (omega arith)

pub one_deeper : (depth : ℕ) (i : Text) → 0 < depth → expr_within depth i ≡ level (expr_within (depth - 1)) 9 i
unfolding expr_within
one_deeper zero i some = absurd (omega arith)
one_deeper (suc depth) i some = let e : suc depth - 1 ≡ depth = omega arith in ap (λ d. level (expr_within d) 9 i) (sym e)
