-- The values of constants are the least ones with which each constant has what its expression gives.
use Rattle.std.proofs.Common.{◌≡◌, ℕ, zero, suc, ◌+◌, ◌≤◌, Bool, true, false, not, ◌||◌, ◌&&◌, ◌⊎◌, inl, inr, List, [], ◌∷◌, length, Option, None, Some, option_and_then, refl, sym, ap, ◌∙◌, arith, if◌then◌else◌}
use Rattle.std.specs.List.{list_all}
use Rattle.std.specs.Option.{is_some}
use Rattle.f77_ast.specs.declared.expr.Expr.{Expr}
use Rattle.f77_ast.specs.declared.program.Listed.{Listed}
use Rattle.f77_leaves.specs.Declarations.{Declarations, declarations_of, name_kind}
use Rattle.f77_structure.specs.Values.{Value}
use Rattle.f77_constants.specs.Constants.{constant_value, constant_names, taken, value_of_option, values_within, values_with}
use Rattle.f77_constants.specs.Laws.{Extends, IsClosed, AreLeast, ValuesAreLeast}
use Rattle.f77_constants.proofs.Growing.{constant_grows}
use Rattle.f77_constants.specs.Rounds.{has_name}
use Rattle.f77_constants.proofs.NameLemmas.{constant_named, holds_of}

-- how many pass a test
many : (test : List ℕ → Bool) → List (List ℕ) → ℕ
many test [] = 0
many test (name ∷ names) = if test name then suc (many test names) else many test names

no_more_by : (b : Bool) (m n : ℕ) → m ≤ n → (if b then suc m else m) ≤ suc n
no_more_by true m n h = omega (arith, h)
no_more_by false m n h = omega (arith, h)

no_more : (test : List ℕ → Bool) (names : List (List ℕ)) → many test names ≤ length names
unfolding many
no_more test [] = omega arith
no_more test (name ∷ names) = no_more_by (test name) (many test names) (length names) (no_more test names)

one_more : (a b t : Bool) (m n : ℕ) → (a ≡ true → b ≡ true) → ((t ≡ true) × (m ≤ n)) ⊎ (m + 1 ≤ n) → ((((not b || a) && t) ≡ true) × ((if a then suc m else m) ≤ (if b then suc n else n))) ⊎ ((if a then suc m else m) + 1 ≤ (if b then suc n else n))
one_more true true t m n within (inl k) = inl (k.0, omega (arith, k.1))
one_more true true t m n within (inr k) = inr (omega (arith, k))
one_more true false t m n within rest = absurd (cc (within refl))
one_more false true t m n within (inl k) = inr (omega (arith, k.1))
one_more false true t m n within (inr k) = inr (omega (arith, k))
one_more false false t m n within (inl k) = inl (k.0, k.1)
one_more false false t m n within (inr k) = inr k

-- where one test passes all that another does, either they agree on a list, or it passes more of it
agree_or_more : (fewer more : List ℕ → Bool) → ((name : List ℕ) → fewer name ≡ true → more name ≡ true) → (names : List (List ℕ)) → ((list_all (λ name. not (more name) || fewer name) names ≡ true) × (many fewer names ≤ many more names)) ⊎ (many fewer names + 1 ≤ many more names)
unfolding many
agree_or_more fewer more within [] = inl (refl, omega arith)
agree_or_more fewer more within (name ∷ names) = one_more (fewer name) (more name) (list_all (λ n. not (more n) || fewer n) names) (many fewer names) (many more names) (within name) (agree_or_more fewer more within names)

pub value_is : (a : Option Value) → is_some a ≡ true → (value : Value) × (a ≡ Some value)
value_is None e = absurd (cc)
value_is (Some value) e = (value, refl)

some_is : (a : Option Value) (value : Value) → a ≡ Some value → is_some a ≡ true
some_is a value e = ap is_some e

expr_is : (kind : Value → Option Value) (values : List ℕ → Option Value) (o : Option Expr) (value : Value) → option_and_then kind (value_of_option values o) ≡ Some value → is_some o ≡ true
expr_is kind values None value e = absurd (cc)
expr_is kind values (Some expr) value e = refl

-- what has a value by its expression is a constant's name
pub named : (listing : List Listed) (lengths : List ℕ → Option ℕ) (values : List ℕ → Option Value) (name : List ℕ) (value : Value) → constant_value (declarations_of listing) lengths values name ≡ Some value → has_name (constant_names listing) name ≡ true
named listing lengths values name value e = sym (constant_named listing name) ∙ expr_is (taken (name_kind (declarations_of listing) name) (lengths name)) values ((declarations_of listing).known name).value value e

-- two ways to have values, each of which has what the other has, are one
pub alike : (a b : Option Value) → ((value : Value) → a ≡ Some value → b ≡ Some value) → ((value : Value) → b ≡ Some value → a ≡ Some value) → a ≡ b
alike None None h k = refl
alike None (Some value) h k = k value refl
alike (Some value) b h k = sym (h value refl)

module _ (listing : List Listed) (lengths : List ℕ → Option ℕ) where
  abbrev unit : Declarations
  unit = declarations_of listing

  abbrev stage : ℕ → List ℕ → Option Value
  stage = values_within unit lengths

  abbrev has_value : ℕ → List ℕ → Bool
  has_value depth name = is_some (stage depth name)

  rises : (depth : ℕ) → Extends (stage depth) (stage (suc depth))
  rises zero = record { has = λ name value e. absurd (cc) }
  rises (suc depth) = constant_grows (stage depth) (stage (suc depth)) (rises depth) unit lengths

  passes : (depth : ℕ) (name : List ℕ) → has_value depth name ≡ true → has_value (suc depth) name ≡ true
  passes depth name e = let v = value_is (stage depth name) e in some_is (stage (suc depth) name) v.0 ((rises depth).has name v.0 v.1)

  abbrev Settled : ℕ → Type 0
  Settled depth = Extends (stage (suc depth)) (stage depth)

  settles_on : (depth : ℕ) → Settled depth → Settled (suc depth)
  settles_on depth settled = constant_grows (stage (suc depth)) (stage depth) settled unit lengths

  settles : (depth : ℕ) → list_all (λ name. not (has_value (suc depth) name) || has_value depth name) (constant_names listing) ≡ true → Settled depth
  settles depth all = record {
    has = λ name value e.
        let tested : (not (has_value (suc depth) name) || has_value depth name) ≡ true = holds_of (λ n. not (has_value (suc depth) n) || has_value depth n) (constant_names listing) name all (named listing lengths (stage depth) name value e) in
        let has : has_value depth name ≡ true = by (has_value depth name) (has_value (suc depth) name) (some_is (stage (suc depth) name) value e) tested in
        let v = value_is (stage depth name) has in
        v.1 ∙ sym ((rises depth).has name v.0 v.1) ∙ e;
  }
    where
      by : (a b : Bool) → b ≡ true → (not b || a) ≡ true → a ≡ true
      by a true e f = f
      by a false e f = absurd (cc)

  -- each stage has a constant more than the one before, or nothing more comes
  progress : (depth : ℕ) → (depth ≤ many (has_value depth) (constant_names listing)) ⊎ Settled depth
  progress zero = inl (omega arith)
  progress (suc depth) = by (progress depth)
    where
      more : depth ≤ many (has_value depth) (constant_names listing) → ((list_all (λ name. not (has_value (suc depth) name) || has_value depth name) (constant_names listing) ≡ true) × (many (has_value depth) (constant_names listing) ≤ many (has_value (suc depth)) (constant_names listing))) ⊎ (many (has_value depth) (constant_names listing) + 1 ≤ many (has_value (suc depth)) (constant_names listing)) → (suc depth ≤ many (has_value (suc depth)) (constant_names listing)) ⊎ Settled (suc depth)
      more h (inl agreed) = inr (settles_on depth (settles depth agreed.0))
      more h (inr k) = inl (omega arith)

      by : (depth ≤ many (has_value depth) (constant_names listing)) ⊎ Settled depth → (suc depth ≤ many (has_value (suc depth)) (constant_names listing)) ⊎ Settled (suc depth)
      by (inl h) = more h (agree_or_more (has_value depth) (has_value (suc depth)) (passes depth) (constant_names listing))
      by (inr settled) = inr (settles_on depth settled)

  settled_at_last : Settled (suc (length (constant_names listing)))
  settled_at_last = by (progress (suc (length (constant_names listing))))
    where
      by : (suc (length (constant_names listing)) ≤ many (has_value (suc (length (constant_names listing)))) (constant_names listing)) ⊎ Settled (suc (length (constant_names listing))) → Settled (suc (length (constant_names listing)))
      by (inl h) = absurd (omega (arith, h, no_more (has_value (suc (length (constant_names listing)))) (constant_names listing)))
      by (inr settled) = settled

  least_by : (depth : ℕ) (others : List ℕ → Option Value) → IsClosed unit lengths others → Extends (stage depth) others
  least_by zero others closed = record { has = λ name value e. absurd (cc) }
  least_by (suc depth) others closed = record { has = λ name value e. closed.has name value ((constant_grows (stage depth) others (least_by depth others closed) unit lengths).has name value e) }

  pub are_least : AreLeast unit lengths (values_with listing lengths)
  unfolding values_with
  are_least = record {
    gives = λ name. alike (stage (suc (suc (length (constant_names listing)))) name) (stage (suc (length (constant_names listing))) name) (settled_at_last.has name) ((rises (suc (length (constant_names listing)))).has name);
    least = λ others closed. least_by (suc (length (constant_names listing))) others closed;
  }

pub values_are_least : ValuesAreLeast
values_are_least listing lengths = are_least listing lengths
