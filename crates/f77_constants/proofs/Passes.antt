-- Passes over the names of constants.
use Rattle.std.proofs.Common.{◌≡◌, ℕ, zero, suc, ◌+◌, ◌≤◌, Bool, true, false, ◌||◌, ◌⊎◌, inl, inr, List, [], ◌∷◌, ◌++◌, length, length-append, Option, None, Some, refl, sym, ap, ◌∙◌, arith, if◌then◌else◌}
use Rattle.std.proofs.lemmas.List.Folds.{list_any-append}
use Rattle.std.specs.List.{list_any}
use Rattle.std.specs.Option.{is_some, option_or}
use Rattle.f77_leaves.specs.Declarations.{Declarations, same_name}
use Rattle.f77_structure.specs.Values.{Value}
use Rattle.f77_uses.proofs.KnownLemmas.{same_is, own_name, same_functions}
use Rattle.f77_constants.specs.Constants.{constant_value}
use Rattle.f77_constants.specs.Laws.{Extends}
use Rattle.f77_constants.specs.Rounds.{Round, IsFixed, has_name, settled_with}
use Rattle.f77_constants.proofs.Growing.{constant_grows}

or_cases : (a b : Bool) → (a || b) ≡ true → (a ≡ true) ⊎ (b ≡ true)
or_cases true b e = inl refl
or_cases false b e = inr e

-- a name of a list with one more is of the list, or that one
pub last_or_before : (names : List (List ℕ)) (last name : List ℕ) → has_name (names ++ last ∷ []) name ≡ true → (has_name names name ≡ true) ⊎ (name ≡ last)
last_or_before names last name e = by (or_cases (has_name names name) (has_name (last ∷ []) name) (sym (list_any-append (same_name name) names (last ∷ [])) ∙ e))
  where
    one : (b : Bool) → same_name name last ≡ b → (b || false) ≡ true → name ≡ last
    one true f g = same_is name last f
    one false f g = absurd (cc)

    by : (has_name names name ≡ true) ⊎ (has_name (last ∷ []) name ≡ true) → (has_name names name ≡ true) ⊎ (name ≡ last)
    by (inl h) = inl h
    by (inr h) = inr (one (same_name name last) refl h)

has_before : (names : List (List ℕ)) (last name : List ℕ) → has_name names name ≡ true → has_name (names ++ last ∷ []) name ≡ true
has_before names last name e = list_any-append (same_name name) names (last ∷ []) ∙ ap (λ b. b || has_name (last ∷ []) name) e

or_true : (a : Bool) → (a || true) ≡ true
or_true true = refl
or_true false = refl

has_last : (names : List (List ℕ)) (last : List ℕ) → has_name (names ++ last ∷ []) last ≡ true
has_last names last = list_any-append (same_name last) names (last ∷ []) ∙ ap (λ b. has_name names last || (b || false)) (own_name last) ∙ or_true (has_name names last)

kept_value : (a b : Option Value) (value : Value) → a ≡ Some value → option_or a b ≡ Some value
kept_value a b value e = ap (λ o. option_or o b) e

some_is : (a : Option Value) (value : Value) → a ≡ Some value → is_some a ≡ true
some_is a value e = ap is_some e

module _ (unit : Declarations) (lengths : List ℕ → Option ℕ) where
  pub nothing_yet : (values : List ℕ → Option Value) → Round unit lengths values values [] []
  nothing_yet values = record {
    keeps = record { has = λ name value e. e };
    sound = λ all fixed within. within;
    covers = λ name e. absurd (cc);
    fewer = omega arith;
    same = λ all name. refl;
    stuck = λ all name e. absurd (cc);
  }

  -- one name more
  module _ (start before after : List ℕ → Option Value) (x : List ℕ) (settled : (other : List ℕ) → after other ≡ settled_with unit lengths before x other) (done left : List (List ℕ)) (by_now : Round unit lengths start before done left) where
    keeps_on : Extends before after
    keeps_on = record { has = λ name value e. settled name ∙ kept_value (before name) (if same_name name x then constant_value unit lengths before x else None) value e }

    sound_on : (all : List ℕ → Option Value) → IsFixed unit lengths all → Extends start all → Extends after all
    sound_on all fixed within = record { has = λ name value e. by name value (before name) refl (same_name name x) refl (sym (settled name) ∙ e) }
      where
        held : Extends before all
        held = by_now.sound all fixed within

        by : (name : List ℕ) (value : Value) (o : Option Value) → before name ≡ o → (b : Bool) → same_name name x ≡ b → option_or o (if b then constant_value unit lengths before x else None) ≡ Some value → all name ≡ Some value
        by name value (Some w) e b f g = held.has name value (e ∙ g)
        by name value None e true f g = ap all (same_is name x f) ∙ sym (fixed.gives x) ∙ (constant_grows before all held unit lengths).has x value g
        by name value None e false f g = absurd (cc)

    -- where the name has no value still, nothing has changed
    unchanged : is_some (after x) ≡ false → ((name : List ℕ) → after name ≡ before name) × (constant_value unit lengths before x ≡ None)
    unchanged e = by (before x) refl (constant_value unit lengths before x) refl (own_name x)
      where
        nothing : (o : Option Value) (b : Bool) → option_or o (if b then None else None) ≡ o
        nothing (Some w) b = refl
        nothing None true = refl
        nothing None false = refl

        by : (o : Option Value) → before x ≡ o → (p : Option Value) → constant_value unit lengths before x ≡ p → same_name x x ≡ true → ((name : List ℕ) → after name ≡ before name) × (constant_value unit lengths before x ≡ None)
        by (Some w) f p g own = absurd (cc (e, some_is (after x) w (keeps_on.has x w f)))
        by None f (Some w) g own = absurd (cc (e, some_is (after x) w (settled x ∙ ap (λ o. option_or o (if same_name x x then constant_value unit lengths before x else None)) f ∙ ap (λ b. if b then constant_value unit lengths before x else None) own ∙ g)))
        by None f None g own = (λ name. settled name ∙ ap (λ p. option_or (before name) (if same_name name x then p else None)) g ∙ nothing (before name) (same_name name x), g)

    start_keeps : Extends start after
    start_keeps = record { has = λ name value e. keeps_on.has name value (by_now.keeps.has name value e) }

    still_has : (name : List ℕ) → is_some (before name) ≡ true → is_some (after name) ≡ true
    still_has name e = by (before name) refl e
      where
        by : (o : Option Value) → before name ≡ o → is_some o ≡ true → is_some (after name) ≡ true
        by None f g = absurd (cc)
        by (Some w) f g = some_is (after name) w (keeps_on.has name w f)

    -- it has a value now
    with_value : is_some (after x) ≡ true → Round unit lengths start after (done ++ x ∷ []) left
    with_value has = record {
      keeps = start_keeps;
      sound = sound_on;
      covers = λ name e. covered name (last_or_before done x name e);
      fewer = omega (arith, by_now.fewer, length-append done (x ∷ []));
      same = λ all. absurd (too_many all);
      stuck = λ all. absurd (too_many all);
    }
      where
        too_many : length left ≡ length (done ++ x ∷ []) → ⊥
        too_many all = omega (arith, all, by_now.fewer, length-append done (x ∷ []))

        old : (name : List ℕ) → (is_some (before name) ≡ true) ⊎ (has_name left name ≡ true) → (is_some (after name) ≡ true) ⊎ (has_name left name ≡ true)
        old name (inl h) = inl (still_has name h)
        old name (inr h) = inr h

        covered : (name : List ℕ) → (has_name done name ≡ true) ⊎ (name ≡ x) → (is_some (after name) ≡ true) ⊎ (has_name left name ≡ true)
        covered name (inl h) = old name (by_now.covers name h)
        covered name (inr h) = inl (ap (λ n. is_some (after n)) h ∙ has)

    -- it has none still
    without_value : is_some (after x) ≡ false → Round unit lengths start after (done ++ x ∷ []) (left ++ x ∷ [])
    without_value lacks = record {
      keeps = start_keeps;
      sound = sound_on;
      covers = λ name e. covered name (last_or_before done x name e);
      fewer = omega (arith, by_now.fewer, length-append done (x ∷ []), length-append left (x ∷ []));
      same = λ all name. (unchanged lacks).0 name ∙ by_now.same (as_before all) name;
      stuck = λ all name e. none (as_before all) name (last_or_before done x name e);
    }
      where
        as_before : length (left ++ x ∷ []) ≡ length (done ++ x ∷ []) → length left ≡ length done
        as_before all = omega (arith, all, length-append done (x ∷ []), length-append left (x ∷ []))

        old : (name : List ℕ) → (is_some (before name) ≡ true) ⊎ (has_name left name ≡ true) → (is_some (after name) ≡ true) ⊎ (has_name (left ++ x ∷ []) name ≡ true)
        old name (inl h) = inl (still_has name h)
        old name (inr h) = inr (has_before left x name h)

        covered : (name : List ℕ) → (has_name done name ≡ true) ⊎ (name ≡ x) → (is_some (after name) ≡ true) ⊎ (has_name (left ++ x ∷ []) name ≡ true)
        covered name (inl h) = old name (by_now.covers name h)
        covered name (inr h) = inr (ap (has_name (left ++ x ∷ [])) h ∙ has_last left x)

        none : length left ≡ length done → (name : List ℕ) → (has_name done name ≡ true) ⊎ (name ≡ x) → constant_value unit lengths start name ≡ None
        none all name (inl h) = by_now.stuck all name h
        none all name (inr h) =
            ap (constant_value unit lengths start) h
            ∙ ap (λ (v : List ℕ → Option Value). constant_value unit lengths v x) (sym (same_functions before start (by_now.same all)))
            ∙ (unchanged lacks).1

    pub turn : (has : Bool) → has ≡ is_some (after x) → Round unit lengths start after (done ++ x ∷ []) (if has then left else left ++ x ∷ [])
    turn true e = with_value (sym e)
    turn false e = without_value (sym e)
