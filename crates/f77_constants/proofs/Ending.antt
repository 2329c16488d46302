-- The last pass over the names of constants.
use Rattle.std.proofs.Common.{◌≡◌, ℕ, Bool, true, false, ◌⊎◌, inl, inr, List, length, Option, None, Some, refl, sym, ap, ◌∙◌}
use Rattle.std.specs.Option.{is_some}
use Rattle.f77_ast.specs.declared.program.Listed.{Listed}
use Rattle.f77_leaves.specs.Declarations.{Declarations, declarations_of}
use Rattle.f77_structure.specs.Values.{Value}
use Rattle.f77_uses.proofs.KnownLemmas.{same_functions}
use Rattle.f77_constants.specs.Constants.{constant_value, constant_names, values_with}
use Rattle.f77_constants.specs.Laws.{Extends, IsClosed}
use Rattle.f77_constants.specs.Rounds.{Round, IsFixed, has_name}
use Rattle.f77_constants.proofs.Growing.{constant_grows}
use Rattle.f77_constants.proofs.Least.{are_least, named, alike, value_is}

module _ (listing : List Listed) (lengths : List ℕ → Option ℕ) where
  abbrev all : List ℕ → Option Value
  all = values_with listing lengths

  abbrev unit : Declarations
  unit = declarations_of listing

  pub fixed : IsFixed unit lengths all
  fixed = record { gives = (are_least listing lengths).gives }

  -- each constant has a value, or is one of the names that are left
  abbrev pub Covers : (values : List ℕ → Option Value) → (left : List (List ℕ)) → Type 0
  Covers values left = (name : List ℕ) → has_name (constant_names listing) name ≡ true → (is_some (values name) ≡ true) ⊎ (has_name left name ≡ true)

  -- where no name has a value yet
  pub nothing : (values : List ℕ → Option Value) → ((name : List ℕ) → values name ≡ None) → Extends values all
  nothing values none = record { has = λ name value e. absurd (no_value (values name) value (none name) e) }
    where
      no_value : (o : Option Value) (value : Value) → o ≡ None → o ≡ Some value → ⊥
      no_value o value f g = cc

  pub at_start : (values : List ℕ → Option Value) (names : List (List ℕ)) → names ≡ constant_names listing → Covers values names
  at_start values names e name h = inr (ap (λ n. has_name n name) e ∙ h)

  -- what has a value has it among all
  pub within_on : (before after : List ℕ → Option Value) (names left : List (List ℕ)) → Round unit lengths before after names left → Extends before all → Extends after all
  within_on before after names left round within = round.sound all fixed within

  still_has : (before after : List ℕ → Option Value) → Extends before after → (name : List ℕ) → is_some (before name) ≡ true → is_some (after name) ≡ true
  still_has before after keeps name e = let v = value_is (before name) e in ap is_some (keeps.has name v.0 v.1)

  -- a pass more
  pub pass : (before after : List ℕ → Option Value) (names left : List (List ℕ)) → Round unit lengths before after names left → Covers before names → Covers after left
  pass before after names left round covered name e = by (covered name e)
    where
      by : (is_some (before name) ≡ true) ⊎ (has_name names name ≡ true) → (is_some (after name) ≡ true) ⊎ (has_name left name ≡ true)
      by (inl h) = inl (still_has before after round.keeps name h)
      by (inr h) = round.covers name h

  -- a pass over names that need not be all
  pub extra : (before after : List ℕ → Option Value) (names left others : List (List ℕ)) → Round unit lengths before after names left → Covers before others → Covers after others
  extra before after names left others round covered name e = by (covered name e)
    where
      by : (is_some (before name) ≡ true) ⊎ (has_name others name ≡ true) → (is_some (after name) ≡ true) ⊎ (has_name others name ≡ true)
      by (inl h) = inl (still_has before after round.keeps name h)
      by (inr h) = inr h

  -- a pass that leaves all names is the last one
  pub ended : (before after : List ℕ → Option Value) (names left : List (List ℕ)) → Round unit lengths before after names left → Extends before all → Covers before names → length left ≡ length names → (name : List ℕ) → after name ≡ all name
  ended before after names left round within covered same_count name = alike (after name) (all name) (held.has name) (((are_least listing lengths).least after closed).has name)
    where
      held : Extends after all
      held = round.sound all fixed within

      unchanged : after ≡ before
      unchanged = same_functions after before (round.same same_count)

      has : (n : List ℕ) (value : Value) → constant_value unit lengths after n ≡ Some value → (is_some (before n) ≡ true) ⊎ (has_name names n ≡ true) → after n ≡ Some value
      has n value e (inl h) =
          let w = value_is (before n) h in
          let kept = round.keeps.has n w.0 w.1 in
          kept ∙ sym (held.has n w.0 kept) ∙ sym (fixed.gives n) ∙ (constant_grows after all held unit lengths).has n value e
      has n value e (inr h) = absurd (differ (constant_value unit lengths after n) value e (ap (λ (v : List ℕ → Option Value). constant_value unit lengths v n) unchanged ∙ round.stuck same_count n h))
        where
          differ : (o : Option Value) (value : Value) → o ≡ Some value → o ≡ None → ⊥
          differ o value f g = cc

      closed : IsClosed unit lengths after
      closed = record { has = λ n value e. has n value e (covered n (named listing lengths after n value e)) }
