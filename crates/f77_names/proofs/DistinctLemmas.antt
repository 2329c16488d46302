-- No two entities have one unit and name.
use Rattle.std.proofs.Common.{◌≡◌, ℕ, suc, ◌+◌, ◌<◌, ◌≤◌, Bool, true, false, ◌||◌, List, [], ◌∷◌, ◌++◌, map, Option, None, Some, if◌then◌else◌, refl, sym, ap, ◌∙◌, arith}
use Rattle.std.proofs.lemmas.List.Folds.{find-append, list_any-append}
use Rattle.std.specs.Option.{is_some, option_or}
use Rattle.f77_ast.specs.Entity.{entity_in, is_named}
use Rattle.f77_ast.specs.declared.program.Entity.{Entity}
use Rattle.f77_ast.specs.declared.program.Unit.{Unit as ProgramUnit}
use Rattle.f77_leaves.specs.Declarations.{same_name}
use Rattle.f77_uses.proofs.KnownLemmas.{own_name, same_is}
use Rattle.f77_constants.specs.Rounds.{has_name}
use Rattle.f77_due.specs.Unit.{UnitFacts, facts_of_unit}
use Rattle.f77_names.specs.Entities.{distinct_from, entities_from, entities_of, entity_names, entity_of, unit_entities}
use Rattle.f77_names.specs.Laws.{AreDistinct, EntitiesAreDistinct}
use Rattle.f77_names.proofs.FoundLemmas.{found_own, none_later}

or_true : (a : Bool) → (a || true) ≡ true
or_true true = refl
or_true false = refl

seen_still : (seen : List (List ℕ)) (first name : List ℕ) → has_name seen name ≡ true → has_name (seen ++ first ∷ []) name ≡ true
seen_still seen first name h = list_any-append (same_name name) seen (first ∷ []) ∙ ap (λ b. b || has_name (first ∷ []) name) h

seen_now : (seen : List (List ℕ)) (first : List ℕ) → has_name (seen ++ first ∷ []) first ≡ true
seen_now seen first = list_any-append (same_name first) seen (first ∷ []) ∙ ap (λ b. has_name seen first || (b || false)) (own_name first) ∙ or_true (has_name seen first)

no : true ≡ false → ⊥
no e = cc

differ_by : (seen : List (List ℕ)) (name first : List ℕ) (b : Bool) → has_name seen name ≡ true → has_name seen first ≡ false → same_name name first ≡ b → same_name name first ≡ false
differ_by seen name first true h k e = absurd (no (sym h ∙ ap (has_name seen) (same_is name first e) ∙ k))
differ_by seen name first false h k e = e

-- a name that is there already isn't among the others
pub not_again : (seen names : List (List ℕ)) (name : List ℕ) → has_name seen name ≡ true → has_name (distinct_from seen names) name ≡ false
not_again seen [] name h = refl
not_again seen (first ∷ names) name h = by (has_name seen first) refl (not_again seen names name h) (not_again (seen ++ first ∷ []) names name (seen_still seen first name h))
  where
    by : (b : Bool) → has_name seen first ≡ b → has_name (distinct_from seen names) name ≡ false → has_name (distinct_from (seen ++ first ∷ []) names) name ≡ false → has_name (if b then distinct_from seen names else first ∷ distinct_from (seen ++ first ∷ []) names) name ≡ false
    by true e old new = old
    by false e old new = ap (λ b. b || has_name (distinct_from (seen ++ first ∷ []) names) name) (differ_by seen name first (same_name name first) h e refl) ∙ new

module _ (facts : UnitFacts) (unit : ℕ) where
  distinct_own : (seen names : List (List ℕ)) → AreDistinct (map (entity_of facts unit) (distinct_from seen names))
  distinct_own seen [] = tt
  distinct_own seen (first ∷ names) = by (has_name seen first) (distinct_own seen names) (distinct_own (seen ++ first ∷ []) names)
    where
      none : is_some (entity_in (map (entity_of facts unit) (distinct_from (seen ++ first ∷ []) names)) unit first) ≡ false
      none = ap is_some (found_own facts unit (distinct_from (seen ++ first ∷ []) names) first ∙ ap (λ b. if b then Some (entity_of facts unit first) else None) (not_again (seen ++ first ∷ []) names first (seen_now seen first)))

      by : (b : Bool) → AreDistinct (map (entity_of facts unit) (distinct_from seen names)) → AreDistinct (map (entity_of facts unit) (distinct_from (seen ++ first ∷ []) names)) → AreDistinct (map (entity_of facts unit) (if b then distinct_from seen names else first ∷ distinct_from (seen ++ first ∷ []) names))
      by true old new = old
      by false old new = (none, new)

-- entities of one unit before those of later ones
is_none_both : (o : Option Entity) (p : Option Entity) → is_some o ≡ false → p ≡ None → is_some (option_or o p) ≡ false
is_none_both None p e f = ap is_some f
is_none_both (Some entity) p e f = absurd (cc)

before_later : (facts : UnitFacts) (unit : ℕ) (names : List (List ℕ)) (units : List ProgramUnit) → AreDistinct (map (entity_of facts unit) names) → AreDistinct (entities_from (suc unit) units) → AreDistinct (map (entity_of facts unit) names ++ entities_from (suc unit) units)
before_later facts unit [] units own later = later
before_later facts unit (first ∷ names) units own later = (
  ap is_some (find-append (is_named unit first) (map (entity_of facts unit) names) (entities_from (suc unit) units))
      ∙ is_none_both (entity_in (map (entity_of facts unit) names) unit first) (entity_in (entities_from (suc unit) units) unit first) own.0 (none_later (suc unit) unit units first (omega arith)),
  before_later facts unit names units own.1 later,
)

distinct_from_unit : (unit : ℕ) (units : List ProgramUnit) → AreDistinct (entities_from unit units)
distinct_from_unit unit [] = tt
distinct_from_unit unit (first ∷ units) = before_later (facts_of_unit first.listing) unit (entity_names first.listing) units (distinct_own (facts_of_unit first.listing) unit [] _) (distinct_from_unit (suc unit) units)

pub entities_are_distinct : EntitiesAreDistinct
entities_are_distinct units = distinct_from_unit 0 units
