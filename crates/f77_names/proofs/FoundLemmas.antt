-- Entities by their units and names.
use Rattle.std.proofs.Common.{◌≡◌, ℕ, zero, suc, ◌+◌, ◌<◌, Bool, true, false, ◌==◌, ◌&&◌, ◌||◌, List, [], ◌∷◌, ◌++◌, map, find, slice_get, Option, None, Some, if◌then◌else◌, refl, sym, ap, ◌∙◌, arith}
use Rattle.std.proofs.lemmas.Bool.Decides.{nat_tests}
use Rattle.std.proofs.lemmas.List.Folds.{find-append}
use Rattle.std.specs.Option.{option_or}
use Rattle.f77_ast.specs.Entity.{entity_in, is_named}
use Rattle.f77_ast.specs.declared.program.Entity.{Entity}
use Rattle.f77_ast.specs.declared.program.Listed.{Listed}
use Rattle.f77_ast.specs.declared.program.Unit.{Unit as ProgramUnit}
use Rattle.f77_leaves.specs.Declarations.{same_name}
use Rattle.f77_uses.proofs.KnownLemmas.{same_is}
use Rattle.f77_constants.specs.Rounds.{has_name}
use Rattle.f77_due.specs.Unit.{UnitFacts, facts_of_unit}
use Rattle.f77_names.specs.Entities.{entities_from, entity_names, entity_of, unit_entities}
use Rattle.f77_names.specs.Laws.{EntitiesAreFound, found_in}

own_unit : (n : ℕ) → (n == n) ≡ true
own_unit n = grind (arith, nat_tests)

apart : (n m : ℕ) → n < m → (n == m) ≡ false
apart n m h = grind (arith, nat_tests)

behind : (n m : ℕ) → m < n → (n == m) ≡ false
behind n m h = grind (arith, nat_tests)

-- among the entities of some names of a unit
pub found_own : (facts : UnitFacts) (unit : ℕ) (names : List (List ℕ)) (name : List ℕ) → entity_in (map (entity_of facts unit) names) unit name ≡ (if has_name names name then Some (entity_of facts unit name) else None)
found_own facts unit [] name = refl
found_own facts unit (first ∷ names) name = ap (λ b. if b && same_name name first then Some (entity_of facts unit first) else entity_in (map (entity_of facts unit) names) unit name) (own_unit unit) ∙ by (same_name name first) refl (found_own facts unit names name)
  where
    by : (b : Bool) → same_name name first ≡ b → entity_in (map (entity_of facts unit) names) unit name ≡ (if has_name names name then Some (entity_of facts unit name) else None) → (if b then Some (entity_of facts unit first) else entity_in (map (entity_of facts unit) names) unit name) ≡ (if b || has_name names name then Some (entity_of facts unit name) else None)
    by true e rest = ap (λ n. Some (entity_of facts unit n)) (sym (same_is name first e))
    by false e rest = rest

-- among those of another unit there is none
pub none_of_other : (facts : UnitFacts) (own unit : ℕ) (names : List (List ℕ)) (name : List ℕ) → (unit == own) ≡ false → entity_in (map (entity_of facts own) names) unit name ≡ None
none_of_other facts own unit [] name other = refl
none_of_other facts own unit (first ∷ names) name other = ap (λ b. if b && same_name name first then Some (entity_of facts own first) else entity_in (map (entity_of facts own) names) unit name) other ∙ none_of_other facts own unit names name other

-- nor among those of later units
pub none_later : (from unit : ℕ) (units : List ProgramUnit) (name : List ℕ) → unit < from → entity_in (entities_from from units) unit name ≡ None
none_later from unit [] name h = refl
none_later from unit (first ∷ units) name h =
    find-append (is_named unit name) (unit_entities from first.listing) (entities_from (suc from) units)
    ∙ ap (λ o. option_or o (entity_in (entities_from (suc from) units) unit name)) (none_of_other (facts_of_unit first.listing) from unit (entity_names first.listing) name (apart unit from h))
    ∙ none_later (suc from) unit units name (omega (arith, h))

or_none : {A : Type 0} (o : Option A) → option_or o None ≡ o
or_none None = refl
or_none (Some x) = refl

found_from : (from place : ℕ) (units : List ProgramUnit) (name : List ℕ) → entity_in (entities_from from units) (from + place) name ≡ found_in (from + place) name (slice_get units place)
found_from from place [] name = refl
found_from from zero (first ∷ units) name =
    let here : from + 0 ≡ from = omega arith in
    ap (λ n. entity_in (entities_from from (first ∷ units)) n name) here
    ∙ find-append (is_named from name) (unit_entities from first.listing) (entities_from (suc from) units)
    ∙ ap (option_or (entity_in (unit_entities from first.listing) from name)) (none_later (suc from) from units name (omega arith))
    ∙ or_none (entity_in (unit_entities from first.listing) from name)
    ∙ found_own (facts_of_unit first.listing) from (entity_names first.listing) name
    ∙ ap (λ n. if has_name (entity_names first.listing) name then Some (entity_of (facts_of_unit first.listing) n name) else None) (sym here)
found_from from (suc place) (first ∷ units) name =
    let here : from + suc place ≡ suc from + place = omega arith in
    find-append (is_named (from + suc place) name) (unit_entities from first.listing) (entities_from (suc from) units)
    ∙ ap (λ o. option_or o (entity_in (entities_from (suc from) units) (from + suc place) name)) (none_of_other (facts_of_unit first.listing) from (from + suc place) (entity_names first.listing) name (behind (from + suc place) from (omega arith)))
    ∙ ap (λ n. entity_in (entities_from (suc from) units) n name) here
    ∙ found_from (suc from) place units name
    ∙ ap (λ n. found_in n name (slice_get units place)) (sym here)

pub entities_are_found : EntitiesAreFound
entities_are_found units number name =
    let here : 0 + number ≡ number = omega arith in
    ap (λ n. entity_in (entities_from 0 units) n name) (sym here)
    ∙ found_from 0 number units name
    ∙ ap (λ n. found_in n name (slice_get units number)) here
