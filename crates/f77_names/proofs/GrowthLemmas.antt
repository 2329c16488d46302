-- Entities, name by name.
use Rattle.std.proofs.Common.{◌≡◌, ℕ, suc, ◌+◌, ◌<◌, ◌≤◌, Bool, true, false, ◌==◌, ◌&&◌, ◌||◌, List, [], ◌∷◌, ◌++◌, length, get_or, drop, map, find, Option, None, Some, if◌then◌else◌, refl, sym, ap, subst, ◌∙◌, append_assoc, append-nil, add-one, arith}
use Rattle.std.proofs.lemmas.Bool.Decides.{nat_tests}
use Rattle.std.proofs.lemmas.List.{drop_more}
use Rattle.std.proofs.lemmas.List.Folds.{list_any-append}
use Rattle.std.specs.List.{flat_map}
use Rattle.std.specs.Option.{is_some}
use Rattle.f77_ast.specs.Entity.{entity_in, is_named}
use Rattle.f77_ast.specs.declared.program.Entity.{Entity}
use Rattle.f77_ast.specs.declared.program.Listed.{Listed}
use Rattle.f77_ast.specs.declared.program.Unit.{Unit as ProgramUnit}
use Rattle.f77_leaves.specs.Declarations.{same_name}
use Rattle.f77_leaves.specs.Leaves.{leaves_of}
use Rattle.f77_leaves.specs.declared.leaves.Leaf.{Leaf}
use Rattle.f77_uses.specs.Uses.{NameUses, leaves_in, uses_of}
use Rattle.f77_constants.specs.Rounds.{has_name}
use Rattle.f77_due.specs.Unit.{UnitFacts, facts_of_unit}
use Rattle.f77_names.specs.Entities.{distinct_from, entities_from, entity_named, entity_names, entity_of, unit_entities}
use Rattle.f77_names.specs.Growing.{with_name, with_names}

flat_append : {A B : Type 0} (f : A → List B) (xs ys : List A) → flat_map f (xs ++ ys) ≡ flat_map f xs ++ flat_map f ys
flat_append f [] ys = refl
flat_append f (x ∷ xs) ys = ap (λ l. f x ++ l) (flat_append f xs ys) ∙ sym (append_assoc (f x) (flat_map f xs) (flat_map f ys))

-- ---- one part more

module _ (facts : UnitFacts) (unit : ℕ) where
  with_append : (entities : List Entity) (xs ys : List (List ℕ)) → with_names facts unit entities (xs ++ ys) ≡ with_names facts unit (with_names facts unit entities xs) ys
  with_append entities [] ys = refl
  with_append entities (x ∷ xs) ys = with_append (with_name facts unit entities x) xs ys

  pub part : (entities next all : List Entity) (first rest names : List (List ℕ)) → next ≡ with_names facts unit entities first → names ≡ first ++ rest → with_names facts unit entities names ≡ all → with_names facts unit next rest ≡ all
  part entities next all first rest names e f so_far =
      ap (λ l. with_names facts unit l rest) e
      ∙ sym (with_append entities first rest)
      ∙ ap (with_names facts unit entities) (sym f)
      ∙ so_far

-- the names in a list of leaves
pub leaf_names : (uses : NameUses) (leaves : List Leaf) (i : ℕ) (x : Leaf) → i < length leaves → x ≡ get_or leaves i x → flat_map (entity_named uses) (drop i leaves) ≡ entity_named uses x ++ flat_map (entity_named uses) (drop (i + 1) leaves)
leaf_names uses leaves i x within stands = ap (flat_map (entity_named uses)) (drop_more leaves i x within ∙ ap (λ y. y ∷ drop (i + 1) leaves) (sym stands))

-- the names in statements
pub statement_names : (uses : NameUses) (listing : List Listed) (i : ℕ) (x : Listed) → i < length listing → x ≡ get_or listing i x → flat_map (entity_named uses) (leaves_in (drop i listing)) ≡ flat_map (entity_named uses) (leaves_of x.stmt) ++ flat_map (entity_named uses) (leaves_in (drop (i + 1) listing))
statement_names uses listing i x within stands =
    ap (λ l. flat_map (entity_named uses) (leaves_in l)) (drop_more listing i x within ∙ ap (λ y. y ∷ drop (i + 1) listing) (sym stands))
    ∙ flat_append (entity_named uses) (leaves_of x.stmt) (leaves_in (drop (i + 1) listing))

-- ---- what is added for a unit

found_append : {A : Type 0} (p : A → Bool) (xs ys : List A) → is_some (find p (xs ++ ys)) ≡ (is_some (find p xs) || is_some (find p ys))
found_append p [] ys = refl
found_append p (x ∷ xs) ys = by (p x) (found_append p xs ys)
  where
    by : (b : Bool) → is_some (find p (xs ++ ys)) ≡ (is_some (find p xs) || is_some (find p ys)) → is_some (if b then Some x else find p (xs ++ ys)) ≡ (is_some (if b then Some x else find p xs) || is_some (find p ys))
    by true h = refl
    by false h = h

own_unit : (n : ℕ) → (n == n) ≡ true
own_unit n = grind (arith, nat_tests)

found_one : (facts : UnitFacts) (unit : ℕ) (name other : List ℕ) → is_some (find (is_named unit other) (entity_of facts unit name ∷ [])) ≡ (same_name other name || false)
found_one facts unit name other = ap (λ b. is_some (if b && same_name other name then Some (entity_of facts unit name) else None)) (own_unit unit) ∙ by (same_name other name)
  where
    by : (b : Bool) → is_some (if b then Some (entity_of facts unit name) else None) ≡ (b || false)
    by true = refl
    by false = refl

module _ (facts : UnitFacts) (unit : ℕ) where
  found_more : (entities : List Entity) (seen : List (List ℕ)) (name : List ℕ) → ((other : List ℕ) → is_some (entity_in entities unit other) ≡ has_name seen other) → (other : List ℕ) → is_some (entity_in (entities ++ entity_of facts unit name ∷ []) unit other) ≡ has_name (seen ++ name ∷ []) other
  found_more entities seen name h other =
      found_append (is_named unit other) entities (entity_of facts unit name ∷ [])
      ∙ ap (λ b. b || is_some (find (is_named unit other) (entity_of facts unit name ∷ []))) (h other)
      ∙ ap (λ b. has_name seen other || b) (found_one facts unit name other)
      ∙ sym (list_any-append (same_name other) seen (name ∷ []))

  -- names that are told one after the other add the entities of those that aren't there yet, each once
  pub added : (entities : List Entity) (seen names : List (List ℕ)) → ((other : List ℕ) → is_some (entity_in entities unit other) ≡ has_name seen other) → with_names facts unit entities names ≡ entities ++ map (entity_of facts unit) (distinct_from seen names)
  added entities seen [] h = sym (append-nil entities)
  added entities seen (name ∷ names) h =
      by (has_name seen name) (h name) (added entities seen names h)
      (added (entities ++ entity_of facts unit name ∷ []) (seen ++ name ∷ []) names (found_more entities seen name h)
      ∙ append_assoc entities (entity_of facts unit name ∷ []) (map (entity_of facts unit) (distinct_from (seen ++ name ∷ []) names)))
    where
      by : (b : Bool) → is_some (entity_in entities unit name) ≡ b → with_names facts unit entities names ≡ entities ++ map (entity_of facts unit) (distinct_from seen names) → with_names facts unit (entities ++ entity_of facts unit name ∷ []) names ≡ entities ++ (entity_of facts unit name ∷ map (entity_of facts unit) (distinct_from (seen ++ name ∷ []) names)) → with_names facts unit (with_name facts unit entities name) names ≡ entities ++ map (entity_of facts unit) (if b then distinct_from seen names else name ∷ distinct_from (seen ++ name ∷ []) names)
      by true e old new = ap (λ (b : Bool). with_names facts unit (if b then entities else entities ++ entity_of facts unit name ∷ []) names) e ∙ old
      by false e old new = ap (λ (b : Bool). with_names facts unit (if b then entities else entities ++ entity_of facts unit name ∷ []) names) e ∙ new

-- ---- units

-- entities of units before this one
abbrev pub Before : (unit : ℕ) → List Entity → Type 0
Before unit [] = Unit {0}
Before unit (entity ∷ entities) = (entity.unit < unit) × Before unit entities

pub record AreBefore (unit : ℕ) (entities : List Entity) : Type 0 where
  pub each : Before unit entities

other_unit : (unit own : ℕ) → own < unit → (unit == own) ≡ false
other_unit unit own h = grind (arith, nat_tests)

none_found : (unit : ℕ) (entities : List Entity) (name : List ℕ) → Before unit entities → is_some (entity_in entities unit name) ≡ false
none_found unit [] name before = refl
none_found unit (entity ∷ entities) name before = ap (λ b. is_some (if b && same_name name entity.name then Some entity else entity_in entities unit name)) (other_unit unit entity.unit before.0) ∙ none_found unit entities name before.1

unit_added : (unit : ℕ) (listing : List Listed) (entities : List Entity) → AreBefore unit entities → with_names (facts_of_unit listing) unit entities (flat_map (entity_named (uses_of listing)) (leaves_in listing)) ≡ entities ++ unit_entities unit listing
unit_added unit listing entities before = added (facts_of_unit listing) unit entities [] (flat_map (entity_named (uses_of listing)) (leaves_in listing)) (λ name. none_found unit entities name before.each)

all_before : (unit : ℕ) (entities : List Entity) → Before unit entities → Before (unit + 1) entities
all_before unit [] before = tt
all_before unit (entity ∷ entities) before = (omega (arith, before.0), all_before unit entities before.1)

all_own : (facts : UnitFacts) (unit : ℕ) (names : List (List ℕ)) → Before (unit + 1) (map (entity_of facts unit) names)
all_own facts unit [] = tt
all_own facts unit (name ∷ names) = (omega arith, all_own facts unit names)

all_append : (unit : ℕ) (xs ys : List Entity) → Before unit xs → Before unit ys → Before unit (xs ++ ys)
all_append unit [] ys before others = others
all_append unit (x ∷ xs) ys before others = (before.0, all_append unit xs ys before.1 others)

pub none_before : AreBefore 0 []
none_before = record { each = tt }

-- one unit more
pub before_turn : (unit : ℕ) (listing : List Listed) (entities next : List Entity) → next ≡ with_names (facts_of_unit listing) unit entities (flat_map (entity_named (uses_of listing)) (leaves_in listing)) → AreBefore unit entities → AreBefore (unit + 1) next
before_turn unit listing entities next e before = record { each = subst (Before (unit + 1)) (sym (e ∙ unit_added unit listing entities before)) (all_append (unit + 1) entities (unit_entities unit listing) (all_before unit entities before.each) (all_own (facts_of_unit listing) unit (entity_names listing))) }

pub units_turn : (units : List ProgramUnit) (i : ℕ) (x : ProgramUnit) (entities next all : List Entity) → i < length units → x ≡ get_or units i x → next ≡ with_names (facts_of_unit x.listing) i entities (flat_map (entity_named (uses_of x.listing)) (leaves_in x.listing)) → AreBefore i entities → entities ++ entities_from i (drop i units) ≡ all → next ++ entities_from (i + 1) (drop (i + 1) units) ≡ all
units_turn units i x entities next all within stands e before so_far =
    ap (λ l. l ++ entities_from (i + 1) (drop (i + 1) units)) (e ∙ unit_added i x.listing entities before)
    ∙ append_assoc entities (unit_entities i x.listing) (entities_from (i + 1) (drop (i + 1) units))
    ∙ ap (λ n. entities ++ (unit_entities i x.listing ++ entities_from n (drop (i + 1) units))) (add-one i)
    ∙ ap (λ l. entities ++ entities_from i l) (sym (drop_more units i x within ∙ ap (λ y. y ∷ drop (i + 1) units) (sym stands)))
    ∙ so_far
