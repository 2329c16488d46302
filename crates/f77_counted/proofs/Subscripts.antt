-- Elements have as many subscripts as their arrays have dimensions.
use Rattle.std.proofs.Common.{◌≡◌, ℕ, zero, suc, Bool, true, false, ◌&&◌, ◌==◌, List, [], ◌∷◌, ◌++◌, length, map, slice_get, Option, None, Some, if◌then◌else◌, refl, sym, ap, ◌∙◌, subst, arith}
use Rattle.std.proofs.lemmas.Bool.Decides.{nat_tests}
use Rattle.std.specs.List.{flat_map, list_all}
use Rattle.std.specs.Option.{is_some}
use Rattle.f77_ast.specs.Refusal.{when}
use Rattle.f77_ast.specs.declared.program.Entity.{Entity}
use Rattle.f77_ast.specs.declared.program.Listed.{Listed}
use Rattle.f77_ast.specs.declared.program.Unit.{Unit as ProgramUnit}
use Rattle.f77_ast.specs.declared.refusal.Refusal.{Refusal}
use Rattle.f77_ast.specs.declared.rule.Rule.TheVariants.{ArgumentCount, TypeClash}
use Rattle.f77_ast.specs.declared.specification.Bound.{Bound}
use Rattle.f77_leaves.specs.Declarations.{Declarations, declarations_of}
use Rattle.f77_structure.specs.Storage.{is_scalar}
use Rattle.f77_uses.specs.Breaks as uses
use Rattle.f77_uses.specs.Refused.{at, broken_by}
use Rattle.f77_kinds.specs.Breaks as kinds
use Rattle.f77_kinds.specs.Breaks.{has_clash, has_miscount}
use Rattle.f77_kinds.specs.Letters.{breaks_letters}
use Rattle.f77_constants.specs.Rounds.{has_name}
use Rattle.f77_due.specs.Breaks.{lacking_among}
use Rattle.f77_due.specs.Unit.{UnitFacts, facts_of_unit}
use Rattle.f77_names.specs.Entities.{bounds_as, bounds_by, entities_of, entity_names, entity_of, settled_bound}
use Rattle.f77_names.specs.Laws.{found_in}
use Rattle.f77_names.proofs.FoundLemmas.{entities_are_found}
use Rattle.f77_names.proofs.RefusalLemmas.{resolved_keep_all}
use Rattle.f77_counted.specs.Laws.{ElementsHaveSubscripts, HaveSubscripts, HasSubscripts}
use Rattle.f77_counted.specs.References.{Reference, references_of}
use Rattle.f77_counted.proofs.Counting.{fits_count, is_counted}
use Rattle.f77_counted.proofs.Statements.{stmt_clean}

-- ---- nothing is broken

first_none : {A : Type 0} (xs ys : List A) → xs ++ ys ≡ [] → xs ≡ []
first_none [] ys e = refl
first_none (x ∷ xs) ys e = absurd (cc)

rest_none : {A : Type 0} (xs ys : List A) → xs ++ ys ≡ [] → ys ≡ []
rest_none [] ys e = e
rest_none (x ∷ xs) ys e = absurd (cc)

of_unit : (f : ProgramUnit → List Refusal) (units : List ProgramUnit) (number : ℕ) (unit : ProgramUnit) → flat_map f units ≡ [] → slice_get units number ≡ Some unit → f unit ≡ []
of_unit f [] number unit none e = absurd (cc)
of_unit f (first ∷ units) zero unit none e = let same : first ≡ unit = cc in ap f (sym same) ∙ first_none (f first) (flat_map f units) none
of_unit f (first ∷ units) (suc number) unit none e = of_unit f units number unit (rest_none (f first) (flat_map f units) none) e

when_none : (b : Bool) (r : Refusal) → when b r ≡ [] → b ≡ false
when_none true r e = absurd (cc)
when_none false r e = refl

-- ---- what is counted

first_true : (a b : Bool) → (a && b) ≡ true → a ≡ true
first_true true b e = refl
first_true false b e = absurd (cc)

rest_true : (a b : Bool) → (a && b) ≡ true → b ≡ true
rest_true true b e = e
rest_true false b e = absurd (cc)

all_append : (test : Reference → Bool) (xs ys : List Reference) → list_all test xs ≡ true → list_all test ys ≡ true → list_all test (xs ++ ys) ≡ true
all_append test [] ys e f = f
all_append test (x ∷ xs) ys e f = by (test x) (list_all test xs) e (λ g. all_append test xs ys g f)
  where
    by : (a b : Bool) → (a && b) ≡ true → (b ≡ true → list_all test (xs ++ ys) ≡ true) → (a && list_all test (xs ++ ys)) ≡ true
    by true b g h = h g
    by false b g h = absurd (cc)

abbrev references_in : List Listed → List Reference
references_in listing = flat_map (λ listed. references_of listed.stmt) listing

all_counted : (unit : Declarations) (place : ℕ) (listing : List Listed) → broken_by ArgumentCount (has_miscount unit) place listing ≡ [] → list_all (is_counted unit) (references_in listing) ≡ true
all_counted unit place [] none = refl
all_counted unit place (listed ∷ listing) none =
    all_append (is_counted unit) (references_of listed.stmt) (references_in listing)
    ((stmt_clean unit listed.stmt).holds (when_none (has_miscount unit place listed) (at listed ArgumentCount) (first_none (when (has_miscount unit place listed) (at listed ArgumentCount)) (broken_by ArgumentCount (has_miscount unit) (suc place) listing) none)))
    (all_counted unit (suc place) listing (rest_none (when (has_miscount unit place listed) (at listed ArgumentCount)) (broken_by ArgumentCount (has_miscount unit) (suc place) listing) none))

-- ---- the dimensions of an entity

map_length : {A B : Type 0} (f : A → B) (xs : List A) → length (map f xs) ≡ length xs
map_length f [] = refl
map_length f (x ∷ xs) = ap suc (map_length f xs)

as_many : (facts : UnitFacts) (dummy : Bool) (bounds : List Bound) → length (bounds_as facts dummy bounds) ≡ length bounds
as_many facts true bounds = refl
as_many facts false bounds = map_length (settled_bound facts) bounds

equal : (a b : ℕ) → (a == b) ≡ true → a ≡ b
equal a b e = grind (arith, nat_tests)

count_is : (facts : UnitFacts) (dummy : Bool) (bounds : Option (List Bound)) (count : ℕ) → fits_count bounds count ≡ true → is_scalar (bounds_by facts dummy bounds) ≡ false → count ≡ length (bounds_by facts dummy bounds)
count_is facts dummy None count e f = absurd (cc)
count_is facts dummy (Some bounds) count e f = equal count (length bounds) e ∙ sym (as_many facts dummy bounds)

module _ (units : List ProgramUnit) (number : ℕ) (unit : ProgramUnit) (stands : slice_get units number ≡ Some unit) where
  abbrev facts : UnitFacts
  facts = facts_of_unit unit.listing

  entity_is : (b : Bool) (name : List ℕ) (entity : Entity) → (if b then Some (entity_of facts number name) else None) ≡ Some entity → entity_of facts number name ≡ entity
  entity_is true name entity e = cc
  entity_is false name entity e = absurd (cc)

  has_subscripts : (reference : Reference) → is_counted (declarations_of unit.listing) reference ≡ true → HasSubscripts (entities_of units) number reference
  has_subscripts reference counted entity found many =
      let same = entity_is (has_name (entity_names unit.listing) reference.name) reference.name entity (ap (found_in number reference.name) (sym stands) ∙ sym (entities_are_found units number reference.name) ∙ found) in
      let known = (declarations_of unit.listing).known reference.name in
      count_is facts (is_some known.dummy) known.bounds reference.count counted (ap (λ (x : Entity). is_scalar x.bounds) same ∙ many)
      ∙ ap (λ (x : Entity). length x.bounds) same

  have_subscripts : (references : List Reference) → list_all (is_counted (declarations_of unit.listing)) references ≡ true → HaveSubscripts (entities_of units) number references
  have_subscripts [] all = tt
  have_subscripts (reference ∷ references) all = (
    has_subscripts reference (first_true (is_counted (declarations_of unit.listing) reference) (list_all (is_counted (declarations_of unit.listing)) references) all),
    have_subscripts references (rest_true (is_counted (declarations_of unit.listing) reference) (list_all (is_counted (declarations_of unit.listing)) references) all),
  )

pub elements_have_subscripts : ElementsHaveSubscripts
elements_have_subscripts units entities made number unit stands =
    let declared = declarations_of unit.listing in
    let kept = resolved_keep_all units entities made in
    let of_kinds = rest_none (uses.breaks_among units) (kinds.breaks_among units) (first_none (uses.breaks_among units ++ kinds.breaks_among units) (lacking_among units) kept.0) in
    let in_unit = of_unit (λ u. kinds.breaks_in u.listing) units number unit of_kinds stands in
    let miscounts = rest_none (broken_by TypeClash (has_clash declared) 0 unit.listing ++ broken_by TypeClash (breaks_letters unit.listing) 0 unit.listing) (broken_by ArgumentCount (has_miscount declared) 0 unit.listing) in_unit in
    subst (λ (l : List Entity). HaveSubscripts l number (references_in unit.listing)) kept.1
    (have_subscripts units number unit stands (references_in unit.listing) (all_counted declared 0 unit.listing miscounts))
