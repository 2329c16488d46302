-- Each name that a statement uses as a variable or constant is that of an entity.
use Rattle.std.proofs.Common.{◌≡◌, ℕ, zero, suc, Bool, true, false, not, ◌&&◌, ◌||◌, List, [], ◌∷◌, ◌++◌, slice_get, Option, None, Some, Ok, if◌then◌else◌, refl, sym, ap, subst, ◌∙◌, append_assoc}
use Rattle.std.proofs.lemmas.List.Folds.{list_any-append}
use Rattle.std.specs.List.{flat_map, list_any}
use Rattle.std.specs.Option.{is_some, option_or}
use Rattle.f77_ast.specs.Entity.{entity_in}
use Rattle.f77_ast.specs.Refusal.{when}
use Rattle.f77_ast.specs.declared.program.Entity.{Entity}
use Rattle.f77_ast.specs.declared.program.Listed.{Listed}
use Rattle.f77_ast.specs.declared.program.Unit.{Unit as ProgramUnit}
use Rattle.f77_ast.specs.declared.refusal.Refusal.{Refusal}
use Rattle.f77_ast.specs.declared.rule.Rule.{Rule}
use Rattle.f77_ast.specs.declared.rule.Rule.TheVariants.{RealName, DoubleName, DoVariableAssigned}
use Rattle.f77_leaves.specs.Declarations.{Declarations, declarations_of, same_name}
use Rattle.f77_leaves.specs.Leaves.{leaves_of}
use Rattle.f77_leaves.specs.declared.leaves.Leaf.{Leaf}
use Rattle.f77_leaves.specs.declared.leaves.Leaf.TheVariants.{Literal, Text, Named}
use Rattle.f77_leaves.specs.declared.leaves.Mention.{Mention}
use Rattle.f77_leaves.specs.declared.leaves.Role.{Role}
use Rattle.f77_leaves.specs.declared.leaves.Role.TheVariants as role
use Rattle.f77_uses.proofs.KnownLemmas.{own_name, same_is}
use Rattle.f77_uses.specs.Breaks.{is_name, is_second_use, uses_twice, declares_twice, names_real, second_units}
use Rattle.f77_uses.specs.Breaks as uses
use Rattle.f77_uses.specs.Refused.{at, broken_by}
use Rattle.f77_uses.specs.Running.{assigns_a_running}
use Rattle.f77_uses.specs.Uses.{NameUses, differ, first_use, is_entity, is_entity_by, leaves_in, on_name, use_as, use_in, use_of, uses_of}
use Rattle.f77_uses.specs.declared.uses.Use.{Use}
use Rattle.f77_uses.specs.declared.uses.Use.TheVariants as used
use Rattle.f77_kinds.specs.Breaks as kinds
use Rattle.f77_constants.specs.Rounds.{has_name}
use Rattle.f77_due.specs.Breaks.{lacking_among}
use Rattle.f77_due.specs.Unit.{facts_of_unit, names_entity}
use Rattle.f77_names.specs.Entities.{distinct_from, entities_of, entity_named, entity_names, entity_of}
use Rattle.f77_names.specs.Laws.{HaveEntities, HasEntity, UsesHaveEntities, found_in, uses_entity}
use Rattle.f77_names.specs.Resolve.{breaks_of}
use Rattle.f77_names.proofs.FoundLemmas.{entities_are_found}
use Rattle.f77_names.proofs.RefusalLemmas.{resolved_keep_all}

-- ---- nothing is broken

first_none : {A : Type 0} (xs ys : List A) → xs ++ ys ≡ [] → xs ≡ []
first_none [] ys e = refl
first_none (x ∷ xs) ys e = absurd (cc)

rest_none : {A : Type 0} (xs ys : List A) → xs ++ ys ≡ [] → ys ≡ []
rest_none [] ys e = e
rest_none (x ∷ xs) ys e = absurd (cc)

of_unit : (f : ProgramUnit → List Refusal) (units : List ProgramUnit) (number : ℕ) (unit : ProgramUnit) → flat_map f units ≡ [] → slice_get units number ≡ Some unit → f unit ≡ []
of_unit f [] number unit none e = absurd (cc)
of_unit f (first ∷ units) zero unit none e = let same : first ≡ unit = cc in ap f (sym same) ∙ first_none (f first) (flat_map f units) none
of_unit f (first ∷ units) (suc number) unit none e = of_unit f units number unit (rest_none (f first) (flat_map f units) none) e

when_none : (b : Bool) (r : Refusal) → when b r ≡ [] → b ≡ false
when_none true r e = absurd (cc)
when_none false r e = refl

or_false : (a b : Bool) → a ≡ false → b ≡ false → (a || b) ≡ false
or_false a b e f = ap (λ x. x || b) e ∙ f

-- no statement of a unit uses a name in a second way
none_in_statements : (unit : Declarations) (u : NameUses) (place : ℕ) (listing : List Listed) → broken_by DoubleName (uses_twice unit u) place listing ≡ [] → list_any (on_name (is_second_use unit u)) (leaves_in listing) ≡ false
none_in_statements unit u place [] none = refl
none_in_statements unit u place (listed ∷ listing) none =
    list_any-append (on_name (is_second_use unit u)) (leaves_of listed.stmt) (leaves_in listing)
    ∙ or_false (list_any (on_name (is_second_use unit u)) (leaves_of listed.stmt)) (list_any (on_name (is_second_use unit u)) (leaves_in listing))
    (when_none (uses_twice unit u place listed) (at listed DoubleName) (first_none (when (uses_twice unit u place listed) (at listed DoubleName)) (broken_by DoubleName (uses_twice unit u) (suc place) listing) none))
    (none_in_statements unit u (suc place) listing (rest_none (when (uses_twice unit u place listed) (at listed DoubleName)) (broken_by DoubleName (uses_twice unit u) (suc place) listing) none))

-- ---- a name's use, and its first one

used_name : (unit : Declarations) (mention : Mention) (part : Role) → uses_entity (use_as unit mention part) ≡ true → is_name part ≡ true
used_name unit mention role.Heading e = refl
used_name unit mention role.Function e = refl
used_name unit mention role.Dummy e = refl
used_name unit mention role.Typed e = refl
used_name unit mention role.Shaped e = refl
used_name unit mention role.Common e = refl
used_name unit mention role.Block e = absurd (cc)
used_name unit mention role.Member e = refl
used_name unit mention role.Filled e = refl
used_name unit mention role.Constant e = refl
used_name unit mention role.Repeat e = refl
used_name unit mention role.Datum e = refl
used_name unit mention role.Saved e = refl
used_name unit mention role.Called e = refl
used_name unit mention role.Target e = refl
used_name unit mention role.Input e = refl
used_name unit mention role.Control e = refl
used_name unit mention role.Operand e = refl

-- what agrees with a use as a variable or constant is one
agrees : (own first : Option Use) (alone : Bool) → uses_entity own ≡ true → is_some first ≡ true → differ own first ≡ false → is_entity_by first alone ≡ true
agrees None first alone e f g = absurd (cc)
agrees (Some own) None alone e f g = absurd (cc)
agrees (Some used.Variable) (Some used.Variable) alone e f g = refl
agrees (Some used.Variable) (Some used.Constant) alone e f g = refl
agrees (Some used.Variable) (Some used.Intrinsic) alone e f g = absurd (cc)
agrees (Some used.Variable) (Some used.Heading) alone e f g = absurd (cc)
agrees (Some used.Constant) (Some used.Variable) alone e f g = refl
agrees (Some used.Constant) (Some used.Constant) alone e f g = refl
agrees (Some used.Constant) (Some used.Intrinsic) alone e f g = absurd (cc)
agrees (Some used.Constant) (Some used.Heading) alone e f g = absurd (cc)
agrees (Some used.Intrinsic) (Some first) alone e f g = absurd (cc)
agrees (Some used.Heading) (Some first) alone e f g = absurd (cc)

some_or : {A : Type 0} (a b : Option A) → is_some b ≡ true → is_some (option_or a b) ≡ true
some_or None b e = e
some_or (Some x) b e = refl

or_some : {A : Type 0} (a b : Option A) → is_some a ≡ true → is_some (option_or a b) ≡ true
or_some None b e = absurd (cc)
or_some (Some x) b e = refl

uses_some : (o : Option Use) → uses_entity o ≡ true → is_some o ≡ true
uses_some None e = absurd (cc)
uses_some (Some used) e = refl

-- a name that is used has a first use
first_is_there : (unit : Declarations) (before after : List Leaf) (mention : Mention) → uses_entity (use_of unit mention) ≡ true → is_some (first_use unit (before ++ Named mention ∷ after) mention.name) ≡ true
first_is_there unit [] after mention e = or_some (use_in unit mention.name (Named mention)) (first_use unit after mention.name) (ap (λ b. is_some (if b then use_of unit mention else None)) (own_name mention.name) ∙ uses_some (use_of unit mention) e)
first_is_there unit (leaf ∷ before) after mention e = some_or (use_in unit mention.name leaf) (first_use unit (before ++ Named mention ∷ after) mention.name) (first_is_there unit before after mention e)

-- ---- names among those of entities

or_true : (a b : Bool) → b ≡ true → (a || b) ≡ true
or_true true b e = refl
or_true false b e = e

flat_append : {A B : Type 0} (f : A → List B) (xs ys : List A) → flat_map f (xs ++ ys) ≡ flat_map f xs ++ flat_map f ys
flat_append f [] ys = refl
flat_append f (x ∷ xs) ys = ap (λ l. f x ++ l) (flat_append f xs ys) ∙ sym (append_assoc (f x) (flat_map f xs) (flat_map f ys))

named_among : (u : NameUses) (before after : List Leaf) (mention : Mention) → names_entity u mention ≡ true → has_name (flat_map (entity_named u) (before ++ Named mention ∷ after)) mention.name ≡ true
named_among u before after mention e =
    ap (λ l. has_name l mention.name) (flat_append (entity_named u) before (Named mention ∷ after))
    ∙ list_any-append (same_name mention.name) (flat_map (entity_named u) before) (entity_named u (Named mention) ++ flat_map (entity_named u) after)
    ∙ or_true (has_name (flat_map (entity_named u) before) mention.name) (has_name (entity_named u (Named mention) ++ flat_map (entity_named u) after) mention.name)
    (ap (λ b. has_name ((if b then mention.name ∷ [] else []) ++ flat_map (entity_named u) after) mention.name) e
    ∙ ap (λ b. b || has_name (flat_map (entity_named u) after) mention.name) (own_name mention.name))

no : true ≡ false → ⊥
no e = cc

-- a name of a list is among its different ones
among_distinct : (seen names : List (List ℕ)) (name : List ℕ) → has_name names name ≡ true → has_name seen name ≡ false → has_name (distinct_from seen names) name ≡ true
among_distinct seen [] name e f = absurd (cc)
among_distinct seen (first ∷ names) name e f = by (has_name seen first) refl (same_name name first) refl (among_distinct seen names name) (among_distinct (seen ++ first ∷ []) names name)
  where
    unseen : same_name name first ≡ false → has_name (seen ++ first ∷ []) name ≡ false
    unseen g = list_any-append (same_name name) seen (first ∷ []) ∙ or_false (has_name seen name) (has_name (first ∷ []) name) f (or_false (same_name name first) false g refl)

    by : (b : Bool) → has_name seen first ≡ b → (s : Bool) → same_name name first ≡ s → (has_name names name ≡ true → has_name seen name ≡ false → has_name (distinct_from seen names) name ≡ true) → (has_name names name ≡ true → has_name (seen ++ first ∷ []) name ≡ false → has_name (distinct_from (seen ++ first ∷ []) names) name ≡ true) → has_name (if b then distinct_from seen names else first ∷ distinct_from (seen ++ first ∷ []) names) name ≡ true
    by true g true h old new = absurd (no (sym g ∙ ap (has_name seen) (sym (same_is name first h)) ∙ f))
    by true g false h old new = old (ap (λ b. b || has_name names name) (sym h) ∙ e) f
    by false g true h old new = ap (λ b. b || has_name (distinct_from (seen ++ first ∷ []) names) name) h
    by false g false h old new = or_true (same_name name first) (has_name (distinct_from (seen ++ first ∷ []) names) name) (new (ap (λ b. b || has_name names name) (sym h) ∙ e) (unseen h))

-- ---- a unit in which no name is used in two ways

and_true : (a b : Bool) → a ≡ true → b ≡ true → (a && b) ≡ true
and_true a b e f = ap (λ x. x && b) e ∙ f

first_false : (a b : Bool) → (a || b) ≡ false → a ≡ false
first_false true b e = absurd (cc)
first_false false b e = refl

rest_false : (a b : Bool) → (a || b) ≡ false → b ≡ false
rest_false true b e = absurd (cc)
rest_false false b e = e

module _ (units : List ProgramUnit) (number : ℕ) (unit : ProgramUnit) (stands : slice_get units number ≡ Some unit) where
  abbrev declared : Declarations
  declared = declarations_of unit.listing

  abbrev told : NameUses
  told = uses_of unit.listing

  mention_has : (before after : List Leaf) (mention : Mention) → before ++ Named mention ∷ after ≡ leaves_in unit.listing → is_second_use declared told mention ≡ false → uses_entity (use_of declared mention) ≡ true → is_some (entity_in (entities_of units) number mention.name) ≡ true
  mention_has before after mention all single e =
      ap is_some (entities_are_found units number mention.name ∙ ap (found_in number mention.name) stands ∙ ap (λ b. if b then Some (entity_of (facts_of_unit unit.listing) number mention.name) else None) listed)
    where
      first : is_some (told.first mention.name) ≡ true
      first = ap (λ l. is_some (first_use declared l mention.name)) (sym all) ∙ first_is_there declared before after mention e

      entity : names_entity told mention ≡ true
      entity = and_true (is_name mention.role) (is_entity told mention.name) (used_name declared mention mention.role e) (agrees (use_of declared mention) (told.first mention.name) (told.alone mention.name) e first single)

      listed : has_name (entity_names unit.listing) mention.name ≡ true
      listed = among_distinct [] (flat_map (entity_named told) (leaves_in unit.listing)) mention.name (ap (λ l. has_name (flat_map (entity_named told) l) mention.name) (sym all) ∙ named_among told before after mention entity) refl

  leaf_has : (before after : List Leaf) (leaf : Leaf) → before ++ leaf ∷ after ≡ leaves_in unit.listing → on_name (is_second_use declared told) leaf ≡ false → HasEntity declared (entities_of units) number leaf
  leaf_has before after Literal all single = tt
  leaf_has before after (Text len) all single = tt
  leaf_has before after (Named mention) all single = mention_has before after mention all single

  leaves_have : (before leaves : List Leaf) → before ++ leaves ≡ leaves_in unit.listing → list_any (on_name (is_second_use declared told)) leaves ≡ false → HaveEntities declared (entities_of units) number leaves
  leaves_have before [] all single = tt
  leaves_have before (leaf ∷ leaves) all single = (
    leaf_has before leaves leaf all (first_false (on_name (is_second_use declared told) leaf) (list_any (on_name (is_second_use declared told)) leaves) single),
    leaves_have (before ++ leaf ∷ []) leaves (append_assoc before (leaf ∷ []) leaves ∙ all) (rest_false (on_name (is_second_use declared told) leaf) (list_any (on_name (is_second_use declared told)) leaves) single),
  )

pub uses_have_entities : UsesHaveEntities
uses_have_entities units entities made number unit stands =
    let kept = resolved_keep_all units entities made in
    let of_uses = first_none (uses.breaks_among units) (kinds.breaks_among units) (first_none (uses.breaks_among units ++ kinds.breaks_among units) (lacking_among units) kept.0) in
    let in_units = rest_none (second_units [] units) (flat_map (λ u. uses.breaks_in u.listing) units) of_uses in
    let in_unit = of_unit (λ u. uses.breaks_in u.listing) units number unit in_units stands in
    let reals = broken_by RealName (names_real (declarations_of unit.listing) (uses_of unit.listing)) 0 unit.listing in
    let twice = broken_by DoubleName (declares_twice unit.listing) 0 unit.listing in
    let seconds = broken_by DoubleName (uses_twice (declarations_of unit.listing) (uses_of unit.listing)) 0 unit.listing in
    let running = broken_by DoVariableAssigned (assigns_a_running unit.listing) 0 unit.listing in
    let single = rest_none (reals ++ twice) seconds (first_none (reals ++ twice ++ seconds) running in_unit) in
    subst (λ (l : List Entity). HaveEntities (declarations_of unit.listing) l number (leaves_in unit.listing)) kept.1
    (leaves_have units number unit stands [] (leaves_in unit.listing) refl (none_in_statements (declarations_of unit.listing) (uses_of unit.listing) 0 unit.listing single))
