-- Files of which all is built, and those that are refused.
use Rattle.std.proofs.Common.{◌≡◌, ℕ, zero, suc, ◌+◌, ◌≤◌, Bool, true, false, cond, not, ◌&&◌, nat_le, List, [], ◌∷◌, ◌++◌, All, IsTrue, Option, None, Some, slice_get, refl, sym, ap, subst, ◌∙◌, arith}
use Rattle.std.specs.Prelude.{MatchOption, Contains}
use Rattle.std.proofs.lemmas.List.Elements.{All-cons}
use Rattle.f77_ast.proofs.Refusals.{first_is_earliest}
use Rattle.f77_ast.specs.Limits.{most_storage_units}
use Rattle.f77_ast.specs.Refusal.{NoneIsEarlier, when}
use Rattle.f77_ast.specs.declared.program.Entity.{Entity}
use Rattle.f77_ast.specs.declared.program.Listed.{Listed}
use Rattle.f77_ast.specs.declared.program.Unit.{Unit as ProgramUnit}
use Rattle.f77_ast.specs.declared.refusal.Refusal.{Refusal}
use Rattle.f77_ast.specs.declared.rule.Rule.TheVariants.{LeftOut}
use Rattle.f77_built.specs.Built.{all_unbuilt, first_past, is_built, is_unbuilt, past_limit, unbuilt_from, unbuilt_in, unbuilt_of}
use Rattle.f77_built.specs.Declared.{declares_built}
use Rattle.f77_layout.specs.Layout.{layout_of, limited_layout, own_units, total_units}
use Rattle.f77_structure.specs.HasMeaning.{statement_has_meaning}
use Rattle.f77_uses.specs.Refused.{at, broken_by}

-- ---- refusals

-- what is said of the first of some refusals
abbrev IsFirst : List Refusal → Option Refusal → Type 0
IsFirst rs first = MatchOption first (rs ≡ []) (λ r. Contains rs r × NoneIsEarlier r rs)

nothing_unbuilt : (units : List ProgramUnit) (entities : List Entity) → unbuilt_of units entities ≡ None → all_unbuilt units entities ≡ []
nothing_unbuilt units entities e = subst (IsFirst (all_unbuilt units entities)) e (first_is_earliest (all_unbuilt units entities))

pub refused_are_unbuilt : (units : List ProgramUnit) (entities : List Entity) (refusal : Refusal) → unbuilt_of units entities ≡ Some refusal → Contains (all_unbuilt units entities) refusal × NoneIsEarlier refusal (all_unbuilt units entities)
refused_are_unbuilt units entities refusal e = subst (IsFirst (all_unbuilt units entities)) e (first_is_earliest (all_unbuilt units entities))

-- of two lists that are nothing together each is
none_first : {X : Type 0} (xs ys : List X) → xs ++ ys ≡ [] → xs ≡ []
none_first [] ys e = refl
none_first (x ∷ xs) ys e = absurd (cc)

none_second : {X : Type 0} (xs ys : List X) → xs ++ ys ≡ [] → ys ≡ []
none_second [] ys e = e
none_second (x ∷ xs) ys e = absurd (cc)

-- ---- storage

none_past : (units : List ProgramUnit) (first : Option Entity) → past_limit units first ≡ [] → first ≡ None
none_past units None e = refl
none_past units (Some entity) e = absurd (cc)

no_entity : (entity : Entity) → Some entity ≡ None → ⊥
no_entity entity e = cc

within_limit : (before : ℕ) (entities : List Entity) → before ≤ most_storage_units → first_past before entities ≡ None → before + total_units entities ≤ most_storage_units
within_limit before [] fits e = omega (arith, fits)
within_limit before (entity ∷ entities) fits e = by (nat_le (before + own_units entity) most_storage_units) refl (within_limit (before + own_units entity) entities) e
  where
    by : (b : Bool) → nat_le (before + own_units entity) most_storage_units ≡ b → (before + own_units entity ≤ most_storage_units → first_past (before + own_units entity) entities ≡ None → before + own_units entity + total_units entities ≤ most_storage_units) → cond b (first_past (before + own_units entity) entities) (Some entity) ≡ None → before + (own_units entity + total_units entities) ≤ most_storage_units
    by true g more h = let next = more (grind (arith, g)) h in omega (arith, next)
    by false g more h = absurd (no_entity entity h)

pub built_have_layouts : (units : List ProgramUnit) (entities : List Entity) → unbuilt_of units entities ≡ None → limited_layout entities ≡ Some (layout_of entities)
built_have_layouts units entities e =
    let past = none_second (unbuilt_from units entities 0 units) (past_limit units (first_past 0 entities)) (nothing_unbuilt units entities e) in
    let fits = within_limit 0 entities (omega arith) (none_past units (first_past 0 entities) past) in
    let under : nat_le (total_units entities) most_storage_units ≡ true = grind (arith, fits) in
    ap (λ b. cond b (Some (layout_of entities)) None) under

-- ---- statements

-- what isn't refused is built
kept_when : (b : Bool) (refusal : Refusal) → when (not b) refusal ≡ [] → b ≡ true
kept_when true refusal e = refl
kept_when false refusal e = absurd (cc)

second_of : (a b : Bool) → (a && b) ≡ true → b ≡ true
second_of true b e = e
second_of false b e = absurd (cc)

module _ (units : List ProgramUnit) (entities : List Entity) where
  abbrev Means : (u : ℕ) → Listed → Type 0
  Means u listed = IsTrue (statement_has_meaning units (layout_of entities) u listed.stmt)

  in_unit : (u place : ℕ) (listing : List Listed) → broken_by LeftOut (is_unbuilt units entities u) place listing ≡ [] → All (Means u) listing
  in_unit u place [] e = λ k d lt. absurd (omega (arith, lt))
  in_unit u place (listed ∷ rest) e =
      let first = none_first (when (not (is_built units entities u listed.stmt)) (at listed LeftOut)) (broken_by LeftOut (is_unbuilt units entities u) (suc place) rest) e in
      let others = none_second (when (not (is_built units entities u listed.stmt)) (at listed LeftOut)) (broken_by LeftOut (is_unbuilt units entities u) (suc place) rest) e in
      let built = kept_when (is_built units entities u listed.stmt) (at listed LeftOut) first in
      All-cons (Means u) listed rest
      (second_of (declares_built entities u listed.stmt) (statement_has_meaning units (layout_of entities) u listed.stmt) built)
      (in_unit u (suc place) rest others)

  in_units : (n : ℕ) (rest : List ProgramUnit) → unbuilt_from units entities n rest ≡ [] → (u : ℕ) (unit : ProgramUnit) → slice_get rest u ≡ Some unit → All (Means (n + u)) unit.listing
  in_units n [] e u unit h = absurd (cc)
  in_units n (x ∷ rest) e zero unit h =
      let same : x ≡ unit = cc in
      let sum : n ≡ n + zero = omega arith in
      subst (λ v. All (Means v) unit.listing) sum
      (in_unit n 0 unit.listing (ap (λ y. unbuilt_in units entities n y.listing) (sym same) ∙ none_first (unbuilt_in units entities n x.listing) (unbuilt_from units entities (suc n) rest) e))
  in_units n (x ∷ rest) e (suc u) unit h =
      let sum : suc n + u ≡ n + suc u = omega arith in
      subst (λ v. All (Means v) unit.listing) sum
      (in_units (suc n) rest (none_second (unbuilt_in units entities n x.listing) (unbuilt_from units entities (suc n) rest) e) u unit h)

  pub statements_mean : unbuilt_of units entities ≡ None → (u : ℕ) (unit : ProgramUnit) → slice_get units u ≡ Some unit → All (λ listed. IsTrue (statement_has_meaning units (layout_of entities) u listed.stmt)) unit.listing
  statements_mean e u unit h =
      let sum : 0 + u ≡ u = omega arith in
      subst (λ v. All (Means v) unit.listing) sum
      (in_units 0 units (none_first (unbuilt_from units entities 0 units) (past_limit units (first_past 0 entities)) (nothing_unbuilt units entities e)) u unit h)
