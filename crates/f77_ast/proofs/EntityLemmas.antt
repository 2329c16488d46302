-- Entities that are kept under their keys.
use Rattle.std.proofs.Common.{◌≡◌, ℕ, zero, suc, ◌+◌, Bool, cond, not, ◌&&◌, ◌==◌, nat_lt, List, [], ◌∷◌, ◌++◌, length, slice_get, Option, None, Some, IfSome, refl, sym, ap, ◌∙◌, position, nat_eq, arith}
use Rattle.std.specs.Cmp.Lexicographic.{pointwise}
use Rattle.std.specs.List.{position_or_len}
use Rattle.std.specs.Map.{lookup, keys_of, values_of}
use Rattle.indexmap.specs.IndexMap.{set_value_at}
use Rattle.f77_ast.specs.declared.entities.EntityKey.{EntityKey}
use Rattle.f77_ast.specs.declared.program.Entity.{Entity}
use Rattle.f77_ast.specs.declared.program.Place.{Place}
use Rattle.f77_ast.specs.Entity.{AreKeyed, is_named, entity_in, number_in, placed_at}

-- whether a key is that of a name in a unit
abbrev pub is_key : (unit : ℕ) (name : List ℕ) → EntityKey → Bool
is_key unit name key = unit == key.unit && pointwise nat_eq name key.name

-- what is kept under a key is the entity of its unit and name
pub lookup-is_find : (unit : ℕ) (name : List ℕ) (es : List (EntityKey × Entity)) → AreKeyed es → lookup (is_key unit name) es ≡ entity_in (values_of es) unit name
lookup-is_find unit name [] keyed = refl
lookup-is_find unit name (e ∷ es) keyed =
    let here = keyed 0 e (omega arith) in
    let same : is_key unit name e.0 ≡ is_named unit name e.1 = λ i. unit == here.0 i && pointwise nat_eq name (here.1 i) in
    let rest : lookup (is_key unit name) es ≡ entity_in (values_of es) unit name = lookup-is_find unit name es (λ k d h. keyed (suc k) d (omega (arith, h))) in
    λ i. cond (same i) (Some e.1) (rest i)

-- one more entity under its key
pub keyed_more : (es : List (EntityKey × Entity)) (e : EntityKey × Entity) → AreKeyed es → e.0.unit ≡ e.1.unit → e.0.name ≡ e.1.name → AreKeyed (es ++ e ∷ [])
keyed_more [] e keyed u n zero d h = (u, n)
keyed_more [] e keyed u n (suc k) d h = absurd (omega (arith, h))
keyed_more (x ∷ es) e keyed u n zero d h = keyed 0 d (omega arith)
keyed_more (x ∷ es) e keyed u n (suc k) d h = keyed_more es e (λ k d h. keyed (suc k) d (omega (arith, h))) u n k d (omega (arith, h))

-- the values of entries with one more
pub values-more : (es : List (EntityKey × Entity)) (e : EntityKey × Entity) → values_of (es ++ e ∷ []) ≡ values_of es ++ e.1 ∷ []
values-more [] e = refl
values-more (x ∷ es) e = ap (λ xs. x.1 ∷ xs) (values-more es e)

-- ---- numbers

-- there are as many keys as values
length-keys : (es : List (EntityKey × Entity)) → length (keys_of es) ≡ length (values_of es)
length-keys [] = refl
length-keys (e ∷ es) = ap suc (length-keys es)

-- the first key of a unit and name is where the first entity of them is
first_key : (unit : ℕ) (name : List ℕ) (es : List (EntityKey × Entity)) → AreKeyed es → position_or_len (is_key unit name) (keys_of es) ≡ position_or_len (is_named unit name) (values_of es)
first_key unit name [] keyed = refl
first_key unit name (e ∷ es) keyed =
    let here = keyed 0 e (omega arith) in
    let same : is_key unit name e.0 ≡ is_named unit name e.1 = λ i. unit == here.0 i && pointwise nat_eq name (here.1 i) in
    let rest : position_or_len (is_key unit name) (keys_of es) ≡ position_or_len (is_named unit name) (values_of es) = first_key unit name es (λ k d h. keyed (suc k) d (omega (arith, h))) in
    λ i. cond (not (same i)) (1 + rest i) 0

-- the number of the entity of a unit and name is that of its key
pub position-is_number : (unit : ℕ) (name : List ℕ) (es : List (EntityKey × Entity)) → AreKeyed es → position (is_key unit name) (keys_of es) ≡ number_in (values_of es) unit name
position-is_number unit name es keyed =
    let same = first_key unit name es keyed in
    let long = length-keys es in
    λ i. cond (nat_lt (same i) (long i)) (Some (same i)) None

-- what follows from a fact of a value that may be there
pub IfSome-through : {A : Type 0} (P Q : A → Type 0) (o : Option A) → ((a : A) → P a → Q a) → IfSome o P → IfSome o Q
IfSome-through P Q None f h = tt
IfSome-through P Q (Some a) f h = f a h

-- ---- places

-- an entity with another place stays under its key
pub keyed_placed : (es : List (EntityKey × Entity)) (number : ℕ) (key : EntityKey) (entity : Entity) (place : Place) → AreKeyed es → slice_get es number ≡ Some (key, entity) → AreKeyed (set_value_at es number (record entity { place = place }))
keyed_placed [] number key entity place keyed at k d h = absurd (cc)
keyed_placed (e ∷ es) zero key entity place keyed at zero d h =
    let same : e ≡ (key, entity) = cc in
    let here = keyed 0 e (omega arith) in
    (here.0 ∙ ap (λ e. e.1.unit) same, here.1 ∙ ap (λ e. e.1.name) same)
keyed_placed (e ∷ es) zero key entity place keyed at (suc k) d h = keyed (suc k) d (omega (arith, h))
keyed_placed (e ∷ es) (suc number) key entity place keyed at zero d h = keyed 0 d (omega arith)
keyed_placed (e ∷ es) (suc number) key entity place keyed at (suc k) d h =
    keyed_placed es number key entity place (λ k d h. keyed (suc k) d (omega (arith, h))) at k d (omega (arith, h))

-- the values, of which one has another place
pub values-placed : (es : List (EntityKey × Entity)) (number : ℕ) (key : EntityKey) (entity : Entity) (place : Place) → slice_get es number ≡ Some (key, entity) → values_of (set_value_at es number (record entity { place = place })) ≡ placed_at (values_of es) number place
values-placed [] number key entity place at = refl
values-placed (e ∷ es) zero key entity place at =
    let same : e ≡ (key, entity) = cc in
    ap (λ e. record e.1 { place = place } ∷ values_of es) (sym same)
values-placed (e ∷ es) (suc number) key entity place at = ap (λ xs. e.1 ∷ xs) (values-placed es number key entity place at)
