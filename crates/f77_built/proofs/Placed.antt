-- A name stands for the same sort of entity before and behind its placing in storage.
use Rattle.std.proofs.Common.{◌≡◌, ℕ, ◌+◌, Bool, true, false, cond, ◌&&◌, ◌||◌, List, [], ◌∷◌, Option, None, Some, refl, sym, ap, ◌∙◌}
use Rattle.std.specs.Option.{is_some, option_map}
use Rattle.f77_ast.specs.Entity.{entity_in, is_named}
use Rattle.f77_ast.specs.declared.program.Entity.{Entity}
use Rattle.f77_ast.specs.declared.program.Place.{Place}
use Rattle.f77_ast.specs.declared.program.Place.TheVariants.{Stored, Dummy, Constant}
use Rattle.f77_layout.specs.Layout.{entities_from, entity_at, layout_of, own_units, place_at}
use Rattle.f77_structure.specs.Arrays.{if_array}
use Rattle.f77_structure.specs.HasMeaning.{is_integer_constant, is_integer_variable, is_integer_vector, is_kept}
use Rattle.f77_structure.specs.Literals.{constant_number}
use Rattle.f77_structure.specs.Storage.{is_scalar, is_stored, is_vector}
use Rattle.f77_structure.specs.Values.{is_integer_kind}

-- the entity of a name, where entities are placed from an address on, is that before, at some address
pub record IsPlaced (at : ℕ) (es : List Entity) (unit : ℕ) (name : List ℕ) : Type 0 where
  pub address : ℕ
  pub is : entity_in (entities_from at es) unit name ≡ option_map (entity_at address) (entity_in es unit name)

pub placed_found : (at : ℕ) (es : List Entity) (unit : ℕ) (name : List ℕ) → IsPlaced at es unit name
placed_found at [] unit name = record { address = 0; is = refl }
placed_found at (e ∷ es) unit name = by (is_named unit name e) refl (placed_found (at + own_units e) es unit name)
  where
    by : (b : Bool) → is_named unit name e ≡ b → IsPlaced (at + own_units e) es unit name → IsPlaced at (e ∷ es) unit name
    by true h rest = record { address = at; is = ap (λ b. cond b (Some (entity_at at e)) (entity_in (entities_from (at + own_units e) es) unit name)) h ∙ ap (λ b. option_map (entity_at at) (cond b (Some e) (entity_in es unit name))) (sym h) }
    by false h rest = record { address = rest.address; is = ap (λ b. cond b (Some (entity_at at e)) (entity_in (entities_from (at + own_units e) es) unit name)) h ∙ rest.is ∙ ap (λ b. option_map (entity_at rest.address) (cond b (Some e) (entity_in es unit name))) (sym h) }

-- a test on what a name stands for that doesn't look at addresses
abbrev pub Still : (Option Entity → Bool) → Type 0
Still test = (address : ℕ) (found : Option Entity) → test (option_map (entity_at address) found) ≡ test found

-- such a test is the same of entities and of their layout
pub still_named : (test : Option Entity → Bool) → Still test → (es : List Entity) (unit : ℕ) (name : List ℕ) → test (entity_in (layout_of es).entities unit name) ≡ test (entity_in es unit name)
still_named test still es unit name =
    let p = placed_found 0 es unit name in
    ap test p.is ∙ still p.address (entity_in es unit name)

stored_still : (address : ℕ) (place : Place) → is_stored (place_at address place) ≡ is_stored place
stored_still address (Stored old) = refl
stored_still address (Dummy number) = refl
stored_still address (Constant value) = refl

number_still : (address : ℕ) (place : Place) → constant_number (place_at address place) ≡ constant_number place
number_still address (Stored old) = refl
number_still address (Dummy number) = refl
number_still address (Constant value) = refl

pub variable_still : Still is_integer_variable
variable_still address None = refl
variable_still address (Some e) = ap (λ s. is_integer_kind e.kind && (s && is_scalar e.bounds)) (stored_still address e.place)

pub constant_still : Still is_integer_constant
constant_still address None = refl
constant_still address (Some e) = ap (λ n. is_integer_kind e.kind && (is_some n && is_scalar e.bounds)) (number_still address e.place)

pub vector_still : Still is_integer_vector
vector_still address None = refl
vector_still address (Some e) = ap (λ s. is_integer_kind e.kind && (s && is_vector e.bounds)) (stored_still address e.place)

pub kept_still : Still is_kept
kept_still address None = refl
kept_still address (Some e) = stored_still address e.place

-- what is no array of one dimension is no INTEGER one
no_vector : (kind stored : Bool) → false ≡ (kind && (stored && false))
no_vector true true = refl
no_vector true false = refl
no_vector false stored = refl

pub array_is_vector : (found : Option Entity) → is_integer_vector (if_array found) ≡ is_integer_vector found
array_is_vector None = refl
array_is_vector (Some e) = by (is_vector e.bounds) refl
  where
    by : (b : Bool) → is_vector e.bounds ≡ b → is_integer_vector (cond b (Some e) None) ≡ is_integer_vector (Some e)
    by true h = refl
    by false h = no_vector (is_integer_kind e.kind) (is_stored e.place) ∙ ap (λ v. is_integer_kind e.kind && (is_stored e.place && v)) (sym h)

-- an INTEGER variable or constant
abbrev pub is_number : Option Entity → Bool
is_number found = is_integer_variable found || is_integer_constant found

pub is_number_still : Still is_number
is_number_still address found = λ i. variable_still address found i || constant_still address found i

pub or_first : (a x y : Bool) → a ≡ true → a ≡ x → a ≡ (x || y)
or_first a true y e f = e
or_first a false y e f = absurd (let h : true ≡ false = sym e ∙ f in cc)

pub or_second : (a b x y : Bool) → a ≡ false → a ≡ x → b ≡ y → b ≡ (x || y)
or_second a b true y e f g = absurd (let h : false ≡ true = sym e ∙ f in cc)
or_second a b false y e f g = g
