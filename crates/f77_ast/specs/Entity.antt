-- The entities of a program, by unit and name.
use Rattle.std.specs.Prelude.{◌≡◌, ℕ, zero, suc, Bool, ◌==◌, ◌&&◌, List, [], ◌∷◌, Option, All, find, position, nat_eq}
use Rattle.std.specs.Cmp.Lexicographic.{pointwise}
use Rattle.f77_ast.specs.declared.program.Entity.{Entity}
use Rattle.f77_ast.specs.declared.program.Place.{Place}
use Rattle.f77_ast.specs.declared.entities.EntityKey.{EntityKey}

-- whether an entity is the one of a name in a unit
abbrev pub is_named : (unit : ℕ) (name : List ℕ) → Entity → Bool
is_named unit name entity = unit == entity.unit && pointwise nat_eq name entity.name

-- the entity of a name in a unit: the first that is called so
abbrev pub entity_in : List Entity → (unit : ℕ) → (name : List ℕ) → Option Entity
entity_in entities unit name = find (is_named unit name) entities

-- the number of that entity, its place in the list
abbrev pub number_in : List Entity → (unit : ℕ) → (name : List ℕ) → Option ℕ
number_in entities unit name = position (is_named unit name) entities

-- entities, of which the one of a number has another place
abbrev pub placed_at : List Entity → (number : ℕ) → Place → List Entity
placed_at [] number place = []
placed_at (entity ∷ entities) zero place = record entity { place = place } ∷ entities
placed_at (entity ∷ entities) (suc number) place = entity ∷ placed_at entities number place

-- each entity is kept under its unit and name
abbrev pub AreKeyed : List (EntityKey × Entity) → Type 0
AreKeyed entries = All (λ entry. (entry.0.unit ≡ entry.1.unit) × (entry.0.name ≡ entry.1.name)) entries
