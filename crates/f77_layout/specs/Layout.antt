-- Where the entities of a file are in storage (ANSI X3.9-1978, sections 2.13, 5.1.2, 5.2.5 and 17.1.1).
use Rattle.std.specs.Prelude.{ℕ, ◌+◌, pos, Bool, false, nat_le, List, [], ◌∷◌, ◌++◌, replicate, Option, None, Some, slice_get, if◌then◌else◌}
use Rattle.f77_ast.specs.Limits.{most_storage_units}
use Rattle.f77_ast.specs.declared.program.Entity.{Entity}
use Rattle.f77_ast.specs.declared.program.Layout.{Layout}
use Rattle.f77_ast.specs.declared.program.Place.{Place}
use Rattle.f77_ast.specs.declared.program.Place.TheVariants.{Stored, Dummy, Constant}
use Rattle.f77_ast.specs.declared.program.Region.{Region}
use Rattle.f77_structure.specs.Storage.{is_stored, storage_units_of}

-- how many storage units an entity takes for itself: none where it isn't stored
abbrev pub own_units : Entity → ℕ
own_units entity = if is_stored entity.place then storage_units_of entity else 0

abbrev pub total_units : List Entity → ℕ
total_units [] = 0
total_units (entity ∷ entities) = own_units entity + total_units entities

-- a place, with this address where it is in storage
abbrev pub place_at : (address : ℕ) → Place → Place
place_at address (Stored old) = Stored address
place_at address (Dummy place) = Dummy place
place_at address (Constant value) = Constant value

abbrev pub entity_at : (address : ℕ) → Entity → Entity
entity_at address entity = record entity { place = place_at address entity.place }

-- entities, each stored one where those before it end, from an address on
abbrev pub entities_from : (address : ℕ) → List Entity → List Entity
entities_from address [] = []
entities_from address (entity ∷ entities) = entity_at address entity ∷ entities_from (address + own_units entity) entities

-- the region of what is stored, so many units from an address on; none of anything else
abbrev pub region_if : (stored : Bool) → (address units : ℕ) → List Region
region_if stored address units = if stored then record { start = address; len = units } ∷ [] else []

-- the regions of entities that stand so
abbrev pub regions_from : (address : ℕ) → List Entity → List Region
regions_from address [] = []
regions_from address (entity ∷ entities) = region_if (is_stored entity.place) address (own_units entity) ++ regions_from (address + own_units entity) entities

-- the layout of entities: each stored one where those before it end, a region of its own, and every unit opens as 0
abbrev pub layout_of : List Entity → Layout
layout_of entities = record {
  regions = regions_from 0 entities;
  entities = entities_from 0 entities;
  total = total_units entities;
  first = replicate (total_units entities) (pos 0);
}

-- so many storage units, where they are no more than there may be
abbrev pub limited : ℕ → Option ℕ
limited units = if nat_le units most_storage_units then Some units else None

-- the layout, where the entities take no more storage units than there may be
abbrev pub limited_layout : List Entity → Option Layout
limited_layout entities = if nat_le (total_units entities) most_storage_units then Some (layout_of entities) else None

-- whether there is an entity of a number, and it is stored
abbrev pub is_stored_by : Option Entity → Bool
is_stored_by None = false
is_stored_by (Some entity) = is_stored entity.place

abbrev pub is_stored_at : List Entity → (number : ℕ) → Bool
is_stored_at entities number = is_stored_by (slice_get entities number)

-- how many storage units the entity of a number takes
abbrev pub units_by : Option Entity → ℕ
units_by None = 0
units_by (Some entity) = own_units entity

abbrev pub units_at : List Entity → (number : ℕ) → ℕ
units_at entities number = units_by (slice_get entities number)
