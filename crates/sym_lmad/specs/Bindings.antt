-- What bindings say of entities and regions, and when symbols may be evaluated over them.
use Rattle.std.specs.Prelude.{◌≡◌, ℕ, ◌+◌, ◌*◌, ◌^◌, ◌<◌, ℤ, pos, negsuc, ◌+ℤ◌, Bool, ◌&&◌, List, length, Option, None, Some, slice_get, unwrap_or, int_le, int_lt, IsTrue, if◌then◌else◌}
use Rattle.hyb_base.specs.declared.env.Base.TheVariants.{At}
use Rattle.hyb_base.specs.declared.env.Env.{Env}

-- a region's number: a negative one is none
abbrev pub region_by : Option ℤ → Option ℕ
region_by (Some (pos r)) = Some r
region_by (Some (negsuc r)) = None
region_by None = None

-- the region that bindings name for an entity: none where they have no place for it, or a negative number there
abbrev pub region_of : Env → (entity : ℕ) → Option ℕ
region_of env entity = region_by (slice_get env.regions entity)

-- the first address of a region, and its length: 0 where there is no such region
abbrev pub start_of : Env → (region : ℕ) → ℤ
start_of env r = unwrap_or (slice_get env.spans (r * 2)) (pos 0)

abbrev pub length_of : Env → (region : ℕ) → ℤ
length_of env r = unwrap_or (slice_get env.spans (r * 2 + 1)) (pos 0)

-- whether a number is one of those from a start on, as many as a length says
abbrev pub is_within : (start len : ℤ) → ℤ → Bool
is_within start len z = int_le start z && int_lt z (start +ℤ len)

-- the address that a number is, where a region holds it
abbrev pub address_by : ℤ → Option ℕ
address_by (pos a) = Some a
address_by (negsuc a) = None

abbrev pub address_in : (start len : ℤ) → ℤ → Option ℕ
address_in start len z = if is_within start len z then address_by z else None

-- a number is an address of a region
abbrev pub IsOfRegion : Env → (region : ℕ) → ℤ → Type 0
IsOfRegion env r z = IsTrue (is_within (start_of env r) (length_of env r) z)

-- a number is an address of the region that is named
abbrev pub IsOfNamed : Env → Option ℕ → ℤ → Type 0
IsOfNamed env (Some r) z = IsOfRegion env r z
IsOfNamed env None z = ⊥

-- a number is the address of one of some cells, in 32 bits
abbrev pub IsAddressOf : (cells : ℕ) → ℤ → Type 0
IsAddressOf cells (pos a) = (a < cells) × (a < 2 ^ 32)
IsAddressOf cells (negsuc a) = ⊥

-- bindings fit some cells: each entity that is bound to an address is bound to one of the region that is named for it, and each address of a region is a cell's
pub record FitsCells (env : Env) (cells : ℕ) : Type 0 where
  pub bound : (entity a : ℕ) → slice_get env.bases entity ≡ Some (At a) → IsOfNamed env (region_of env entity) (pos a)
  pub within : (r : ℕ) (z : ℤ) → IsOfRegion env r z → IsAddressOf cells z

-- symbols may be evaluated: bindings fit the cells, and each address may be got
pub record IsReadable (env : Env) (values : List ℤ) (may_get : ℕ → Bool) : Type 0 where
  pub fits : FitsCells env (length values)
  pub allowed : (a : ℕ) → a < length values → IsTrue (may_get a)
