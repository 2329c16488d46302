-- What is written in the slots of rows.
use Rattle.std.specs.Prelude.{◌≡◌, ◌≢◌, ℕ, ℤ, List, Option, None, Some, All, IsSome, is_some, slice_get, vec_len}
use Rattle.std.specs.List.{filter_map}
use Rattle.f77_ast.specs.declared.program.Region.{Region}
use Rattle.slot_rows.specs.declared.row.Row.{Row}
use Rattle.slot_rows.specs.declared.rows.Rows.{Rows}
use Rattle.slot_rows.specs.Counts.{count_below}
use Rattle.slot_rows.specs.Regions.{region_at}
use Rattle.slot_rows.specs.Row.{number_in}
use Rattle.slot_rows.specs.Spans.{place_in}
use Rattle.slot_rows.specs.Table.{addresses_in}

-- the number of slots
abbrev pub window_of : Rows → ℕ
window_of rows = vec_len rows.rows

-- the regions, in the order in which they were given
abbrev pub regions_of : Rows → List Region
regions_of rows = rows.table.regions.items

-- the regions of some numbers, in the order of the numbers
abbrev pub regions_named : List Region → List ℤ → List Region
regions_named regions numbers = filter_map (region_at regions) numbers

-- each number is that of a region
abbrev pub AreNamed : List Region → List ℤ → Type 0
AreNamed regions numbers = All (λ n. IsSome (region_at regions n)) numbers

-- the number of a unit in a row, where there is a row
abbrev pub number_from : Option Row → ℕ → Option ℤ
number_from None unit = None
number_from (Some row) unit = number_in row unit

-- the number that is written at an address in a slot: the meaning of rows is this finite map for each slot
unfoldable pub number_at : Rows → (slot address : ℕ) → Option ℤ
number_at rows slot address = number_from (slice_get rows.rows.items slot) (place_in (addresses_in rows.table) address)

-- one number of a slot is changed, and all else stays
pub record Writes (old new : Rows) (slot address : ℕ) (number : Option ℤ) : Type 0 where
  pub here : number_at new slot address ≡ number
  pub others : (a : ℕ) → a ≢ address → number_at new slot a ≡ number_at old slot a
  pub slots : (s a : ℕ) → s ≢ slot → number_at new s a ≡ number_at old s a
  pub window : window_of new ≡ window_of old
  pub regions : regions_of new ≡ regions_of old

-- nothing is written in a slot any more, and all else stays
pub record Empties (old new : Rows) (slot : ℕ) : Type 0 where
  pub here : (a : ℕ) → number_at new slot a ≡ None
  pub slots : (s a : ℕ) → s ≢ slot → number_at new s a ≡ number_at old s a
  pub window : window_of new ≡ window_of old
  pub regions : regions_of new ≡ regions_of old

-- how many addresses below n are written in a slot
abbrev pub written_count : Rows → (slot n : ℕ) → ℕ
written_count rows slot n = count_below (λ a. is_some (number_at rows slot a)) n
