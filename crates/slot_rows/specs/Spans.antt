-- Regions that have units, and where their units are in a row.
use Rattle.std.specs.Prelude.{◌≡◌, ℕ, zero, suc, ◌+◌, ◌<◌, ◌≤◌, Bool, true, ◌&&◌, ◌==◌, nat_lt, nat_le, List, [], ◌∷◌, ◌++◌, length, slice_index_or, if◌then◌else◌}
use Rattle.std.specs.List.{list_any}
use Rattle.f77_ast.specs.declared.program.Region.{Region}
use Rattle.slot_rows.specs.declared.table.Span.{Span}

-- whether an address is in a region
abbrev pub is_in : ℕ → Region → Bool
is_in address region = nat_le region.start address && nat_lt address (region.start + region.len)

-- whether an address is in one of some regions
abbrev pub has_address : List Region → ℕ → Bool
has_address regions address = list_any (is_in address) regions

-- the place of the first region that has an address, or their number where none has it
abbrev pub place_with : List Region → ℕ → ℕ
place_with [] address = 0
place_with (region ∷ regions) address = if is_in address region then 0 else place_with regions address + 1

-- whether two regions have an address in common, where both have units
abbrev pub overlap : Region → Region → Bool
overlap r s = nat_lt r.start (s.start + s.len) && nat_lt s.start (r.start + r.len)

-- the same of regions that have units
abbrev pub region_of : Span → Region
region_of span = record { start = span.start; len = span.len }

abbrev pub has_span : List Span → ℕ → Bool
has_span spans address = list_any (λ span. is_in address (region_of span)) spans

abbrev pub spans_overlap : Span → Span → Bool
spans_overlap s t = overlap (region_of s) (region_of t)

-- the regions that have units, with their places, where the first region has place k
abbrev pub spans_of : ℕ → List Region → List Span
spans_of k [] = []
spans_of k (r ∷ regions) = if r.len == 0 then spans_of (k + 1) regions else record { start = r.start; len = r.len; place = k } ∷ spans_of (k + 1) regions

-- each has a unit, and ends before the next starts
pub record AreApart (spans : List Span) : Type 0 where
  pub some : (i : ℕ) (d : Span) → i < length spans → 0 < (slice_index_or spans i d).len
  pub rising : (i j : ℕ) (d : Span) → i < j → j < length spans → (slice_index_or spans i d).start + (slice_index_or spans i d).len ≤ (slice_index_or spans j d).start

-- n numbers from a first one on
abbrev pub run : (first n : ℕ) → List ℕ
run first zero = []
run first (suc n) = first ∷ run (first + 1) n

-- the addresses of units, in order
abbrev pub addresses_of : List Span → List ℕ
addresses_of [] = []
addresses_of (span ∷ spans) = run span.start span.len ++ addresses_of spans

-- the number of units before each, where there are n before the first
abbrev pub befores_of : ℕ → List Span → List ℕ
befores_of n [] = []
befores_of n (span ∷ spans) = n ∷ befores_of (n + span.len) spans

-- the place of an address in a list, or the length of the list where it isn't there
abbrev pub place_in : List ℕ → ℕ → ℕ
place_in [] address = 0
place_in (first ∷ addresses) address = if first == address then 0 else place_in addresses address + 1

-- each is the region at its place
pub record ArePlaced (regions : List Region) (spans : List Span) : Type 0 where
  pub within : (i : ℕ) (d : Span) → i < length spans → (slice_index_or spans i d).place < length regions
  pub start : (i : ℕ) (d : Span) (e : Region) → i < length spans → (slice_index_or regions (slice_index_or spans i d).place e).start ≡ (slice_index_or spans i d).start
  pub size : (i : ℕ) (d : Span) (e : Region) → i < length spans → (slice_index_or regions (slice_index_or spans i d).place e).len ≡ (slice_index_or spans i d).len

-- no address is in two of the regions
pub record AreAlone (regions : List Region) : Type 0 where
  pub alone : (i j a : ℕ) (d : Region) → i < j → j < length regions → is_in a (slice_index_or regions i d) ≡ true → is_in a (slice_index_or regions j d) ≡ true → ⊥
