-- The storage units of the entities of a program (ANSI X3.9-1978, sections 2.13, 5.1.2, 5.2.5, 5.4 and 17.1.1).
use Rattle.std.specs.Prelude.{ℤ, ◌+ℤ◌, ◌&&◌, int_le, nat_le, nat_lt, if◌then◌else◌, ◌≡◌, ℕ, ◌+◌, ◌<◌, ◌≤◌, ◌^◌, pos, Bool, true, false, List, [], ◌∷◌, length, All, Option, None, Some}
use Rattle.std.specs.List.{position_or_len}
use Rattle.std.specs.Int.{int_gap}
use Rattle.std.specs.Option.{is_some, option_map}
use Rattle.f77_ast.specs.declared.expr.Expr.{Expr, out-Expr}
use Rattle.f77_ast.specs.declared.expr.Expr.TheOpen.{Expr-F, Part-F, Ref-F}
use Rattle.f77_ast.specs.declared.expr.Expr.TheOpen as layer
use Rattle.f77_ast.specs.declared.expr.Part.{Part}
use Rattle.f77_ast.specs.declared.expr.Ref.{Ref}
use Rattle.f77_ast.specs.declared.program.Entity.{Entity}
use Rattle.f77_ast.specs.declared.program.Layout.{Layout}
use Rattle.f77_ast.specs.declared.program.Place.{Place}
use Rattle.f77_ast.specs.declared.program.Place.TheVariants.{Stored, Dummy, Constant}
use Rattle.f77_ast.specs.declared.program.Region.{Region}
use Rattle.f77_ast.specs.declared.specification.Bound.{Bound}
use Rattle.f77_structure.specs.declared.storage.Span.{Span}

-- the number that an expression is; none where it is no number
abbrev pub literal_number : Expr-F Expr Part Ref → Option ℤ
literal_number (layer.Int number) = Some number
literal_number (layer.Truth value) = None
literal_number (layer.Chars text) = None
literal_number (layer.Ref ref) = None
literal_number (layer.Unary op operand) = None
literal_number (layer.Binary op left right) = None
literal_number (layer.Paren inner) = None

-- the number that a bound is; none where it is left out, `*`, or no number
abbrev pub bound_number : Option Expr → Option ℤ
bound_number None = None
bound_number (Some bound) = literal_number (out-Expr bound)

-- two bounds, where both are numbers
abbrev pub span_with : Option ℤ → Option ℤ → Option Span
span_with (Some low) (Some high) = Some (record { low = low; high = high })
span_with (Some low) None = None
span_with None high = None

-- the bounds of a dimension, where both are numbers: those of each entity that is no dummy are
abbrev pub span_of : Bound → Option Span
span_of bound = span_with (bound_number bound.low) (bound_number bound.high)

-- the number of elements of a dimension: none where its upper bound is less than its lower one
abbrev pub extent_of : Span → ℕ
extent_of span = int_gap span.low (span.high +ℤ pos 1)

-- the number of elements between bounds that may not be numbers; then it has no meaning
abbrev pub extent_by : Option Span → ℕ
extent_by None = 0
extent_by (Some span) = extent_of span

-- how many cells an entity of INTEGER takes, by its dimensions: a variable takes one, an array of one dimension one for
-- each element (section 5.2.5); more dimensions have no meaning yet
abbrev pub storage_units_by : List Bound → ℕ
storage_units_by [] = 1
storage_units_by (bound ∷ []) = extent_by (span_of bound)
storage_units_by (first ∷ second ∷ bounds) = 0

abbrev pub storage_units_of : Entity → ℕ
storage_units_of entity = storage_units_by entity.bounds

-- how many elements an array has: one for each cell, as each takes one yet
abbrev pub elements_of : Entity → ℕ
elements_of array = storage_units_by array.bounds

-- the first address of what is stored; none of a dummy or a constant
abbrev pub stored_at : Place → Option ℕ
stored_at (Stored address) = Some address
stored_at (Dummy place) = None
stored_at (Constant value) = None

-- the same; 0 of what isn't stored
abbrev pub start_by : Place → ℕ
start_by (Stored address) = address
start_by (Dummy place) = 0
start_by (Constant value) = 0

abbrev pub start_of : Entity → ℕ
start_of entity = start_by entity.place

-- whether an entity is a variable
abbrev pub is_scalar : List Bound → Bool
is_scalar [] = true
is_scalar (bound ∷ bounds) = false

-- the bounds of an array of one dimension; none of what is no such array
abbrev pub vector_span : List Bound → Option Span
vector_span [] = None
vector_span (bound ∷ []) = span_of bound
vector_span (first ∷ second ∷ bounds) = None

-- whether it is an array of one dimension
abbrev pub is_vector : List Bound → Bool
is_vector bounds = is_some (vector_span bounds)

-- whether a subscript is within its bounds
abbrev pub is_within : Span → (subscript : ℤ) → Bool
is_within span subscript = int_le span.low subscript && int_le subscript span.high

-- how many elements come before the one of a subscript
abbrev pub offset_of : Span → (subscript : ℤ) → ℕ
offset_of span subscript = int_gap span.low subscript

-- the same; none where the subscript is outside the bounds, or there are none
abbrev pub offset_by : Option Span → (subscript : ℤ) → Option ℕ
offset_by None subscript = None
offset_by (Some span) subscript = if is_within span subscript then Some (offset_of span subscript) else None

-- the address of a variable; none of what is no variable, or isn't stored
abbrev pub address_of_variable : Entity → Option ℕ
address_of_variable entity = if is_scalar entity.bounds then stored_at entity.place else None

-- an address some cells after a first one, where both are there
abbrev pub address_after : (first : Option ℕ) → (cells : Option ℕ) → Option ℕ
address_after None cells = None
address_after (Some first) cells = option_map (λ offset. first + offset) cells

-- the address of an element, by its subscript (section 5.4); none where that is outside the bounds, and of what is no
-- array of one dimension, or isn't stored
abbrev pub address_of_element : Entity → (subscript : ℤ) → Option ℕ
address_of_element entity subscript = address_after (stored_at entity.place) (offset_by (vector_span entity.bounds) subscript)

-- whether it has an address
abbrev pub is_stored : Place → Bool
is_stored (Stored address) = true
is_stored (Dummy place) = false
is_stored (Constant value) = false

-- whether an address lies in a region
abbrev pub lies_in : (address : ℕ) → Region → Bool
lies_in address region = nat_le region.start address && nat_lt address (region.start + region.len)

-- the number of the region in which an address lies; their number where it lies in none
abbrev pub region_at : List Region → (address : ℕ) → ℕ
region_at regions address = position_or_len (lies_in address) regions

-- an entity, where it is stored, lies in storage of this total, and within one of these regions
pub record LiesIn (total : ℕ) (regions : List Region) (entity : Entity) : Type 0 where
  pub within : is_stored entity.place ≡ true → start_of entity + storage_units_of entity ≤ total
  pub together : (k : ℕ) → is_stored entity.place ≡ true → k < storage_units_of entity → region_at regions (start_of entity + k) ≡ region_at regions (start_of entity)

-- there is an opening value for each address, each stored entity lies in storage and in one region, each address lies in a region,
-- and addresses have 32 bits
pub record IsStorage (layout : Layout) : Type 0 where
  pub total : layout.total ≡ length layout.first
  pub lie : All (LiesIn (length layout.first) layout.regions) layout.entities
  pub covered : (address : ℕ) → address < length layout.first → region_at layout.regions address < length layout.regions
  pub small : length layout.first ≤ 2 ^ 32
