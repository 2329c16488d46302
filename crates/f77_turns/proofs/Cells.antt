-- What an evaluation asks for lies in storage.
use Rattle.std.proofs.Common.{◌≡◌, ℕ, zero, suc, ◌+◌, ◌<◌, ◌≤◌, ◌+ℤ◌, ◌&&◌, ℤ, pos, negsuc, Bool, true, false, cond, List, [], ◌∷◌, Option, None, Some, refl, arith}
use Rattle.std.specs.Int.{int_gap}
use Rattle.std.specs.Option.{option_map}
use Rattle.std.specs.Prelude.{int_le}
use Rattle.f77_ast.specs.declared.expr.Kind.{Kind}
use Rattle.f77_ast.specs.declared.expr.Kind.TheVariants as kind
use Rattle.f77_ast.specs.declared.fault.Fault.TheVariants.{OutsideRegion}
use Rattle.f77_ast.specs.declared.program.Entity.{Entity}
use Rattle.f77_ast.specs.declared.program.Place.{Place}
use Rattle.f77_ast.specs.declared.program.Place.TheVariants.{Stored, Dummy, Constant}
use Rattle.f77_ast.specs.declared.specification.Bound.{Bound}
use Rattle.f77_structure.specs.HasMeaning.{is_integer_variable, is_integer_vector}
use Rattle.f77_structure.specs.Storage.{LiesIn, address_after, address_of_element, address_of_variable, extent_by, is_scalar, is_stored, is_vector, is_within, offset_by, offset_of, span_of, start_by, storage_units_by, stored_at, vector_span}
use Rattle.f77_structure.specs.Values.{Value, Operated, yields, breaks, means_nothing, is_integer_kind, value_of_units}
use Rattle.f77_meaning.specs.Demand.{Demand, gives, wants, calls, fails, and_then, address_written, cell_in, cell_value, cells_from, constant, is_in_region, is_outside, Located, Setting, Term, operated, place_by, place_of, value_at, value_of_bound, width, written_at}
use Rattle.f77_meaning.specs.Process.{Binding, placed, valued, unvalued}

-- a value of which nothing is said
abbrev pub Any : {A : Type 0} → A → Type 0
Any value = Unit {0}

-- both of two tests
pub both : (a b : Bool) → (a && b) ≡ true → (a ≡ true) × (b ≡ true)
both true b e = (refl, e)
both false b e = absurd (cc)

module _ (total : ℕ) where
  -- a demand asks for an address of storage of so many, or gives a good value, or meets a fault. It calls no unit
  abbrev pub Asks : {A : Type 0} → (Good : A → Type 0) → Demand A → Type 0
  Asks Good (gives value rest) = Good value
  Asks Good (wants address by) = address < total
  Asks Good (calls unit bindings) = ⊥
  Asks Good (fails fault) = Unit {0}

  -- and so does what goes on from it
  pub then_asks : {A B : Type 0} (Good : A → Type 0) (Fine : B → Type 0) (d : Demand A) (go : A → List ℤ → Demand B) → Asks Good d → ((value : A) (rest : List ℤ) → Good value → Asks Fine (go value rest)) → Asks Fine (and_then d go)
  then_asks Good Fine (gives value rest) go h then = then value rest h
  then_asks Good Fine (wants address by) go h then = h
  then_asks Good Fine (calls unit bindings) go h then = h
  then_asks Good Fine (fails fault) go h then = tt

  -- what a value of a type is bound to is in storage, where it is a place: its first address, and all of them
  abbrev pub BoundIn : Kind → Binding → Type 0
  BoundIn k (placed address region length) = (address < total) × (address + width k length ≤ total)
  BoundIn k (valued value) = Unit {0}
  BoundIn k (unvalued length) = Unit {0}

  -- what a reference stands for: a variable or an element in storage, or a value, as that of a constant
  abbrev pub InStorage : Located → Type 0
  InStorage place = BoundIn place.kind place.bound

  -- an address of storage
  abbrev pub IsAddress : ℕ → Type 0
  IsAddress address = address < total

  cell_asks : (address : ℕ) → address < total → (answers : List ℤ) → Asks Any (cell_value address answers)
  cell_asks address h [] = h
  cell_asks address h (value ∷ rest) = tt

  -- the address that is written
  pub address_asks : (k : Kind) (bound : Binding) → BoundIn k bound → (rest : List ℤ) → Asks IsAddress (address_written bound rest)
  address_asks k (placed address region length) h rest = h.0
  address_asks k (valued value) h rest = tt
  address_asks k (unvalued length) h rest = tt

  pub operator_asks : (o : Operated) (rest : List ℤ) → Asks Any (operated o rest)
  operator_asks (yields value) rest = tt
  operator_asks (breaks fault) rest = tt
  operator_asks means_nothing rest = tt

  -- an INTEGER's value takes one address
  pub one_cell : (k : Kind) (len : ℕ) → is_integer_kind k ≡ true → width k len ≡ 1
  one_cell kind.Integer len e = refl
  one_cell kind.Logical len e = absurd (cc)
  one_cell kind.Character len e = absurd (cc)

module _ (total : ℕ) (s : Setting) where
  in_region_asks : (address region : ℕ) → address < total → (answers : List ℤ) → Asks total Any (cell_in s address region answers)
  in_region_asks address region h answers = by (is_in_region s address region)
    where
      by : (b : Bool) → Asks total Any (cond b (cell_value address answers) (fails OutsideRegion))
      by true = cell_asks total address h answers
      by false = tt

  cells_ask : (address region count : ℕ) → address + count ≤ total → (answers : List ℤ) → Asks total Any (cells_from s address region count answers)
  cells_ask address region zero h answers = tt
  cells_ask address region (suc count) h answers =
      then_asks total Any Any (cell_in s address region answers) (λ first rest. and_then (cells_from s (address + 1) region count rest) (λ others more. gives (first ∷ others) more)) (in_region_asks address region (omega (arith, h)) answers)
      (λ first rest good. then_asks total Any Any (cells_from s (address + 1) region count rest) (λ others more. gives (first ∷ others) more) (cells_ask (address + 1) region count (omega (arith, h)) rest) (λ others more fine. tt))

  bound_asks : (k : Kind) (bound : Binding) → BoundIn total k bound → (answers : List ℤ) → Asks total Any (value_of_bound s k bound answers)
  bound_asks k (placed address region length) h answers =
      then_asks total Any Any (cells_from s address region (width k length) answers) (λ cells rest. gives (value_of_units k cells) rest) (cells_ask address region (width k length) h.1 answers) (λ cells rest good. tt)
  bound_asks k (valued value) h answers = tt
  bound_asks k (unvalued length) h answers = tt

  pub value_asks : (place : Located) → InStorage total place → (answers : List ℤ) → Asks total Any (value_at s place answers)
  value_asks place h answers = bound_asks place.kind place.bound h answers

  -- the address that is written, where it is in its region
  pub place_asks : (k : Kind) (bound : Binding) → BoundIn total k bound → (rest : List ℤ) → Asks total (IsAddress total) (written_at s bound rest)
  place_asks k bound h rest = by (is_outside s bound)
    where
      by : (b : Bool) → Asks total (IsAddress total) (cond b (fails OutsideRegion) (address_written bound rest))
      by true = tt
      by false = address_asks total k bound h rest

  -- a constant asks for no address
  pub constant_asks : (entity : Entity) (value : Option Value) (args : Option (List Term)) (answers : List ℤ) → Asks total (InStorage total) (constant s entity value args answers)
  constant_asks entity None args answers = tt
  constant_asks entity (Some value) None answers = tt
  constant_asks entity (Some value) (Some subscripts) answers = tt

  pub in_storage : (entity : Entity) (address : ℕ) → is_integer_kind entity.kind ≡ true → address < total → InStorage total (place_of s entity address)
  in_storage entity address e h = (h, omega (arith, h, one_cell total entity.kind entity.len e))

  -- an INTEGER variable
  pub variable_asks : (entity : Entity) → LiesIn total s.program.layout.regions entity → is_integer_variable (Some entity) ≡ true → (rest : List ℤ) → Asks total (InStorage total) (place_by s entity (address_of_variable entity) rest)
  variable_asks entity lies e rest = by entity.bounds entity.place tests.1.1 tests.1.0 (lies.within tests.1.0)
    where
      tests : (is_integer_kind entity.kind ≡ true) × ((is_stored entity.place ≡ true) × (is_scalar entity.bounds ≡ true))
      tests =
          let t : (is_integer_kind entity.kind ≡ true) × ((is_stored entity.place && is_scalar entity.bounds) ≡ true) = both (is_integer_kind entity.kind) (is_stored entity.place && is_scalar entity.bounds) e in
          (t.0, both (is_stored entity.place) (is_scalar entity.bounds) t.1)

      by : (bounds : List Bound) (place : Place) → is_scalar bounds ≡ true → is_stored place ≡ true → start_by place + storage_units_by bounds ≤ total → Asks total (InStorage total) (place_by s entity (cond (is_scalar bounds) (stored_at place) None) rest)
      by [] (Stored address) scalar there h = in_storage entity address tests.0 (omega (arith, h))
      by [] (Dummy k) scalar there h = tt
      by [] (Constant value) scalar there h = tt
      by (bound ∷ bounds) place scalar there h = absurd (cc)

-- a subscript within the bounds comes before the end
within_extent : (low high s : ℤ) → (int_le low s && int_le s high) ≡ true → int_gap low s < int_gap low (high +ℤ pos 1)
within_extent (pos a) (pos b) (pos c) e = grind (arith, e)
within_extent (pos a) (pos b) (negsuc c) e = grind (arith, e)
within_extent (pos a) (negsuc b) (pos c) e = grind (arith, e)
within_extent (pos a) (negsuc b) (negsuc c) e = grind (arith, e)
within_extent (negsuc a) (pos b) (pos c) e = grind (arith, e)
within_extent (negsuc a) (pos b) (negsuc c) e = grind (arith, e)
within_extent (negsuc a) (negsuc b) (pos c) e = grind (arith, e)
within_extent (negsuc a) (negsuc b) (negsuc c) e = grind (arith, e)

module _ (total : ℕ) (s : Setting) (entity : Entity) (lies : LiesIn total s.program.layout.regions entity) where
  offset_asks : (e : is_integer_kind entity.kind ≡ true) (first : ℕ) (n : ℤ) (rest : List ℤ) (span : Option _) → first + extent_by span ≤ total → Asks total (InStorage total) (place_by s entity (option_map (λ offset. first + offset) (offset_by span n)) rest)
  offset_asks e first n rest None h = tt
  offset_asks e first n rest (Some span) h = by (is_within span n) refl
    where
      by : (b : Bool) → is_within span n ≡ b → Asks total (InStorage total) (place_by s entity (option_map (λ offset. first + offset) (cond b (Some (offset_of span n)) None)) rest)
      by true w = in_storage total s entity (first + offset_of span n) e (omega (arith, h, within_extent span.low span.high n w))
      by false w = tt

  -- an element of an INTEGER array
  pub element_asks : is_integer_vector (Some entity) ≡ true → (n : ℤ) (rest : List ℤ) → Asks total (InStorage total) (place_by s entity (address_of_element entity n) rest)
  element_asks e n rest = by entity.bounds entity.place (lies.within there)
    where
      tests : (is_integer_kind entity.kind ≡ true) × ((is_stored entity.place && is_vector entity.bounds) ≡ true)
      tests = both (is_integer_kind entity.kind) (is_stored entity.place && is_vector entity.bounds) e

      there : is_stored entity.place ≡ true
      there = (both (is_stored entity.place) (is_vector entity.bounds) tests.1).0

      by : (bounds : List Bound) (place : Place) → start_by place + storage_units_by bounds ≤ total → Asks total (InStorage total) (place_by s entity (address_after (stored_at place) (offset_by (vector_span bounds) n)) rest)
      by [] (Stored first) h = tt
      by (bound ∷ []) (Stored first) h = offset_asks tests.0 first n rest (span_of bound) h
      by (first ∷ second ∷ bounds) (Stored address) h = tt
      by bounds (Dummy k) h = tt
      by bounds (Constant value) h = tt
