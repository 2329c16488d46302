-- The value of an expression, from the values of the addresses that it reads (ANSI X3.9-1978, section 6).
-- It is evaluated from left to right. Each value that it reads is taken in turn from a list of answers: where the list
-- is too short, the evaluation asks for the address that it reads next.
use Rattle.std.specs.Prelude.{ℕ, zero, suc, ◌+◌, ◌==◌, ℤ, pos, Bool, false, not, List, [], ◌∷◌, Option, None, Some, if◌then◌else◌}
use Rattle.std.specs.Option.{option_map}
use Rattle.hyb_base.specs.declared.ops.RedOp.{RedOp}
use Rattle.f77_ast.specs.declared.expr.Kind.{Kind}
use Rattle.f77_ast.specs.declared.expr.Kind.TheVariants as kind
use Rattle.f77_ast.specs.declared.expr.Expr.{Expr}
use Rattle.f77_ast.specs.declared.expr.Expr.TheOpen.{Expr-F, Part-F, Ref-F}
use Rattle.f77_ast.specs.declared.expr.Expr.TheOpen as layer
use Rattle.f77_ast.specs.declared.expr.Expr.TheFolds.{fold-Expr, fold-Part, fold-Ref}
use Rattle.f77_ast.specs.declared.expr.Part.{Part}
use Rattle.f77_ast.specs.declared.expr.Ref.{Ref}
use Rattle.f77_ast.specs.declared.program.Entity.{Entity}
use Rattle.f77_ast.specs.declared.program.Place.{Place}
use Rattle.f77_ast.specs.declared.program.Place.TheVariants.{Stored, Dummy, Constant}
use Rattle.f77_ast.specs.declared.program.Program.{Program}
use Rattle.f77_ast.specs.declared.fault.Fault.{Fault}
use Rattle.f77_ast.specs.declared.fault.Fault.TheVariants.{OutsideRegion, Subscript, Substring, ValueDummyAssigned}
use Rattle.f77_ast.specs.Entity.{entity_in}
use Rattle.f77_structure.specs.Literals.{literal_value}
use Rattle.f77_structure.specs.Storage.{address_of_variable, address_of_element, region_at}
use Rattle.f77_structure.specs.Values.{Value, integer, truth, chars, value_of_units, units_of_value, only_number, Operated, yields, breaks, means_nothing, unary_of, binary_of}
use Rattle.f77_meaning.specs.Process.{Binding, placed, valued, unvalued, Dimension, Frame}

-- where an expression is evaluated: the program, the unit, what its dummies are bound to, and the dimensions of its dummy arrays
pub record Setting : Type 0 where
  pub program : Program
  pub unit : ℕ
  pub bindings : List Binding
  pub bounds : List (List Dimension)

-- that of a frame
abbrev pub setting_of : Program → Frame → Setting
setting_of program frame = record { program = program; unit = frame.unit; bindings = frame.bindings; bounds = frame.bounds }

-- what an evaluation gives: a value and the answers that are left; the address that is read next, with the operator of an
-- accumulation where it is the last read of one; the unit that is called next, with what its dummies are bound to; or a fault
pub data Demand (A : Type 0) : Type 0 where
  gives : (value : A) (rest : List ℤ) → Demand A
  wants : (address : ℕ) (by : Option RedOp) → Demand A
  calls : (unit : ℕ) (bindings : List Binding) → Demand A
  fails : (fault : Fault) → Demand A

-- goes on with the value, on the answers that are left
abbrev pub and_then : {A B : Type 0} → Demand A → (A → List ℤ → Demand B) → Demand B
and_then (gives value rest) go = go value rest
and_then (wants address by) go = wants address by
and_then (calls unit bindings) go = calls unit bindings
and_then (fails fault) go = fails fault

-- what something evaluates to on these answers
abbrev pub Evaluation : Type 0
Evaluation = List ℤ → Demand Value

-- an expression: its value, and what it binds a dummy to where it is an actual argument (section 15.9.3)
pub record Term : Type 0 where
  pub value : Evaluation
  pub argument : List ℤ → Demand Binding

-- an expression that is no reference binds a dummy to its value
abbrev pub term : Evaluation → Term
term value = record { value = value; argument = λ answers. and_then (value answers) (λ x rest. gives (valued x) rest) }

-- the bounds of a substring, each of which may be left out (section 5.7.1)
pub record Bounds : Type 0 where
  pub low : Option Evaluation
  pub high : Option Evaluation

-- what an operator gives; where the kinds of its operands aren't its own it has no meaning, and no accepted program has that
abbrev pub operated : Operated → List ℤ → Demand Value
operated (yields value) rest = gives value rest
operated (breaks fault) rest = fails fault
operated means_nothing rest = gives (integer (pos 0)) rest

-- the value at an address: the next answer, or it is read next
abbrev pub cell_value : (address : ℕ) → List ℤ → Demand ℤ
cell_value address [] = wants address None
cell_value address (value ∷ rest) = gives value rest

-- a variable, or an element of an array: its type, and where it is, or what a dummy is bound to
pub record Located : Type 0 where
  pub kind : Kind
  pub bound : Binding

-- how many addresses a value of a type takes: one of INTEGER and LOGICAL, and one for each character of CHARACTER
abbrev pub width : Kind → (len : ℕ) → ℕ
width kind.Integer len = 1
width kind.Logical len = 1
width kind.Character len = len

-- the address of what is written, which takes one; to a dummy that is bound to a value nothing is
abbrev pub address_written : Binding → List ℤ → Demand ℕ
address_written (placed address region length) rest = gives address rest
address_written (valued value) rest = fails ValueDummyAssigned
address_written (unvalued length) rest = fails ValueDummyAssigned

-- the number that a value is, or is written as: of a character its first number
abbrev pub number_of : Value → ℤ
number_of value = only_number (units_of_value value)

-- what a reference stands for, on these answers
abbrev pub Location : Type 0
Location = List ℤ → Demand Located

-- a reference, or a substring of it, which has no meaning yet; no accepted program has one
abbrev pub located_part : Option Bounds → Location → Location
located_part None place answers = place answers
located_part (Some bounds) place answers = fails Substring

-- a reference that is an expression: the value of what it stands for, which is also what it binds a dummy to
abbrev pub referenced : (Located → Evaluation) → Location → Term
referenced value place = record { value = λ answers. and_then (place answers) value; argument = λ answers. and_then (place answers) (λ at rest. gives at.bound rest) }

module _ (s : Setting) where
  -- whether an address lies in a region: what a dummy reaches beyond the region of its actual argument is a fault
  abbrev pub is_in_region : (address region : ℕ) → Bool
  is_in_region address region = region_at s.program.layout.regions address == region

  -- the value at an address of a region
  abbrev pub cell_in : (address region : ℕ) → List ℤ → Demand ℤ
  cell_in address region answers = if is_in_region address region then cell_value address answers else fails OutsideRegion

  -- the values of `count` addresses, in turn
  abbrev pub cells_from : (address region count : ℕ) → List ℤ → Demand (List ℤ)
  cells_from address region zero answers = gives [] answers
  cells_from address region (suc count) answers = and_then (cell_in address region answers) (λ first rest. and_then (cells_from (address + 1) region count rest) (λ others more. gives (first ∷ others) more))

  -- the value of what is bound so: all addresses of a place are read, in order; a value is itself, without a read; and one that isn't
  -- known has no meaning where values are computed
  abbrev pub value_of_bound : Kind → Binding → Evaluation
  value_of_bound kind (placed address region length) answers = and_then (cells_from address region (width kind length) answers) (λ cells rest. gives (value_of_units kind cells) rest)
  value_of_bound kind (valued value) answers = gives value answers
  value_of_bound kind (unvalued length) answers = gives (integer (pos 0)) answers

  -- that of a variable or an element
  abbrev pub value_at : Located → Evaluation
  value_at place = value_of_bound place.kind place.bound

  -- whether what is bound so begins outside its region
  abbrev pub is_outside : Binding → Bool
  is_outside (placed address region length) = not (is_in_region address region)
  is_outside (valued value) = false
  is_outside (unvalued length) = false

  -- the same, where that is in its region
  abbrev pub written_at : Binding → List ℤ → Demand ℕ
  written_at bound rest = if is_outside bound then fails OutsideRegion else address_written bound rest

  -- the place of an entity that is stored, or of the element of an array, at an address
  abbrev pub place_of : Entity → (address : ℕ) → Located
  place_of entity address = record { kind = entity.kind; bound = placed address (region_at s.program.layout.regions address) entity.len }

  -- the place of an entity at an address that may be there; a subscript outside its bounds is a fault
  abbrev pub place_by : Entity → (address : Option ℕ) → List ℤ → Demand Located
  place_by entity (Some address) rest = gives (place_of entity address) rest
  place_by entity None rest = fails Subscript

  -- an entity in storage: a variable, or an element, whose subscript is evaluated, and then checked. More subscripts have no meaning yet
  abbrev pub stored : Entity → Option (List Term) → Location
  stored entity None answers = place_by entity (address_of_variable entity) answers
  stored entity (Some []) answers = fails Subscript
  stored entity (Some (subscript ∷ [])) answers = and_then (subscript.value answers) (λ value rest. place_by entity (address_of_element entity (number_of value)) rest)
  stored entity (Some (subscript ∷ second ∷ others)) answers = fails Subscript

  -- a constant: its value, which stands there as a literal; subscripts behind it have no meaning, and no accepted program has them
  abbrev pub constant : Entity → (value : Option Value) → Option (List Term) → Location
  constant entity None args answers = fails Subscript
  constant entity (Some value) None answers = gives (record { kind = entity.kind; bound = valued value }) answers
  constant entity (Some value) (Some subscripts) answers = fails Subscript

  -- an entity, by its place. Dummies have no meaning yet; no accepted program has one
  abbrev pub located_by : Entity → Place → Option (List Term) → Location
  located_by entity (Stored address) args answers = stored entity args answers
  located_by entity (Dummy place) args answers = fails Subscript
  located_by entity (Constant value) args answers = constant entity (literal_value value) args answers

  -- an entity that may be there; a name of none has no meaning, and no accepted program has one
  abbrev pub located : Option Entity → Option (List Term) → Location
  located None args answers = fails Subscript
  located (Some entity) args answers = located_by entity entity.place args answers

  -- one level: the left operand before the right one; a reference reads its subscript, and then its addresses
  abbrev pub expr_step : Expr-F Term Bounds Location → Term
  expr_step (layer.Int value) = term (λ answers. gives (integer value) answers)
  expr_step (layer.Truth value) = term (λ answers. gives (truth value) answers)
  expr_step (layer.Chars text) = term (λ answers. gives (chars text) answers)
  expr_step (layer.Ref place) = referenced value_at place
  expr_step (layer.Unary op operand) = term (λ answers. and_then (operand.value answers) (λ x rest. operated (unary_of op x) rest))
  expr_step (layer.Binary op left right) = term (λ answers. and_then (left.value answers) (λ x rest. and_then (right.value rest) (λ y more. operated (binary_of op x y) more)))
  expr_step (layer.Paren inner) = term inner.value

  abbrev pub part_step : Part-F Term Bounds Location → Bounds
  part_step part = record { low = option_map (λ bound. bound.value) part.low; high = option_map (λ bound. bound.value) part.high }

  -- a name stands for an entity of its unit
  abbrev pub ref_step : Ref-F Term Bounds Location → Location
  ref_step ref = located_part ref.part (located (entity_in s.program.layout.entities s.unit ref.name) ref.args)

  -- an expression
  abbrev pub term_of : Expr → Term
  term_of = fold-Expr Term Bounds Location expr_step part_step ref_step

  -- the bounds of a substring
  abbrev pub bounds_of : Part → Bounds
  bounds_of = fold-Part Term Bounds Location expr_step part_step ref_step

  -- the value of an expression
  abbrev pub demand_of : Expr → Evaluation
  demand_of expr = (term_of expr).value

  -- what a reference stands for
  abbrev pub location_of : Ref → Location
  location_of = fold-Ref Term Bounds Location expr_step part_step ref_step

-- the value of an expression of type INTEGER
abbrev pub number_demand : Setting → Expr → List ℤ → Demand ℤ
number_demand s expr answers = and_then (demand_of s expr answers) (λ value rest. gives (number_of value) rest)
