-- The operands of postfix code, and what takes them from a stack.
use Rattle.std.specs.Prelude.{ℕ, zero, suc, List, [], ◌∷◌, Option, None, Some}
use Rattle.f77_ast.specs.declared.program.Entity.{Entity}
use Rattle.f77_structure.specs.Values.{Value}
use Rattle.f77_meaning.specs.Demand.{Located, Location, Setting, gives, located}
use Rattle.f77_meaning.specs.Step.{Move}

-- an operand: a value; an entity, whose place isn't asked for yet; or a place, where a variable or an element is
pub data Operand : Type 0 where
  value : (x : Value) → Operand
  entity : (e : Entity) → Operand
  place : (at : Located) → Operand

-- operands, the one on top first
abbrev pub Stack : Type 0
Stack = List Operand

-- the value on top, and what is below it; none where there is no operand or it is no value
abbrev pub with_value : Stack → (Value → Stack → Option Move) → Option Move
with_value [] go = None
with_value (value x ∷ stack) go = go x stack
with_value (entity e ∷ stack) go = None
with_value (place at ∷ stack) go = None

-- so many values from the top, the lowest one first, and what is below them
abbrev pub with_values : ℕ → Stack → List Value → (List Value → Stack → Option Move) → Option Move
with_values zero stack values go = go values stack
with_values (suc count) stack values go = with_value stack (λ x below. with_values count below (x ∷ values) go)

-- the entity on top
abbrev pub with_entity : Stack → (Entity → Stack → Option Move) → Option Move
with_entity [] go = None
with_entity (value x ∷ stack) go = None
with_entity (entity e ∷ stack) go = go e stack
with_entity (place at ∷ stack) go = None

-- where the operand on top is: a place is there, and an entity where a variable is
abbrev pub with_place : Setting → Stack → (Location → Stack → Option Move) → Option Move
with_place s [] go = None
with_place s (value x ∷ stack) go = None
with_place s (entity e ∷ stack) go = go (located s (Some e) None) stack
with_place s (place at ∷ stack) go = go (λ answers. gives at answers) stack
