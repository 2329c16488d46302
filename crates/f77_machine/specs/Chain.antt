-- The two kinds of chains that an accumulation may be, and its right side where v has a value.
use Rattle.std.specs.Prelude.{ℤ, Bool, List}
use Rattle.hyb_base.specs.declared.ops.RedOp.{RedOp}
use Rattle.f77_ast.specs.declared.expr.Op.{Op}
use Rattle.f77_meaning.specs.Assign.{Accumulation, Held, Operand, joined_by, stands_in_sum, stands_in_product}
use Rattle.f77_meaning.specs.Demand.{Demand, gives, and_then}
use Rattle.f77_meaning.specs.Assign as meaning
use Rattle.f77_machine.specs.Evaluated.{as_demand}
use Rattle.f77_machine.specs.declared.chain.Operation.{Operation}
use Rattle.f77_machine.specs.declared.chain.Chain.{Chain}
use Rattle.f77_machine.specs.declared.chain.Chain.TheVariants.{Sum, Product}
use Rattle.f77_machine.specs.declared.chain.Valued.{Valued}

-- an operator and its operands, as the definitions have them
abbrev pub as_operation : Operation → meaning.Operation
as_operation o = record { op = o.op; left = o.left.now; right = o.right.now }

-- whether an operator is one of a chain
abbrev pub stands_in : Chain → Op → Bool
stands_in Sum = stands_in_sum
stands_in Product = stands_in_product

-- an accumulation's operator, and the value of its right side
pub record OfAccumulation : Type 0 where
  pub op : RedOp
  pub value : Demand ℤ

abbrev pub as_valued : Valued → OfAccumulation
as_valued a = record { op = a.op; value = as_demand a.value }

-- a right side with v held open, where v has this value
abbrev pub held_at : (v : ℤ) → List ℤ → Held → Demand ℤ
held_at v answers held = and_then (held answers) (λ value rest. gives (value v) rest)

-- an accumulation, where v has this value
abbrev pub accumulation_at : (v : ℤ) → List ℤ → Accumulation → OfAccumulation
accumulation_at v answers a = record { op = a.op; value = held_at v answers a.held }

-- a value, and an operand to its right
abbrev pub with_operand : Op → Operand → ℤ → List ℤ → Demand ℤ
with_operand op right x answers = and_then (right answers) (λ y rest. gives (joined_by op x y) rest)
