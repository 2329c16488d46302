-- The two kinds of chains that an accumulation may be, as the code names them.
use Rattle.std.specs.Prelude.{Bool, List, [], Option, None, Some}
use Rattle.f77_ast.specs.declared.expr.Op.{Op}
use Rattle.f77_meaning.specs.Assign.{stands_in_sum, stands_in_product}
use Rattle.f77_meaning.specs.Assign as meaning
use Rattle.f77_code.specs.declared.chain.Operation.{Operation}
use Rattle.f77_code.specs.declared.chain.Chain.{Chain}
use Rattle.f77_code.specs.declared.chain.Chain.TheVariants.{Sum, Product}

-- an operator and its operands, as the definitions have them
abbrev pub as_operation : Operation → meaning.Operation
as_operation o = record { op = o.op; left = o.left.now; right = o.right.now }

-- whether an operator is one of a chain
abbrev pub stands_in : Chain → Op → Bool
stands_in Sum = stands_in_sum
stands_in Product = stands_in_product

-- a list that may be there; none is empty
abbrev pub or_empty : {A : Type 0} → Option (List A) → List A
or_empty None = []
or_empty (Some list) = list
