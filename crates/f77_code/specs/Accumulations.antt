-- The code of the right side of an accumulation: the value with which `v` is joined.
use Rattle.std.specs.Prelude.{ℕ, zero, suc, ◌++◌, Bool, List, [], ◌∷◌, Option, None, Some, if◌then◌else◌}
use Rattle.std.specs.Option.{option_map, option_or}
use Rattle.hyb_base.specs.declared.ops.RedOp.{RedOp}
use Rattle.hyb_base.specs.declared.ops.RedOp.TheVariants as red
use Rattle.f77_ast.specs.declared.code.Instr.{Instr}
use Rattle.f77_ast.specs.declared.code.Instr.TheVariants.{Accumulate, Unary, Binary}
use Rattle.f77_ast.specs.declared.expr.Expr.{Expr}
use Rattle.f77_ast.specs.declared.expr.Op.{Op}
use Rattle.f77_ast.specs.declared.expr.Op.TheVariants as op
use Rattle.f77_ast.specs.declared.expr.Ref.{Ref}
use Rattle.f77_ast.specs.declared.program.Layout.{Layout}
use Rattle.f77_meaning.specs.Assign.{Operation, exchanged, is_v, operation_of, operators_at_left, stands_in_product, stands_in_sum}
use Rattle.f77_code.specs.Exprs.{expr_code}

-- the operand to the right of v, and what is done with it: `v - e` joins v with `-e`
abbrev pub first_code : Op → List Instr → List Instr
first_code op.Plus right = right
first_code op.Neg right = right
first_code op.Not right = right
first_code op.Add right = right
first_code op.Sub right = right ++ Unary op.Neg ∷ []
first_code op.Mul right = right
first_code op.Div right = right
first_code op.Pow right = right
first_code op.Cat right = right
first_code (op.Rel rel) right = right
first_code op.And right = right
first_code op.Or right = right
first_code op.Eqv right = right
first_code op.Neqv right = right

-- the operator of an accumulation, and the code of the value with which v is joined
pub record Joining : Type 0 where
  pub op : RedOp
  pub code : List Instr

abbrev pub joining_by : RedOp → List Instr → Joining
joining_by op code = record { op = op; code = code }

-- the value with which v is joined, and the write
abbrev pub accumulation_code : Option Joining → List Instr
accumulation_code None = []
accumulation_code (Some joining) = joining.code ++ Accumulate joining.op ∷ []

module _ (layout : Layout) (unit : ℕ) (v : Ref) where
  module _ (in_chain : Op → Bool) where
    -- a chain whose left operand is v, or such a chain
    abbrev pub chain_code_by : (Expr → Option (List Instr)) → Option Operation → Option (List Instr)
    chain_code_by inner None = None
    chain_code_by inner (Some o) =
        if in_chain o.op
        then (if is_v v o.left then Some (first_code o.op (expr_code layout unit o.right)) else option_map (λ chain. chain ++ expr_code layout unit o.right ++ Binary o.op ∷ []) (inner o.left))
        else None

    abbrev pub chain_code_within : ℕ → Expr → Option (List Instr)
    chain_code_within zero expr = None
    chain_code_within (suc operators) expr = chain_code_by (chain_code_within operators) (operation_of expr)

    abbrev pub chain_code : Expr → Option (List Instr)
    chain_code expr = chain_code_within (operators_at_left expr) expr

  -- `e op v`
  abbrev pub last_code_with : Operation → Option RedOp → Option Joining
  last_code_with o None = None
  last_code_with o (Some by) = if is_v v o.right then Some (joining_by by (expr_code layout unit o.left)) else None

  abbrev pub last_code : Option Operation → Option Joining
  last_code None = None
  last_code (Some o) = last_code_with o (exchanged o.op)

  -- the right side of an accumulation; none where the assignment is no accumulation
  abbrev pub joining_code : Expr → Option Joining
  joining_code expr =
      option_or (option_map (joining_by red.Add) (chain_code stands_in_sum expr))
      (option_or (option_map (joining_by red.Mul) (chain_code stands_in_product expr)) (last_code (operation_of expr)))
