-- What an assignment reads and writes (ANSI X3.9-1978, section 10.1; the order of an accumulation is this project's own).
use Rattle.std.specs.Prelude.{ℕ, zero, suc, ℤ, pos, Bool, true, false, List, [], ◌∷◌, Option, None, Some, if◌then◌else◌}
use Rattle.std.specs.Option.{option_map, option_or}
use Rattle.hyb_base.specs.declared.ops.RedOp.{RedOp}
use Rattle.hyb_base.specs.declared.ops.RedOp.TheVariants as red
use Rattle.f77_ast.specs.declared.expr.Expr.{Expr, out-Expr}
use Rattle.f77_ast.specs.declared.expr.Expr.TheFolds.{fold-Expr}
use Rattle.f77_ast.specs.declared.expr.Expr.TheOpen.{Expr-F, Part-F, Ref-F}
use Rattle.f77_ast.specs.declared.expr.Expr.TheOpen as layer
use Rattle.f77_ast.specs.declared.expr.Op.{Op}
use Rattle.f77_ast.specs.declared.expr.Op.TheVariants.{Plus, Neg, Not, Add, Sub, Mul, Div, Pow, Cat, Rel, And, Or, Eqv, Neqv}
use Rattle.f77_ast.specs.declared.expr.Part.{Part}
use Rattle.f77_ast.specs.declared.expr.Ref.{Ref}
use Rattle.f77_trees.specs.Same.{same_ref}
use Rattle.hyb_base.specs.Wrap.{sum_of, difference_of, product_of}
use Rattle.f77_ast.specs.declared.fault.Fault.TheVariants.{OutsideRegion, ValueDummyAssigned}
use Rattle.f77_meaning.specs.Demand.{Demand, gives, wants, fails, and_then, Evaluation, Located, Setting, demand_of, location_of, is_outside, number_demand, number_of, written_at}
use Rattle.f77_meaning.specs.Process.{Binding, placed, valued, unvalued}

-- whether an operator is one of a chain of `+` and `-`
abbrev pub stands_in_sum : Op → Bool
stands_in_sum Plus = false
stands_in_sum Neg = false
stands_in_sum Not = false
stands_in_sum Add = true
stands_in_sum Sub = true
stands_in_sum Mul = false
stands_in_sum Div = false
stands_in_sum Pow = false
stands_in_sum Cat = false
stands_in_sum (Rel rel) = false
stands_in_sum And = false
stands_in_sum Or = false
stands_in_sum Eqv = false
stands_in_sum Neqv = false

-- whether an operator is one of a chain of `*`
abbrev pub stands_in_product : Op → Bool
stands_in_product Plus = false
stands_in_product Neg = false
stands_in_product Not = false
stands_in_product Add = false
stands_in_product Sub = false
stands_in_product Mul = true
stands_in_product Div = false
stands_in_product Pow = false
stands_in_product Cat = false
stands_in_product (Rel rel) = false
stands_in_product And = false
stands_in_product Or = false
stands_in_product Eqv = false
stands_in_product Neqv = false

-- the operator of the accumulation `e op v`; those on truth have no meaning yet
abbrev pub exchanged : Op → Option RedOp
exchanged Plus = None
exchanged Neg = None
exchanged Not = None
exchanged Add = Some red.Add
exchanged Sub = None
exchanged Mul = Some red.Mul
exchanged Div = None
exchanged Pow = None
exchanged Cat = None
exchanged (Rel rel) = None
exchanged And = None
exchanged Or = None
exchanged Eqv = None
exchanged Neqv = None

-- what an operator of an accumulation gives of its operands; no other stands in one
abbrev pub joined_by : Op → ℤ → ℤ → ℤ
joined_by Plus x y = pos 0
joined_by Neg x y = pos 0
joined_by Not x y = pos 0
joined_by Add x y = sum_of x y
joined_by Sub x y = difference_of x y
joined_by Mul x y = product_of x y
joined_by Div x y = pos 0
joined_by Pow x y = pos 0
joined_by Cat x y = pos 0
joined_by (Rel rel) x y = pos 0
joined_by And x y = pos 0
joined_by Or x y = pos 0
joined_by Eqv x y = pos 0
joined_by Neqv x y = pos 0

-- whether an expression is a reference, spelled as this one
abbrev pub is_spelled_as : Ref → Expr-F Expr Part Ref → Bool
is_spelled_as v (layer.Int value) = false
is_spelled_as v (layer.Truth value) = false
is_spelled_as v (layer.Chars text) = false
is_spelled_as v (layer.Ref ref) = same_ref v ref
is_spelled_as v (layer.Unary op operand) = false
is_spelled_as v (layer.Binary op left right) = false
is_spelled_as v (layer.Paren inner) = false

abbrev pub is_v : Ref → Expr → Bool
is_v v expr = is_spelled_as v (out-Expr expr)

-- an operator and its two operands
pub record Operation : Type 0 where
  pub op : Op
  pub left : Expr
  pub right : Expr

-- the outermost operator of an expression, where it has two operands
abbrev pub layer_operation : Expr-F Expr Part Ref → Option Operation
layer_operation (layer.Int value) = None
layer_operation (layer.Truth value) = None
layer_operation (layer.Chars text) = None
layer_operation (layer.Ref ref) = None
layer_operation (layer.Unary op operand) = None
layer_operation (layer.Binary op left right) = Some (record { op = op; left = left; right = right })
layer_operation (layer.Paren inner) = None

abbrev pub operation_of : Expr → Option Operation
operation_of expr = layer_operation (out-Expr expr)

-- how many operators with two operands are one within the other at the left
abbrev pub left_step : Expr-F ℕ (Unit {0}) (Unit {0}) → ℕ
left_step (layer.Int value) = 0
left_step (layer.Truth value) = 0
left_step (layer.Chars text) = 0
left_step (layer.Ref ref) = 0
left_step (layer.Unary op operand) = 0
left_step (layer.Binary op left right) = suc left
left_step (layer.Paren inner) = 0

abbrev pub operators_at_left : Expr → ℕ
operators_at_left = fold-Expr ℕ (Unit {0}) (Unit {0}) left_step (λ part. tt) (λ ref. tt)

-- the right side of an accumulation with v held open: its value is a function of v's value, once all else is read
abbrev pub Held : Type 0
Held = List ℤ → Demand (ℤ → ℤ)

-- the value of an operand that is a number
abbrev pub Operand : Type 0
Operand = List ℤ → Demand ℤ

-- v, and an operand to its right
abbrev pub held_first : Op → Operand → Held
held_first op right answers = and_then (right answers) (λ y rest. gives (λ v. joined_by op v y) rest)

-- a chain from v on, and one operand more to its right
abbrev pub held_next : Op → Operand → Held → Held
held_next op right left answers = and_then (left answers) (λ chain rest. and_then (right rest) (λ y more. gives (λ v. joined_by op (chain v) y) more))

-- an operand, and v to its right
abbrev pub held_last : Op → Operand → Held
held_last op left answers = and_then (left answers) (λ x rest. gives (λ v. joined_by op x v) rest)

-- an accumulation: its operator, and its right side with v held open
pub record Accumulation : Type 0 where
  pub op : RedOp
  pub held : Held

-- an accumulation by this operator, where there is a right side
abbrev pub accumulates_by : RedOp → Option Held → Option Accumulation
accumulates_by op held = option_map (λ h. record { op = op; held = h }) held

module _ (s : Setting) (v : Ref) where
  module _ (in_chain : Op → Bool) where
    -- a chain whose left operand is v, or such a chain
    abbrev pub chain_by : (Expr → Option Held) → Option Operation → Option Held
    chain_by inner None = None
    chain_by inner (Some o) =
        if in_chain o.op
        then (if is_v v o.left then Some (held_first o.op (number_demand s o.right)) else option_map (held_next o.op (number_demand s o.right)) (inner o.left))
        else None

    -- a chain of `operators` operators at most, whose leftmost operand is v
    abbrev pub chain_within : ℕ → Expr → Option Held
    chain_within zero expr = None
    chain_within (suc operators) expr = chain_by (chain_within operators) (operation_of expr)

    -- a chain of one or more of these operators, whose leftmost operand is v
    abbrev pub chain_of : Expr → Option Held
    chain_of expr = chain_within (operators_at_left expr) expr

  -- `e op v`, where the operands of the operator may be exchanged
  abbrev pub last_with : Operation → Option RedOp → Option Accumulation
  last_with o None = None
  last_with o (Some op) = if is_v v o.right then Some (record { op = op; held = held_last o.op (number_demand s o.left) }) else None

  abbrev pub last_by : Option Operation → Option Accumulation
  last_by None = None
  last_by (Some o) = last_with o (exchanged o.op)

  -- the right side of an accumulation: the first form that fits counts; none where the assignment is no accumulation.
  -- Accumulations by MAX, MIN and the logical operators have no words yet, and no function is referenced yet, so the rule
  -- that there is none but intrinsics needs none
  abbrev pub accumulation_of : Expr → Option Accumulation
  accumulation_of expr =
      option_or (accumulates_by red.Add (chain_of stands_in_sum expr))
      (option_or (accumulates_by red.Mul (chain_of stands_in_product expr)) (last_by (operation_of expr)))

-- an address, the number that it takes, and the operator of an accumulation
pub record Written : Type 0 where
  pub address : ℕ
  pub value : ℤ
  pub by : Option RedOp

-- v is read last, and takes the value of the right side; where it is a dummy that is bound to a value, it isn't read, and takes none
abbrev pub accumulate : RedOp → Binding → (ℤ → ℤ) → List ℤ → Demand Written
accumulate op (placed address region length) value [] = wants address (Some op)
accumulate op (placed address region length) value (v ∷ rest) = gives (record { address = address; value = value v; by = Some op }) rest
accumulate op (valued bound) value rest = fails ValueDummyAssigned
accumulate op (unvalued length) value rest = fails ValueDummyAssigned

module _ (s : Setting) where
  -- an assignment that is no accumulation: what the left side's subscript reads was read, then comes the right side
  abbrev pub plainly : Located → Evaluation → List ℤ → Demand Written
  plainly place value answers =
      and_then (value answers) (λ v rest. and_then (written_at s place.bound rest) (λ address more. gives (record { address = address; value = number_of v; by = None }) more))

  -- v, where it is in its region, is read and then written
  abbrev pub accumulate_at : RedOp → Binding → (ℤ → ℤ) → List ℤ → Demand Written
  accumulate_at op bound value rest = if is_outside s bound then fails OutsideRegion else accumulate op bound value rest

  -- an accumulation, the left side's subscript having its value: all else is read, then v, and then v is written
  abbrev pub accumulated : Located → Accumulation → List ℤ → Demand Written
  accumulated place a answers = and_then (a.held answers) (λ value rest. accumulate_at a.op place.bound value rest)

  -- what an assignment writes, plainly or as an accumulation
  abbrev pub written_by : Option Accumulation → Located → Evaluation → List ℤ → Demand Written
  written_by None place value answers = plainly place value answers
  written_by (Some a) place value answers = accumulated place a answers

  -- what an assignment writes, and where: the left side's subscript comes first
  abbrev pub written_of : (target : Ref) → (value : Expr) → List ℤ → Demand Written
  written_of target value answers =
      and_then (location_of s target answers) (λ place rest. written_by (accumulation_of s target value) place (demand_of s value) rest)
