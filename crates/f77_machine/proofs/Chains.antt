-- Chains of an accumulation, with a value for v.
use Rattle.std.proofs.Common.{◌≡◌, ℕ, zero, suc, ℤ, Bool, true, false, cond, List, Option, None, Some, refl, ap, ◌∙◌}
use Rattle.std.specs.Option.{option_map}
use Rattle.f77_ast.specs.declared.expr.Expr.{Expr}
use Rattle.f77_ast.specs.declared.expr.Op.{Op}
use Rattle.f77_ast.specs.declared.expr.Ref.{Ref}
use Rattle.f77_meaning.specs.Assign.{Held, Operand, Operation, joined_by, held_first, held_next, is_v, operation_of, operators_at_left, chain_by, chain_within, chain_of}
use Rattle.f77_meaning.specs.Demand.{Demand, Setting, gives, wants, calls, fails, and_then, number_demand}
use Rattle.f77_machine.specs.Chain.{held_at, with_operand}

-- a chain and one operand more, where v has a value
held_at-next : (op : Op) (right : Operand) (x : ℤ) (answers : List ℤ) (held : Held) → held_at x answers (held_next op right held) ≡ and_then (held_at x answers held) (with_operand op right)
held_at-next op right x answers held = by (held answers)
  where
    then_right : (chain : ℤ → ℤ) (d : Demand ℤ) → and_then {A = ℤ → ℤ} (and_then d (λ y more. gives (λ v. joined_by op (chain v) y) more)) (λ value rest. gives (value x) rest) ≡ and_then d (λ y rest. gives (joined_by op (chain x) y) rest)
    then_right chain (gives y rest) = refl
    then_right chain (wants address by) = refl
    then_right chain (calls unit bindings) = refl
    then_right chain (fails fault) = refl

    by : (d : Demand (ℤ → ℤ)) → and_then {A = ℤ → ℤ} (and_then d (λ chain rest. and_then (right rest) (λ y more. gives (λ v. joined_by op (chain v) y) more))) (λ value rest. gives (value x) rest) ≡ and_then (and_then d (λ value rest. gives (value x) rest)) (with_operand op right)
    by (gives chain rest) = then_right chain (right rest)
    by (wants address op) = refl
    by (calls unit bindings) = refl
    by (fails fault) = refl

-- the same, where there may be a chain
pub longer_at : (op : Op) (right : Operand) (x : ℤ) (answers : List ℤ) (inner : Option Held) → option_map (held_at x answers) (option_map (held_next op right) inner) ≡ option_map (λ d. and_then d (with_operand op right)) (option_map (held_at x answers) inner)
longer_at op right x answers None = refl
longer_at op right x answers (Some held) = ap Some (held_at-next op right x answers held)

-- the chains of an expression, by its outermost operator
pub chain_unfolds : (s : Setting) (v : Ref) (in_chain : Op → Bool) (expr : Expr) (o : Operation) → operation_of expr ≡ Some o → operators_at_left expr ≡ suc (operators_at_left o.left) → chain_of s v in_chain expr ≡ chain_by s v in_chain (chain_of s v in_chain) (Some o)
chain_unfolds s v in_chain expr o e more =
    ap (λ n. chain_within s v in_chain n expr) more
    ∙ ap (chain_by s v in_chain (chain_within s v in_chain (operators_at_left o.left))) e

-- what has no such operator is no chain
pub chain_none : (s : Setting) (v : Ref) (in_chain : Op → Bool) (expr : Expr) → operation_of expr ≡ None → chain_of s v in_chain expr ≡ None
chain_none s v in_chain expr e = by (operators_at_left expr)
  where
    by : (n : ℕ) → chain_within s v in_chain n expr ≡ None
    by zero = refl
    by (suc n) = ap (chain_by s v in_chain (chain_within s v in_chain n)) e

-- a chain whose left operand isn't v is the chain there, and its right operand
pub chain_more : (s : Setting) (v : Ref) (in_chain : Op → Bool) (expr : Expr) (o : Operation) → operation_of expr ≡ Some o → operators_at_left expr ≡ suc (operators_at_left o.left) → in_chain o.op ≡ true → is_v v o.left ≡ false → chain_of s v in_chain expr ≡ option_map (held_next o.op (number_demand s o.right)) (chain_of s v in_chain o.left)
chain_more s v in_chain expr o e more stands other =
    let first : Option Held = Some (held_first o.op (number_demand s o.right)) in
    let next : Option Held = option_map (held_next o.op (number_demand s o.right)) (chain_of s v in_chain o.left) in
    chain_unfolds s v in_chain expr o e more
    ∙ ap (λ b. cond b (cond (is_v v o.left) first next) None) stands
    ∙ ap (λ b. cond b first next) other
