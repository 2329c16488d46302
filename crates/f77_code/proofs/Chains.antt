-- The code of chains, by the outermost operator.
use Rattle.std.proofs.Common.{◌≡◌, ℕ, zero, suc, Bool, None, Some, refl, ap, ◌∙◌}
use Rattle.f77_ast.specs.declared.expr.Expr.{Expr}
use Rattle.f77_ast.specs.declared.expr.Op.{Op}
use Rattle.f77_ast.specs.declared.expr.Ref.{Ref}
use Rattle.f77_ast.specs.declared.program.Layout.{Layout}
use Rattle.f77_meaning.specs.Assign.{Operation, operation_of, operators_at_left}
use Rattle.f77_code.specs.Accumulations.{chain_code, chain_code_by, chain_code_within}

-- the chains of an expression, by its outermost operator
pub chain_code_unfolds : (layout : Layout) (unit : ℕ) (v : Ref) (in_chain : Op → Bool) (expr : Expr) (o : Operation) → operation_of expr ≡ Some o → operators_at_left expr ≡ suc (operators_at_left o.left) → chain_code layout unit v in_chain expr ≡ chain_code_by layout unit v in_chain (chain_code layout unit v in_chain) (Some o)
chain_code_unfolds layout unit v in_chain expr o e more =
    ap (λ n. chain_code_within layout unit v in_chain n expr) more
    ∙ ap (chain_code_by layout unit v in_chain (chain_code_within layout unit v in_chain (operators_at_left o.left))) e

-- what has no such operator is no chain
pub chain_code_none : (layout : Layout) (unit : ℕ) (v : Ref) (in_chain : Op → Bool) (expr : Expr) → operation_of expr ≡ None → chain_code layout unit v in_chain expr ≡ None
chain_code_none layout unit v in_chain expr e = by (operators_at_left expr)
  where
    by : (n : ℕ) → chain_code_within layout unit v in_chain n expr ≡ None
    by zero = refl
    by (suc n) = ap (chain_code_by layout unit v in_chain (chain_code_within layout unit v in_chain n)) e
