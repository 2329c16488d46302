-- Operators by their places.
use Rattle.std.proofs.Common.{◌≡◌, ℕ, ◌==◌, refl, sym, ap, ◌∙◌, if◌then◌else◌}
use Rattle.hyb_base.specs.declared.ops.Rel.TheVariants.{Eq, Ne, Lt, Le, Gt, Ge}
use Rattle.f77_ast.specs.declared.expr.Op.{Op}
use Rattle.f77_ast.specs.declared.expr.Op.TheVariants as op
use Rattle.f77_trees.specs.Same.{op_place}

-- the operator at a place
op_at : ℕ → Op
op_at n =
    if n == 0 then op.Plus else (if n == 1 then op.Neg else (if n == 2 then op.Not else (if n == 3 then op.Add else (if n == 4 then op.Sub else (if n == 5 then op.Mul else (if n == 6 then op.Div else (if n == 7 then op.Pow else (if n == 8 then op.Cat else (if n == 9 then op.And else (if n == 10 then op.Or else (if n == 11 then op.Eqv else (if n == 12 then op.Neqv else
    (if n == 13 then op.Rel Eq else (if n == 14 then op.Rel Ne else (if n == 15 then op.Rel Lt else (if n == 16 then op.Rel Le else (if n == 17 then op.Rel Gt else op.Rel Ge)))))))))))))))))

op_at-place : (o : Op) → op_at (op_place o) ≡ o
unfolding op_at
op_at-place op.Plus = refl
op_at-place op.Neg = refl
op_at-place op.Not = refl
op_at-place op.Add = refl
op_at-place op.Sub = refl
op_at-place op.Mul = refl
op_at-place op.Div = refl
op_at-place op.Pow = refl
op_at-place op.Cat = refl
op_at-place op.And = refl
op_at-place op.Or = refl
op_at-place op.Eqv = refl
op_at-place op.Neqv = refl
op_at-place (op.Rel Eq) = refl
op_at-place (op.Rel Ne) = refl
op_at-place (op.Rel Lt) = refl
op_at-place (op.Rel Le) = refl
op_at-place (op.Rel Gt) = refl
op_at-place (op.Rel Ge) = refl

-- operators at one place are the same
pub same_place : (a b : Op) → op_place a ≡ op_place b → a ≡ b
same_place a b e = sym (op_at-place a) ∙ ap op_at e ∙ op_at-place b
