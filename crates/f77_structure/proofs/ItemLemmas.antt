-- Which items of PRINT have a meaning.
use Rattle.std.proofs.Common.{◌≡◌, ℕ, List, Bool, true, false, refl, ap, ◌∙◌}
use Rattle.std.specs.Prelude.{◌||◌}
use Rattle.f77_ast.specs.declared.expr.Expr.{Expr}
use Rattle.f77_ast.specs.declared.program.Layout.{Layout}
use Rattle.f77_ast.specs.declared.program.Unit.{Unit as ProgramUnit}
use Rattle.f77_ast.specs.declared.stmt.Item.{Plain}
use Rattle.f77_structure.specs.Arrays.{array_named}
use Rattle.f77_structure.specs.HasMeaning.{item_has_meaning, expr_has_meaning, is_integer_vector}

-- an expression that has a meaning may be an item
pub plain_has_meaning : (units : List ProgramUnit) (layout : Layout) (unit : ℕ) (expr : Expr) → expr_has_meaning units layout unit expr ≡ true → item_has_meaning units layout unit (Plain expr) ≡ true
plain_has_meaning units layout unit expr e = ap (λ b. b || is_integer_vector (array_named layout unit expr)) e

-- and so may an INTEGER array's name
pub array_has_meaning : (units : List ProgramUnit) (layout : Layout) (unit : ℕ) (expr : Expr) → is_integer_vector (array_named layout unit expr) ≡ true → item_has_meaning units layout unit (Plain expr) ≡ true
array_has_meaning units layout unit expr e = ap (λ b. expr_has_meaning units layout unit expr || b) e ∙ by (expr_has_meaning units layout unit expr)
  where
    by : (b : Bool) → (b || true) ≡ true
    by true = refl
    by false = refl
