-- How the levels are gone through from the tightest: first the operators before the first operand of all of them, then
-- that operand, then what stands behind it, level by level.
use Rattle.std.specs.Prelude.{ℕ, zero, suc, nat_le, if◌then◌else◌, Option, None}
use Rattle.f77_ast.specs.declared.expr.Expr.{Expr}
use Rattle.f77_exprs.specs.declared.reader.Heads.{Heads}
use Rattle.f77_exprs.specs.declared.operators.Prefix.{Prefix}
use Rattle.f77_exprs.specs.Operators.{grouping}
use Rattle.f77_exprs.specs.Reading.{Parser, ◌>>=◌, pure, next_prefix, prefixed, rest_of, level}

-- takes the operator at the head of a level, where that is no higher than the top
abbrev pub head_of : ℕ → ℕ → Parser (Option Prefix)
head_of top k = if nat_le k top then next_prefix k else pure None

-- takes the operators before the first operand of a level and of those under it
abbrev pub heads : ℕ → Parser Heads
heads top = head_of top 6 >>= (λ n. head_of top 3 >>= (λ s. pure (record { negation = n; sign = s })))

-- the operator at the head of a level
abbrev pub head_at : Heads → ℕ → Option Prefix
head_at h (suc (suc (suc zero))) = h.sign
head_at h (suc (suc (suc (suc (suc (suc zero)))))) = h.negation
head_at h _ = None

-- what the levels from 1 up to this one make of a primary and of what stands behind it
unfoldable pub climbed : Parser Expr → Heads → ℕ → Expr → Parser Expr
climbed inner h zero a = pure a
climbed inner h (suc k) a = climbed inner h k a >>= (λ b. rest_of (grouping (suc k)) (level inner k) (suc k) (prefixed (head_at h (suc k)) b))
