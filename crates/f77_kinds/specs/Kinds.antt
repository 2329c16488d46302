-- The kinds that operators take and give (ANSI X3.9-1978, sections 6.1.1, 6.2.1, 6.3.1 and 6.4.1).
use Rattle.std.specs.Prelude.{Bool, true, false, not, Option, None, Some}
use Rattle.f77_ast.specs.declared.expr.Kind.{Kind}
use Rattle.f77_ast.specs.declared.expr.Kind.TheVariants as kind
use Rattle.f77_ast.specs.declared.expr.Op.{Op}
use Rattle.f77_ast.specs.declared.expr.Op.TheVariants as op
use Rattle.f77_leaves.specs.Meant.{same_kind}

-- whether an operator takes operands of a kind: a relation compares numbers or characters, and no logical values
abbrev pub takes_kind : Op → Kind → Bool
takes_kind op.Plus given = same_kind kind.Integer given
takes_kind op.Neg given = same_kind kind.Integer given
takes_kind op.Not given = same_kind kind.Logical given
takes_kind op.Add given = same_kind kind.Integer given
takes_kind op.Sub given = same_kind kind.Integer given
takes_kind op.Mul given = same_kind kind.Integer given
takes_kind op.Div given = same_kind kind.Integer given
takes_kind op.Pow given = same_kind kind.Integer given
takes_kind op.Cat given = same_kind kind.Character given
takes_kind (op.Rel relop) given = not (same_kind kind.Logical given)
takes_kind op.And given = same_kind kind.Logical given
takes_kind op.Or given = same_kind kind.Logical given
takes_kind op.Eqv given = same_kind kind.Logical given
takes_kind op.Neqv given = same_kind kind.Logical given

-- the kind of what an operator gives, whatever its operands are
abbrev pub result_kind : Op → Kind
result_kind op.Plus = kind.Integer
result_kind op.Neg = kind.Integer
result_kind op.Not = kind.Logical
result_kind op.Add = kind.Integer
result_kind op.Sub = kind.Integer
result_kind op.Mul = kind.Integer
result_kind op.Div = kind.Integer
result_kind op.Pow = kind.Integer
result_kind op.Cat = kind.Character
result_kind (op.Rel relop) = kind.Logical
result_kind op.And = kind.Logical
result_kind op.Or = kind.Logical
result_kind op.Eqv = kind.Logical
result_kind op.Neqv = kind.Logical

-- whether something may be an operand of an operator: what has no kind, a name of type REAL or something called, isn't
-- looked at
abbrev pub is_taken : Op → Option Kind → Bool
is_taken operator None = true
is_taken operator (Some given) = takes_kind operator given

-- whether something is of the kind that is wanted, or has none
abbrev pub fits : (wanted : Kind) → Option Kind → Bool
fits wanted None = true
fits wanted (Some given) = same_kind wanted given

-- whether two kinds are there, and aren't one
abbrev pub kinds_differ : Option Kind → Option Kind → Bool
kinds_differ None other = false
kinds_differ (Some one) None = false
kinds_differ (Some one) (Some other) = not (same_kind one other)
