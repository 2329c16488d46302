-- Operators: how each is spelled, and how tight it binds (ANSI X3.9-1978, sections 6.1.1, 6.2.1, 6.3.1, 6.4.1 and
-- 6.5). Levels are counted from the tightest: 0 primary, 1 factor, 2 term, 3 sum, 4 chars, 5 relation, 6 negation,
-- 7 conjunction, 8 disjunction, 9 expr.
use Rattle.std.specs.Prelude.{ℕ, zero, suc, Bool, true, false, not, ◌&&◌, ◌==◌, if◌then◌else◌, List, [], ◌∷◌, codes, Option, Some, None}
use Rattle.f77_ast.specs.declared.expr.Op.{Op}
use Rattle.f77_ast.specs.declared.expr.Op.TheVariants as op
use Rattle.hyb_base.specs.declared.ops.Rel.TheVariants as rel
use Rattle.f77_exprs.specs.declared.operators.Infix.{Infix}
use Rattle.f77_exprs.specs.declared.operators.Infix.TheVariants as between
use Rattle.f77_exprs.specs.declared.operators.Prefix.{Prefix}
use Rattle.f77_exprs.specs.declared.operators.Prefix.TheVariants as before

-- the bytes of a text
abbrev pub Text : Type 0
Text = List ℕ

-- the operator of a tree that stands between two operands
abbrev pub operator : Infix → Op
operator between.Pow = op.Pow
operator between.Mul = op.Mul
operator between.Div = op.Div
operator between.Add = op.Add
operator between.Sub = op.Sub
operator between.Cat = op.Cat
operator between.Eq = op.Rel rel.Eq
operator between.Ne = op.Rel rel.Ne
operator between.Lt = op.Rel rel.Lt
operator between.Le = op.Rel rel.Le
operator between.Gt = op.Rel rel.Gt
operator between.Ge = op.Rel rel.Ge
operator between.And = op.And
operator between.Or = op.Or
operator between.Eqv = op.Eqv
operator between.Neqv = op.Neqv

-- how it is spelled
abbrev pub spelling : Infix → Text
spelling between.Pow = codes "**"
spelling between.Mul = codes "*"
spelling between.Div = codes "/"
spelling between.Add = codes "+"
spelling between.Sub = codes "-"
spelling between.Cat = codes "//"
spelling between.Eq = codes ".EQ."
spelling between.Ne = codes ".NE."
spelling between.Lt = codes ".LT."
spelling between.Le = codes ".LE."
spelling between.Gt = codes ".GT."
spelling between.Ge = codes ".GE."
spelling between.And = codes ".AND."
spelling between.Or = codes ".OR."
spelling between.Eqv = codes ".EQV."
spelling between.Neqv = codes ".NEQV."

-- the level under that of the operator
abbrev pub below : Infix → ℕ
below between.Pow = 0
below between.Mul = 1
below between.Div = 1
below between.Add = 2
below between.Sub = 2
below between.Cat = 3
below between.Eq = 4
below between.Ne = 4
below between.Lt = 4
below between.Le = 4
below between.Gt = 4
below between.Ge = 4
below between.And = 6
below between.Or = 7
below between.Eqv = 8
below between.Neqv = 8

-- how a level groups: operators to the left, to the right, or one operator at most
pub data Grouping : Type 0 where
  to_left to_right once : Grouping

-- how each level groups: factor to the right, relation once, all others to the left
abbrev pub grouping : ℕ → Grouping
grouping (suc zero) = to_right
grouping (suc (suc (suc (suc (suc zero))))) = once
grouping _ = to_left

-- the level of what stands on the left of an operator, whose own is above k: its own where it groups to the left, else k
abbrev pub left_of : Grouping → ℕ → ℕ
left_of to_left k = suc k
left_of to_right k = k
left_of once k = k

-- the level of what stands on its right: its own where it groups to the right, else k
abbrev pub right_of : Grouping → ℕ → ℕ
right_of to_left k = k
right_of to_right k = suc k
right_of once k = k

-- the level of what stands on the left of each operator
abbrev pub left_level : Infix → ℕ
left_level o = left_of (grouping (suc (below o))) (below o)

-- the level of what stands on the right of each operator
abbrev pub right_level : Infix → ℕ
right_level o = right_of (grouping (suc (below o))) (below o)

-- the operator of a tree that stands before its operand
abbrev pub prefix_operator : Prefix → Op
prefix_operator before.Plus = op.Plus
prefix_operator before.Neg = op.Neg
prefix_operator before.Not = op.Not

-- how it is spelled
abbrev pub prefix_spelling : Prefix → Text
prefix_spelling before.Plus = codes "+"
prefix_spelling before.Neg = codes "-"
prefix_spelling before.Not = codes ".NOT."

-- the level of its operand, under its own
abbrev pub under : Prefix → ℕ
under before.Plus = 2
under before.Neg = 2
under before.Not = 5

-- ---- what comes next in a text

-- the operators of a level that stand between two operands
abbrev pub infixes : ℕ → List Infix
infixes (suc zero) = between.Pow ∷ []
infixes (suc (suc zero)) = between.Mul ∷ between.Div ∷ []
infixes (suc (suc (suc zero))) = between.Add ∷ between.Sub ∷ []
infixes (suc (suc (suc (suc zero)))) = between.Cat ∷ []
infixes (suc (suc (suc (suc (suc zero))))) = between.Eq ∷ between.Ne ∷ between.Lt ∷ between.Le ∷ between.Gt ∷ between.Ge ∷ []
infixes (suc (suc (suc (suc (suc (suc (suc zero))))))) = between.And ∷ []
infixes (suc (suc (suc (suc (suc (suc (suc (suc zero)))))))) = between.Or ∷ []
infixes (suc (suc (suc (suc (suc (suc (suc (suc (suc zero))))))))) = between.Eqv ∷ between.Neqv ∷ []
infixes _ = []

-- the operators at the head of a level
abbrev pub prefixes : ℕ → List Prefix
prefixes (suc (suc (suc zero))) = before.Plus ∷ before.Neg ∷ []
prefixes (suc (suc (suc (suc (suc (suc zero)))))) = before.Not ∷ []
prefixes _ = []

-- whether a text begins with a spelling
abbrev pub begins : Text → Text → Bool
begins [] i = true
begins (b ∷ s) [] = false
begins (b ∷ s) (c ∷ i) = (c == b) && begins s i

-- whether an operator comes next: `/` only where `//` doesn't; `**` needs no such care, since level 1 has taken it before
-- level 2 looks for `*`
abbrev pub is_here : Infix → Text → Bool
is_here between.Div i = begins (codes "/") i && not (begins (codes "//") i)
is_here o i = begins (spelling o) i

-- whether an operator comes next before its operand
abbrev pub is_before : Prefix → Text → Bool
is_before o i = begins (prefix_spelling o) i

-- the first of some that passes a test on the text
abbrev pub first_passing : {X : Type 0} → (X → Text → Bool) → List X → Text → Option X
first_passing test [] i = None
first_passing test (x ∷ xs) i = if test x i then Some x else first_passing test xs i

-- the operator of a level that comes next between two operands
abbrev pub infix_at : ℕ → Text → Option Infix
infix_at k i = first_passing is_here (infixes k) i

-- the operator that comes next at the head of a level
abbrev pub prefix_at : ℕ → Text → Option Prefix
prefix_at k i = first_passing is_before (prefixes k) i
