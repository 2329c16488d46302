-- What is answered for a text.
use Rattle.std.specs.Prelude.{◌≡◌, Result, Ok, Err}
use Rattle.f77_ast.specs.declared.expr.Expr.{Expr}
use Rattle.f77_ast.specs.declared.refusal.FrontError.{FrontError}
use Rattle.f77_ast.specs.declared.refusal.FrontError.TheVariants.{Refused, NoMemory}
use Rattle.f77_exprs.specs.Operators.{Text}
use Rattle.f77_exprs.specs.Spelling.{SpellsExpr}
use Rattle.f77_exprs.specs.Cause.{refusal_of}

-- the text spells no expression
abbrev pub SpellsNone : Text → Type 0
SpellsNone text = (tree : Expr) → ¬ SpellsExpr text tree

-- the tree that the text spells, and no other; the refusal where it spells none; or that memory failed
abbrev pub Answers : Text → Result Expr FrontError → Type 0
Answers text (Ok tree) = SpellsExpr text tree × ((other : Expr) → SpellsExpr text other → other ≡ tree)
Answers text (Err (Refused refusal)) = SpellsNone text × (refusal ≡ refusal_of text)
Answers text (Err NoMemory) = Unit {0}
