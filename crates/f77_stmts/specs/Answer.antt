-- What is answered for a card.
use Rattle.std.specs.Prelude.{◌≡◌, ℕ, Result, Ok, Err}
use Rattle.f77_ast.specs.Refusal.{refusal_by}
use Rattle.f77_ast.specs.declared.refusal.FrontError.{FrontError}
use Rattle.f77_ast.specs.declared.refusal.FrontError.TheVariants.{Refused, NoMemory}
use Rattle.f77_ast.specs.declared.stmt.Stmt.{Stmt}
use Rattle.f77_exprs.specs.Operators.{Text}
use Rattle.f77_stmts.specs.Spelling.{SpellsStmt}
use Rattle.f77_stmts.specs.Cause.{rule_of}

-- the text spells no statement
abbrev pub SpellsNone : Text → Type 0
SpellsNone text = (v : Stmt) → ¬ SpellsStmt v text

-- the statement that the text of a line spells, and no other; the refusal where it spells none; or that memory failed
abbrev pub Answers : ℕ → Text → Result Stmt FrontError → Type 0
Answers line text (Ok v) = SpellsStmt v text × ((other : Stmt) → SpellsStmt other text → other ≡ v)
Answers line text (Err (Refused refusal)) = SpellsNone text × (refusal ≡ refusal_by line (rule_of text))
Answers line text (Err NoMemory) = Unit {0}
