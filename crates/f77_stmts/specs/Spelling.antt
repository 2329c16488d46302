-- Which texts a statement has (ANSI X3.9-1978, sections 8 to 15). A text has no blanks and no lower-case letters outside
-- character constants, and no word is reserved.
use Rattle.std.specs.Prelude.{ℕ, ◌∷◌, ◌++◌, codes, IsTrue}
use Rattle.f77_ast.specs.declared.expr.Expr.{Expr}
use Rattle.f77_ast.specs.declared.stmt.Stmt.{Stmt}
use Rattle.f77_ast.specs.declared.stmt.Stmt.TheVariants as stmt
use Rattle.f77_exprs.specs.Operators.{Text}
use Rattle.f77_exprs.specs.Spelling.{SpellsExpr}
use Rattle.f77_stmts.specs.declared.keyword.Keyword.{Keyword}
use Rattle.f77_forms.specs.Form.{Spells}
use Rattle.f77_stmts.specs.Rows.{spelling, is_action, assignment, three_labels, jumps, rule}

-- the statements that a logical IF may hold: Assign, Continue, Goto, ComputedGoto, ArithmeticIf, Call, Return, Stop, Print
-- and Read
pub data SpellsAction : Stmt → Text → Type 0 where
  -- Assign: ref `=` expr (section 10)
  assign : (v : Stmt) (s : Text) → Spells assignment v s → SpellsAction v s
  -- Continue, Goto, ComputedGoto, Call, Return, Stop, Print and Read: a first word and the rest of its row
  action : (k : Keyword) (v : Stmt) (s : Text) → IsTrue (is_action k) → Spells (rule k) v s → SpellsAction v (spelling k ++ s)
  -- ArithmeticIf: `IF(` expr `)` label `,` label `,` label (section 11.4)
  arithmetic_if : {a : Expr} (v : ℕ × (ℕ × ℕ)) {s : Text} (t : Text) → SpellsExpr s a → Spells three_labels v t → SpellsAction (jumps a v) (codes "IF(" ++ (s ++ 41 ∷ t))

-- all statements
pub data SpellsStmt : Stmt → Text → Type 0 where
  -- Assign, Continue, Goto, ComputedGoto, ArithmeticIf, Call, Return, Stop, Print and Read
  simple : {v : Stmt} {s : Text} → SpellsAction v s → SpellsStmt v s
  -- every statement whose row begins with a first word, those rows of `simple` too: the word and the rest of the row
  row : (k : Keyword) (v : Stmt) (s : Text) → Spells (rule k) v s → SpellsStmt v (spelling k ++ s)
  -- BlockIf: `IF(` expr `)THEN` (section 11.6)
  block_if : {a : Expr} {s : Text} → SpellsExpr s a → SpellsStmt (stmt.BlockIf a) (codes "IF(" ++ (s ++ codes ")THEN"))
  -- LogicalIf: `IF(` expr `)` and one of Assign, Continue, Goto, ComputedGoto, ArithmeticIf, Call, Return, Stop, Print, Read
  -- (section 11.5)
  logical_if : {a : Expr} {v : Stmt} {s t : Text} → SpellsExpr s a → SpellsAction v t → SpellsStmt (stmt.LogicalIf a v) (codes "IF(" ++ (s ++ 41 ∷ t))
