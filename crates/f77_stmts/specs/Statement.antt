-- How a statement is read from its text: as an assignment, or by its first word.
use Rattle.std.specs.Prelude.{ℕ, suc, Bool, true, false, ◌&&◌, ◌||◌, if◌then◌else◌, [], length, drop, Option, Some, None, option_map, codes}
use Rattle.std.specs.Char.{is_ascii_digit}
use Rattle.f77_ast.specs.declared.expr.Expr.{Expr}
use Rattle.f77_ast.specs.declared.stmt.Stmt.{Stmt}
use Rattle.f77_ast.specs.declared.stmt.Stmt.TheVariants as stmt
use Rattle.f77_exprs.specs.Operators.{Text, begins}
use Rattle.f77_exprs.specs.Reading.{Outcome, is_empty, all_of}
use Rattle.f77_stmts.specs.declared.keyword.Keyword.{Keyword}
use Rattle.f77_forms.specs.Form.{Form, before, an_expr, read, passes}
use Rattle.f77_stmts.specs.Rows.{spelling, is_action, keyword_at, assignment, three_labels, jumps, rule}

-- the first that is there
abbrev pub or_else : {A : Type 0} → Option A → Option A → Option A
or_else (Some a) b = Some a
or_else None b = b

-- expr `)`
abbrev pub condition : Form Expr
condition = before an_expr (codes ")")

-- a text without its first word
abbrev pub behind_word : Keyword → Text → Text
behind_word k i = drop (length (spelling k)) i

-- what a first word begins, where such words are sought: all, or those that a logical IF may hold
abbrev pub begun : Bool → ℕ → Text → Option Keyword → Option Stmt
begun all d i None = None
begun all d i (Some k) = if all || is_action k then all_of (read d (rule k) (behind_word k i)) else None

unfoldable pub by_word : Bool → ℕ → Text → Option Stmt
by_word all d i = begun all d i (keyword_at i)

-- the arithmetic IF of what stands behind its condition
abbrev pub arithmetic : ℕ → Expr → Text → Option Stmt
arithmetic d a i = option_map (jumps a) (all_of (read d three_labels i))

-- what stands behind a condition, where only an arithmetic IF is sought
abbrev pub jumps_behind : ℕ → Expr → Text → Option Stmt
jumps_behind d a i = if passes is_ascii_digit i then arithmetic d a i else None

-- what an IF is, by what its condition makes of what stands behind it
abbrev pub if_by : (Expr → Text → Option Stmt) → Outcome Expr → Option Stmt
if_by next (Some p) = next p.0 p.1
if_by next None = None

-- whether a text begins with `IF(`
abbrev pub is_if : Text → Bool
is_if i = begins (codes "IF(") i

-- the statement that is read of a text, if a logical IF may hold it
unfoldable pub action_within : ℕ → Text → Option Stmt
action_within d i = or_else (all_of (read d assignment i)) (if is_if i then if_by (jumps_behind d) (read d condition (drop 3 i)) else by_word false d i)

-- whether a text is `THEN`
abbrev pub is_then : Text → Bool
is_then i = begins (codes "THEN") i && is_empty (drop 4 i)

-- what stands behind a condition
abbrev pub any_behind : ℕ → Expr → Text → Option Stmt
any_behind d a i = if passes is_ascii_digit i then arithmetic d a i else (if is_then i then Some (stmt.BlockIf a) else option_map (λ v. stmt.LogicalIf a v) (action_within d i))

-- the statement that is read of a text
unfoldable pub statement_within : ℕ → Text → Option Stmt
statement_within d i = or_else (all_of (read d assignment i)) (if is_if i then if_by (any_behind d) (read d condition (drop 3 i)) else by_word true d i)

-- the statement that is read of a whole text: no parentheses in it nest deeper than it is long
abbrev pub statement_of : Text → Option Stmt
statement_of text = statement_within (suc (length text)) text
