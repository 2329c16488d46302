-- The rows of the table of statements: what stands behind the first word of each (ANSI X3.9-1978, sections 8 to 15).
use Rattle.std.specs.Prelude.{ℕ, Bool, true, false, List, [], ◌∷◌, Option, Some, None, codes}
use Rattle.f77_ast.specs.declared.expr.Expr.{Expr}
use Rattle.f77_ast.specs.declared.specification.TypeSpec.{TypeSpec}
use Rattle.f77_ast.specs.declared.specification.TypeSpec.TheVariants as typ
use Rattle.f77_ast.specs.declared.stmt.Stmt.{Stmt}
use Rattle.f77_ast.specs.declared.stmt.Stmt.TheVariants as stmt
use Rattle.f77_ast.specs.declared.stmt.Item.{Item}
use Rattle.f77_exprs.specs.Operators.{Text, begins, first_passing}
use Rattle.f77_stmts.specs.declared.keyword.Keyword.{Keyword}
use Rattle.f77_stmts.specs.declared.keyword.Keyword.TheVariants as word
use Rattle.f77_stmts.specs.declared.typed.Typed.{Typed}
use Rattle.f77_stmts.specs.declared.typed.Typed.TheVariants as typed
use Rattle.f77_forms.specs.Form.{Form, nothing, after, before, past, pair, made, either, by_first, list, an_expr, a_ref, a_name, a_label}
use Rattle.f77_parts.specs.Items.{some_items}
use Rattle.f77_parts.specs.Parts.{is_any, control, dummies, dummy_list, argument_list, stop_codes, len, entity, text_entity, array, common_groups, group, named, implicit_rule, save_entries, data_groups}

-- the first words, in the order of their search
abbrev pub keywords : List Keyword
keywords = word.Do ∷ word.Continue ∷ word.Return ∷ word.ElseIf ∷ word.Else ∷ word.EndIf ∷ word.End ∷ word.Stop ∷ word.ComputedGoto ∷ word.Goto ∷ word.Call ∷ word.Print ∷ word.Write ∷ word.ReadList ∷ word.ReadUnit ∷ word.Program ∷ word.Subroutine ∷ word.Function ∷ word.Integer ∷ word.Logical ∷ word.Character ∷ word.Dimension ∷ word.Common ∷ word.Equivalence ∷ word.Parameter ∷ word.Implicit ∷ word.Save ∷ word.Data ∷ []

-- the first words of statements that a logical IF may hold
abbrev pub is_action : Keyword → Bool
is_action word.Continue = true
is_action word.Return = true
is_action word.Stop = true
is_action word.ComputedGoto = true
is_action word.Goto = true
is_action word.Call = true
is_action word.Print = true
is_action word.Write = true
is_action word.ReadList = true
is_action word.ReadUnit = true
is_action _ = false

-- how each first word is spelled
abbrev pub spelling : Keyword → Text
spelling word.Do = codes "DO"
spelling word.Continue = codes "CONTINUE"
spelling word.Return = codes "RETURN"
spelling word.ElseIf = codes "ELSEIF("
spelling word.Else = codes "ELSE"
spelling word.EndIf = codes "ENDIF"
spelling word.End = codes "END"
spelling word.Stop = codes "STOP"
spelling word.ComputedGoto = codes "GOTO("
spelling word.Goto = codes "GOTO"
spelling word.Call = codes "CALL"
spelling word.Print = codes "PRINT*"
spelling word.Write = codes "WRITE(*,*)"
spelling word.ReadList = codes "READ*,"
spelling word.ReadUnit = codes "READ(*,*)"
spelling word.Program = codes "PROGRAM"
spelling word.Subroutine = codes "SUBROUTINE"
spelling word.Function = codes "FUNCTION"
spelling word.Integer = codes "INTEGER"
spelling word.Logical = codes "LOGICAL"
spelling word.Character = codes "CHARACTER"
spelling word.Dimension = codes "DIMENSION"
spelling word.Common = codes "COMMON"
spelling word.Equivalence = codes "EQUIVALENCE"
spelling word.Parameter = codes "PARAMETER("
spelling word.Implicit = codes "IMPLICIT"
spelling word.Save = codes "SAVE"
spelling word.Data = codes "DATA"

-- whether a text begins with a word
abbrev pub is_here : Keyword → Text → Bool
is_here k i = begins (spelling k) i

-- the word with which a text begins
abbrev pub keyword_at : Text → Option Keyword
keyword_at i = first_passing is_here keywords i

-- ---- statements of a type

-- what a type makes of what stands behind it
abbrev pub typed_by : TypeSpec → Typed → Stmt
typed_by t (typed.Function name all) = stmt.Function (Some t) name all
typed_by t (typed.Entities all) = stmt.Declare t all

-- name `(` [list(name)] `)`
abbrev pub function : Form (Text × List Text)
function = pair (before a_name (codes "(")) dummies

abbrev pub function_of : Text × List Text → Typed
function_of v = typed.Function v.0 v.1

-- name `(` [list(name)] `)` behind a type and `FUNCTION`
abbrev pub typed_function : Form Typed
typed_function = made function_of function

-- `FUNCTION` name `(` [list(name)] `)`, or list(decl)
abbrev pub behind_type : Form Typed
behind_type = either (codes "FUNCTION") typed_function (made (λ all. typed.Entities all) (list entity))

-- `FUNCTION` name `(` [list(name)] `)`, or list(decl [`*` len])
abbrev pub behind_character : Form Typed
behind_character = either (codes "FUNCTION") typed_function (made (λ all. typed.Entities all) (list text_entity))

-- `FUNCTION` name `(` [list(name)] `)`, or [`,`] list(decl [`*` len])
abbrev pub behind_length : Form Typed
behind_length = either (codes "FUNCTION") typed_function (made (λ all. typed.Entities all) (past (codes ",") (list text_entity)))

-- len, and what stands behind it
abbrev pub with_length : Form Stmt
with_length = made (λ v. typed_by (typ.Character (Some v.0)) v.1) (pair len behind_length)

-- what stands behind `CHARACTER` alone
abbrev pub without_length : Form Stmt
without_length = made (typed_by (typ.Character None)) behind_character

-- ---- items

-- [`,` list(item)]
abbrev pub printed : Form (List Item)
printed = by_first is_any (after (codes ",") (some_items false)) (nothing [])

-- [list(item)]
abbrev pub written : Form (List Item)
written = by_first is_any (some_items false) (nothing [])

-- ---- the rows

-- Assign: ref `=` expr (section 10)
abbrev pub assignment : Form Stmt
assignment = made (λ v. stmt.Assign v.0 v.1) (pair (before a_ref (codes "=")) an_expr)

abbrev pub jumps : Expr → ℕ × (ℕ × ℕ) → Stmt
jumps value v = stmt.ArithmeticIf value v.0 v.1.0 v.1.1

-- label `,` label `,` label (section 11.4)
abbrev pub three_labels : Form (ℕ × (ℕ × ℕ))
three_labels = pair (before a_label (codes ",")) (pair (before a_label (codes ",")) a_label)

abbrev pub rule : Keyword → Form Stmt
-- Do: `DO` label [`,`] name `=` expr `,` expr [`,` expr] (section 11.10)
rule word.Do = made (λ v. stmt.Do v.0 v.1) (pair a_label (past (codes ",") control))
-- Continue: `CONTINUE` (section 11.11)
rule word.Continue = nothing stmt.Continue
-- Return: `RETURN` (section 15.8)
rule word.Return = nothing stmt.Return
-- ElseIf: `ELSEIF(` expr `)THEN` (section 11.7)
rule word.ElseIf = made (λ a. stmt.ElseIf a) (before an_expr (codes ")THEN"))
-- Else: `ELSE` (section 11.8)
rule word.Else = nothing stmt.Else
-- EndIf: `ENDIF` (section 11.9)
rule word.EndIf = nothing stmt.EndIf
-- End: `END` (section 11.14)
rule word.End = nothing stmt.End
-- Stop: `STOP` [1 to 5 digits or a character constant] (section 11.12)
rule word.Stop = made (λ v. stmt.Stop v) stop_codes
-- ComputedGoto: `GOTO(` list(label) `)` [`,`] expr (section 11.2)
rule word.ComputedGoto = made (λ v. stmt.ComputedGoto v.0 v.1) (pair (before (list a_label) (codes ")")) (past (codes ",") an_expr))
-- Goto: `GOTO` label (section 11.1)
rule word.Goto = made (λ v. stmt.Goto v) a_label
-- Call: `CALL` name [`(` [list(expr)] `)`] (section 15.6.2.1)
rule word.Call = made (λ v. stmt.Call v.0 v.1) (pair a_name argument_list)
-- Print: `PRINT*` [`,` list(item)] (section 12.8)
rule word.Print = made (λ all. stmt.Print all) printed
-- Print: `WRITE(*,*)` [list(item)] (section 12.8)
rule word.Write = made (λ all. stmt.Print all) written
-- Read: `READ*,` list(item), whose plain items are refs (section 12.8)
rule word.ReadList = made (λ all. stmt.Read all) (some_items true)
-- Read: `READ(*,*)` list(item), whose plain items are refs (section 12.8)
rule word.ReadUnit = made (λ all. stmt.Read all) (some_items true)
-- Program: `PROGRAM` name (section 14.1)
rule word.Program = made (λ n. stmt.Program n) a_name
-- Subroutine: `SUBROUTINE` name [`(` [list(name)] `)`] (section 15.6.1)
rule word.Subroutine = made (λ v. stmt.Subroutine v.0 v.1) (pair a_name dummy_list)
-- Function without typ: `FUNCTION` name `(` [list(name)] `)` (section 15.5.1)
rule word.Function = made (λ v. stmt.Function None v.0 v.1) function
-- Declare: `INTEGER` list(decl) (section 8.4.1); Function: `INTEGER` `FUNCTION` name `(` [list(name)] `)`
rule word.Integer = made (typed_by typ.Integer) behind_type
-- Declare: `LOGICAL` list(decl) (section 8.4.1); Function: `LOGICAL` `FUNCTION` name `(` [list(name)] `)`
rule word.Logical = made (typed_by typ.Logical) behind_type
-- Declare: `CHARACTER` [`*` len [`,`]] list(decl [`*` len]) (section 8.4.2); Function: `CHARACTER` [`*` len] `FUNCTION`
-- name `(` [list(name)] `)`
rule word.Character = either (codes "*") with_length without_length
-- Dimension: `DIMENSION` list(name `(` list(bound) `)`) (section 8.1)
rule word.Dimension = made (λ v. stmt.Dimension v) (list array)
-- Common: `COMMON` and groups [`/` [name] `/`] list(decl), with [`,`] between; only the first may lack its slashes
-- (section 8.3)
rule word.Common = made (λ v. stmt.Common v) common_groups
-- Equivalence: `EQUIVALENCE` list of `(` ref `,` list(ref) `)`, without substrings (section 8.2)
rule word.Equivalence = made (λ v. stmt.Equivalence v) (list group)
-- Parameter: `PARAMETER(` list(name `=` expr) `)` (section 8.6)
rule word.Parameter = made (λ v. stmt.Parameter v) (before (list named) (codes ")"))
-- Implicit: `IMPLICIT` list of typ `(` list(letter [`-` letter]) `)` (section 8.5)
rule word.Implicit = made (λ v. stmt.Implicit v) (list implicit_rule)
-- Save: `SAVE` [list(name or `/` name `/`)] (section 8.9)
rule word.Save = made (λ v. stmt.Save v) save_entries
-- Init: `DATA` and groups list(ref) `/` list([repeat `*`] const) `/`, with [`,`] between, without substrings (section 9.1)
rule word.Data = made (λ v. stmt.Init v) data_groups
