-- The parts that several statements share, as productions.
use Rattle.std.specs.Prelude.{ℕ, neg_ℤ, Bool, true, false, ◌==◌, List, [], ◌∷◌, ◌++◌, length, Option, Some, None, codes}
use Rattle.std.specs.Char.{is_ascii_digit}
use Rattle.f77_ast.specs.Name.{is_letter}
use Rattle.f77_ast.specs.declared.expr.Expr.{Expr}
use Rattle.f77_ast.specs.declared.expr.Ref.{Ref}
use Rattle.f77_ast.specs.declared.data.DataConstant.{DataConstant}
use Rattle.f77_ast.specs.declared.data.DataConstant.TheVariants as constant
use Rattle.f77_ast.specs.declared.data.DataGroup.{DataGroup}
use Rattle.f77_ast.specs.declared.data.DataValue.{DataValue}
use Rattle.f77_ast.specs.declared.data.Repeat.{Repeat}
use Rattle.f77_ast.specs.declared.data.Repeat.TheVariants as repeat
use Rattle.f77_ast.specs.declared.specification.Bound.{Bound}
use Rattle.f77_ast.specs.declared.specification.CommonGroup.{CommonGroup}
use Rattle.f77_ast.specs.declared.specification.Declarator.{Declarator}
use Rattle.f77_ast.specs.declared.specification.EquivalenceGroup.{EquivalenceGroup}
use Rattle.f77_ast.specs.declared.specification.ImplicitRule.{ImplicitRule}
use Rattle.f77_ast.specs.declared.specification.Length.{Length}
use Rattle.f77_ast.specs.declared.specification.Length.TheVariants as length_of
use Rattle.f77_ast.specs.declared.specification.LetterRange.{LetterRange}
use Rattle.f77_ast.specs.declared.specification.NamedConstant.{NamedConstant}
use Rattle.f77_ast.specs.declared.specification.SaveEntry.{SaveEntry}
use Rattle.f77_ast.specs.declared.specification.SaveEntry.TheVariants as entry
use Rattle.f77_ast.specs.declared.specification.TypeSpec.{TypeSpec}
use Rattle.f77_ast.specs.declared.specification.TypeSpec.TheVariants as typ
use Rattle.f77_ast.specs.declared.specification.TypedDeclarator.{TypedDeclarator}
use Rattle.f77_ast.specs.declared.stmt.LoopControl.{LoopControl}
use Rattle.f77_ast.specs.declared.stmt.StopCode.{StopCode}
use Rattle.f77_ast.specs.declared.stmt.StopCode.TheVariants as stop
use Rattle.f77_exprs.specs.Operators.{Text}
use Rattle.f77_exprs.specs.Reading.{Parser, and_then, pure}
use Rattle.f77_parts.specs.declared.common.CommonStep.{CommonStep}
use Rattle.f77_parts.specs.declared.common.CommonStep.TheVariants as step_of
use Rattle.f77_forms.specs.Form.{Form, nothing, after, before, past, pair, made, either, by_first, list, many, maybe, an_expr, a_whole_ref, read, many_of, a_name, some_digits, a_number, a_constant, a_letter}

-- any byte
abbrev pub is_any : ℕ → Bool
is_any c = true

-- an apostrophe
abbrev pub is_apostrophe : ℕ → Bool
is_apostrophe c = c == 39

-- ---- loops

abbrev pub control_of : Text × (Expr × (Expr × Option Expr)) → LoopControl
control_of v = record { variable = v.0; first = v.1.0; last = v.1.1.0; increment = v.1.1.1 }

-- [`,` expr]
abbrev pub increment : Form (Option Expr)
increment = maybe (codes ",") an_expr

-- name `=` expr `,` expr [`,` expr] (sections 11.10 and 12.8.2.3)
abbrev pub control : Form LoopControl
control = made control_of (pair (before a_name (codes "=")) (pair (before an_expr (codes ",")) (pair an_expr increment)))

-- ---- lists in parentheses

-- list(name) `)`, or `)` alone
abbrev pub dummies : Form (List Text)
dummies = either (codes ")") (nothing []) (before (list a_name) (codes ")"))

-- [`(` [list(name)] `)`]
abbrev pub dummy_list : Form (List Text)
dummy_list = either (codes "(") dummies (nothing [])

-- list(expr) `)`, or `)` alone
abbrev pub arguments : Form (List Expr)
arguments = either (codes ")") (nothing []) (before (list an_expr) (codes ")"))

-- [`(` [list(expr)] `)`]
abbrev pub argument_list : Form (List Expr)
argument_list = either (codes "(") arguments (nothing [])

-- ---- STOP

-- 1 to 5 digits or a character constant (section 11.12)
abbrev pub stop_code : Form StopCode
stop_code = by_first is_apostrophe (made (λ v. stop.Chars v) a_constant) (made (λ v. stop.Digits v) some_digits)

-- [1 to 5 digits or a character constant]
abbrev pub stop_codes : Form (Option StopCode)
stop_codes = by_first is_any (made (λ v. Some v) stop_code) (nothing None)

-- ---- types and lengths

-- `*)`, or expr `)`
abbrev pub paren_length : Form Length
paren_length = either (codes "*") (after (codes ")") (nothing length_of.Asterisk)) (made (λ a. length_of.Paren a) (before an_expr (codes ")")))

-- len: digits; `(` expr `)`; `(*)` (section 8.4.2)
abbrev pub len : Form Length
len = either (codes "(") paren_length (made (λ v. length_of.Digits v) a_number)

-- [`*` len]
abbrev pub len_option : Form (Option Length)
len_option = maybe (codes "*") len

-- typ: `INTEGER`; `LOGICAL`; `CHARACTER` [`*` len] (sections 8.4.1, 8.4.2 and 8.5)
abbrev pub type_spec : Form TypeSpec
type_spec = either (codes "INTEGER") (nothing typ.Integer) (either (codes "LOGICAL") (nothing typ.Logical) (after (codes "CHARACTER") (made (λ l. typ.Character l) len_option)))

-- ---- declarators

abbrev pub bound_of : Expr × Option (Option Expr) → Bound
bound_of (high, None) = record { low = None; high = Some high }
bound_of (low, Some high) = record { low = Some low; high = high }

-- `*`, or expr
abbrev pub upper : Form (Option Expr)
upper = either (codes "*") (nothing None) (made (λ a. Some a) an_expr)

-- [`:` and `*`, or expr]
abbrev pub upper_option : Form (Option (Option Expr))
upper_option = maybe (codes ":") upper

-- bound: [expr `:`] expr or [expr `:`] `*` (section 5.1.1.1)
abbrev pub bound : Form Bound
bound = either (codes "*") (nothing (record { low = None; high = None })) (made bound_of (pair an_expr upper_option))

abbrev pub declarator_of : Text × List Bound → Declarator
declarator_of v = record { name = v.0; bounds = v.1 }

-- list(bound) `)`
abbrev pub bounds : Form (List Bound)
bounds = before (list bound) (codes ")")

-- [`(` list(bound) `)`]
abbrev pub bound_list : Form (List Bound)
bound_list = either (codes "(") bounds (nothing [])

-- decl: name [`(` list(bound) `)`] (sections 5.1.1 and 8.1)
abbrev pub decl : Form Declarator
decl = made declarator_of (pair a_name bound_list)

-- name `(` list(bound) `)` (section 8.1)
abbrev pub array : Form Declarator
array = made declarator_of (pair (before a_name (codes "(")) bounds)

abbrev pub entity_of : Declarator × Option Length → TypedDeclarator
entity_of v = record { declarator = v.0; length = v.1 }

-- decl, of a type without lengths
abbrev pub entity : Form TypedDeclarator
entity = made (λ d. entity_of (d, None)) decl

-- decl [`*` len] (section 8.4.2)
abbrev pub text_entity : Form TypedDeclarator
text_entity = made entity_of (pair decl len_option)

-- ---- COMMON

-- what stands behind `/`: [name] `/`
abbrev pub block_name : Form (Option Text)
block_name = either (codes "/") (nothing None) (made (λ n. Some n) (before a_name (codes "/")))

-- [`/` [name] `/`]
abbrev pub first_block : Form (Option Text)
first_block = either (codes "/") block_name (nothing None)

-- what stands behind `/`: [name] `/` and the first member of another group
abbrev pub new_group : Form CommonStep
new_group = made (λ v. step_of.Group v.0 v.1) (pair block_name decl)

-- a member of the same group
abbrev pub same_group : Form CommonStep
same_group = made (λ d. step_of.Member d) decl

-- what stands behind `,`: `/` [name] `/` and the first member of another group, or a member of the same
abbrev pub behind_comma : Form CommonStep
behind_comma = either (codes "/") new_group same_group

-- what stands behind a member: `,` and a member of the same group; or [`,`] `/` [name] `/` and the first member of another
abbrev pub common_step : Form CommonStep
common_step = either (codes "/") new_group (after (codes ",") behind_comma)

-- the groups before the last, and the last
abbrev pub Groups : Type 0
Groups = List CommonGroup × CommonGroup

-- a first member makes a group
abbrev pub started : Option Text × Declarator → Groups
started v = ([], record { block = v.0; members = v.1 ∷ [] })

-- one member more
abbrev pub advanced : Groups → CommonStep → Groups
advanced g (step_of.Member d) = (g.0, record { block = g.1.block; members = g.1.members ++ d ∷ [] })
advanced g (step_of.Group b d) = (g.0 ++ g.1 ∷ [], record { block = b; members = d ∷ [] })

-- all groups
abbrev pub groups_of : Groups → List CommonStep → List CommonGroup
groups_of g [] = g.0 ++ g.1 ∷ []
groups_of g (one ∷ steps) = groups_of (advanced g one) steps

-- what is read behind the first member
abbrev pub later_groups : ℕ → CommonGroup → Parser (List CommonGroup)
later_groups d first = λ i. and_then (many_of (read d common_step) (length i) [] i) (λ steps. pure (groups_of ([], first) steps))

-- groups [`/` [name] `/`] list(decl), with [`,`] between, of which only the first may lack its slashes (section 8.3)
abbrev pub common_groups : Form (List CommonGroup)
common_groups = made (λ v. groups_of (started v.0) v.1) (pair (pair first_block decl) (many common_step))

-- ---- EQUIVALENCE, PARAMETER, IMPLICIT and SAVE

abbrev pub group_of : List Ref → EquivalenceGroup
group_of v = record { members = v }

-- ref `,` list(ref), without substrings
abbrev pub members : Form (List Ref)
members = made (λ v. v.0 ∷ v.1) (pair (before a_whole_ref (codes ",")) (list a_whole_ref))

-- `(` ref `,` list(ref) `)`, without substrings (section 8.2)
abbrev pub group : Form EquivalenceGroup
group = after (codes "(") (before (made group_of members) (codes ")"))

abbrev pub named_of : Text × Expr → NamedConstant
named_of v = record { name = v.0; value = v.1 }

-- name `=` expr (section 8.6)
abbrev pub named : Form NamedConstant
named = made named_of (pair (before a_name (codes "=")) an_expr)

abbrev pub range_of : ℕ × Option ℕ → LetterRange
range_of v = record { first = v.0; last = v.1 }

-- [`-` letter]
abbrev pub last_letter : Form (Option ℕ)
last_letter = maybe (codes "-") a_letter

-- letter [`-` letter] (section 8.5)
abbrev pub range : Form LetterRange
range = made range_of (pair a_letter last_letter)

abbrev pub rule_of : TypeSpec × List LetterRange → ImplicitRule
rule_of v = record { typ = v.0; letters = v.1 }

-- typ `(` list(letter [`-` letter]) `)` (section 8.5)
abbrev pub implicit_rule : Form ImplicitRule
implicit_rule = made rule_of (pair (before type_spec (codes "(")) (before (list range) (codes ")")))

-- name or `/` name `/` (section 8.9)
abbrev pub save_entry : Form SaveEntry
save_entry = either (codes "/") (made (λ n. entry.Block n) (before a_name (codes "/"))) (made (λ n. entry.Entity n) a_name)

-- [list(name or `/` name `/`)]
abbrev pub save_entries : Form (List SaveEntry)
save_entries = by_first is_any (list save_entry) (nothing [])

-- ---- DATA

-- digits
abbrev pub positive : Form DataConstant
positive = made (λ v. constant.Int v) a_number

-- digits behind `-`
abbrev pub negative : Form DataConstant
negative = made (λ v. constant.Int (neg_ℤ v)) a_number

-- `TRUE.`, or `FALSE.`
abbrev pub truth : Form DataConstant
truth = either (codes "TRUE.") (nothing (constant.Truth true)) (after (codes "FALSE.") (nothing (constant.Truth false)))

-- a character constant
abbrev pub quoted : Form DataConstant
quoted = made (λ v. constant.Chars v) a_constant

-- name
abbrev pub named_constant : Form DataConstant
named_constant = made (λ n. constant.Named n) a_name

-- `+` digits; `-` digits; `.TRUE.`; `.FALSE.`; a character constant (section 9.1)
abbrev pub other_constant : Form DataConstant
other_constant = either (codes "+") positive (either (codes "-") negative (either (codes ".") truth quoted))

-- const: [`+` or `-`] digits; `.TRUE.`; `.FALSE.`; a character constant; name (section 9.1)
abbrev pub data_constant : Form DataConstant
data_constant = by_first is_ascii_digit positive (by_first is_letter named_constant other_constant)

-- what is behind digits, or a name: the constant that is repeated, or nothing
abbrev pub value_of : Repeat → DataConstant → Option DataConstant → DataValue
value_of times alone None = record { repeat = None; constant = alone }
value_of times alone (Some one) = record { repeat = Some times; constant = one }

-- [`*` const]
abbrev pub repeated : Form (Option DataConstant)
repeated = maybe (codes "*") data_constant

-- [digits `*`] const, where digits come first
abbrev pub digits_value : Form DataValue
digits_value = made (λ v. value_of (repeat.Digits v.0) (constant.Int v.0) v.1) (pair a_number repeated)

-- [name `*`] const, where a name comes first
abbrev pub name_value : Form DataValue
name_value = made (λ v. value_of (repeat.Named v.0) (constant.Named v.0) v.1) (pair a_name repeated)

-- const, where neither comes first
abbrev pub other_value : Form DataValue
other_value = made (λ c. record { repeat = None; constant = c }) other_constant

-- [repeat `*`] const, repeat: digits; name (section 9.1)
abbrev pub data_value : Form DataValue
data_value = by_first is_ascii_digit digits_value (by_first is_letter name_value other_value)

abbrev pub data_group_of : List Ref × List DataValue → DataGroup
data_group_of v = record { targets = v.0; values = v.1 }

-- list(ref) `/` list([repeat `*`] const) `/`, without substrings (section 9.1)
abbrev pub data_group : Form DataGroup
data_group = made data_group_of (pair (before (list a_whole_ref) (codes "/")) (before (list data_value) (codes "/")))

-- [`,`] and a group behind the first
abbrev pub later_group : Form DataGroup
later_group = past (codes ",") data_group

-- groups, with [`,`] between
abbrev pub data_groups : Form (List DataGroup)
data_groups = made (λ v. v.0 ∷ v.1) (pair data_group (many later_group))
