-- Which texts an expression has (ANSI X3.9-1978, section 6). A text has no blanks and no lower-case letters outside
-- character constants.
--
-- Levels are counted from the tightest: 0 primary, 1 factor, 2 term, 3 sum, 4 chars, 5 relation, 6 negation,
-- 7 conjunction, 8 disjunction, 9 expr.
use Rattle.std.specs.Prelude.{ℕ, suc, ◌==◌, ◌^◌, ◌<◌, pos, true, false, if◌then◌else◌, List, [], ◌∷◌, ◌++◌, length, codes, Option, Some, None}
use Rattle.hyb_base.specs.Decimal.{IsDigits, value_of}
use Rattle.f77_ast.specs.declared.expr.Expr.{Expr}
use Rattle.f77_ast.specs.declared.expr.Expr.TheVariants as expr
use Rattle.f77_ast.specs.declared.expr.Ref.{roll-Ref}
use Rattle.f77_ast.specs.declared.expr.Part.{Part, roll-Part}
use Rattle.f77_ast.specs.Name.{IsName}
use Rattle.f77_exprs.specs.declared.operators.Infix.{Infix}
use Rattle.f77_exprs.specs.declared.operators.Prefix.{Prefix}
use Rattle.f77_exprs.specs.Operators.{Text, operator, spelling, below, left_level, right_level, prefix_operator, prefix_spelling, under}

-- the text of bytes inside a character constant: each apostrophe among them is written twice (section 4.8)
abbrev pub doubled : Text → Text
doubled [] = []
doubled (b ∷ bytes) = if b == 39 then 39 ∷ 39 ∷ doubled bytes else b ∷ doubled bytes

-- a reference as a tree
abbrev pub reference_of : Text → Option (List Expr) → Option Part → Expr
reference_of name arguments part = expr.Ref (roll-Ref (record { name = name; args = arguments; part = part }))

-- the bounds of a substring as a tree
abbrev pub part_of : Option Expr → Option Expr → Part
part_of low high = roll-Part (record { low = low; high = high })

-- the level of expr
abbrev pub top_level : ℕ
top_level = 9

mutual
  -- the trees that a text spells at a level
  pub data Spells : ℕ → Expr → Text → Type 0 where
    -- primary: digits of value at most 2^63 - 1 (section 4.3.1)
    number : (s : Text) → IsDigits s → value_of s < 2 ^ 63 → Spells 0 (expr.Int (pos (value_of s))) s
    -- primary: `.TRUE.` (section 4.7.1)
    truth : Spells 0 (expr.Truth true) (codes ".TRUE.")
    -- primary: `.FALSE.` (section 4.7.1)
    falsehood : Spells 0 (expr.Truth false) (codes ".FALSE.")
    -- primary: a character constant of at least one character (section 4.8.1)
    constant : (bytes : Text) → 0 < length bytes → Spells 0 (expr.Chars bytes) (39 ∷ (doubled bytes ++ 39 ∷ []))
    -- primary: ref; ref: name; name with `(` list of none or more expr `)`; either followed by `(` [expr] `:` [expr] `)`
    -- (sections 2.2, 5.3, 5.7.1 and 15.2)
    reference : (name : Text) {arguments : Option (List Expr)} {part : Option Part} {s t : Text} → IsName name → SpellsArguments arguments s → SpellsPart part t → Spells 0 (reference_of name arguments part) (name ++ (s ++ t))
    -- primary: `(` expr `)` (section 6.1.2.1)
    parentheses : {a : Expr} {s : Text} → Spells top_level a s → Spells 0 (expr.Paren a) (40 ∷ (s ++ 41 ∷ []))
    -- factor: primary; term: factor; sum: term; chars: sum; relation: chars; negation: relation; conjunction: negation;
    -- disjunction: conjunction; expr: disjunction (sections 6.1.2, 6.2.2, 6.3.2, 6.3.4 and 6.4.2)
    lower : {k : ℕ} {a : Expr} {s : Text} → Spells k a s → Spells (suc k) a s
    -- sum: `+` term; `-` term (section 6.1.2.4); negation: `.NOT.` relation (section 6.4.2.2)
    prefixed : (o : Prefix) {a : Expr} {s : Text} → Spells (under o) a s → Spells (suc (under o)) (expr.Unary (prefix_operator o) a) (prefix_spelling o ++ s)
    -- factor: primary `**` factor (section 6.1.2.2); term: term `*` factor; term `/` factor (section 6.1.2.3);
    -- sum: sum `+` term; sum `-` term (section 6.1.2.4); chars: chars `//` sum (section 6.2.2.2);
    -- relation: chars relop chars (sections 6.3.2 and 6.3.4); conjunction: conjunction `.AND.` negation (section 6.4.2.3);
    -- disjunction: disjunction `.OR.` conjunction (section 6.4.2.4);
    -- expr: expr `.EQV.` disjunction; expr `.NEQV.` disjunction (section 6.4.2.5)
    joined : (o : Infix) {a b : Expr} {s t : Text} → Spells (left_level o) a s → Spells (right_level o) b t → Spells (suc (below o)) (expr.Binary (operator o) a b) (s ++ (spelling o ++ t))

  -- what stands behind a name: nothing, or `(` list of none or more expr `)`
  pub data SpellsArguments : Option (List Expr) → Text → Type 0 where
    -- ref: name (section 2.2)
    no_list : SpellsArguments None []
    -- ref: name with `(` list of no expr `)` (section 15.2)
    empty_list : SpellsArguments (Some []) (40 ∷ 41 ∷ [])
    -- ref: name with `(` list of one or more expr `)` (sections 5.3 and 15.2)
    list : {all : List Expr} {s : Text} → SpellsAll all s → SpellsArguments (Some all) (40 ∷ (s ++ 41 ∷ []))

  -- list(expr): one or more expr with commas between
  pub data SpellsAll : List Expr → Text → Type 0 where
    -- list(expr): expr
    last : {a : Expr} {s : Text} → Spells top_level a s → SpellsAll (a ∷ []) s
    -- list(expr): expr `,` list(expr)
    more : {a : Expr} {all : List Expr} {s t : Text} → Spells top_level a s → SpellsAll all t → SpellsAll (a ∷ all) (s ++ 44 ∷ t)

  -- the bounds of a substring: nothing, or `(` [expr] `:` [expr] `)` (section 5.7.1)
  pub data SpellsPart : Option Part → Text → Type 0 where
    -- ref: name, or name with a list, alone
    no_part : SpellsPart None []
    -- ref: either followed by `(` [expr] `:` [expr] `)` (section 5.7.1)
    part : {low high : Option Expr} {s t : Text} → SpellsBound low s → SpellsBound high t → SpellsPart (Some (part_of low high)) (40 ∷ (s ++ 58 ∷ (t ++ 41 ∷ [])))

  -- [expr]
  pub data SpellsBound : Option Expr → Text → Type 0 where
    -- [expr]: nothing
    left_out : SpellsBound None []
    -- [expr]: expr
    given : {a : Expr} {s : Text} → Spells top_level a s → SpellsBound (Some a) s

-- expr: the trees that a whole text spells
abbrev pub SpellsExpr : Text → Expr → Type 0
SpellsExpr text a = Spells top_level a text
