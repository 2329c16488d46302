-- What the declarations of a unit say of its names (ANSI X3.9-1978, section 8).
--
-- They are those of the whole unit, in whatever order they are: the first of each sort for a name counts, and a second one
-- breaks a rule.
use Rattle.std.specs.Prelude.{ℕ, suc, Bool, true, false, ◌&&◌, nat_le, List, [], ◌∷◌, ◌++◌, Option, None, Some, nat_eq, if◌then◌else◌}
use Rattle.std.specs.Cmp.Lexicographic.{pointwise}
use Rattle.std.specs.List.{flat_map, list_any}
use Rattle.std.specs.Option.{option_or}
use Rattle.f77_ast.specs.declared.expr.Expr.{Expr}
use Rattle.f77_ast.specs.declared.expr.Kind.{Kind}
use Rattle.f77_ast.specs.declared.expr.Kind.TheVariants as kind
use Rattle.f77_ast.specs.declared.program.Listed.{Listed}
use Rattle.f77_ast.specs.declared.specification.Bound.{Bound}
use Rattle.f77_ast.specs.declared.specification.CommonGroup.{CommonGroup}
use Rattle.f77_ast.specs.declared.specification.Declarator.{Declarator}
use Rattle.f77_ast.specs.declared.specification.ImplicitRule.{ImplicitRule}
use Rattle.f77_ast.specs.declared.specification.LetterRange.{LetterRange}
use Rattle.f77_ast.specs.declared.specification.Length.{Length}
use Rattle.f77_ast.specs.declared.specification.NamedConstant.{NamedConstant}
use Rattle.f77_ast.specs.declared.specification.TypeSpec.TheVariants as typ
use Rattle.f77_ast.specs.declared.specification.TypeSpec.{TypeSpec}
use Rattle.f77_ast.specs.declared.specification.TypedDeclarator.{TypedDeclarator}
use Rattle.f77_ast.specs.declared.stmt.Stmt.{Stmt}
use Rattle.f77_ast.specs.declared.stmt.Stmt as stmt
use Rattle.f77_leaves.specs.declared.declarations.Typing.{Typing}
use Rattle.f77_leaves.specs.declared.declarations.Fact.{Fact}
use Rattle.f77_leaves.specs.declared.declarations.Fact.TheVariants as fact
use Rattle.f77_leaves.specs.declared.declarations.Declared.{Declared}
use Rattle.f77_leaves.specs.declared.declarations.Known.{Known}

-- ---- what a statement declares

-- the type that a type statement, FUNCTION or IMPLICIT gives, with a length of its own before that of the statement
abbrev pub typing_by : TypeSpec → (own : Option Length) → Typing
typing_by typ.Integer own = record { kind = kind.Integer; length = own }
typing_by typ.Logical own = record { kind = kind.Logical; length = own }
typing_by (typ.Character len) own = record { kind = kind.Character; length = option_or own len }

-- a fact of a name
abbrev pub of_name : (name : List ℕ) → Fact → Declared
of_name name it = record { name = name; fact = it }

-- the bounds of a declared name, where it has some
abbrev pub bounds_facts : (name : List ℕ) → List Bound → List Declared
bounds_facts name [] = []
bounds_facts name (bound ∷ bounds) = of_name name (fact.Bounded (bound ∷ bounds)) ∷ []

abbrev pub declarator_facts : Declarator → List Declared
declarator_facts declarator = bounds_facts declarator.name declarator.bounds

-- a name in a type statement: its type, and its bounds
abbrev pub entity_facts : TypeSpec → TypedDeclarator → List Declared
entity_facts t entity =
    of_name entity.declarator.name (fact.Typed (typing_by t entity.length)) ∷ declarator_facts entity.declarator

-- a member of COMMON: its place there, and its bounds
abbrev pub common_facts : Declarator → List Declared
common_facts declarator = of_name declarator.name fact.Common ∷ declarator_facts declarator

abbrev pub group_facts : CommonGroup → List Declared
group_facts group = flat_map common_facts group.members

-- a constant of PARAMETER: the expression that it is
abbrev pub constant_facts : NamedConstant → List Declared
constant_facts constant = of_name constant.name (fact.Valued constant.value) ∷ []

-- dummy arguments, each with its place, the first of which is this
abbrev pub dummy_facts : (place : ℕ) → List (List ℕ) → List Declared
dummy_facts place [] = []
dummy_facts place (name ∷ names) = of_name name (fact.Dummy place) ∷ dummy_facts (suc place) names

-- the type that FUNCTION gives its result
abbrev pub result_facts : (name : List ℕ) → Option TypeSpec → List Declared
result_facts name None = []
result_facts name (Some t) = of_name name (fact.Typed (typing_by t None)) ∷ []

-- what a statement declares of names, in order
abbrev pub facts_in : Stmt → List Declared
facts_in (stmt.Assign target value) = []
facts_in (stmt.Do terminal control) = []
facts_in stmt.Continue = []
facts_in stmt.Return = []
facts_in stmt.Else = []
facts_in stmt.EndIf = []
facts_in stmt.End = []
facts_in (stmt.Stop code) = []
facts_in (stmt.Goto label) = []
facts_in (stmt.ComputedGoto labels index) = []
facts_in (stmt.ArithmeticIf value negative zeroth positive) = []
facts_in (stmt.LogicalIf' condition pointer inner) = []
facts_in (stmt.BlockIf condition) = []
facts_in (stmt.ElseIf condition) = []
facts_in (stmt.Call name args) = []
facts_in (stmt.Print items) = []
facts_in (stmt.Read items) = []
facts_in (stmt.Program name) = of_name name fact.Heading ∷ []
facts_in (stmt.Subroutine name dummies) = of_name name fact.Heading ∷ dummy_facts 0 dummies
facts_in (stmt.Function t name dummies) = of_name name fact.Result ∷ (result_facts name t ++ dummy_facts 0 dummies)
facts_in (stmt.Declare t entities) = flat_map (entity_facts t) entities
facts_in (stmt.Dimension arrays) = flat_map declarator_facts arrays
facts_in (stmt.Common groups) = flat_map group_facts groups
facts_in (stmt.Equivalence groups) = []
facts_in (stmt.Parameter constants) = flat_map constant_facts constants
facts_in (stmt.Implicit rules) = []
facts_in (stmt.Save entries) = []
facts_in (stmt.Init groups) = []

-- what a unit declares of names, in order
abbrev pub facts_of : List Listed → List Declared
facts_of listing = flat_map (λ listed. facts_in listed.stmt) listing

-- ---- what is known of a name

-- whether two names are one
abbrev pub same_name : List ℕ → List ℕ → Bool
same_name a b = pointwise nat_eq a b

-- nothing
abbrev pub unknown : Known
unknown = record { typing = None; bounds = None; value = None; dummy = None; common = false; heading = false; result = false }

-- what is known with one fact more: the first of each sort counts
abbrev pub joined : Known → Fact → Known
joined known (fact.Typed typing) = record known { typing = option_or known.typing (Some typing) }
joined known (fact.Bounded bounds) = record known { bounds = option_or known.bounds (Some bounds) }
joined known fact.Common = record known { common = true }
joined known (fact.Valued value) = record known { value = option_or known.value (Some value) }
joined known (fact.Dummy place) = record known { dummy = option_or known.dummy (Some place) }
joined known fact.Heading = record known { heading = true }
joined known fact.Result = record known { result = true }

-- what is known of a name with a declaration more
abbrev pub told : (name : List ℕ) → Known → Declared → Known
told name known declared = if same_name name declared.name then joined known declared.fact else known

-- what some declarations say of a name, after what is known
abbrev pub known_from : (name : List ℕ) → Known → List Declared → Known
known_from name known [] = known
known_from name known (declared ∷ rest) = known_from name (told name known declared) rest

-- what some declarations say of a name
abbrev pub known_of : List Declared → (name : List ℕ) → Known
known_of facts name = known_from name unknown facts

-- ---- IMPLICIT

-- whether a range of letters holds a letter
abbrev pub last_letter : LetterRange → Option ℕ → ℕ
last_letter range None = range.first
last_letter range (Some last) = last

abbrev pub holds_letter : (letter : ℕ) → LetterRange → Bool
holds_letter letter range = nat_le range.first letter && nat_le letter (last_letter range range.last)

abbrev pub rules_in : Stmt → List ImplicitRule
rules_in (stmt.Assign target value) = []
rules_in (stmt.Do terminal control) = []
rules_in stmt.Continue = []
rules_in stmt.Return = []
rules_in stmt.Else = []
rules_in stmt.EndIf = []
rules_in stmt.End = []
rules_in (stmt.Stop code) = []
rules_in (stmt.Goto label) = []
rules_in (stmt.ComputedGoto labels index) = []
rules_in (stmt.ArithmeticIf value negative zeroth positive) = []
rules_in (stmt.LogicalIf' condition pointer inner) = []
rules_in (stmt.BlockIf condition) = []
rules_in (stmt.ElseIf condition) = []
rules_in (stmt.Call name args) = []
rules_in (stmt.Print items) = []
rules_in (stmt.Read items) = []
rules_in (stmt.Program name) = []
rules_in (stmt.Subroutine name dummies) = []
rules_in (stmt.Function t name dummies) = []
rules_in (stmt.Declare t entities) = []
rules_in (stmt.Dimension arrays) = []
rules_in (stmt.Common groups) = []
rules_in (stmt.Equivalence groups) = []
rules_in (stmt.Parameter constants) = []
rules_in (stmt.Implicit rules) = rules
rules_in (stmt.Save entries) = []
rules_in (stmt.Init groups) = []

-- the rules of IMPLICIT of a unit
abbrev pub rules_of : List Listed → List ImplicitRule
rules_of listing = flat_map (λ listed. rules_in listed.stmt) listing

-- the type that the first rule with a letter gives it
abbrev pub implied_by : List ImplicitRule → (letter : ℕ) → Option Typing
implied_by [] letter = None
implied_by (rule ∷ rules) letter = if list_any (holds_letter letter) rule.letters then Some (typing_by rule.typ None) else implied_by rules letter

-- ---- the declarations of a unit

-- what a unit declares
pub record Declarations : Type 0 where
  -- what its declarations say of a name
  pub known : List ℕ → Known
  -- the type that IMPLICIT gives a letter
  pub implied : ℕ → Option Typing

abbrev pub declarations_of : List Listed → Declarations
declarations_of listing = record { known = known_of (facts_of listing); implied = implied_by (rules_of listing) }

-- ---- the type of a name (section 4.1.2)

-- without IMPLICIT, I to N are INTEGER, and other letters REAL, which is no type here
abbrev pub default_typing : (letter : ℕ) → Option Typing
default_typing letter = if nat_le 73 letter && nat_le letter 78 then Some (record { kind = kind.Integer; length = None }) else None

abbrev pub implied_typing : Declarations → (letter : ℕ) → Option Typing
implied_typing unit letter = option_or (unit.implied letter) (default_typing letter)

abbrev pub implicit_typing : Declarations → (name : List ℕ) → Option Typing
implicit_typing unit [] = None
implicit_typing unit (letter ∷ rest) = implied_typing unit letter

-- the type of a name: that of a type statement or its FUNCTION, else what IMPLICIT gives its first letter, else INTEGER for
-- I to N, else none
abbrev pub typing_of : Declarations → (name : List ℕ) → Option Typing
typing_of unit name = option_or (unit.known name).typing (implicit_typing unit name)

-- its kind
abbrev pub kind_in : Option Typing → Option Kind
kind_in None = None
kind_in (Some typing) = Some typing.kind

abbrev pub name_kind : Declarations → (name : List ℕ) → Option Kind
name_kind unit name = kind_in (typing_of unit name)
