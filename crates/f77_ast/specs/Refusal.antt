-- Refusals: the codes of rules, and the first of some refusals.
use Rattle.std.specs.Prelude.{◌≡◌, ℕ, Bool, true, false, ◌||◌, ◌&&◌, ◌==◌, nat_lt, List, [], ◌∷◌, ◌++◌, Option, Some, None, All, Contains, MatchOption, if◌then◌else◌}
use Rattle.f77_ast.specs.declared.refusal.Refusal.{Refusal}
use Rattle.f77_ast.specs.declared.rule.Rule.{Rule}
use Rattle.f77_ast.specs.declared.rule.Rule.TheVariants as rule

-- a rule's code
abbrev pub code_of : Rule → ℕ
code_of rule.Tab = 1
code_of rule.BadCharacter = 2
code_of rule.BadLabel = 3
code_of rule.TooManyContinuations = 4
code_of rule.OpenConstant = 5
code_of rule.LeadingContinuation = 6
code_of rule.NoExpression = 10
code_of rule.LiteralRange = 11
code_of rule.RealLiteral = 12
code_of rule.NameTooLong = 13
code_of rule.NoStatement = 20
code_of rule.LeftOut = 21
code_of rule.RealName = 30
code_of rule.TypeClash = 31
code_of rule.UnknownUnit = 32
code_of rule.ArgumentCount = 33
code_of rule.ConstantExpected = 34
code_of rule.DoubleName = 35
code_of rule.Recursion = 36
code_of rule.DoVariableAssigned = 37
code_of rule.CommonMixed = 40
code_of rule.EquivalenceClash = 41
code_of rule.StorageLimit = 42
code_of rule.DataCount = 43
code_of rule.DataType = 44
code_of rule.DataTwice = 45
code_of rule.LabelMissing = 50
code_of rule.DoubleLabel = 51
code_of rule.DoNesting = 52
code_of rule.IfNesting = 53
code_of rule.NoProgram = 54
code_of rule.JumpIntoRange = 55
code_of rule.SizeLimit = 56
code_of rule.StatementOrder = 57

-- the refusal of a line by a rule
abbrev pub refusal_by : (line : ℕ) → Rule → Refusal
refusal_by line rule = record { line = line; code = code_of rule }

-- whether a refusal is of an earlier line than another, or of the same line and a lesser code
abbrev pub is_earlier : Refusal → Refusal → Bool
is_earlier r s = nat_lt r.line s.line || (r.line == s.line && nat_lt r.code s.code)

-- the earlier of a refusal and one that may be there
abbrev pub earlier_of : Refusal → Option Refusal → Refusal
earlier_of r None = r
earlier_of r (Some s) = if is_earlier s r then s else r

-- the earlier of two refusals that may be there
abbrev pub sooner : Option Refusal → Option Refusal → Option Refusal
sooner None other = other
sooner (Some refusal) other = Some (earlier_of refusal other)

-- a refusal, where a rule is broken
abbrev pub when : Bool → Refusal → List Refusal
when true refusal = refusal ∷ []
when false refusal = []

-- the first refusal: of the least line, and of those on that line the least code
abbrev pub first_of : List Refusal → Option Refusal
first_of [] = None
first_of (r ∷ rs) = Some (earlier_of r (first_of rs))

-- no refusal of a list is of an earlier line than this one, or of its line and a lesser code
abbrev pub NoneIsEarlier : Refusal → List Refusal → Type 0
NoneIsEarlier r rs = All (λ s. is_earlier s r ≡ false) rs

-- the first of some refusals is one of them, and none of them is earlier; there is none only of an empty list
abbrev pub FirstRefusalIsEarliest : Type 0
FirstRefusalIsEarliest = (rs : List Refusal) → MatchOption (first_of rs) (rs ≡ []) (λ r. Contains rs r × NoneIsEarlier r rs)

-- the first refusal of two lists, one after the other, is the sooner one of their first ones
abbrev pub FirstOfBothIsSooner : Type 0
FirstOfBothIsSooner = (rs ss : List Refusal) → first_of (rs ++ ss) ≡ sooner (first_of rs) (first_of ss)
