-- Why a text spells no statement.
use Rattle.std.specs.Prelude.{ℕ, Bool, false, ◌&&◌, ◌||◌, ◌==◌, if◌then◌else◌, List, [], ◌∷◌, drop, codes}
use Rattle.f77_ast.specs.Refusal.{code_of as code_of_rule}
use Rattle.f77_ast.specs.declared.rule.Rule.{Rule}
use Rattle.f77_ast.specs.declared.rule.Rule.TheVariants as rule
use Rattle.f77_exprs.specs.declared.cause.Cause.{Cause}
use Rattle.f77_exprs.specs.declared.cause.Cause.TheVariants.{RealLiteral, LiteralRange, NameTooLong, NoExpression}
use Rattle.f77_exprs.specs.Operators.{Text, begins}
use Rattle.f77_exprs.specs.Reading.{sees, alphanumerics}
use Rattle.f77_exprs.specs.Cause.{outside, cause_of, is_long_name}

-- the first words of specifications that are left out, or left out in some of their forms
abbrev pub left_out_specifications : List Text
left_out_specifications = codes "REAL" ∷ codes "DOUBLEPRECISION" ∷ codes "COMPLEX" ∷ codes "EXTERNAL" ∷ codes "INTRINSIC" ∷ codes "BLOCKDATA" ∷ codes "IMPLICIT" ∷ codes "INTEGER*" ∷ codes "LOGICAL*" ∷ []

-- those of input and output
abbrev pub left_out_transfers : List Text
left_out_transfers = codes "FORMAT(" ∷ codes "OPEN(" ∷ codes "CLOSE(" ∷ codes "INQUIRE(" ∷ codes "BACKSPACE" ∷ codes "ENDFILE" ∷ codes "REWIND" ∷ codes "READ" ∷ codes "WRITE" ∷ codes "PRINT" ∷ []

-- all others
abbrev pub left_out_others : List Text
left_out_others = codes "ENTRY" ∷ codes "ASSIGN" ∷ codes "PAUSE" ∷ codes "RETURN" ∷ codes "ENDDO" ∷ codes "DOWHILE" ∷ codes "INCLUDE" ∷ []

-- whether a text begins with one of some words
abbrev pub begins_any : List Text → Text → Bool
begins_any [] i = false
begins_any (w ∷ ws) i = begins w i || begins_any ws i

-- whether a text begins with a word of a statement that is left out, or left out in some of its forms
abbrev pub is_left_out : Text → Bool
is_left_out i = begins_any left_out_specifications i || (begins_any left_out_transfers i || begins_any left_out_others i)

-- whether a name of more than six letters and digits stands directly before the first `=` of a text, or anywhere after it:
-- of the byte before, of whether `=` was seen, and of the text from there on
abbrev pub long_name_from : ℕ → Bool → Text → Bool
long_name_from before seen [] = false
long_name_from before seen (b ∷ i) = (is_long_name before (b ∷ i) && (seen || sees 61 (drop (alphanumerics (b ∷ i)) (b ∷ i)))) || long_name_from b (seen || (b == 61)) i

-- the rule that refuses a text without a cause of its own, by whether such a name stands in it
abbrev pub rule_by_name : Bool → Rule
rule_by_name named = if named then rule.NameTooLong else rule.NoStatement

-- the rule that refuses a text, by its cause as an expression, and by whether such a name stands in it
abbrev pub rule_by : Cause → Bool → Rule
rule_by RealLiteral named = rule.RealLiteral
rule_by LiteralRange named = rule.LiteralRange
rule_by NameTooLong named = rule_by_name named
rule_by NoExpression named = rule_by_name named

-- the rule that refuses a text that spells no statement: one that is left out; a real literal; a number past 2^63 - 1; a
-- long name; any other
abbrev pub rule_of : Text → Rule
rule_of text = if is_left_out text then rule.LeftOut else rule_by (cause_of text) (long_name_from 32 false (outside text))

-- its code
abbrev pub code_of : Text → ℕ
code_of text = code_of_rule (rule_of text)
