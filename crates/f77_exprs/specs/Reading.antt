-- How an expression is read from its text: a function for each rule, which takes what it reads from the front of a text.
use Rattle.std.specs.Prelude.{ℕ, zero, suc, ◌+◌, ◌^◌, pos, Bool, true, false, ◌&&◌, ◌==◌, nat_lt, if◌then◌else◌, List, [], ◌∷◌, ◌++◌, length, take, drop, codes, Option, Some, None}
use Rattle.std.specs.List.{prefix_len}
use Rattle.std.specs.Char.{is_ascii_digit}
use Rattle.hyb_base.specs.Decimal.{value_of}
use Rattle.f77_ast.specs.declared.expr.Expr.{Expr}
use Rattle.f77_ast.specs.declared.expr.Expr.TheVariants as expr
use Rattle.f77_ast.specs.declared.expr.Part.{Part}
use Rattle.f77_ast.specs.Name.{is_alphanumeric, is_name}
use Rattle.f77_exprs.specs.declared.operators.Infix.{Infix}
use Rattle.f77_exprs.specs.declared.operators.Prefix.{Prefix}
use Rattle.f77_exprs.specs.Operators.{Text, operator, spelling, prefix_operator, prefix_spelling, infix_at, prefix_at, Grouping, to_left, to_right, once, grouping, begins}
use Rattle.f77_exprs.specs.Spelling.{reference_of, part_of}

-- what is read, and the text after it; none where the text doesn't begin with what is sought
abbrev pub Outcome : Type 0 → Type 0
Outcome A = Option (A × Text)

-- what reads from the front of a text
abbrev pub Parser : Type 0 → Type 0
Parser A = Text → Outcome A

-- goes on with what was read, on the text after it
abbrev pub and_then : {A B : Type 0} → Outcome A → (A → Parser B) → Outcome B
and_then (Some p) go = go p.0 p.1
and_then None go = None

infixl 10 ◌>>=◌
abbrev pub ◌>>=◌ : {A B : Type 0} → Parser A → (A → Parser B) → Parser B
p >>= go = λ i. and_then (p i) go

infixl 10 ◌>>◌
abbrev pub ◌>>◌ : {A B : Type 0} → Parser A → Parser B → Parser B
p >> q = p >>= (λ _. q)

-- reads nothing
abbrev pub pure : {A : Type 0} → A → Parser A
pure a = λ i. Some (a, i)

-- is never there
abbrev pub refuse : {A : Type 0} → Parser A
refuse = λ i. None

-- goes on with what is there, or ends where nothing is
abbrev pub on_some : {X A : Type 0} → Option X → (X → A) → A → A
on_some None go ends = ends
on_some (Some x) go ends = go x

-- ---- bytes and words

-- whether a list is empty
abbrev pub is_empty : Text → Bool
is_empty [] = true
is_empty (b ∷ i) = false

-- whether a byte comes next
abbrev pub sees : ℕ → Text → Bool
sees b [] = false
sees b (c ∷ i) = c == b

-- the text after a byte, where that comes next
abbrev pub after : ℕ → Text → Text
after b i = if sees b i then drop 1 i else i

-- takes a byte, where it comes next
abbrev pub eat : ℕ → Parser Bool
eat b = λ i. Some (sees b i, after b i)

-- takes a byte, which must come next
abbrev pub expect : ℕ → Parser (Unit {0})
expect b = λ i. if sees b i then Some (tt, drop 1 i) else None

-- the text after a word, where that comes next
abbrev pub after_word : Text → Text → Text
after_word w i = if begins w i then drop (length w) i else i

-- takes a word, where it comes next
abbrev pub eat_word : Text → Parser Bool
eat_word w = λ i. Some (begins w i, after_word w i)

-- the text after what was found, where something was
abbrev pub skip : {X : Type 0} → (X → Text) → Option X → Text → Text
skip f None i = i
skip f (Some x) i = drop (length (f x)) i

-- the text after the operator of a level between two operands, where one comes next
abbrev pub after_infix : ℕ → Text → Text
after_infix k i = skip spelling (infix_at k i) i

-- takes that operator, where one comes next
abbrev pub next_infix : ℕ → Parser (Option Infix)
next_infix k = λ i. Some (infix_at k i, after_infix k i)

-- the text after the operator at the head of a level, where one comes next
abbrev pub after_prefix : ℕ → Text → Text
after_prefix k i = skip prefix_spelling (prefix_at k i) i

-- takes that operator, where one comes next
abbrev pub next_prefix : ℕ → Parser (Option Prefix)
next_prefix k = λ i. Some (prefix_at k i, after_prefix k i)

-- an operand behind its operator, where it has one
abbrev pub prefixed : Option Prefix → Expr → Expr
prefixed None a = a
prefixed (Some o) a = expr.Unary (prefix_operator o) a

-- two operands and the operator between them
abbrev pub binary : Infix → Expr → Expr → Expr
binary o a b = expr.Binary (operator o) a b

-- ---- constants and names

-- how many digits come next
abbrev pub digits : Text → ℕ
digits i = prefix_len is_ascii_digit i

-- whether digits are a number: one at least, of value at most 2^63 - 1
abbrev pub is_number : Text → Bool
is_number s = nat_lt 0 (length s) && nat_lt (value_of s) (2 ^ 63)

-- what is read at digits: none where they aren't a number
abbrev pub number_by : Text → Text → Outcome (Option Expr)
number_by s rest = if is_number s then Some (Some (expr.Int (pos (value_of s))), rest) else None

-- primary: digits of value at most 2^63 - 1, where a digit comes next
unfoldable pub number : Parser (Option Expr)
number = λ i. if digits i == 0 then Some (None, i) else number_by (take (digits i) i) (drop (digits i) i)

-- the bytes of a character constant up to the apostrophe that ends it, after some that were found: two apostrophes
-- side by side stand for one
unfoldable pub characters : Text → Parser Text
characters found [] = None
characters found (b ∷ []) = if b == 39 then Some (found, []) else None
characters found (b ∷ c ∷ i) = if b == 39 then (if c == 39 then characters (found ++ 39 ∷ []) i else Some (found, c ∷ i)) else characters (found ++ b ∷ []) (c ∷ i)

-- primary: a character constant of at least one character, after its first apostrophe
unfoldable pub constant : Parser Text
constant = characters [] >>= (λ bytes. if is_empty bytes then refuse else pure bytes)

-- primary: a constant, where one comes next
unfoldable pub literal : Parser (Option Expr)
literal = eat 39 >>= (λ quote. if quote then (constant >>= (λ bytes. pure (Some (expr.Chars bytes))))
    else (eat_word (codes ".TRUE.") >>= (λ yes. if yes then pure (Some (expr.Truth true))
    else (eat_word (codes ".FALSE.") >>= (λ untrue. if untrue then pure (Some (expr.Truth false)) else number)))))

-- how many letters and digits come next
abbrev pub alphanumerics : Text → ℕ
alphanumerics i = prefix_len is_alphanumeric i

-- what is read at letters and digits: none where they aren't a name
abbrev pub name_by : Text → Text → Outcome Text
name_by s rest = if is_name s then Some (s, rest) else None

-- a name: all letters and digits that come next, one to six, the first of which is a letter
unfoldable pub name : Parser Text
name = λ i. name_by (take (alphanumerics i) i) (drop (alphanumerics i) i)

-- ---- operators with their operands

-- operators of a level that group to the left, with their right operands, so many at most, after a left operand
unfoldable pub more_operands : Parser Expr → ℕ → ℕ → Expr → Parser Expr
more_operands operand k zero left = pure left
more_operands operand k (suc turns) left = next_infix k >>= (λ next. on_some next (λ o. operand >>= (λ right. more_operands operand k turns (binary o left right))) (pure left))

-- the same where they group to the right
unfoldable pub power : Parser Expr → ℕ → ℕ → Expr → Parser Expr
power operand k zero left = pure left
power operand k (suc turns) left = next_infix k >>= (λ next. on_some next (λ o. operand >>= power operand k turns >>= (λ right. pure (binary o left right))) (pure left))

-- one operator at most, with its right operand
unfoldable pub one_operator_at_most : Parser Expr → ℕ → Expr → Parser Expr
one_operator_at_most operand k left = next_infix k >>= (λ next. on_some next (λ o. operand >>= (λ right. pure (binary o left right))) (pure left))

-- what stands at a level behind its first operand
abbrev pub rest_of : Grouping → Parser Expr → ℕ → Expr → Parser Expr
rest_of to_left operand k left = λ i. more_operands operand k (length i) left i
rest_of to_right operand k left = λ i. power operand k (length i) left i
rest_of once operand k left = one_operator_at_most operand k left

-- ---- the grammar, where `inner` reads what stands in parentheses

module _ (inner : Parser Expr) where
  -- [expr] before a byte
  unfoldable pub bound : ℕ → Parser (Option Expr)
  bound ends = eat ends >>= (λ none. if none then pure None else (inner >>= (λ a. expect ends >> pure (Some a))))

  -- ref: [`(` [expr] `:` [expr] `)`]
  unfoldable pub substring : Parser (Option Part)
  substring = eat 40 >>= (λ opens. if opens then (bound 58 >>= (λ low. bound 41 >>= (λ high. pure (Some (part_of low high))))) else pure None)

  -- list(expr): more of them, each after a comma, so many at most, after some that were found
  unfoldable pub more_arguments : ℕ → List Expr → Parser (List Expr)
  more_arguments zero found = pure found
  more_arguments (suc turns) found = eat 44 >>= (λ comma. if comma then (inner >>= (λ a. more_arguments turns (found ++ a ∷ []))) else pure found)

  -- list(expr) after its first expr
  unfoldable pub arguments : Expr → Parser (List Expr)
  arguments first = λ i. more_arguments (length i) (first ∷ []) i

  -- ref: list of none or more expr, which is read, and then [`(` [expr] `:` [expr] `)`]
  unfoldable pub with_part : Text → List Expr → Parser Expr
  with_part n all = substring >>= (λ part. pure (reference_of n (Some all) part))

  -- ref: a substring without a list, whose low bound is read
  unfoldable pub with_low : Text → Option Expr → Parser Expr
  with_low n low = bound 41 >>= (λ high. pure (reference_of n None (Some (part_of low high))))

  -- ref: what stands behind its first expr
  unfoldable pub with_first : Text → Expr → Parser Expr
  with_first n first = eat 58 >>= (λ colon. if colon then with_low n (Some first) else (arguments first >>= (λ all. expect 41 >> with_part n all)))

  -- ref: what stands behind name `(`
  unfoldable pub opened : Text → Parser Expr
  opened n = eat 41 >>= (λ closes. if closes then with_part n [] else (eat 58 >>= (λ colon. if colon then with_low n None else (inner >>= (λ first. with_first n first)))))

  -- ref: name; name with `(` list of none or more expr `)`; either followed by `(` [expr] `:` [expr] `)`
  unfoldable pub reference : Parser Expr
  reference = name >>= (λ n. eat 40 >>= (λ opens. if opens then opened n else pure (reference_of n None None)))

  -- primary: `(` expr `)`; a constant; ref
  unfoldable pub primary : Parser Expr
  primary = eat 40 >>= (λ opens. if opens then (inner >>= (λ a. expect 41 >> pure (expr.Paren a))) else (literal >>= (λ found. on_some found (λ a. pure a) reference)))

  -- a level of the grammar: its first operand, behind an operator where it has one, and what stands behind that
  unfoldable pub level : ℕ → Parser Expr
  level zero = primary
  level (suc k) = next_prefix (suc k) >>= (λ found. level k >>= (λ first. rest_of (grouping (suc k)) (level k) (suc k) (prefixed found first)))

-- expr, whose parentheses nest less deep than this
unfoldable pub expr_within : ℕ → Parser Expr
expr_within zero = refuse
expr_within (suc depth) = level (expr_within depth) 9

-- a level of the grammar, whose parentheses nest less deep than this
abbrev pub level_within : ℕ → ℕ → Parser Expr
level_within depth k = level (expr_within depth) k

-- what stands behind its first operand at the level above `below`
abbrev pub rest_within : ℕ → ℕ → Expr → Parser Expr
rest_within depth below first = rest_of (grouping (below + 1)) (level_within depth below) (below + 1) first

-- what stands behind the first primary of a factor, in so many turns at most
abbrev pub power_within : ℕ → ℕ → Expr → Parser Expr
power_within depth turns left = power (level_within depth 0) 1 turns left

-- what an outcome has read, where no text is left behind it
abbrev pub all_of : {A : Type 0} → Outcome A → Option A
all_of (Some (a, [])) = Some a
all_of _ = None

-- the tree that is read of a whole text: no parentheses in it nest deeper than it is long
unfoldable pub expr_of : Text → Option Expr
expr_of text = all_of (expr_within (suc (length text)) text)
