-- Forms: productions of the grammar as data. A form says which trees its texts have (`Spells`), and how a tree is read
-- from the front of a text (`read`).
use Rattle.std.specs.Prelude.{◌≡◌, ◌⊎◌, ℕ, zero, suc, ℤ, pos, negsuc, Bool, false, ◌&&◌, nat_lt, nat_le, if◌then◌else◌, List, [], ◌∷◌, ◌++◌, length, take, drop, Option, Some, None, is_none, IsTrue}
use Rattle.hyb_base.specs.Decimal.{IsDigits, value_of}
use Rattle.f77_ast.specs.Name.{IsName, is_letter}
use Rattle.f77_ast.specs.declared.expr.Expr.{Expr, out-Expr}
use Rattle.f77_ast.specs.declared.expr.Expr.TheOpen.{Expr-F}
use Rattle.f77_ast.specs.declared.expr.Expr.TheOpen as layer
use Rattle.f77_ast.specs.declared.expr.Expr.TheVariants as expr
use Rattle.f77_ast.specs.declared.expr.Part.{Part}
use Rattle.f77_ast.specs.declared.expr.Ref.{Ref, out-Ref}
use Rattle.f77_exprs.specs.Operators.{Text, begins}
use Rattle.f77_exprs.specs.Spelling.{SpellsExpr}
use Rattle.f77_exprs.specs.Spelling as spelling
use Rattle.f77_exprs.specs.Reading.{Outcome, Parser, ◌>>=◌, ◌>>◌, pure, refuse, and_then, is_empty, eat, eat_word, after_word, digits, expr_within, reference, name, number, literal}

pub data Form : Type 0 → Type 1 where
  -- the empty text, with a tree of its own
  nothing : {A : Type 0} → A → Form A
  -- a word, and then the form
  after : {A : Type 0} → Text → Form A → Form A
  -- the form, and then a word
  before : {A : Type 0} → Form A → Text → Form A
  -- the form, behind a word that may be left out
  past : {A : Type 0} → Text → Form A → Form A
  -- one form, and then another
  pair : {A B : Type 0} → Form A → Form B → Form (A × B)
  -- the form, of whose tree another is made
  made : {A B : Type 0} → (A → B) → Form A → Form B
  -- a word and then one form, or another form
  either : {A : Type 0} → Text → Form A → Form A → Form A
  -- one form or another. Only reading looks at the test: the first form where a first byte passes it, else the second
  by_first : {A : Type 0} → (ℕ → Bool) → Form A → Form A → Form A
  -- list(form): one or more, with commas between
  list : {A : Type 0} → Form A → Form (List A)
  -- none or more, up to the end of the text
  many : {A : Type 0} → Form A → Form (List A)
  -- a part that is spelled and read by definitions of its own
  a_part : {A : Type 0} → (A → Text → Type 0) → (ℕ → Parser A) → Form A
  -- expr (section 6)
  an_expr : Form Expr
  -- ref (sections 2.2, 5.3, 5.7.1 and 15.2)
  a_ref : Form Ref
  -- ref without a substring
  a_whole_ref : Form Ref
  -- name: one to six letters or digits, the first of which is a letter (section 2.2)
  a_name : Form Text
  -- label: 1 to 5 digits, not all 0 (section 3.4)
  a_label : Form ℕ
  -- 1 to 5 digits (section 11.12)
  some_digits : Form ℕ
  -- digits of value at most 2^63 - 1 (section 4.3.1)
  a_number : Form ℤ
  -- a character constant of at least one character (section 4.8.1)
  a_constant : Form Text
  -- letter (section 3.1.1)
  a_letter : Form ℕ

-- [form]: where it begins with a word
abbrev pub maybe : {A : Type 0} → Text → Form A → Form (Option A)
maybe w f = either w (made (λ a. Some a) f) (nothing None)

-- ---- which trees a text has

-- list: one or more, with commas between
pub data SpellsList {A : Type 0} (R : A → Text → Type 0) : List A → Text → Type 0 where
  last : {a : A} {s : Text} → R a s → SpellsList R (a ∷ []) s
  more : {a : A} {all : List A} {s t : Text} → R a s → SpellsList R all t → SpellsList R (a ∷ all) (s ++ 44 ∷ t)

-- none or more, one behind the other
pub data SpellsMany {A : Type 0} (R : A → Text → Type 0) : List A → Text → Type 0 where
  none : SpellsMany R [] []
  one_more : {a : A} {all : List A} {s t : Text} → R a s → SpellsMany R all t → SpellsMany R (a ∷ all) (s ++ t)

-- whether the first byte passes a test
abbrev pub passes : (ℕ → Bool) → Text → Bool
passes p [] = false
passes p (c ∷ i) = p c

-- digits are a label: 1 to 5 of them, not all 0
abbrev pub is_label : Text → Bool
is_label s = nat_lt 0 (length s) && nat_le (length s) 5 && nat_lt 0 (value_of s)

-- 1 to 5 digits
abbrev pub is_short : Text → Bool
is_short s = nat_lt 0 (length s) && nat_le (length s) 5

abbrev pub Spells : {A : Type 0} → Form A → A → Text → Type 0
Spells (nothing a) v s = (v ≡ a) × (s ≡ [])
Spells (after w f) v s = (t : Text) × (s ≡ w ++ t) × Spells f v t
Spells (before f w) v s = (t : Text) × (s ≡ t ++ w) × Spells f v t
Spells (past w f) v s = ((t : Text) × (s ≡ w ++ t) × Spells f v t) ⊎ Spells f v s
Spells (pair f g) v s = (t : Text) × (u : Text) × (s ≡ t ++ u) × Spells f v.0 t × Spells g v.1 u
Spells (made {A = A} m f) v s = (u : A) × (v ≡ m u) × Spells f u s
Spells (either w f g) v s = ((t : Text) × (s ≡ w ++ t) × Spells f v t) ⊎ Spells g v s
Spells (by_first p f g) v s = Spells f v s ⊎ Spells g v s
Spells (list f) v s = SpellsList (Spells f) v s
Spells (many f) v s = SpellsMany (Spells f) v s
Spells (a_part R p) v s = R v s
Spells an_expr v s = SpellsExpr s v
Spells a_ref v s = spelling.Spells 0 (expr.Ref v) s
Spells a_whole_ref v s = spelling.Spells 0 (expr.Ref v) s × IsTrue (is_none ((out-Ref v).part))
Spells a_name v s = (v ≡ s) × IsName s
Spells a_label v s = (v ≡ value_of s) × IsDigits s × IsTrue (is_label s)
Spells some_digits v s = (v ≡ value_of s) × IsDigits s × IsTrue (is_short s)
Spells a_number v s = spelling.Spells 0 (expr.Int v) s
Spells a_constant v s = spelling.Spells 0 (expr.Chars v) s
Spells a_letter v s = (s ≡ v ∷ []) × IsTrue (is_letter v)

-- ---- how a tree is read

-- takes a word, which must come next
abbrev pub expect_word : Text → Parser (Unit {0})
expect_word w = λ i. if begins w i then Some (tt, drop (length w) i) else None

-- list: more of them, each after a comma, so many at most, after some that were found
unfoldable pub more_of : {A : Type 0} → Parser A → ℕ → List A → Parser (List A)
more_of p zero found = pure found
more_of p (suc turns) found = eat 44 >>= (λ comma. if comma then (p >>= (λ a. more_of p turns (found ++ a ∷ []))) else pure found)

-- list: one or more, with commas between
abbrev pub list_of : {A : Type 0} → Parser A → Parser (List A)
list_of p = p >>= (λ a. λ i. more_of p (length i) (a ∷ []) i)

-- none or more, up to the end of the text: so many at most, after some that were found
unfoldable pub many_of : {A : Type 0} → Parser A → ℕ → List A → Parser (List A)
many_of p zero found = pure found
many_of p (suc turns) found = λ i. if is_empty i then Some (found, i) else and_then (p i) (λ a. many_of p turns (found ++ a ∷ []))

-- the reference that a tree is
abbrev pub ref_at : Expr-F Expr Part Ref → Parser Ref
ref_at (layer.Ref r) = pure r
ref_at _ = refuse

abbrev pub ref_of : Expr → Parser Ref
ref_of a = ref_at (out-Expr a)

-- a reference that has no substring
abbrev pub whole_of : Ref → Parser Ref
whole_of r = if is_none ((out-Ref r).part) then pure r else refuse

-- a number below 100,000
abbrev pub small : ℤ → Option ℕ
small (pos n) = if nat_lt n 100000 then Some n else None
small (negsuc n) = None

-- the digits that come next, where they pass a test: their value
abbrev pub digits_by : (Text → Bool) → Text → Text → Outcome ℕ
digits_by test s rest = if test s then Some (value_of s, rest) else None

unfoldable pub label : Parser ℕ
label = λ i. digits_by is_label (take (digits i) i) (drop (digits i) i)

unfoldable pub short : Parser ℕ
short = λ i. digits_by is_short (take (digits i) i) (drop (digits i) i)

-- the number that a tree is
abbrev pub number_at : Expr-F Expr Part Ref → Parser ℤ
number_at (layer.Int v) = pure v
number_at _ = refuse

abbrev pub number_of : Option Expr → Parser ℤ
number_of (Some a) = number_at (out-Expr a)
number_of None = refuse

-- the character constant that a tree is
abbrev pub constant_at : Expr-F Expr Part Ref → Parser Text
constant_at (layer.Chars v) = pure v
constant_at _ = refuse

abbrev pub constant_of : Option Expr → Parser Text
constant_of (Some a) = constant_at (out-Expr a)
constant_of None = refuse

abbrev pub int : Parser ℤ
int = number >>= number_of

abbrev pub quoted : Parser Text
quoted = literal >>= constant_of

unfoldable pub letter : Parser ℕ
letter [] = None
letter (c ∷ i) = if is_letter c then Some (c, i) else None

abbrev pub read : {A : Type 0} → ℕ → Form A → Parser A
read d (nothing a) = pure a
read d (after w f) = expect_word w >> read d f
read d (before f w) = read d f >>= (λ a. expect_word w >> pure a)
read d (past w f) = λ i. read d f (after_word w i)
read d (pair f g) = read d f >>= (λ a. read d g >>= (λ b. pure (a, b)))
read d (made m f) = read d f >>= (λ a. pure (m a))
read d (either w f g) = eat_word w >>= (λ found. if found then read d f else read d g)
read d (by_first p f g) = λ i. if passes p i then read d f i else read d g i
read d (list f) = list_of (read d f)
read d (many f) = λ i. many_of (read d f) (length i) [] i
read d (a_part R p) = p d
read d an_expr = expr_within d
read d a_ref = reference (expr_within d) >>= ref_of
read d a_whole_ref = reference (expr_within d) >>= ref_of >>= whole_of
read d a_name = name
read d a_label = label
read d some_digits = short
read d a_number = int
read d a_constant = quoted
read d a_letter = letter
