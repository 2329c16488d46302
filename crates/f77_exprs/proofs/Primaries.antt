-- What is spelled as a primary is read.
use Rattle.std.proofs.Common.{◌≡◌, ℕ, zero, suc, ◌+◌, ◌≤◌, ◌<◌, ◌^◌, pos, Bool, true, false, ◌==◌, nat_le, ◌&&◌, if◌then◌else◌, List, [], ◌∷◌, ◌++◌, length, Option, Some, None, refl, sym, ap, ◌∙◌, subst, arith, length-append}
use Rattle.std.proofs.lemmas.Bool.{and_parts, eqb-true}
use Rattle.std.proofs.lemmas.List.{append_assoc, append-nil}
use Rattle.std.specs.Prelude.{codes}
use Rattle.std.specs.Char.{is_ascii_digit}
use Rattle.std.specs.List.{list_all}
use Rattle.hyb_base.specs.Decimal.{IsDigits, value_of}
use Rattle.f77_ast.specs.Name.{IsName, is_letter, is_alphanumeric}
use Rattle.f77_ast.specs.declared.expr.Expr.{Expr}
use Rattle.f77_ast.specs.declared.expr.Expr.TheVariants as expr
use Rattle.f77_ast.specs.declared.expr.Part.{Part}
use Rattle.f77_exprs.specs.Operators.{Text, begins}
use Rattle.f77_exprs.specs.Spelling.{doubled, reference_of, part_of, top_level}
use Rattle.f77_exprs.specs.Reading.{Parser, and_then, ◌>>=◌, ◌>>◌, pure, refuse, on_some, is_empty, sees, eat, expect, eat_word, digits, number, characters, constant, literal, alphanumerics, name, bound, substring, more_arguments, arguments, with_part, with_low, with_first, opened, reference, primary, expr_within}
use Rattle.f77_exprs.proofs.Constants.{closed, twice, another}
use Rattle.f77_exprs.proofs.Numbers.{number_is, number_none}
use Rattle.f77_exprs.proofs.Words.{drop_all, take_all}
use Rattle.f77_exprs.proofs.Turns.{no_more, one_more_argument}
use Rattle.f77_exprs.proofs.Complete.{bind, eats_no, word_no, Ends, Starts, Bare, Complete, closing, comma, colon, whole_read}

-- ---- the first byte

-- a byte of one kind is no byte of another
pub other : (p : ℕ → Bool) (b c : ℕ) → p b ≡ false → p c ≡ true → (c == b) ≡ false
other p b c bad good = by (c == b) refl
  where
    by : (t : Bool) → (c == b) ≡ t → (c == b) ≡ false
    by false e = e
    by true e = let k : c ≡ b = eqb-true c b e in let h : p b ≡ true = subst (λ x. p x ≡ true) k good in cc

pub letter_first : (n : Text) → IsName n → (c : ℕ) × (t : Text) × (n ≡ c ∷ t) × (is_letter c ≡ true)
letter_first [] is = cc
letter_first (c ∷ t) is = (c, t, refl, (and_parts (is_letter c) (nat_le (length t) 5) (and_parts (is_letter c && nat_le (length t) 5) (list_all is_alphanumeric t) is).0).0)

pub digit_first : (s : Text) → IsDigits s → (c : ℕ) × (t : Text) × (s ≡ c ∷ t) × (is_ascii_digit c ≡ true)
digit_first [] d = absurd (omega arith)
digit_first (c ∷ t) d = (c, t, refl, (and_parts (is_ascii_digit c) (list_all is_ascii_digit t) d.0).0)

-- a word begins with its first byte
pub unbegun : (b c : ℕ) (w t : Text) → (c == b) ≡ false → begins (b ∷ w) (c ∷ t) ≡ false
unbegun b c w t e = rw e refl

-- ---- digits

pub digits_of : (s r : Text) → list_all is_ascii_digit s ≡ true → digits r ≡ 0 → digits (s ++ r) ≡ length s
digits_of [] r all none = none
digits_of (c ∷ s) r all none =
    let parts = and_parts (is_ascii_digit c) (list_all is_ascii_digit s) all in
    let k : 1 + length s ≡ suc (length s) = omega arith in
    rw (parts.0, digits_of s r parts.1 none) k

pub number_read : (s r : Text) → IsDigits s → value_of s < 2 ^ 63 → digits r ≡ 0 → number (s ++ r) ≡ Some (Some (expr.Int (pos (value_of s))), r)
unfolding number
number_read s r d fits none =
    let some : 0 < length s = d.1 in
    let z : (length s == 0) ≡ false = grind (arith, some) in
    rw (digits_of s r d.0 none, z, take_all s r, drop_all s r, number_is s d.1 fits) refl

-- ---- literals

-- a literal that begins with a digit is a number
pub literal_number : (c : ℕ) (t : Text) → is_ascii_digit c ≡ true → literal (c ∷ t) ≡ number (c ∷ t)
unfolding literal
literal_number c t d =
    eats_no 39 (c ∷ t) (λ quote. if quote then (constant >>= (λ bytes. pure (Some (expr.Chars bytes)))) else (eat_word (codes ".TRUE.") >>= (λ yes. if yes then pure (Some (expr.Truth true)) else (eat_word (codes ".FALSE.") >>= (λ untrue. if untrue then pure (Some (expr.Truth false)) else number))))) (other is_ascii_digit 39 c refl d)
    ∙ word_no (codes ".TRUE.") (c ∷ t) (λ yes. if yes then pure (Some (expr.Truth true)) else (eat_word (codes ".FALSE.") >>= (λ untrue. if untrue then pure (Some (expr.Truth false)) else number))) (unbegun 46 c (codes "TRUE.") t (other is_ascii_digit 46 c refl d))
    ∙ word_no (codes ".FALSE.") (c ∷ t) (λ untrue. if untrue then pure (Some (expr.Truth false)) else number) (unbegun 46 c (codes "FALSE.") t (other is_ascii_digit 46 c refl d))

-- what begins with a letter is none
pub literal_none : (c : ℕ) (t : Text) → is_letter c ≡ true → literal (c ∷ t) ≡ Some (None, c ∷ t)
unfolding literal
literal_none c t d =
    eats_no 39 (c ∷ t) (λ quote. if quote then (constant >>= (λ bytes. pure (Some (expr.Chars bytes)))) else (eat_word (codes ".TRUE.") >>= (λ yes. if yes then pure (Some (expr.Truth true)) else (eat_word (codes ".FALSE.") >>= (λ untrue. if untrue then pure (Some (expr.Truth false)) else number))))) (other is_letter 39 c refl d)
    ∙ word_no (codes ".TRUE.") (c ∷ t) (λ yes. if yes then pure (Some (expr.Truth true)) else (eat_word (codes ".FALSE.") >>= (λ untrue. if untrue then pure (Some (expr.Truth false)) else number))) (unbegun 46 c (codes "TRUE.") t (other is_letter 46 c refl d))
    ∙ word_no (codes ".FALSE.") (c ∷ t) (λ untrue. if untrue then pure (Some (expr.Truth false)) else number) (unbegun 46 c (codes "FALSE.") t (other is_letter 46 c refl d))
    ∙ number_none (c ∷ t) (by (is_ascii_digit c) refl)
  where
    by : (u : Bool) → is_ascii_digit c ≡ u → digits (c ∷ t) ≡ 0
    by false e = rw e refl
    by true e = absurd (grind (arith, e, d))

pub characters_read : (bytes found r : Text) → sees 39 r ≡ false → characters found (doubled bytes ++ 39 ∷ r) ≡ Some (found ++ bytes, r)
characters_read [] found r e = closed 39 found r refl e ∙ ap (λ x. Some (x, r)) (sym (append-nil found))
characters_read (b ∷ bytes) found r e = by (b == 39) refl (characters_read bytes (found ++ 39 ∷ []) r e) (characters_read bytes (found ++ b ∷ []) r e)
  where
    by : (t : Bool) → (b == 39) ≡ t → characters (found ++ 39 ∷ []) (doubled bytes ++ 39 ∷ r) ≡ Some ((found ++ 39 ∷ []) ++ bytes, r) → characters (found ++ b ∷ []) (doubled bytes ++ 39 ∷ r) ≡ Some ((found ++ b ∷ []) ++ bytes, r)
        → characters found (doubled (b ∷ bytes) ++ 39 ∷ r) ≡ Some (found ++ b ∷ bytes, r)
    by true f two one =
        let k : b ≡ 39 = eqb-true b 39 f in
        let d : doubled (b ∷ bytes) ≡ 39 ∷ 39 ∷ doubled bytes = rw f refl in
        ap (λ x. characters found (x ++ 39 ∷ r)) d
        ∙ twice 39 found (39 ∷ (doubled bytes ++ 39 ∷ r)) refl refl
        ∙ two
        ∙ ap (λ x. Some (x, r)) (append_assoc found (39 ∷ []) bytes)
        ∙ ap (λ x. Some (found ++ x ∷ bytes, r)) (sym k)
    by false f two one =
        let d : doubled (b ∷ bytes) ≡ b ∷ doubled bytes = rw f refl in
        ap (λ x. characters found (x ++ 39 ∷ r)) d
        ∙ another b found (doubled bytes ++ 39 ∷ r) f
        ∙ one
        ∙ ap (λ x. Some (x, r)) (append_assoc found (b ∷ []) bytes)

pub some_bytes : (bytes : Text) → 0 < length bytes → is_empty bytes ≡ false
some_bytes [] e = absurd (omega arith)
some_bytes (b ∷ bytes) e = refl

pub constant_read : (bytes r : Text) → 0 < length bytes → sees 39 r ≡ false → constant (doubled bytes ++ 39 ∷ r) ≡ Some (bytes, r)
unfolding constant
constant_read bytes r some e = bind (characters [] (doubled bytes ++ 39 ∷ r)) (λ all. if is_empty all then refuse else pure all) bytes r (characters_read bytes [] r e) ∙ (rw (some_bytes bytes some) refl)

-- ---- names

pub alphanumerics_of : (s r : Text) → list_all is_alphanumeric s ≡ true → alphanumerics r ≡ 0 → alphanumerics (s ++ r) ≡ length s
alphanumerics_of [] r all none = none
alphanumerics_of (c ∷ s) r all none =
    let parts = and_parts (is_alphanumeric c) (list_all is_alphanumeric s) all in
    let k : 1 + length s ≡ suc (length s) = omega arith in
    rw (parts.0, alphanumerics_of s r parts.1 none) k

pub all_alphanumeric : (n : Text) → IsName n → list_all is_alphanumeric n ≡ true
all_alphanumeric [] is = cc
all_alphanumeric (c ∷ t) is =
    let outer = and_parts (is_letter c && nat_le (length t) 5) (list_all is_alphanumeric t) is in
    let l : is_letter c ≡ true = (and_parts (is_letter c) (nat_le (length t) 5) outer.0).0 in
    rw (l, outer.1) refl

pub name_read : (n r : Text) → IsName n → alphanumerics r ≡ 0 → name (n ++ r) ≡ Some (n, r)
unfolding name
name_read n r is none = rw (alphanumerics_of n r (all_alphanumeric n is) none, take_all n r, drop_all n r, is) refl

-- ---- primaries

module _ (d : ℕ) where
  abbrev Inner : Parser Expr
  Inner = expr_within d

  -- what does not begin with a parenthesis is a literal or a reference
  pub unopened : (i : Text) → sees 40 i ≡ false → primary Inner i ≡ and_then (literal i) (λ found. on_some found (λ a. pure a) (reference Inner))
  unfolding primary
  unopened i e = eats_no 40 i (λ opens. if opens then (Inner >>= (λ a. expect 41 >> pure (expr.Paren a))) else (literal >>= (λ found. on_some found (λ a. pure a) (reference Inner)))) e

pub number_step : (s : Text) → IsDigits s → value_of s < 2 ^ 63 → Complete 0 (expr.Int (pos (value_of s))) s
number_step s all fits d le r ends =
    let f = digit_first s all in
    unopened d (s ++ r) (rw f.2 (other is_ascii_digit 40 f.0 refl f.3))
    ∙ bind (literal (s ++ r)) (λ found. on_some found (λ a. pure a) (reference (expr_within d))) (Some (expr.Int (pos (value_of s)))) r (ap (λ x. literal (x ++ r)) f.2 ∙ literal_number f.0 (f.1 ++ r) f.3 ∙ ap (λ x. number (x ++ r)) (sym f.2) ∙ number_read s r all fits ends.0)

pub truth_step : Complete 0 (expr.Truth true) (codes ".TRUE.")
unfolding primary literal
truth_step d le r ends = refl

pub falsehood_step : Complete 0 (expr.Truth false) (codes ".FALSE.")
unfolding primary literal
falsehood_step d le r ends = refl

pub constant_step : (bytes : Text) → 0 < length bytes → Complete 0 (expr.Chars bytes) (39 ∷ (doubled bytes ++ 39 ∷ []))
unfolding primary literal
constant_step bytes some d le r ends =
    ap (λ x. primary (expr_within d) (39 ∷ x)) (append_assoc (doubled bytes) (39 ∷ []) r)
    ∙ ap (λ o. and_then (and_then o (λ bytes. pure (Some (expr.Chars bytes)))) (λ found. on_some found (λ a. pure a) (reference (expr_within d)))) (constant_read bytes r some ends.2)

pub parentheses_step : (a : Expr) (s : Text) → Complete top_level a s → Complete 0 (expr.Paren a) (40 ∷ (s ++ 41 ∷ []))
unfolding primary
parentheses_step a s h d le r ends =
    let l = length-append s (41 ∷ []) in
    bind (expr_within d ((s ++ 41 ∷ []) ++ r)) (λ x. expect 41 >> pure (expr.Paren x)) a (41 ∷ r)
    (ap (expr_within d) (append_assoc s (41 ∷ []) r) ∙ whole_read a s h d (omega arith) (41 ∷ r) (closing r))

-- ---- references

-- what is read behind a name
abbrev tail : ℕ → Text → Parser Expr
tail d n = eat 40 >>= (λ opens. if opens then opened (expr_within d) n else pure (reference_of n None None))

abbrev pub CompleteBound : Option Expr → Text → Type 0
CompleteBound low s = (d : ℕ) → length s < d → (m : Text) → (bound (expr_within d) 58 (s ++ 58 ∷ m) ≡ Some (low, m)) × (bound (expr_within d) 41 (s ++ 41 ∷ m) ≡ Some (low, m))
    × ((n : Text) → opened (expr_within d) n (s ++ 58 ∷ m) ≡ with_low (expr_within d) n low m)

abbrev pub CompletePart : Option Part → Text → Type 0
CompletePart part t = (d : ℕ) → length t ≤ d → (r : Text) → Ends r → (substring (expr_within d) (t ++ r) ≡ Some (part, r)) × ((n : Text) → tail d n (t ++ r) ≡ Some (reference_of n None part, r))

abbrev pub CompleteAll : List Expr → Text → Type 0
CompleteAll all s = (d : ℕ) → length s < d → (m : Text) → (a : Expr) × (j : Text) × (expr_within d (s ++ 41 ∷ m) ≡ Some (a, j)) × (sees 58 j ≡ false) × (length j ≤ length (s ++ 41 ∷ m))
    × ((n : ℕ) (found : List Expr) → length j ≤ n → more_arguments (expr_within d) n (found ++ a ∷ []) j ≡ Some (found ++ all, 41 ∷ m))

abbrev pub CompleteArguments : Option (List Expr) → Text → Type 0
CompleteArguments arguments s = (d : ℕ) → length s ≤ d → (part : Option Part) (t : Text) → CompletePart part t → length t ≤ d → (n r : Text) → Ends r → tail d n (s ++ (t ++ r)) ≡ Some (reference_of n arguments part, r)

-- [expr]
pub left_out_step : CompleteBound None []
unfolding bound opened
left_out_step d le m = (refl, refl, λ n. refl)

pub given_step : (a : Expr) (s : Text) → ((r : Text) → Starts (s ++ r)) → Complete top_level a s → CompleteBound (Some a) s
unfolding bound opened with_first
given_step a s starts h d le m = (
  eats_no 58 (s ++ 58 ∷ m) (λ none. if none then pure None else (expr_within d >>= (λ a. expect 58 >> pure (Some a)))) (starts (58 ∷ m)).3
      ∙ bind (expr_within d (s ++ 58 ∷ m)) (λ a. expect 58 >> pure (Some a)) a (58 ∷ m) (whole_read a s h d le (58 ∷ m) (colon m)),
  eats_no 41 (s ++ 41 ∷ m) (λ none. if none then pure None else (expr_within d >>= (λ a. expect 41 >> pure (Some a)))) (starts (41 ∷ m)).2
      ∙ bind (expr_within d (s ++ 41 ∷ m)) (λ a. expect 41 >> pure (Some a)) a (41 ∷ m) (whole_read a s h d le (41 ∷ m) (closing m)),
  λ n. eats_no 41 (s ++ 58 ∷ m) (λ shut. if shut then with_part (expr_within d) n [] else (eat 58 >>= (λ colon. if colon then with_low (expr_within d) n None else (expr_within d >>= (λ first. with_first (expr_within d) n first))))) (starts (58 ∷ m)).2
      ∙ eats_no 58 (s ++ 58 ∷ m) (λ colon. if colon then with_low (expr_within d) n None else (expr_within d >>= (λ first. with_first (expr_within d) n first))) (starts (58 ∷ m)).3
      ∙ bind (expr_within d (s ++ 58 ∷ m)) (λ first. with_first (expr_within d) n first) a (58 ∷ m) (whole_read a s h d le (58 ∷ m) (colon m)),
)

-- [`(` [expr] `:` [expr] `)`]
pub no_part_step : CompletePart None []
unfolding substring
no_part_step d le r ends = (
  eats_no 40 r (λ opens. if opens then (bound (expr_within d) 58 >>= (λ low. bound (expr_within d) 41 >>= (λ high. pure (Some (part_of low high))))) else pure None) ends.3,
  λ n. eats_no 40 r (λ opens. if opens then opened (expr_within d) n else pure (reference_of n None None)) ends.3,
)

-- the text of a substring and what follows
parted : (s t r : Text) → (s ++ 58 ∷ (t ++ 41 ∷ [])) ++ r ≡ s ++ 58 ∷ (t ++ 41 ∷ r)
parted s t r = append_assoc s (58 ∷ (t ++ 41 ∷ [])) r ∙ ap (λ x. s ++ 58 ∷ x) (append_assoc t (41 ∷ []) r)

pub part_step : (low high : Option Expr) (s t : Text) → CompleteBound low s → CompleteBound high t → CompletePart (Some (part_of low high)) (40 ∷ (s ++ 58 ∷ (t ++ 41 ∷ [])))
unfolding substring with_low
part_step low high s t h g d le r ends =
    let l = length-append s (58 ∷ (t ++ 41 ∷ [])) in
    let k = length-append t (41 ∷ []) in
    let x = h d (omega arith) (t ++ 41 ∷ r) in
    let y = g d (omega arith) r in (
      ap (λ i. substring (expr_within d) (40 ∷ i)) (parted s t r)
          ∙ bind (bound (expr_within d) 58 (s ++ 58 ∷ (t ++ 41 ∷ r))) (λ low. bound (expr_within d) 41 >>= (λ high. pure (Some (part_of low high)))) low (t ++ 41 ∷ r) x.0
          ∙ bind (bound (expr_within d) 41 (t ++ 41 ∷ r)) (λ high. pure (Some (part_of low high))) high r y.1,
      λ n. ap (λ i. tail d n (40 ∷ i)) (parted s t r)
          ∙ x.2 n
          ∙ bind (bound (expr_within d) 41 (t ++ 41 ∷ r)) (λ high. pure (reference_of n None (Some (part_of low high)))) high r y.1,
    )

-- list(expr)
pub last_step : (a : Expr) (s : Text) → Complete top_level a s → CompleteAll (a ∷ []) s
last_step a s h d le m = let l = length-append s (41 ∷ m) in (a, 41 ∷ m, whole_read a s h d le (41 ∷ m) (closing m), refl, omega arith, λ n found few. no_more (expr_within d) n (found ++ a ∷ []) (41 ∷ m) refl)

pub more_step : (a : Expr) (all : List Expr) (s t : Text) → Complete top_level a s → CompleteAll all t → CompleteAll (a ∷ all) (s ++ 44 ∷ t)
more_step a all s t h g d le m =
    let l = length-append s (44 ∷ t) in
    let i = t ++ 41 ∷ m in
    let y = g d (omega arith) m in
    let e = ap length (append_assoc s (44 ∷ t) (41 ∷ m)) in
    let k = length-append s (44 ∷ i) in
    (a, 44 ∷ i, ap (expr_within d) (append_assoc s (44 ∷ t) (41 ∷ m)) ∙ whole_read a s h d (omega arith) (44 ∷ i) (comma i), refl, omega arith, goes d m y.0 y.1 y.2 y.4 y.5)
  where
    goes : (d : ℕ) (m : Text) (b : Expr) (j : Text) → expr_within d (t ++ 41 ∷ m) ≡ Some (b, j) → length j ≤ length (t ++ 41 ∷ m) → ((n : ℕ) (found : List Expr) → length j ≤ n → more_arguments (expr_within d) n (found ++ b ∷ []) j ≡ Some (found ++ all, 41 ∷ m))
        → (n : ℕ) (found : List Expr) → length (44 ∷ (t ++ 41 ∷ m)) ≤ n → more_arguments (expr_within d) n (found ++ a ∷ []) (44 ∷ (t ++ 41 ∷ m)) ≡ Some (found ++ a ∷ all, 41 ∷ m)
    goes d m b j first within others zero found few = absurd (omega arith)
    goes d m b j first within others (suc n) found few =
        one_more_argument (expr_within d) n (found ++ a ∷ []) (44 ∷ (t ++ 41 ∷ m)) refl
        ∙ bind (expr_within d (t ++ 41 ∷ m)) (λ b. more_arguments (expr_within d) n ((found ++ a ∷ []) ++ b ∷ [])) b j first
        ∙ others n (found ++ a ∷ []) (omega arith)
        ∙ ap (λ x. Some (x, 41 ∷ m)) (append_assoc found (a ∷ []) all)

-- list of none or more expr
pub no_list_step : CompleteArguments None []
no_list_step d le part t h few n r ends = (h d few r ends).1 n

pub empty_list_step : CompleteArguments (Some []) (40 ∷ 41 ∷ [])
unfolding opened with_part
empty_list_step d le part t h few n r ends = bind (substring (expr_within d) (t ++ r)) (λ part. pure (reference_of n (Some []) part)) part r (h d few r ends).0

pub list_step : (all : List Expr) (s : Text) → ((r : Text) → Starts (s ++ r)) → CompleteAll all s → CompleteArguments (Some all) (40 ∷ (s ++ 41 ∷ []))
unfolding opened with_first with_part arguments
list_step all s starts g d le part t h few n r ends =
    let l = length-append s (41 ∷ []) in
    let m = t ++ r in
    let y = g d (omega arith) m in
    ap (λ i. tail d n (40 ∷ i)) (append_assoc s (41 ∷ []) m)
    ∙ eats_no 41 (s ++ 41 ∷ m) (λ shut. if shut then with_part (expr_within d) n [] else (eat 58 >>= (λ colon. if colon then with_low (expr_within d) n None else (expr_within d >>= (λ first. with_first (expr_within d) n first))))) (starts (41 ∷ m)).2
    ∙ eats_no 58 (s ++ 41 ∷ m) (λ colon. if colon then with_low (expr_within d) n None else (expr_within d >>= (λ first. with_first (expr_within d) n first))) (starts (41 ∷ m)).3
    ∙ bind (expr_within d (s ++ 41 ∷ m)) (λ first. with_first (expr_within d) n first) y.0 y.1 y.2
    ∙ eats_no 58 y.1 (λ colon. if colon then with_low (expr_within d) n (Some y.0) else (arguments (expr_within d) y.0 >>= (λ all. expect 41 >> with_part (expr_within d) n all))) y.3
    ∙ bind (more_arguments (expr_within d) (length y.1) (y.0 ∷ []) y.1) (λ all. expect 41 >> with_part (expr_within d) n all) all (41 ∷ m) (y.5 (length y.1) [] (omega arith))
    ∙ bind (substring (expr_within d) m) (λ part. pure (reference_of n (Some all) part)) part r (h d few r ends).0

-- ref

name_tail : (d : ℕ) (n : Text) (i : Text) → IsName n → alphanumerics i ≡ 0 → primary (expr_within d) (n ++ i) ≡ tail d n i
unfolding reference
name_tail d n i is none =
    let f = letter_first n is in
    unopened d (n ++ i) (rw f.2 (other is_letter 40 f.0 refl f.3))
    ∙ bind (literal (n ++ i)) (λ found. on_some found (λ a. pure a) (reference (expr_within d))) None (n ++ i) (ap (λ x. literal (x ++ i)) f.2 ∙ literal_none f.0 (f.1 ++ i) f.3 ∙ ap (λ x. Some (None, x ++ i)) (sym f.2))
    ∙ bind (name (n ++ i)) (tail d) n i (name_read n i is none)

pub reference_step : (n : Text) (arguments : Option (List Expr)) (part : Option Part) (s t : Text) → IsName n → ((r : Text) → alphanumerics r ≡ 0 → alphanumerics (s ++ (t ++ r)) ≡ 0) → CompleteArguments arguments s → CompletePart part t → Complete 0 (reference_of n arguments part) (n ++ (s ++ t))
reference_step n arguments part s t is stop g h d le r ends =
    let l = length-append n (s ++ t) in
    let k = length-append s t in
    ap (primary (expr_within d)) (append_assoc n (s ++ t) r ∙ ap (λ x. n ++ x) (append_assoc s t r))
    ∙ name_tail d n (s ++ (t ++ r)) is (stop r ends.1)
    ∙ g d (omega arith) part t h (omega arith) n r ends

-- ---- what a primary begins with

pub letter_starts : (n r : Text) → IsName n → Starts (n ++ r)
letter_starts n r is = let f = letter_first n is in (rw f.2 (other is_letter 42 f.0 refl f.3), rw f.2 (other is_letter 47 f.0 refl f.3), rw f.2 (other is_letter 41 f.0 refl f.3), rw f.2 (other is_letter 58 f.0 refl f.3))

pub digit_starts : (s r : Text) → IsDigits s → Starts (s ++ r)
digit_starts s r is = let f = digit_first s is in (rw f.2 (other is_ascii_digit 42 f.0 refl f.3), rw f.2 (other is_ascii_digit 47 f.0 refl f.3), rw f.2 (other is_ascii_digit 41 f.0 refl f.3), rw f.2 (other is_ascii_digit 58 f.0 refl f.3))

pub letter_bare : (n r : Text) → IsName n → Bare 0 (n ++ r)
letter_bare n r is = let f = letter_first n is in ((λ _. rw f.2 (other is_letter 43 f.0 refl f.3)), (λ _. rw f.2 (other is_letter 45 f.0 refl f.3)), (λ _. rw f.2 (unbegun 46 f.0 (codes "NOT.") (f.1 ++ r) (other is_letter 46 f.0 refl f.3))))

pub digit_bare : (s r : Text) → IsDigits s → Bare 0 (s ++ r)
digit_bare s r is = let f = digit_first s is in ((λ _. rw f.2 (other is_ascii_digit 43 f.0 refl f.3)), (λ _. rw f.2 (other is_ascii_digit 45 f.0 refl f.3)), (λ _. rw f.2 (unbegun 46 f.0 (codes "NOT.") (f.1 ++ r) (other is_ascii_digit 46 f.0 refl f.3))))
