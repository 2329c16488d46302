-- The leaves of forms: what they begin with, what may follow them, and that what is spelled is read.
use Rattle.std.proofs.Common.{◌≡◌, ◌≢◌, ℕ, zero, suc, ◌+◌, ◌-◌, ◌≤◌, ◌<◌, ◌^◌, ℤ, pos, ◌≤ℤ◌, Bool, true, false, not, ◌&&◌, ◌||◌, ◌==◌, nat_le, nat_lt, if◌then◌else◌, List, [], ◌∷◌, ◌++◌, length, take, drop, Option, Some, None, refl, sym, ap, ◌∙◌, subst, arith, length-append}
use Rattle.std.proofs.lemmas.Bool.{and_parts, and_from, eqb-true, ltb-true}
use Rattle.std.proofs.lemmas.Grind.{common_steps}
use Rattle.std.proofs.lemmas.Bool.Decides.{nat_tests}
use Rattle.std.proofs.lemmas.List.{append_assoc, take-append-drop}
use Rattle.std.specs.Prelude.{codes, IsTrue, SomeIff}
use Rattle.std.specs.Char.{is_ascii_digit}
use Rattle.std.specs.List.{list_all}
use Rattle.hyb_base.specs.Decimal.{IsDigits, value_of}
use Rattle.f77_ast.specs.Name.{IsName, is_letter, is_alphanumeric}
use Rattle.f77_ast.specs.declared.expr.Expr.{Expr, out-Expr, roll-Expr, roll-out-Expr}
use Rattle.f77_ast.specs.declared.expr.Expr.TheOpen.{Expr-F}
use Rattle.f77_ast.specs.declared.expr.Expr.TheOpen as layer
use Rattle.f77_ast.specs.declared.expr.Part.{Part}
use Rattle.f77_ast.specs.declared.expr.Expr.TheVariants as expr
use Rattle.f77_ast.specs.declared.expr.Ref.{Ref}
use Rattle.f77_exprs.specs.declared.operators.Prefix.TheVariants as prefix
use Rattle.f77_exprs.specs.Operators.{Text, spelling}
use Rattle.f77_exprs.specs.Spelling.{doubled, top_level, Spells, truth, falsehood, parentheses, lower, joined}
use Rattle.f77_exprs.specs.Spelling as spelled
use Rattle.f77_exprs.specs.Reading.{Outcome, and_then, pure, on_some, sees, digits, alphanumerics, number, literal, name, reference, primary, expr_within}
use Rattle.f77_exprs.proofs.Complete.{bind, Free, Ends, closing, comma, colon, ending}
use Rattle.f77_exprs.proofs.Induction.{complete, expr_is_read}
use Rattle.f77_exprs.proofs.Primaries.{other, letter_first, digit_first, digits_of, literal_none, constant_read, name_read, number_read, unopened}
use Rattle.f77_exprs.proofs.Words.{drop_all, take_all}
use Rattle.f77_forms.specs.Form.{digits_by, small, is_label, is_short, label, short, letter, ref_of, ref_at, number_of, number_at, int, constant_of, constant_at}
use Rattle.f77_exprs.proofs.Sound.{Holds, Begins, Offers, holds_bind, within_sound, reference_sound, number_sound, literal_sound}
use Rattle.f77_exprs.proofs.Numbers.{digits_all, number_none, number_there, number_missing}

-- a text ends here, or goes on with a byte that passes
abbrev pub Next : (ℕ → Bool) → Text → Type 0
Next p [] = Unit {0}
Next p (c ∷ r) = p c ≡ true

-- ---- sets of bytes

-- so many numbers from one on
abbrev pub upto : ℕ → ℕ → List ℕ
upto lo zero = []
upto lo (suc n) = lo ∷ upto (suc lo) n

abbrev pub letters : List ℕ
letters = upto 65 26

abbrev pub numerals : List ℕ
numerals = upto 48 10

-- what an expr begins with
abbrev pub expr_firsts : List ℕ
expr_firsts = codes "'(+-." ++ (letters ++ numerals)

in_range : (p : ℕ → Bool) (lo n c : ℕ) → list_all p (upto lo n) ≡ true → lo ≤ c → c < lo + n → p c ≡ true
in_range p lo zero c h le lt = absurd (omega arith)
in_range p lo (suc n) c h le lt =
    let parts = and_parts (p lo) (list_all p (upto (suc lo) n)) h in
    by (lo == c) refl parts.0 (in_range p (suc lo) n c parts.1)
  where
    by : (t : Bool) → (lo == c) ≡ t → p lo ≡ true → (suc lo ≤ c → c < suc lo + n → p c ≡ true) → p c ≡ true
    by true e one rest = subst (λ x. p x ≡ true) (eqb-true lo c e) one
    by false e one rest = let differs : lo ≢ c = grind (arith, e) in rest (omega arith) (omega arith)

pub of_letter : (p : ℕ → Bool) (c : ℕ) → list_all p letters ≡ true → is_letter c ≡ true → p c ≡ true
of_letter p c h e =
    let l : 65 ≤ c = grind (arith, e) in
    let u : c < 65 + 26 = grind (arith, e) in
    in_range p 65 26 c h l u

pub of_digit : (p : ℕ → Bool) (c : ℕ) → list_all p numerals ≡ true → is_ascii_digit c ≡ true → p c ≡ true
of_digit p c h e =
    let l : 48 ≤ c = grind (arith, e) in
    let u : c < 48 + 10 = grind (arith, e) in
    in_range p 48 10 c h l u

pub all_front : (p : ℕ → Bool) (s t : List ℕ) → list_all p (s ++ t) ≡ true → list_all p s ≡ true
all_front p [] t e = refl
all_front p (c ∷ s) t e =
    let h = and_parts (p c) (list_all p (s ++ t)) e in
    and_from (p c) (list_all p s) h.0 (all_front p s t h.1)

pub all_back : (p : ℕ → Bool) (s t : List ℕ) → list_all p (s ++ t) ≡ true → list_all p t ≡ true
all_back p [] t e = e
all_back p (c ∷ s) t e = all_back p s t (and_parts (p c) (list_all p (s ++ t)) e).1

-- ---- what the first byte is

pub name_begins : (p : ℕ → Bool) (n r : Text) → list_all p letters ≡ true → IsName n → Next p (n ++ r)
name_begins p n r h is = let f = letter_first n is in subst (λ x. Next p (x ++ r)) (sym f.2) (of_letter p f.0 h f.3)

pub digits_begin : (p : ℕ → Bool) (s r : Text) → list_all p numerals ≡ true → IsDigits s → Next p (s ++ r)
digits_begin p s r h is = let f = digit_first s is in subst (λ x. Next p (x ++ r)) (sym f.2) (of_digit p f.0 h f.3)

-- of `'(+-.`
mark : (p : ℕ → Bool) → list_all p expr_firsts ≡ true → list_all p (codes "'(+-.") ≡ true
mark p h = all_front p (codes "'(+-.") (letters ++ numerals) h

pub expr_begins : (p : ℕ → Bool) → list_all p expr_firsts ≡ true → {k : ℕ} {a : Expr} {s : Text} → Spells k a s → (r : Text) → Next p (s ++ r)
expr_begins p h (spelled.number s all fits) r = digits_begin p s r (all_back p letters numerals (all_back p (codes "'(+-.") (letters ++ numerals) h)) all
expr_begins p h truth r = (and_parts (p 46) true (and_parts (p 45) _ (and_parts (p 43) _ (and_parts (p 40) _ (and_parts (p 39) _ (mark p h)).1).1).1).1).0
expr_begins p h falsehood r = (and_parts (p 46) true (and_parts (p 45) _ (and_parts (p 43) _ (and_parts (p 40) _ (and_parts (p 39) _ (mark p h)).1).1).1).1).0
expr_begins p h (spelled.constant bytes some) r = (and_parts (p 39) _ (mark p h)).0
expr_begins p h (spelled.reference n {s = s} {t = t} is x y) r = subst (Next p) (sym (append_assoc n (s ++ t) r)) (name_begins p n ((s ++ t) ++ r) (all_front p letters numerals (all_back p (codes "'(+-.") (letters ++ numerals) h)) is)
expr_begins p h (parentheses x) r = (and_parts (p 40) _ (and_parts (p 39) _ (mark p h)).1).0
expr_begins p h (lower x) r = expr_begins p h x r
expr_begins p h (spelled.prefixed prefix.Plus x) r = (and_parts (p 43) _ (and_parts (p 40) _ (and_parts (p 39) _ (mark p h)).1).1).0
expr_begins p h (spelled.prefixed prefix.Neg x) r = (and_parts (p 45) _ (and_parts (p 43) _ (and_parts (p 40) _ (and_parts (p 39) _ (mark p h)).1).1).1).0
expr_begins p h (spelled.prefixed prefix.Not x) r = (and_parts (p 46) true (and_parts (p 45) _ (and_parts (p 43) _ (and_parts (p 40) _ (and_parts (p 39) _ (mark p h)).1).1).1).1).0
expr_begins p h (joined o {s = s} {t = t} x y) r = subst (Next p) (sym (append_assoc s (spelling o ++ t) r)) (expr_begins p h x ((spelling o ++ t) ++ r))

pub expr_filled : {k : ℕ} {a : Expr} {s : Text} → Spells k a s → 0 < length s
expr_filled (spelled.number s all fits) = all.1
expr_filled truth = omega arith
expr_filled falsehood = omega arith
expr_filled (spelled.constant bytes some) = omega arith
expr_filled (spelled.reference n {s = s} {t = t} is x y) = let f = letter_first n is in let l = ap length f.2 in let m = length-append n (s ++ t) in omega arith
expr_filled (parentheses x) = omega arith
expr_filled (lower x) = expr_filled x
expr_filled (spelled.prefixed prefix.Plus x) = omega arith
expr_filled (spelled.prefixed prefix.Neg x) = omega arith
expr_filled (spelled.prefixed prefix.Not x) = omega arith
expr_filled (joined o {s = s} {t = t} x y) = let z = expr_filled x in let l = length-append s (spelling o ++ t) in omega arith

-- ---- the shape of the text of a primary, by its tree

abbrev pub ShapeAt : Expr-F Expr Part Ref → Text → Type 0
ShapeAt (layer.Int v) s = IsDigits s × (value_of s < 2 ^ 63) × (v ≡ pos (value_of s))
ShapeAt (layer.Chars v) s = (0 < length v) × (s ≡ 39 ∷ (doubled v ++ 39 ∷ []))
ShapeAt (layer.Ref v) s = (n : Text) × (t : Text) × (s ≡ n ++ t) × IsName n
ShapeAt (layer.Truth v) s = Unit {0}
ShapeAt (layer.Unary o a) s = Unit {0}
ShapeAt (layer.Binary o a b) s = Unit {0}
ShapeAt (layer.Paren a) s = Unit {0}

abbrev pub Shape : Expr → Text → Type 0
Shape a s = ShapeAt (out-Expr a) s

pub shape : {k : ℕ} {a : Expr} {s : Text} → Spells k a s → Shape a s
unfolding out-Expr denote.Hole.Carrier.out
shape (spelled.number s all fits) = (all, fits, refl)
shape truth = tt
shape falsehood = tt
shape (spelled.constant bytes some) = (some, refl)
shape (spelled.reference n {s = s} {t = t} is x y) = (n, s ++ t, refl, is)
shape (parentheses x) = tt
shape (lower x) = shape x
shape (spelled.prefixed o x) = tt
shape (joined o x y) = tt

pub ref_begins : (p : ℕ → Bool) (v : Ref) (s r : Text) → list_all p letters ≡ true → Spells 0 (expr.Ref v) s → Next p (s ++ r)
unfolding out-Expr denote.Hole.Carrier.out
ref_begins p v s r all h = let f = shape h in subst (Next p) (sym (ap (λ x. x ++ r) f.2 ∙ append_assoc f.0 f.1 r)) (name_begins p f.0 (f.1 ++ r) all f.3)

pub number_begins : (p : ℕ → Bool) (v : ℤ) (s r : Text) → list_all p numerals ≡ true → Spells 0 (expr.Int v) s → Next p (s ++ r)
unfolding out-Expr denote.Hole.Carrier.out
number_begins p v s r all h = digits_begin p s r all (shape h).0

pub constant_begins : (p : ℕ → Bool) (v s r : Text) → p 39 ≡ true → Spells 0 (expr.Chars v) s → Next p (s ++ r)
unfolding out-Expr denote.Hole.Carrier.out
constant_begins p v s r all h = subst (λ x. Next p (x ++ r)) (sym (shape h).1) all

-- ---- what may follow

-- behind an expr
abbrev pub behind_expr : ℕ → Bool
behind_expr c = (c == 41) || ((c == 44) || (c == 58))

-- behind a name
abbrev pub behind_name : ℕ → Bool
behind_name c = not (is_alphanumeric c)

-- behind digits
abbrev pub behind_digits : ℕ → Bool
behind_digits c = not (is_ascii_digit c)

-- behind a reference
abbrev pub behind_ref : ℕ → Bool
behind_ref c = not (is_alphanumeric c) && (not (is_ascii_digit c) && (not (c == 39) && not (c == 40)))

-- behind a character constant
abbrev pub behind_constant : ℕ → Bool
behind_constant c = not (c == 39)

negated : (b : Bool) → not b ≡ true → b ≡ false
negated true e = cc
negated false e = refl

pub after_name : (r : Text) → Next behind_name r → alphanumerics r ≡ 0
after_name [] h = refl
after_name (c ∷ r) h = rw (negated (is_alphanumeric c) h) refl

pub after_digits : (r : Text) → Next behind_digits r → digits r ≡ 0
after_digits [] h = refl
after_digits (c ∷ r) h = rw (negated (is_ascii_digit c) h) refl

pub unseen : (b : ℕ) (r : Text) → Next (λ c. not (c == b)) r → sees b r ≡ false
unseen b [] h = refl
unseen b (c ∷ r) h = negated (c == b) h

after_ref : (r : Text) → Next behind_ref r → Ends r
after_ref [] h = (refl, refl, refl, refl)
after_ref (c ∷ r) h =
    let p = and_parts (not (is_alphanumeric c)) _ h in
    let q = and_parts (not (is_ascii_digit c)) _ p.1 in
    let w = and_parts (not (c == 39)) (not (c == 40)) q.1 in
    (after_digits (c ∷ r) q.0, after_name (c ∷ r) p.0, negated (c == 39) w.0, negated (c == 40) w.1)

pub after_expr : (r : Text) → Next behind_expr r → Free top_level r
after_expr [] h = ending
after_expr (c ∷ r) h = by (c == 41) (c == 44) (c == 58) refl refl refl h
  where
    by : (t u w : Bool) → (c == 41) ≡ t → (c == 44) ≡ u → (c == 58) ≡ w → (t || (u || w)) ≡ true → Free top_level (c ∷ r)
    by true u w a b d e = subst (λ x. Free top_level (x ∷ r)) (sym (eqb-true c 41 a)) (closing r)
    by false true w a b d e = subst (λ x. Free top_level (x ∷ r)) (sym (eqb-true c 44 b)) (comma r)
    by false false true a b d e = subst (λ x. Free top_level (x ∷ r)) (sym (eqb-true c 58 d)) (colon r)
    by false false false a b d e = cc

-- ---- what is spelled is read

pub read_expr : (d : ℕ) (v : Expr) (s r : Text) → length s < d → Spells top_level v s → Next behind_expr r → expr_within d (s ++ r) ≡ Some (v, r)
read_expr d v s r lt h n = expr_is_read v s h d lt r (after_expr r n)

-- what begins with a name is no constant and no parenthesis
pub reference_is_primary : (d : ℕ) (n i : Text) → IsName n → primary (expr_within d) (n ++ i) ≡ reference (expr_within d) (n ++ i)
reference_is_primary d n i is =
    let f = letter_first n is in
    unopened d (n ++ i) (rw f.2 (other is_letter 40 f.0 refl f.3))
    ∙ bind (literal (n ++ i)) (λ found. on_some found (λ a. pure a) (reference (expr_within d))) None (n ++ i) (ap (λ x. literal (x ++ i)) f.2 ∙ literal_none f.0 (f.1 ++ i) f.3 ∙ ap (λ x. Some (None, x ++ i)) (sym f.2))

pub read_reference : (d : ℕ) (v : Ref) (s r : Text) → length s < d → Spells 0 (expr.Ref v) s → Next behind_ref r → reference (expr_within d) (s ++ r) ≡ Some (expr.Ref v, r)
unfolding out-Expr denote.Hole.Carrier.out
read_reference d v s r lt h n =
    let f = shape h in
    let e : s ++ r ≡ f.0 ++ (f.1 ++ r) = ap (λ x. x ++ r) f.2 ∙ append_assoc f.0 f.1 r in
    ap (reference (expr_within d)) e
    ∙ sym (reference_is_primary d f.0 (f.1 ++ r) f.3)
    ∙ ap (primary (expr_within d)) (sym e)
    ∙ complete h d (omega arith) r (after_ref r n)

pub read_ref : (d : ℕ) (v : Ref) (s r : Text) → length s < d → Spells 0 (expr.Ref v) s → Next behind_ref r → and_then (reference (expr_within d) (s ++ r)) ref_of ≡ Some (v, r)
unfolding out-Expr denote.Hole.Carrier.out
read_ref d v s r lt h n = ap (λ o. and_then o ref_of) (read_reference d v s r lt h n)

pub read_name : (n r : Text) → IsName n → Next behind_name r → name (n ++ r) ≡ Some (n, r)
read_name n r is h = name_read n r is (after_name r h)

pub read_label : (s r : Text) → IsDigits s → IsTrue (is_label s) → Next behind_digits r → label (s ++ r) ≡ Some (value_of s, r)
unfolding label
read_label s r all fits h = rw (digits_of s r all.0 (after_digits r h), take_all s r, drop_all s r, fits) refl

pub read_short : (s r : Text) → IsDigits s → IsTrue (is_short s) → Next behind_digits r → short (s ++ r) ≡ Some (value_of s, r)
unfolding short
read_short s r all fits h = rw (digits_of s r all.0 (after_digits r h), take_all s r, drop_all s r, fits) refl

pub read_number : (v : ℤ) (s r : Text) → Spells 0 (expr.Int v) s → Next behind_digits r → and_then (number (s ++ r)) number_of ≡ Some (v, r)
unfolding out-Expr denote.Hole.Carrier.out
read_number v s r h n =
    let f = shape h in
    ap (λ o. and_then o number_of) (number_read s r f.0 f.1 (after_digits r n)) ∙ ap (λ x. Some (x, r)) (sym f.2)

pub read_constant : (v s r : Text) → Spells 0 (expr.Chars v) s → Next behind_constant r → and_then (literal (s ++ r)) constant_of ≡ Some (v, r)
unfolding literal out-Expr denote.Hole.Carrier.out
read_constant v s r h n =
    let f = shape h in
    ap (λ x. and_then (literal (x ++ r)) constant_of) f.1
    ∙ ap (λ x. and_then (literal (39 ∷ x)) constant_of) (append_assoc (doubled v) (39 ∷ []) r)
    ∙ ap (λ o. and_then (and_then o (λ bytes. pure (Some (expr.Chars bytes)))) constant_of) (constant_read v r f.0 (unseen 39 r n))

pub read_letter : (c : ℕ) (r : Text) → IsTrue (is_letter c) → letter (c ∷ r) ≡ Some (c, r)
unfolding letter
read_letter c r is = rw is refl

-- ---- what is read is spelled

digits_sound : (test : Text → Bool) (i : Text) → ((s : Text) → test s ≡ true → 0 < length s) → Holds (λ v r. (s : Text) × (i ≡ s ++ r) × ((v ≡ value_of s) × IsDigits s × IsTrue (test s))) (digits_by test (take (digits i) i) (drop (digits i) i))
digits_sound test i some = by (test (take (digits i) i)) refl
  where
    by : (t : Bool) → test (take (digits i) i) ≡ t → Holds (λ v r. (s : Text) × (i ≡ s ++ r) × ((v ≡ value_of s) × IsDigits s × IsTrue (test s))) (if◌then◌else◌ {A = Outcome ℕ} t (Some (value_of (take (digits i) i), drop (digits i) i)) None)
    by true e = (take (digits i) i, sym (take-append-drop (digits i) i), (refl, (digits_all i, some (take (digits i) i) e), e))
    by false e = tt

pub label_sound : (i : Text) → Holds (λ v r. (s : Text) × (i ≡ s ++ r) × ((v ≡ value_of s) × IsDigits s × IsTrue (is_label s))) (label i)
unfolding label
label_sound i = digits_sound is_label i (λ s e. ltb-true 0 (length s) (and_parts (nat_lt 0 (length s)) _ (and_parts (nat_lt 0 (length s) && nat_le (length s) 5) _ e).0).0)

pub short_sound : (i : Text) → Holds (λ v r. (s : Text) × (i ≡ s ++ r) × ((v ≡ value_of s) × IsDigits s × IsTrue (is_short s))) (short i)
unfolding short
short_sound i = digits_sound is_short i (λ s e. ltb-true 0 (length s) (and_parts (nat_lt 0 (length s)) _ e).0)

-- the text begins with a primary whose tree passes
abbrev FrontOf : {A : Type 0} → (A → Expr) → Text → A → Text → Type 0
FrontOf tree i v r = (s : Text) × (i ≡ s ++ r) × Spells 0 (tree v) s

pub ref_sound : (d : ℕ) (i : Text) → Holds (FrontOf expr.Ref i) (and_then (reference (expr_within d) i) ref_of)
unfolding roll-Expr denote.Hole.Carrier.roll
ref_sound d i = holds_bind (reference (expr_within d) i) ref_of (Begins 0 i) (FrontOf expr.Ref i) (reference_sound (expr_within d) (within_sound d) i) (λ a r x. by a r (out-Expr a) refl x)
  where
    by : (a : Expr) (r : Text) (o : Expr-F Expr Part Ref) → out-Expr a ≡ o → Begins 0 i a r → Holds (FrontOf expr.Ref i) (ref_at o r)
    by a r (layer.Ref v) e x = (x.0, x.1, subst (λ y. Spells 0 y x.0) (sym (roll-out-Expr a) ∙ ap roll-Expr e) x.2)
    by a r (layer.Int v) e x = tt
    by a r (layer.Truth v) e x = tt
    by a r (layer.Chars v) e x = tt
    by a r (layer.Unary o b) e x = tt
    by a r (layer.Binary o b c) e x = tt
    by a r (layer.Paren b) e x = tt

pub number_is_sound : (i : Text) → Holds (FrontOf expr.Int i) (and_then (number i) number_of)
unfolding roll-Expr denote.Hole.Carrier.roll
number_is_sound i = holds_bind (number i) number_of (Offers 0 i) (FrontOf expr.Int i) (number_sound i) by
  where
    at : (a : Expr) (r : Text) (o : Expr-F Expr Part Ref) → out-Expr a ≡ o → Begins 0 i a r → Holds (FrontOf expr.Int i) (number_at o r)
    at a r (layer.Int v) e x = (x.0, x.1, subst (λ y. Spells 0 y x.0) (sym (roll-out-Expr a) ∙ ap roll-Expr e) x.2)
    at a r (layer.Ref v) e x = tt
    at a r (layer.Truth v) e x = tt
    at a r (layer.Chars v) e x = tt
    at a r (layer.Unary o b) e x = tt
    at a r (layer.Binary o b c) e x = tt
    at a r (layer.Paren b) e x = tt

    by : (found : Option Expr) (r : Text) → Offers 0 i found r → Holds (FrontOf expr.Int i) (number_of found r)
    by None r x = tt
    by (Some a) r x = at a r (out-Expr a) refl x

pub constant_is_sound : (i : Text) → Holds (FrontOf expr.Chars i) (and_then (literal i) constant_of)
unfolding roll-Expr denote.Hole.Carrier.roll
constant_is_sound i = holds_bind (literal i) constant_of (Offers 0 i) (FrontOf expr.Chars i) (literal_sound i) by
  where
    at : (a : Expr) (r : Text) (o : Expr-F Expr Part Ref) → out-Expr a ≡ o → Begins 0 i a r → Holds (FrontOf expr.Chars i) (constant_at o r)
    at a r (layer.Chars v) e x = (x.0, x.1, subst (λ y. Spells 0 y x.0) (sym (roll-out-Expr a) ∙ ap roll-Expr e) x.2)
    at a r (layer.Ref v) e x = tt
    at a r (layer.Truth v) e x = tt
    at a r (layer.Int v) e x = tt
    at a r (layer.Unary o b) e x = tt
    at a r (layer.Binary o b c) e x = tt
    at a r (layer.Paren b) e x = tt

    by : (found : Option Expr) (r : Text) → Offers 0 i found r → Holds (FrontOf expr.Chars i) (constant_of found r)
    by None r x = tt
    by (Some a) r x = at a r (out-Expr a) refl x

pub letter_sound : (i : Text) → Holds (λ v r. (s : Text) × (i ≡ s ++ r) × ((s ≡ v ∷ []) × IsTrue (is_letter v))) (letter i)
unfolding letter
letter_sound [] = tt
letter_sound (c ∷ i) = by (is_letter c) refl
  where
    by : (t : Bool) → is_letter c ≡ t → Holds (λ v r. (s : Text) × (c ∷ i ≡ s ++ r) × ((s ≡ v ∷ []) × IsTrue (is_letter v))) (if◌then◌else◌ {A = Outcome ℕ} t (Some (c, i)) None)
    by true e = (c ∷ [], refl, (refl, e))
    by false e = tt

-- ---- the values of few digits

digit_small : (b : ℕ) → is_ascii_digit b ≡ true → b - 48 ≤ 9
digit_small b e = grind (arith, nat_tests)

pub value_small : (s : Text) → list_all is_ascii_digit s ≡ true → length s ≤ 5 → value_of s < 100000
value_small [] all le = omega arith
value_small (a ∷ []) all le =
    let ea = and_parts (is_ascii_digit a) _ all in
    let na = digit_small a ea.0 in
    omega arith
value_small (a ∷ b ∷ []) all le =
    let ea = and_parts (is_ascii_digit a) _ all in
    let eb = and_parts (is_ascii_digit b) _ ea.1 in
    let na = digit_small a ea.0 in
    let nb = digit_small b eb.0 in
    omega arith
value_small (a ∷ b ∷ c ∷ []) all le =
    let ea = and_parts (is_ascii_digit a) _ all in
    let eb = and_parts (is_ascii_digit b) _ ea.1 in
    let ec = and_parts (is_ascii_digit c) _ eb.1 in
    let na = digit_small a ea.0 in
    let nb = digit_small b eb.0 in
    let nc = digit_small c ec.0 in
    omega arith
value_small (a ∷ b ∷ c ∷ d ∷ []) all le =
    let ea = and_parts (is_ascii_digit a) _ all in
    let eb = and_parts (is_ascii_digit b) _ ea.1 in
    let ec = and_parts (is_ascii_digit c) _ eb.1 in
    let ed = and_parts (is_ascii_digit d) _ ec.1 in
    let na = digit_small a ea.0 in
    let nb = digit_small b eb.0 in
    let nc = digit_small c ec.0 in
    let nd = digit_small d ed.0 in
    omega arith
value_small (a ∷ b ∷ c ∷ d ∷ e ∷ []) all le =
    let ea = and_parts (is_ascii_digit a) _ all in
    let eb = and_parts (is_ascii_digit b) _ ea.1 in
    let ec = and_parts (is_ascii_digit c) _ eb.1 in
    let ed = and_parts (is_ascii_digit d) _ ec.1 in
    let ee = and_parts (is_ascii_digit e) _ ed.1 in
    let na = digit_small a ea.0 in
    let nb = digit_small b eb.0 in
    let nc = digit_small c ec.0 in
    let nd = digit_small d ed.0 in
    let ne = digit_small e ee.0 in
    omega arith
value_small (a ∷ b ∷ c ∷ d ∷ e ∷ f ∷ s) all le = absurd (omega arith)

-- the value of few digits is small
pub short_there : (s : Text) (z : ℤ) (r : Option ℕ) → SomeIff (Some z) (IsDigits s × (value_of s < 2 ^ 63)) (pos (value_of s)) → length s ≤ 5 → r ≡ small z → SomeIff r (IsDigits s × (length s ≤ 5)) (value_of s)
short_there s z r h le e =
    let v = value_small s h.0.0.0 le in
    let t : nat_lt (value_of s) 100000 ≡ true = grind (arith, v) in
    let is : r ≡ Some (value_of s) = e ∙ ap small h.1 ∙ (rw t refl) in
    subst (λ x. SomeIff x (IsDigits s × (length s ≤ 5)) (value_of s)) (sym is) ((h.0.0, le), refl)

pub short_missing : (s : Text) → SomeIff None (IsDigits s × (value_of s < 2 ^ 63)) (pos (value_of s)) → (IsDigits s × (length s ≤ 5)) → ⊥
short_missing s h p = let v = value_small s p.0.0 p.1 in h (p.0, omega arith)

-- what is read at digits
fits_label : (s : Text) → IsDigits s → length s ≤ 5 → 0 < value_of s → is_label s ≡ true
fits_label s d le some = and_from (nat_lt 0 (length s) && nat_le (length s) 5) (nat_lt 0 (value_of s)) (and_from (nat_lt 0 (length s)) (nat_le (length s) 5) (grind (arith, d.1)) (grind (arith, le))) (grind (arith, some))

fits_short : (s : Text) → IsDigits s → length s ≤ 5 → is_short s ≡ true
fits_short s d le = and_from (nat_lt 0 (length s)) (nat_le (length s) 5) (grind (arith, d.1)) (grind (arith, le))

refused_by : (test : Text → Bool) (s rest : Text) → (test s ≡ true → ⊥) → digits_by test s rest ≡ None
refused_by test s rest none = by (test s) refl
  where
    by : (t : Bool) → test s ≡ t → (if◌then◌else◌ {A = Outcome ℕ} t (Some (value_of s, rest)) None) ≡ None
    by true e = absurd (none e)
    by false e = refl

label_parts : (s : Text) → is_label s ≡ true → (0 < length s) × (length s ≤ 5) × (0 < value_of s)
label_parts s e =
    let p = and_parts (nat_lt 0 (length s) && nat_le (length s) 5) (nat_lt 0 (value_of s)) e in
    let q = and_parts (nat_lt 0 (length s)) (nat_le (length s) 5) p.0 in
    (ltb-true 0 (length s) q.0, grind (arith, q.1), ltb-true 0 (value_of s) p.1)

short_parts : (s : Text) → is_short s ≡ true → (0 < length s) × (length s ≤ 5)
short_parts s e =
    let q = and_parts (nat_lt 0 (length s)) (nat_le (length s) 5) e in
    (ltb-true 0 (length s) q.0, grind (arith, q.1))

pub label_there : (i s j : Text) (v : ℕ) → s ≡ take (digits i) i → j ≡ drop (digits i) i → SomeIff (Some v) (IsDigits s × (length s ≤ 5)) (value_of s) → 0 < v → label i ≡ Some (v, j)
unfolding label
label_there i s j v front back h some =
    let p : 0 < value_of s = subst (λ x. 0 < x) h.1 some in
    rw (← front, ← back, fits_label s h.0.0 h.0.1 p, h.1) refl

pub label_zero : (i s : Text) (v : ℕ) → s ≡ take (digits i) i → SomeIff (Some v) (IsDigits s × (length s ≤ 5)) (value_of s) → v ≡ 0 → label i ≡ None
unfolding label
label_zero i s v front h none =
    ap (λ x. digits_by is_label x (drop (digits i) i)) (sym front)
    ∙ refused_by is_label s (drop (digits i) i) (λ e. let z = (label_parts s e).2 in let k : value_of s ≡ 0 = sym h.1 ∙ none in absurd (omega arith))

pub label_missing : (i s : Text) → s ≡ take (digits i) i → ((IsDigits s × (length s ≤ 5)) → ⊥) → label i ≡ None
unfolding label
label_missing i s front none =
    ap (λ x. digits_by is_label x (drop (digits i) i)) (sym front)
    ∙ refused_by is_label s (drop (digits i) i) (λ e. let p = label_parts s e in none ((subst (λ x. list_all is_ascii_digit x ≡ true) (sym front) (digits_all i), p.0), p.1))

pub short_read : (i s j : Text) (v : ℕ) → s ≡ take (digits i) i → j ≡ drop (digits i) i → SomeIff (Some v) (IsDigits s × (length s ≤ 5)) (value_of s) → short i ≡ Some (v, j)
unfolding short
short_read i s j v front back h = rw (← front, ← back, fits_short s h.0.0 h.0.1, h.1) refl

pub short_unread : (i s : Text) → s ≡ take (digits i) i → ((IsDigits s × (length s ≤ 5)) → ⊥) → short i ≡ None
unfolding short
short_unread i s front none =
    ap (λ x. digits_by is_short x (drop (digits i) i)) (sym front)
    ∙ refused_by is_short s (drop (digits i) i) (λ e. let p = short_parts s e in none ((subst (λ x. list_all is_ascii_digit x ≡ true) (sym front) (digits_all i), p.0), p.1))

pub letter_there : (i j : Text) (c : ℕ) → i ≡ c ∷ j → is_letter c ≡ true → letter i ≡ Some (c, j)
unfolding letter
letter_there i j c e is = ap letter e ∙ (rw is refl)

pub letter_other : (i j : Text) (c : ℕ) → i ≡ c ∷ j → is_letter c ≡ false → letter i ≡ None
unfolding letter
letter_other i j c e is = ap letter e ∙ (rw is refl)

pub letter_none : (i : Text) → i ≡ [] → letter i ≡ None
unfolding letter
letter_none i e = ap letter e

-- digits, as they are read
pub int_there : (i s j : Text) (v : ℤ) → s ≡ take (digits i) i → j ≡ drop (digits i) i → SomeIff (Some v) (IsDigits s × (value_of s < 2 ^ 63)) (pos (value_of s)) → int i ≡ Some (v, j)
unfolding out-Expr denote.Hole.Carrier.out
int_there i s j v front back h = by (digits i) refl
  where
    by : (n : ℕ) → digits i ≡ n → int i ≡ Some (v, j)
    by zero e =
        let k : length s ≡ 0 = ap length (front ∙ ap (λ m. take m i) e) in
        absurd (let l = h.0.0.1 in omega arith)
    by (suc n) e =
        let some : digits i ≢ 0 = λ z. let k : suc n ≡ 0 = sym e ∙ z in cc in
        ap (λ o. and_then o number_of) (number_there i s j v some front back h)

pub int_missing : (i s : Text) → s ≡ take (digits i) i → SomeIff None (IsDigits s × (value_of s < 2 ^ 63)) (pos (value_of s)) → int i ≡ None
int_missing i s front h = by (digits i) refl
  where
    by : (n : ℕ) → digits i ≡ n → int i ≡ None
    by zero e = ap (λ o. and_then o number_of) (number_none i e)
    by (suc n) e =
        let some : digits i ≢ 0 = λ z. let k : suc n ≡ 0 = sym e ∙ z in cc in
        ap (λ o. and_then o number_of) (number_missing i s some front h)

pub natural : (v : ℤ) (n : ℕ) → v ≡ pos n → pos 0 ≤ℤ v
natural v n e = subst (λ x. pos 0 ≤ℤ x) (sym e) (by n)
  where
    by : (n : ℕ) → pos 0 ≤ℤ pos n
    by n = grind (arith, common_steps)
