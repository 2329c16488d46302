-- What is sought in the texts of forms: the scanner passes over them.
use Rattle.std.proofs.Common.{◌≡◌, ◌≢◌, inl, inr, ℕ, suc, ◌-◌, ◌≤◌, Bool, true, false, not, ◌&&◌, ◌==◌, nat_le, if◌then◌else◌, List, [], ◌∷◌, ◌++◌, Option, Some, None, refl, sym, ap, ◌∙◌, arith}
use Rattle.std.proofs.lemmas.Bool.{and_parts, and_from, eqb-true}
use Rattle.std.proofs.lemmas.List.{append_assoc}
use Rattle.std.specs.Prelude.{codes}
use Rattle.std.specs.Char.{is_ascii_digit}
use Rattle.std.specs.List.{list_all}
use Rattle.hyb_base.specs.Decimal.{IsDigits}
use Rattle.f77_ast.specs.Name.{IsName, is_letter, is_alphanumeric}
use Rattle.f77_ast.specs.declared.expr.Expr.{Expr}
use Rattle.f77_ast.specs.declared.expr.Part.{Part}
use Rattle.f77_exprs.specs.declared.operators.Infix.{Infix}
use Rattle.f77_exprs.specs.declared.operators.Infix.TheVariants as between
use Rattle.f77_exprs.specs.declared.operators.Prefix.{Prefix}
use Rattle.f77_exprs.specs.declared.operators.Prefix.TheVariants as head_of
use Rattle.f77_exprs.specs.Operators.{Text, spelling, prefix_spelling}
use Rattle.f77_exprs.specs.Spelling.{doubled, top_level, truth, falsehood, parentheses, lower, joined, SpellsArguments, no_list, empty_list, SpellsAll, SpellsPart, no_part, SpellsBound, left_out, given}
use Rattle.f77_exprs.specs.Spelling as spelled
use Rattle.f77_exprs.proofs.Primaries.{all_alphanumeric}
use Rattle.f77_forms.specs.Form.{Form, nothing, after, before, past, pair, made, either, by_first, list, many, a_part, an_expr, a_ref, a_whole_ref, a_name, a_label, some_digits, a_number, a_constant, a_letter, SpellsList, last, more, SpellsMany, none, one_more, Spells}
use Rattle.f77_forms.specs.Depth.{has_at_depth}
use Rattle.f77_forms.proofs.LeafLemmas.{letters, numerals, of_letter, of_digit}

-- the byte that is sought: `=`, or a comma
abbrev pub sought : Bool → ℕ
sought true = 61
sought false = 44

-- a byte that the scanner passes over
abbrev pub is_dull : ℕ → ℕ → Bool
is_dull b c = not (c == 39) && (not (c == 40) && (not (c == 41) && not (c == b)))

two : (p : Bool → Bool) → p true ≡ true → p false ≡ true → (t : Bool) → p t ≡ true
two p x y true = x
two p x y false = y

dull_letters : (t : Bool) → list_all (is_dull (sought t)) letters ≡ true
dull_letters = two (λ t. list_all (is_dull (sought t)) letters) refl refl

dull_numerals : (t : Bool) → list_all (is_dull (sought t)) numerals ≡ true
dull_numerals = two (λ t. list_all (is_dull (sought t)) numerals) refl refl

dull_operator : (t : Bool) (o : Infix) → list_all (is_dull (sought t)) (spelling o) ≡ true
dull_operator t between.Pow = two (λ t. list_all (is_dull (sought t)) (spelling between.Pow)) refl refl t
dull_operator t between.Mul = two (λ t. list_all (is_dull (sought t)) (spelling between.Mul)) refl refl t
dull_operator t between.Div = two (λ t. list_all (is_dull (sought t)) (spelling between.Div)) refl refl t
dull_operator t between.Add = two (λ t. list_all (is_dull (sought t)) (spelling between.Add)) refl refl t
dull_operator t between.Sub = two (λ t. list_all (is_dull (sought t)) (spelling between.Sub)) refl refl t
dull_operator t between.Cat = two (λ t. list_all (is_dull (sought t)) (spelling between.Cat)) refl refl t
dull_operator t between.Eq = two (λ t. list_all (is_dull (sought t)) (spelling between.Eq)) refl refl t
dull_operator t between.Ne = two (λ t. list_all (is_dull (sought t)) (spelling between.Ne)) refl refl t
dull_operator t between.Lt = two (λ t. list_all (is_dull (sought t)) (spelling between.Lt)) refl refl t
dull_operator t between.Le = two (λ t. list_all (is_dull (sought t)) (spelling between.Le)) refl refl t
dull_operator t between.Gt = two (λ t. list_all (is_dull (sought t)) (spelling between.Gt)) refl refl t
dull_operator t between.Ge = two (λ t. list_all (is_dull (sought t)) (spelling between.Ge)) refl refl t
dull_operator t between.And = two (λ t. list_all (is_dull (sought t)) (spelling between.And)) refl refl t
dull_operator t between.Or = two (λ t. list_all (is_dull (sought t)) (spelling between.Or)) refl refl t
dull_operator t between.Eqv = two (λ t. list_all (is_dull (sought t)) (spelling between.Eqv)) refl refl t
dull_operator t between.Neqv = two (λ t. list_all (is_dull (sought t)) (spelling between.Neqv)) refl refl t

dull_prefix : (t : Bool) (o : Prefix) → list_all (is_dull (sought t)) (prefix_spelling o) ≡ true
dull_prefix t head_of.Plus = two (λ t. list_all (is_dull (sought t)) (prefix_spelling head_of.Plus)) refl refl t
dull_prefix t head_of.Neg = two (λ t. list_all (is_dull (sought t)) (prefix_spelling head_of.Neg)) refl refl t
dull_prefix t head_of.Not = two (λ t. list_all (is_dull (sought t)) (prefix_spelling head_of.Not)) refl refl t

dull_word : (t : Bool) (w : Text) → list_all (is_dull 61) w ≡ true → list_all (is_dull 44) w ≡ true → list_all (is_dull (sought t)) w ≡ true
dull_word true w x y = x
dull_word false w x y = y

dull_digits : (t : Bool) (s : Text) → list_all is_ascii_digit s ≡ true → list_all (is_dull (sought t)) s ≡ true
dull_digits t [] h = refl
dull_digits t (c ∷ s) h =
    let p = and_parts (is_ascii_digit c) (list_all is_ascii_digit s) h in
    and_from (is_dull (sought t) c) (list_all (is_dull (sought t)) s) (of_digit (is_dull (sought t)) c (dull_numerals t) p.0) (dull_digits t s p.1)

alphanumeric_digit : (c : ℕ) → is_letter c ≡ false → is_alphanumeric c ≡ true → is_ascii_digit c ≡ true
alphanumeric_digit c e h = grind (arith, e, h)

pub dull_names : (t : Bool) (s : Text) → list_all is_alphanumeric s ≡ true → list_all (is_dull (sought t)) s ≡ true
dull_names t [] h = refl
dull_names t (c ∷ s) h =
    let p = and_parts (is_alphanumeric c) (list_all is_alphanumeric s) h in
    and_from (is_dull (sought t) c) (list_all (is_dull (sought t)) s) (by (is_letter c) refl p.0) (dull_names t s p.1)
  where
    by : (l : Bool) → is_letter c ≡ l → is_alphanumeric c ≡ true → is_dull (sought t) c ≡ true
    by true e a = of_letter (is_dull (sought t)) c (dull_letters t) e
    by false e a = of_digit (is_dull (sought t)) c (dull_numerals t) (alphanumeric_digit c e a)

pub negated : (b : Bool) → not b ≡ true → b ≡ false
negated true e = cc
negated false e = refl

-- ---- one byte

pub dull_step : (b at n c : ℕ) (i : Text) → is_dull b c ≡ true → has_at_depth b at false n (c ∷ i) ≡ has_at_depth b at false n i
dull_step b at n c i h =
    let p = and_parts (not (c == 39)) _ h in
    let q = and_parts (not (c == 40)) _ p.1 in
    let w = and_parts (not (c == 41)) _ q.1 in
    rw (negated (c == 39) p.0, negated (c == 40) q.0, negated (c == 41) w.0, negated (c == b) w.1) refl

pub dull_skip : (b at n : ℕ) (s r : Text) → list_all (is_dull b) s ≡ true → has_at_depth b at false n (s ++ r) ≡ has_at_depth b at false n r
dull_skip b at n [] r h = refl
dull_skip b at n (c ∷ s) r h = let p = and_parts (is_dull b c) (list_all (is_dull b) s) h in dull_step b at n c (s ++ r) p.0 ∙ dull_skip b at n s r p.1

deeper : (at n : ℕ) → at ≤ n → nat_le (suc n) at ≡ false
deeper at n le = grind (arith, le)

pub elsewhere : (at n : ℕ) → at ≤ n → (suc n == at) ≡ false
elsewhere at n le = let k : suc n ≢ at = λ e. absurd (omega arith) in grind (arith, k)

back : (n : ℕ) → suc n - 1 ≡ n
back n = omega arith

pub closed : (t : Bool) (at n : ℕ) (r : Text) → at ≤ n → has_at_depth (sought t) at false (suc n) (41 ∷ r) ≡ has_at_depth (sought t) at false n r
closed t at n r le = rw (deeper at n le, back n) refl

pub comma_inside : (t : Bool) (at n : ℕ) (r : Text) → at ≤ n → has_at_depth (sought t) at false (suc n) (44 ∷ r) ≡ has_at_depth (sought t) at false (suc n) r
comma_inside true at n r le = refl
comma_inside false at n r le = rw (elsewhere at n le) refl

quoted : (b at n : ℕ) (bytes r : Text) → has_at_depth b at true n (doubled bytes ++ 39 ∷ r) ≡ has_at_depth b at false n r
quoted b at n [] r = refl
quoted b at n (c ∷ bytes) r = by (c == 39) refl (quoted b at n bytes r)
  where
    by : (t : Bool) → (c == 39) ≡ t → has_at_depth b at true n (doubled bytes ++ 39 ∷ r) ≡ has_at_depth b at false n r → has_at_depth b at true n ((if t then 39 ∷ 39 ∷ doubled bytes else c ∷ doubled bytes) ++ 39 ∷ r) ≡ has_at_depth b at false n r
    by true e rest = rest
    by false e rest = ap (λ x. has_at_depth b at (not x) n (doubled bytes ++ 39 ∷ r)) e ∙ rest

-- ---- expressions

module _ (t : Bool) (at : ℕ) where
  abbrev Passes : Text → Type 0
  Passes s = (n : ℕ) → at ≤ n → (r : Text) → has_at_depth (sought t) at false n (s ++ r) ≡ has_at_depth (sought t) at false n r

  -- behind some more parentheses
  abbrev PassesInside : Text → Type 0
  PassesInside s = (n : ℕ) → at ≤ n → (r : Text) → has_at_depth (sought t) at false (suc n) (s ++ r) ≡ has_at_depth (sought t) at false (suc n) r

  mutual
    pub passes : {k : ℕ} {a : Expr} {s : Text} → spelled.Spells k a s → Passes s
    passes (spelled.number s all fits) n le r = dull_skip (sought t) at n s r (dull_digits t s all.0)
    passes truth n le r = dull_skip (sought t) at n (codes ".TRUE.") r (dull_word t (codes ".TRUE.") refl refl)
    passes falsehood n le r = dull_skip (sought t) at n (codes ".FALSE.") r (dull_word t (codes ".FALSE.") refl refl)
    passes (spelled.constant bytes some) n le r = ap (has_at_depth (sought t) at true n) (append_assoc (doubled bytes) (39 ∷ []) r) ∙ quoted (sought t) at n bytes r
    passes (spelled.reference name {s = s} {t = u} is h g) n le r =
        ap (has_at_depth (sought t) at false n) (append_assoc name (s ++ u) r ∙ ap (λ x. name ++ x) (append_assoc s u r))
        ∙ dull_skip (sought t) at n name (s ++ (u ++ r)) (dull_names t name (all_alphanumeric name is))
        ∙ passes_arguments h n le (u ++ r)
        ∙ passes_part g n le r
    passes (parentheses {s = s} h) n le r =
        ap (has_at_depth (sought t) at false (suc n)) (append_assoc s (41 ∷ []) r)
        ∙ passes h (suc n) (omega arith) (41 ∷ r)
        ∙ closed t at n r le
    passes (lower h) n le r = passes h n le r
    passes (spelled.prefixed o {s = s} h) n le r =
        ap (has_at_depth (sought t) at false n) (append_assoc (prefix_spelling o) s r)
        ∙ dull_skip (sought t) at n (prefix_spelling o) (s ++ r) (dull_prefix t o)
        ∙ passes h n le r
    passes (joined o {s = s} {t = u} h g) n le r =
        ap (has_at_depth (sought t) at false n) (append_assoc s (spelling o ++ u) r ∙ ap (λ x. s ++ x) (append_assoc (spelling o) u r))
        ∙ passes h n le (spelling o ++ (u ++ r))
        ∙ dull_skip (sought t) at n (spelling o) (u ++ r) (dull_operator t o)
        ∙ passes g n le r

    passes_arguments : {all : Option (List Expr)} {s : Text} → SpellsArguments all s → Passes s
    passes_arguments no_list n le r = refl
    passes_arguments empty_list n le r = closed t at n r le
    passes_arguments (spelled.list {s = s} h) n le r =
        ap (has_at_depth (sought t) at false (suc n)) (append_assoc s (41 ∷ []) r)
        ∙ passes_all h n le (41 ∷ r)
        ∙ closed t at n r le

    passes_all : {all : List Expr} {s : Text} → SpellsAll all s → PassesInside s
    passes_all (spelled.last h) n le r = passes h (suc n) (omega arith) r
    passes_all (spelled.more {s = s} {t = u} h g) n le r =
        ap (has_at_depth (sought t) at false (suc n)) (append_assoc s (44 ∷ u) r)
        ∙ passes h (suc n) (omega arith) (44 ∷ (u ++ r))
        ∙ comma_inside t at n (u ++ r) le
        ∙ passes_all g n le r

    passes_part : {part : Option Part} {s : Text} → SpellsPart part s → Passes s
    passes_part no_part n le r = refl
    passes_part (spelled.part {s = s} {t = u} h g) n le r =
        ap (has_at_depth (sought t) at false (suc n)) (append_assoc s (58 ∷ (u ++ 41 ∷ [])) r ∙ ap (λ x. s ++ 58 ∷ x) (append_assoc u (41 ∷ []) r))
        ∙ passes_bound h (suc n) (omega arith) (58 ∷ (u ++ 41 ∷ r))
        ∙ dull_skip (sought t) at (suc n) (58 ∷ []) (u ++ 41 ∷ r) (dull_word t (58 ∷ []) refl refl)
        ∙ passes_bound g (suc n) (omega arith) (41 ∷ r)
        ∙ closed t at n r le

    passes_bound : {a : Option Expr} {s : Text} → SpellsBound a s → Passes s
    passes_bound left_out n le r = refl
    passes_bound (given h) n le r = passes h n le r

  pub passes_name : (s : Text) → IsName s → Passes s
  passes_name s is n le r = dull_skip (sought t) at n s r (dull_names t s (all_alphanumeric s is))

  pub passes_digits : (s : Text) → IsDigits s → Passes s
  passes_digits s d n le r = dull_skip (sought t) at n s r (dull_digits t s d.0)

-- ---- forms without `=` outside parentheses

-- the depth behind a word, where no `=` stands outside parentheses in it
abbrev pub word_rise : ℕ → Text → Option ℕ
word_rise n [] = Some n
word_rise n (c ∷ w) = if c == 39 then None else (if c == 40 then word_rise (suc n) w else (if c == 41 then (if nat_le n 0 then None else word_rise (n - 1) w) else (if (c == 61) && (n == 0) then None else word_rise n w)))

abbrev next_of : Option ℕ → (ℕ → Option ℕ) → Option ℕ
next_of None f = None
next_of (Some n) f = f n

-- the depth, where it is that
abbrev stays : ℕ → Option ℕ → Option ℕ
stays n None = None
stays n (Some m) = if m == n then Some m else None

-- the depth, where two are the same
abbrev both : Option ℕ → Option ℕ → Option ℕ
both None b = None
both (Some m) b = stays m b

-- the depth behind each text of a form, where no `=` stands outside parentheses in it
abbrev pub rise : {A : Type 0} → ℕ → Form A → Option ℕ
rise n (nothing a) = Some n
rise n (after w f) = next_of (word_rise n w) (λ m. rise m f)
rise n (before f w) = next_of (rise n f) (λ m. word_rise m w)
rise n (past w f) = next_of (stays n (word_rise n w)) (λ m. rise m f)
rise n (pair f g) = next_of (rise n f) (λ m. rise m g)
rise n (made m f) = rise n f
rise n (either w f g) = both (next_of (word_rise n w) (λ m. rise m f)) (rise n g)
rise n (by_first p f g) = both (rise n f) (rise n g)
rise n (list f) = stays n (rise n f)
rise n (many f) = stays n (rise n f)
rise n (a_part R p) = None
rise n an_expr = Some n
rise n a_ref = Some n
rise n a_whole_ref = Some n
rise n a_name = Some n
rise n a_label = Some n
rise n some_digits = Some n
rise n a_number = Some n
rise n a_constant = Some n
rise n a_letter = Some n

next_parts : (o : Option ℕ) (f : ℕ → Option ℕ) (m : ℕ) → next_of o f ≡ Some m → (k : ℕ) × (o ≡ Some k) × (f k ≡ Some m)
next_parts None f m e = cc
next_parts (Some k) f m e = (k, refl, e)

stays_parts : (n : ℕ) (o : Option ℕ) (m : ℕ) → stays n o ≡ Some m → (o ≡ Some n) × (m ≡ n)
stays_parts n None m e = cc
stays_parts n (Some k) m e = by (k == n) refl e
  where
    by : (t : Bool) → (k == n) ≡ t → (if t then Some k else None) ≡ Some m → (Some k ≡ Some n) × (m ≡ n)
    by false q x = cc
    by true q x = let a : k ≡ n = eqb-true k n q in let b : k ≡ m = cc in (ap (λ z. Some z) a, sym b ∙ a)

both_parts : (o b : Option ℕ) (m : ℕ) → both o b ≡ Some m → (o ≡ Some m) × (b ≡ Some m)
both_parts None b m e = cc
both_parts (Some k) b m e =
    let p = stays_parts k b m e in
    (ap (λ z. Some z) (sym p.1), p.0 ∙ ap (λ z. Some z) (sym p.1))

rises_word : (n : ℕ) (w : Text) (m : ℕ) (r : Text) → word_rise n w ≡ Some m → has_at_depth 61 0 false n (w ++ r) ≡ has_at_depth 61 0 false m r
rises_word n [] m r e = let k : n ≡ m = cc in ap (λ z. has_at_depth 61 0 false z r) k
rises_word n (c ∷ w) m r e = by (c == 39) (c == 40) (c == 41) (nat_le n 0) ((c == 61) && (n == 0)) e (rises_word (suc n) w m r) (rises_word (n - 1) w m r) (rises_word n w m r)
  where
    by : (t u x y z : Bool) → (if t then None else (if u then word_rise (suc n) w else (if x then (if y then None else word_rise (n - 1) w) else (if z then None else word_rise n w)))) ≡ Some m
        → (word_rise (suc n) w ≡ Some m → has_at_depth 61 0 false (suc n) (w ++ r) ≡ has_at_depth 61 0 false m r)
        → (word_rise (n - 1) w ≡ Some m → has_at_depth 61 0 false (n - 1) (w ++ r) ≡ has_at_depth 61 0 false m r)
        → (word_rise n w ≡ Some m → has_at_depth 61 0 false n (w ++ r) ≡ has_at_depth 61 0 false m r)
        → (if t then has_at_depth 61 0 true n (w ++ r) else (if u then has_at_depth 61 0 false (suc n) (w ++ r) else (if x then (if y then false else has_at_depth 61 0 false (n - 1) (w ++ r)) else (if z then true else has_at_depth 61 0 false n (w ++ r))))) ≡ has_at_depth 61 0 false m r
    by true u x y z e f g h = cc
    by false true x y z e f g h = f e
    by false false true true z e f g h = cc
    by false false true false z e f g h = g e
    by false false false y true e f g h = cc
    by false false false y false e f g h = h e

unmoved : (n m : ℕ) → Some n ≡ Some m → (r : Text) → has_at_depth 61 0 false n r ≡ has_at_depth 61 0 false m r
unmoved n m e r = let k : n ≡ m = cc in ap (λ z. has_at_depth 61 0 false z r) k

comma_passed : (n : ℕ) (r : Text) → has_at_depth 61 0 false n (44 ∷ r) ≡ has_at_depth 61 0 false n r
comma_passed n r = refl

pub rises : {A : Type 0} (f : Form A) (n m : ℕ) → rise n f ≡ Some m → (v : A) (s r : Text) → Spells f v s → has_at_depth 61 0 false n (s ++ r) ≡ has_at_depth 61 0 false m r
rises (nothing a) n m e v s r h = ap (λ x. has_at_depth 61 0 false n (x ++ r)) h.1 ∙ unmoved n m e r
rises (after w f) n m e v s r h =
    let p = next_parts (word_rise n w) (λ m. rise m f) m e in
    ap (has_at_depth 61 0 false n) (ap (λ x. x ++ r) h.1 ∙ append_assoc w h.0 r)
    ∙ rises_word n w p.0 (h.0 ++ r) p.1
    ∙ rises f p.0 m p.2 v h.0 r h.2
rises (before f w) n m e v s r h =
    let p = next_parts (rise n f) (λ m. word_rise m w) m e in
    ap (has_at_depth 61 0 false n) (ap (λ x. x ++ r) h.1 ∙ append_assoc h.0 w r)
    ∙ rises f n p.0 p.1 v h.0 (w ++ r) h.2
    ∙ rises_word p.0 w m r p.2
rises (past w f) n m e v s r (inl h) =
    let p = next_parts (stays n (word_rise n w)) (λ m. rise m f) m e in
    let q = stays_parts n (word_rise n w) p.0 p.1 in
    ap (has_at_depth 61 0 false n) (ap (λ x. x ++ r) h.1 ∙ append_assoc w h.0 r)
    ∙ rises_word n w n (h.0 ++ r) q.0
    ∙ rises f n m (ap (λ k. rise k f) (sym q.1) ∙ p.2) v h.0 r h.2
rises (past w f) n m e v s r (inr h) =
    let p = next_parts (stays n (word_rise n w)) (λ m. rise m f) m e in
    let q = stays_parts n (word_rise n w) p.0 p.1 in
    rises f n m (ap (λ k. rise k f) (sym q.1) ∙ p.2) v s r h
rises (pair f g) n m e v s r h =
    let p = next_parts (rise n f) (λ m. rise m g) m e in
    ap (has_at_depth 61 0 false n) (ap (λ x. x ++ r) h.2 ∙ append_assoc h.0 h.1 r)
    ∙ rises f n p.0 p.1 v.0 h.0 (h.1 ++ r) h.3
    ∙ rises g p.0 m p.2 v.1 h.1 r h.4
rises (made q f) n m e v s r h = rises f n m e h.0 s r h.2
rises (either w f g) n m e v s r (inl h) =
    let q = both_parts (next_of (word_rise n w) (λ m. rise m f)) (rise n g) m e in
    let p = next_parts (word_rise n w) (λ m. rise m f) m q.0 in
    ap (has_at_depth 61 0 false n) (ap (λ x. x ++ r) h.1 ∙ append_assoc w h.0 r)
    ∙ rises_word n w p.0 (h.0 ++ r) p.1
    ∙ rises f p.0 m p.2 v h.0 r h.2
rises (either w f g) n m e v s r (inr h) = rises g n m (both_parts (next_of (word_rise n w) (λ m. rise m f)) (rise n g) m e).1 v s r h
rises (by_first p f g) n m e v s r (inl h) = rises f n m (both_parts (rise n f) (rise n g) m e).0 v s r h
rises (by_first p f g) n m e v s r (inr h) = rises g n m (both_parts (rise n f) (rise n g) m e).1 v s r h
rises (list {A = X} f) n m e v s r h =
    let q = stays_parts n (rise n f) m e in
    by h (λ a t u x. rises f n n q.0 a t u x) ∙ ap (λ k. has_at_depth 61 0 false k r) (sym q.1)
  where
    by : {all : List X} {u : Text} → SpellsList (Spells f) all u → ((a : X) (t w : Text) → Spells f a t → has_at_depth 61 0 false n (t ++ w) ≡ has_at_depth 61 0 false n w) → has_at_depth 61 0 false n (u ++ r) ≡ has_at_depth 61 0 false n r
    by (last {a = a} {s = t} x) rule = rule a t r x
    by (more {a = a} {s = t} {t = w} x y) rule = ap (has_at_depth 61 0 false n) (append_assoc t (44 ∷ w) r) ∙ rule a t (44 ∷ (w ++ r)) x ∙ comma_passed n (w ++ r) ∙ by y rule
rises (many {A = X} f) n m e v s r h =
    let q = stays_parts n (rise n f) m e in
    by h (λ a t u x. rises f n n q.0 a t u x) ∙ ap (λ k. has_at_depth 61 0 false k r) (sym q.1)
  where
    by : {all : List X} {u : Text} → SpellsMany (Spells f) all u → ((a : X) (t w : Text) → Spells f a t → has_at_depth 61 0 false n (t ++ w) ≡ has_at_depth 61 0 false n w) → has_at_depth 61 0 false n (u ++ r) ≡ has_at_depth 61 0 false n r
    by none rule = refl
    by (one_more {a = a} {s = t} {t = w} x y) rule = ap (has_at_depth 61 0 false n) (append_assoc t w r) ∙ rule a t (w ++ r) x ∙ by y rule
rises (a_part R p) n m e v s r h = cc
rises an_expr n m e v s r h = passes true 0 h n (omega arith) r ∙ unmoved n m e r
rises a_ref n m e v s r h = passes true 0 h n (omega arith) r ∙ unmoved n m e r
rises a_whole_ref n m e v s r h = passes true 0 h.0 n (omega arith) r ∙ unmoved n m e r
rises a_name n m e v s r h = passes_name true 0 s h.1 n (omega arith) r ∙ unmoved n m e r
rises a_label n m e v s r h = passes_digits true 0 s h.1 n (omega arith) r ∙ unmoved n m e r
rises some_digits n m e v s r h = passes_digits true 0 s h.1 n (omega arith) r ∙ unmoved n m e r
rises a_number n m e v s r h = passes true 0 h n (omega arith) r ∙ unmoved n m e r
rises a_constant n m e v s r h = passes true 0 h n (omega arith) r ∙ unmoved n m e r
rises a_letter n m e v s r h = ap (λ x. has_at_depth 61 0 false n (x ++ r)) h.0 ∙ dull_skip 61 0 n (v ∷ []) r (and_from (is_dull 61 v) true (of_letter (is_dull 61) v (dull_letters true) h.1) refl) ∙ unmoved n m e r
