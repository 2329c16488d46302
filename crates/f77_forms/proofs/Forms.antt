-- What is spelled by a form is read, where a test on the form holds, and what is read is spelled.
use Rattle.std.proofs.Common.{◌≡◌, inl, inr, ℕ, zero, suc, ◌+◌, ◌≤◌, ◌<◌, Bool, true, false, not, ◌&&◌, ◌||◌, ◌==◌, nat_le, nat_lt, if◌then◌else◌, List, [], ◌∷◌, ◌++◌, length, drop, Some, None, is_none, refl, sym, ap, ◌∙◌, subst, arith, length-append}
use Rattle.std.proofs.lemmas.Bool.{and_parts, ltb-true}
use Rattle.std.proofs.lemmas.List.{append_assoc, append-nil}
use Rattle.std.specs.List.{list_all}
use Rattle.f77_ast.specs.Name.{IsName, is_letter, is_alphanumeric}
use Rattle.f77_ast.specs.declared.expr.Ref.{Ref, out-Ref}
use Rattle.f77_exprs.specs.Operators.{Text, begins}
use Rattle.f77_exprs.specs.Reading.{Outcome, Parser, and_then, ◌>>=◌, ◌>>◌, pure, refuse, is_empty, sees, eat_word, after_word, alphanumerics, reference, expr_within, name}
use Rattle.f77_exprs.proofs.Complete.{bind}
use Rattle.f77_exprs.proofs.Primaries.{letter_first, alphanumerics_of, all_alphanumeric}
use Rattle.f77_exprs.proofs.Sound.{Holds, holds_bind, holds_weak, eats, eats_word, within_sound, name_sound}
use Rattle.f77_exprs.proofs.Words.{drop_all, begins_splits}
use Rattle.f77_forms.specs.Form.{Form, nothing, after, before, past, pair, made, either, by_first, list, many, a_part, an_expr, a_ref, a_whole_ref, a_name, a_label, some_digits, a_number, a_constant, a_letter, SpellsList, last, more, SpellsMany, none, one_more, Spells, passes, expect_word, more_of, list_of, many_of, ref_of, whole_of, letter, read}
use Rattle.f77_forms.proofs.LeafLemmas.{Next, letters, numerals, expr_firsts, of_letter, name_begins, digits_begin, expr_begins, ref_begins, number_begins, constant_begins, expr_filled, all_front, all_back, behind_expr, behind_name, behind_digits, behind_ref, behind_constant, after_name, unseen, read_expr, read_ref, read_name, read_label, read_short, read_number, read_constant, read_letter, ref_sound, label_sound, short_sound, number_is_sound, constant_is_sound, letter_sound}

-- ---- the test

-- the first byte of a word
abbrev pub head : Text → ℕ
head [] = 0
head (b ∷ w) = b

-- more letters and digits than a name has
abbrev pub is_long : Text → Bool
is_long w = nat_lt 6 (length w) && list_all is_alphanumeric w

-- whether the empty text is one of the form
abbrev pub nullable : {A : Type 0} → Form A → Bool
nullable (nothing a) = true
nullable (after w f) = false
nullable (before f w) = false
nullable (past w f) = false
nullable (pair f g) = nullable f && nullable g
nullable (made m f) = nullable f
nullable (either w f g) = nullable g
nullable (by_first p f g) = nullable g
nullable (list f) = false
nullable (many f) = true
nullable _ = false

-- the bytes with which a text of the form may begin
abbrev pub firsts : {A : Type 0} → Form A → List ℕ
firsts (nothing a) = []
firsts (after w f) = head w ∷ []
firsts (before f w) = firsts f
firsts (past w f) = head w ∷ firsts f
firsts (pair f g) = if nullable f then firsts f ++ firsts g else firsts f
firsts (made m f) = firsts f
firsts (either w f g) = head w ∷ firsts g
firsts (by_first p f g) = firsts f ++ firsts g
firsts (list f) = firsts f
firsts (many f) = firsts f
firsts (a_part R p) = []
firsts an_expr = expr_firsts
firsts a_ref = letters
firsts a_whole_ref = letters
firsts a_name = letters
firsts a_label = numerals
firsts some_digits = numerals
firsts a_number = numerals
firsts a_constant = 39 ∷ []
firsts a_letter = letters

-- the bytes that may follow a text of the form
abbrev pub next : {A : Type 0} → Form A → ℕ → Bool
next (nothing a) c = true
next (after w f) c = next f c
next (before f w) c = true
next (past w f) c = next f c
next (pair f g) c = next g c && (if nullable g then next f c else true)
next (made m f) c = next f c
next (either w f g) c = next f c && (next g c && (if nullable g then not (c == head w) else true))
next (by_first p f g) c = next f c && (next g c && (if nullable g then not (p c) else true))
next (list f) c = next f c && not (c == 44)
next (many f) c = false
next (a_part R p) c = false
next an_expr c = behind_expr c
next a_ref c = behind_ref c
next a_whole_ref c = behind_ref c
next a_name c = behind_name c
next a_label c = behind_digits c
next some_digits c = behind_digits c
next a_number c = behind_digits c
next a_constant c = behind_constant c
next a_letter c = true

-- whether no text of the form begins with more than six letters and digits
abbrev pub is_brief : {A : Type 0} → Form A → Bool
is_brief (before f w) = is_brief f
is_brief (past w f) = not (is_alphanumeric (head w)) && is_brief f
is_brief (pair f g) = not (nullable f) && is_brief f
is_brief (made m f) = is_brief f
is_brief (list f) = is_brief f
is_brief a_name = true
is_brief _ = false

-- whether no text of the form begins with a word
abbrev pub avoids : {A : Type 0} → Text → Form A → Bool
avoids w f = list_all (λ c. not (c == head w)) (firsts f) || (is_brief f && is_long w)

-- whether no text can be read in two ways
abbrev pub is_clear : {A : Type 0} → Form A → Bool
is_clear (nothing a) = true
is_clear (after w f) = not (is_empty w) && is_clear f
is_clear (before f w) = not (is_empty w) && (is_clear f && (not (nullable f) && next f (head w)))
is_clear (past w f) = not (is_empty w) && (is_clear f && (not (nullable f) && list_all (λ c. not (c == head w)) (firsts f)))
is_clear (pair f g) = is_clear f && (is_clear g && list_all (next f) (firsts g))
is_clear (made m f) = is_clear f
is_clear (either w f g) = not (is_empty w) && (is_clear f && (is_clear g && avoids w g))
is_clear (by_first p f g) = is_clear f && (is_clear g && (not (nullable f) && (list_all p (firsts f) && list_all (λ c. not (p c)) (firsts g))))
is_clear (list f) = is_clear f && (not (nullable f) && next f 44)
is_clear (many f) = is_clear f && (not (nullable f) && list_all (next f) (firsts f))
is_clear (a_part R p) = false
is_clear _ = true

-- ---- small lemmas

negated : (b : Bool) → not b ≡ true → b ≡ false
negated true e = cc
negated false e = refl

next_weak : (p q : ℕ → Bool) → ((c : ℕ) → p c ≡ true → q c ≡ true) → (r : Text) → Next p r → Next q r
next_weak p q w [] h = tt
next_weak p q w (c ∷ r) h = w c h

pub begins_own : (w r : Text) → begins w (w ++ r) ≡ true
begins_own [] r = refl
begins_own (c ∷ w) r = let e : (c == c) ≡ true = grind arith in rw (e, begins_own w r) refl

-- the next byte isn't the head of the word
elsewhere : (b : ℕ) (w r : Text) → Next (λ c. not (c == b)) r → begins (b ∷ w) r ≡ false
elsewhere b w [] h = refl
elsewhere b w (c ∷ r) h = rw (negated (c == b) h) refl

fails : (p : ℕ → Bool) (r : Text) → Next (λ c. not (p c)) r → passes p r ≡ false
fails p [] h = refl
fails p (c ∷ r) h = negated (p c) h

-- ---- what a text of a form begins with

begins_after : (p : ℕ → Bool) (w t r u : Text) → not (is_empty w) ≡ true → p (head w) ≡ true → u ≡ w ++ t → Next p (u ++ r)
begins_after p [] t r u some h e = cc
begins_after p (b ∷ w) t r u some h e = subst (λ x. Next p (x ++ r)) (sym e) h

never : {X : Type 0} → (b : Bool) → not b ≡ true → b ≡ true → X
never true e f = cc
never false e f = cc

pub firsts_next : {A : Type 0} (g : Form A) (p : ℕ → Bool) → is_clear g ≡ true → list_all p (firsts g) ≡ true → (v : A) (u r : Text) → Spells g v u → (nullable g ≡ true → Next p r) → Next p (u ++ r)
firsts_next (nothing a) p k all v u r h z = subst (λ x. Next p (x ++ r)) (sym h.1) (z refl)
firsts_next (after w f) p k all v u r h z = begins_after p w h.0 r u (and_parts (not (is_empty w)) _ k).0 (and_parts (p (head w)) true all).0 h.1
firsts_next (before f w) p k all v u r h z =
    let k1 = and_parts (is_clear f) _ (and_parts (not (is_empty w)) _ k).1 in
    let k2 = and_parts (not (nullable f)) (next f (head w)) k1.1 in
    subst (λ x. Next p x) (sym (ap (λ x. x ++ r) h.1 ∙ append_assoc h.0 w r)) (firsts_next f p k1.0 all v h.0 (w ++ r) h.2 (never (nullable f) k2.0))
firsts_next (past w f) p k all v u r (inl h) z = begins_after p w h.0 r u (and_parts (not (is_empty w)) _ k).0 (and_parts (p (head w)) _ all).0 h.1
firsts_next (past w f) p k all v u r (inr h) z =
    let k1 = and_parts (is_clear f) _ (and_parts (not (is_empty w)) _ k).1 in
    let k2 = and_parts (not (nullable f)) _ k1.1 in
    firsts_next f p k1.0 (and_parts (p (head w)) _ all).1 v u r h (never (nullable f) k2.0)
firsts_next (pair f g) p k all v u r h z =
    let k1 = and_parts (is_clear f) _ k in
    let k2 = and_parts (is_clear g) _ k1.1 in
    subst (λ x. Next p x) (sym (ap (λ x. x ++ r) h.2 ∙ append_assoc h.0 h.1 r))
    (by (nullable f) all (λ a. firsts_next f p k1.0 a v.0 h.0 (h.1 ++ r) h.3) (λ a. firsts_next g p k2.0 a v.1 h.1 r h.4) z)
  where
    by : (t : Bool) → list_all p (if t then firsts f ++ firsts g else firsts f) ≡ true
        → (list_all p (firsts f) ≡ true → (t ≡ true → Next p (h.1 ++ r)) → Next p (h.0 ++ (h.1 ++ r)))
        → (list_all p (firsts g) ≡ true → (nullable g ≡ true → Next p r) → Next p (h.1 ++ r))
        → ((t && nullable g) ≡ true → Next p r) → Next p (h.0 ++ (h.1 ++ r))
    by true all x y z = x (all_front p (firsts f) (firsts g) all) (λ e. y (all_back p (firsts f) (firsts g) all) z)
    by false all x y z = x all (λ e. cc)
firsts_next (made m f) p k all v u r h z = firsts_next f p k all h.0 u r h.2 z
firsts_next (either w f g) p k all v u r (inl h) z = begins_after p w h.0 r u (and_parts (not (is_empty w)) _ k).0 (and_parts (p (head w)) _ all).0 h.1
firsts_next (either w f g) p k all v u r (inr h) z =
    let k1 = and_parts (is_clear f) _ (and_parts (not (is_empty w)) _ k).1 in
    firsts_next g p (and_parts (is_clear g) _ k1.1).0 (and_parts (p (head w)) _ all).1 v u r h z
firsts_next (by_first q f g) p k all v u r (inl h) z =
    let k1 = and_parts (is_clear f) _ k in
    let k2 = and_parts (is_clear g) _ k1.1 in
    let k3 = and_parts (not (nullable f)) _ k2.1 in
    firsts_next f p k1.0 (all_front p (firsts f) (firsts g) all) v u r h (never (nullable f) k3.0)
firsts_next (by_first q f g) p k all v u r (inr h) z =
    let k1 = and_parts (is_clear f) _ k in
    let k2 = and_parts (is_clear g) _ k1.1 in
    firsts_next g p k2.0 (all_back p (firsts f) (firsts g) all) v u r h z
firsts_next (list {A = X} f) p k all v u r h z =
    let k1 = and_parts (is_clear f) _ k in
    let k2 = and_parts (not (nullable f)) _ k1.1 in
    by h (λ a s t x. firsts_next f p k1.0 all a s t x (never (nullable f) k2.0))
  where
    by : {all : List X} {u : Text} → SpellsList (Spells f) all u → ((a : X) (s t : Text) → Spells f a s → Next p (s ++ t)) → Next p (u ++ r)
    by (last {a = a} {s = s} x) rule = rule a s r x
    by (more {a = a} {s = s} {t = t} x y) rule = subst (Next p) (sym (append_assoc s (44 ∷ t) r)) (rule a s ((44 ∷ t) ++ r) x)
firsts_next (many {A = X} f) p k all v u r h z =
    let k1 = and_parts (is_clear f) _ k in
    let k2 = and_parts (not (nullable f)) _ k1.1 in
    by h (λ a s t x. firsts_next f p k1.0 all a s t x (never (nullable f) k2.0))
  where
    by : {all : List X} {u : Text} → SpellsMany (Spells f) all u → ((a : X) (s t : Text) → Spells f a s → Next p (s ++ t)) → Next p (u ++ r)
    by none rule = z refl
    by (one_more {a = a} {s = s} {t = t} x y) rule = subst (Next p) (sym (append_assoc s t r)) (rule a s (t ++ r) x)
firsts_next (a_part R q) p k all v u r h z = cc
firsts_next an_expr p k all v u r h z = expr_begins p all h r
firsts_next a_ref p k all v u r h z = ref_begins p v u r all h
firsts_next a_whole_ref p k all v u r h z = ref_begins p v u r all h.0
firsts_next a_name p k all v u r h z = name_begins p u r all h.1
firsts_next a_label p k all v u r h z = digits_begin p u r all h.1
firsts_next some_digits p k all v u r h z = digits_begin p u r all h.1
firsts_next a_number p k all v u r h z = number_begins p v u r all h
firsts_next a_constant p k all v u r h z = constant_begins p v u r (and_parts (p 39) true all).0 h
firsts_next a_letter p k all v u r h z = subst (λ x. Next p (x ++ r)) (sym h.0) (of_letter p v all h.1)

-- what may follow two forms may follow the first before the second
fits : {A B : Type 0} (f : Form A) (g : Form B) → is_clear g ≡ true → list_all (next f) (firsts g) ≡ true → (v : B) (u r : Text) → Spells g v u → Next (next (pair f g)) r → Next (next f) (u ++ r)
fits f g k all v u r h n = firsts_next g (next f) k all v u r h (λ z. behind (nullable g) refl z)
  where
    behind : (t : Bool) → nullable g ≡ t → t ≡ true → Next (next f) r
    behind false e z = cc
    behind true e z = next_weak (next (pair f g)) (next f) (λ c w. let w2 : (if nullable g then next f c else true) ≡ true = (and_parts (next g c) _ w).1 in (rw e at w2)) r n

-- ---- words that no text of a form begins with

prefix_long : (w i : Text) → list_all is_alphanumeric w ≡ true → length w ≤ alphanumerics (w ++ i)
prefix_long [] i all = omega arith
prefix_long (c ∷ w) i all =
    let p = and_parts (is_alphanumeric c) (list_all is_alphanumeric w) all in
    let l = prefix_long w i p.1 in
    let e : alphanumerics ((c ∷ w) ++ i) ≡ 1 + alphanumerics (w ++ i) = rw p.0 refl in
    omega arith

name_length : (n : Text) → IsName n → length n ≤ 6
name_length [] is = omega arith
name_length (c ∷ t) is =
    let p = and_parts (is_letter c) (nat_le (length t) 5) (and_parts (is_letter c && nat_le (length t) 5) _ is).0 in
    let l : length t ≤ 5 = grind (arith, p.1) in
    omega arith

-- six letters and digits at most
brief : {A : Type 0} (f : Form A) → is_brief f ≡ true → is_clear f ≡ true → (v : A) (s r : Text) → Spells f v s → Next (next f) r → alphanumerics (s ++ r) ≤ 6
brief (nothing a) b k v s r h n = cc
brief (after w f) b k v s r h n = cc
brief (before f w) b k v s r h n =
    let k0 = and_parts (not (is_empty w)) _ k in
    let k1 = and_parts (is_clear f) _ k0.1 in
    let k2 = and_parts (not (nullable f)) _ k1.1 in
    subst (λ x. alphanumerics x ≤ 6) (sym (ap (λ x. x ++ r) h.1 ∙ append_assoc h.0 w r)) (brief f b k1.0 v h.0 (w ++ r) h.2 (starting w k0.0 k2.1))
  where
    starting : (w : Text) → not (is_empty w) ≡ true → next f (head w) ≡ true → Next (next f) (w ++ r)
    starting [] some e = cc
    starting (c ∷ w) some e = e
brief (past w f) b k v s r (inl h) n =
    let b0 = and_parts (not (is_alphanumeric (head w))) (is_brief f) b in
    let k0 = and_parts (not (is_empty w)) _ k in
    starting w k0.0 b0.0 h.1
  where
    starting : (w : Text) → not (is_empty w) ≡ true → not (is_alphanumeric (head w)) ≡ true → s ≡ w ++ h.0 → alphanumerics (s ++ r) ≤ 6
    starting [] some e is = cc
    starting (c ∷ w) some e is =
        let z : alphanumerics (s ++ r) ≡ 0 = ap (λ x. alphanumerics (x ++ r)) is ∙ rw (negated (is_alphanumeric c) e) refl in
        omega arith
brief (past w f) b k v s r (inr h) n =
    let k0 = and_parts (not (is_empty w)) _ k in
    brief f (and_parts (not (is_alphanumeric (head w))) (is_brief f) b).1 (and_parts (is_clear f) _ k0.1).0 v s r h n
brief (pair f g) b k v s r h n =
    let b0 = and_parts (not (nullable f)) (is_brief f) b in
    let k1 = and_parts (is_clear f) _ k in
    let k2 = and_parts (is_clear g) _ k1.1 in
    subst (λ x. alphanumerics x ≤ 6) (sym (ap (λ x. x ++ r) h.2 ∙ append_assoc h.0 h.1 r)) (brief f b0.1 k1.0 v.0 h.0 (h.1 ++ r) h.3 (fits f g k2.0 k2.1 v.1 h.1 r h.4 n))
brief (made m f) b k v s r h n = brief f b k h.0 s r h.2 n
brief (either w f g) b k v s r h n = cc
brief (by_first p f g) b k v s r h n = cc
brief (list {A = X} f) b k v s r h n =
    let k1 = and_parts (is_clear f) _ k in
    let k2 = and_parts (not (nullable f)) _ k1.1 in
    by h (λ a t u x w. brief f b k1.0 a t u x w) k2.1 n
  where
    by : {all : List X} {u : Text} → SpellsList (Spells f) all u → ((a : X) (t u : Text) → Spells f a t → Next (next f) u → alphanumerics (t ++ u) ≤ 6) → next f 44 ≡ true → Next (λ c. next f c && not (c == 44)) r → alphanumerics (u ++ r) ≤ 6
    by (last {a = a} {s = s} x) rule comma n = rule a s r x (next_weak (λ c. next f c && not (c == 44)) (next f) (λ c w. (and_parts (next f c) _ w).0) r n)
    by (more {a = a} {s = s} {t = t} x y) rule comma n = subst (λ z. alphanumerics z ≤ 6) (sym (append_assoc s (44 ∷ t) r)) (rule a s ((44 ∷ t) ++ r) x comma)
brief (many f) b k v s r h n = cc
brief (a_part R p) b k v s r h n = cc
brief an_expr b k v s r h n = cc
brief a_ref b k v s r h n = cc
brief a_whole_ref b k v s r h n = cc
brief a_name b k v s r h n =
    let e : alphanumerics (s ++ r) ≡ length s = alphanumerics_of s r (all_alphanumeric s h.1) (after_name r n) in
    let l = name_length s h.1 in
    omega arith
brief a_label b k v s r h n = cc
brief some_digits b k v s r h n = cc
brief a_number b k v s r h n = cc
brief a_constant b k v s r h n = cc
brief a_letter b k v s r h n = cc

too_long : (w i : Text) → is_long w ≡ true → alphanumerics i ≤ 6 → begins w i ≡ false
too_long w i l few = by (begins w i) refl
  where
    by : (t : Bool) → begins w i ≡ t → begins w i ≡ false
    by false e = e
    by true e =
        let p = and_parts (nat_lt 6 (length w)) (list_all is_alphanumeric w) l in
        let a : 6 < length w = ltb-true 6 (length w) p.0 in
        let b = prefix_long w (drop (length w) i) p.1 in
        let c : alphanumerics i ≡ alphanumerics (w ++ drop (length w) i) = ap alphanumerics (begins_splits w i e) in
        absurd (omega arith)

either_true : {X : Type 0} (a b : Bool) → (a || b) ≡ true → (a ≡ true → X) → (b ≡ true → X) → X
either_true true b e f g = f refl
either_true false b e f g = g e

avoided : {A : Type 0} (w : Text) (g : Form A) → not (is_empty w) ≡ true → avoids w g ≡ true → is_clear g ≡ true → (v : A) (s r : Text) → Spells g v s → Next (next g) r → (nullable g ≡ true → Next (λ c. not (c == head w)) r) → begins w (s ++ r) ≡ false
avoided [] g some e k v s r h n z = cc
avoided (b ∷ w) g some e k v s r h n z = either_true (list_all (λ c. not (c == b)) (firsts g)) (is_brief g && is_long (b ∷ w)) e
    (λ all. elsewhere b w (s ++ r) (firsts_next g (λ c. not (c == b)) k all v s r h z))
    (λ both. let p = and_parts (is_brief g) (is_long (b ∷ w)) both in too_long (b ∷ w) (s ++ r) p.1 (brief g p.0 k v s r h n))

-- ---- what is spelled is read

pub word_read : {A : Type 0} (w r : Text) (go : Parser A) → and_then (expect_word w (w ++ r)) (λ _. go) ≡ go r
word_read w r go = rw (begins_own w r, drop_all w r) refl

pub word_eaten : {A : Type 0} (w r : Text) (go : Bool → Parser A) → and_then (eat_word w (w ++ r)) go ≡ go true r
word_eaten w r go = rw (begins_own w r, drop_all w r) refl

pub word_left : {A : Type 0} (w r : Text) (go : Bool → Parser A) → begins w r ≡ false → and_then (eat_word w r) go ≡ go false r
word_left w r go e = rw e refl

-- members of a list
one_comma : {A : Type 0} (p : Parser A) (n : ℕ) (found : List A) (i : Text) → more_of p (suc n) found (44 ∷ i) ≡ and_then (p i) (λ a. more_of p n (found ++ a ∷ []))
unfolding more_of
one_comma p n found i = refl

pub no_comma : {A : Type 0} (p : Parser A) (n : ℕ) (found : List A) (i : Text) → sees 44 i ≡ false → more_of p n found i ≡ Some (found, i)
unfolding more_of
no_comma p zero found i e = refl
no_comma p (suc n) found i e = rw e refl

-- what is read of a list: its first member, and then the others
abbrev ReadsList : {A : Type 0} → Parser A → List A → Text → Text → Type 0
ReadsList {A = A} p all i r = (a : A) × (j : Text) × (p i ≡ Some (a, j)) × (length j ≤ length i) × ((n : ℕ) (found : List A) → length j ≤ n → more_of p n (found ++ a ∷ []) j ≡ Some (found ++ all, r))

read_more : {A : Type 0} (p : Parser A) (a : A) (all : List A) (s i r : Text) → p (s ++ 44 ∷ i) ≡ Some (a, 44 ∷ i) → ReadsList p all i r → ReadsList p (a ∷ all) (s ++ 44 ∷ i) r
read_more {A = A} p a all s i r first y =
    let l = length-append s (44 ∷ i) in
    (a, 44 ∷ i, first, omega arith, goes y.0 y.1 y.2 y.3 y.4)
  where
    goes : (b : A) (j : Text) → p i ≡ Some (b, j) → length j ≤ length i → ((n : ℕ) (found : List A) → length j ≤ n → more_of p n (found ++ b ∷ []) j ≡ Some (found ++ all, r))
        → (n : ℕ) (found : List A) → length (44 ∷ i) ≤ n → more_of p n (found ++ a ∷ []) (44 ∷ i) ≡ Some (found ++ a ∷ all, r)
    goes b j second within others zero found few = absurd (omega arith)
    goes b j second within others (suc n) found few =
        one_comma p n (found ++ a ∷ []) i
        ∙ bind (p i) (λ b. more_of p n ((found ++ a ∷ []) ++ b ∷ [])) b j second
        ∙ others n (found ++ a ∷ []) (omega arith)
        ∙ ap (λ x. Some (x, r)) (append_assoc found (a ∷ []) all)

list_read : {A : Type 0} (p : Parser A) (all : List A) (i r : Text) → ReadsList p all i r → list_of p i ≡ Some (all, r)
list_read p all i r y = bind (p i) (λ a. λ i. more_of p (length i) (a ∷ []) i) y.0 y.1 y.2 ∙ y.4 (length y.1) [] (omega arith)

-- none or more
pub none_left : {A : Type 0} (p : Parser A) (n : ℕ) (found : List A) → many_of p n found [] ≡ Some (found, [])
unfolding many_of
none_left p zero found = refl
none_left p (suc n) found = refl

pub one_left : {A : Type 0} (p : Parser A) (n : ℕ) (found : List A) (i : Text) → is_empty i ≡ false → many_of p (suc n) found i ≡ and_then (p i) (λ a. many_of p n (found ++ a ∷ []))
unfolding many_of
one_left p n found i e = rw e refl

-- ---- texts that aren't empty

some_word : (w t : Text) → not (is_empty w) ≡ true → 0 < length (w ++ t)
some_word [] t e = cc
some_word (b ∷ w) t e = omega arith

some_front : (s t : Text) → 0 < length s → 0 < length (s ++ t)
some_front s t e = let l = length-append s t in omega arith

some_back : (s t : Text) → 0 < length t → 0 < length (s ++ t)
some_back s t e = let l = length-append s t in omega arith

pub filled : {A : Type 0} (f : Form A) → is_clear f ≡ true → not (nullable f) ≡ true → (v : A) (s : Text) → Spells f v s → 0 < length s
filled (nothing a) k z v s h = cc
filled (after w f) k z v s h = subst (λ x. 0 < length x) (sym h.1) (some_word w h.0 (and_parts (not (is_empty w)) _ k).0)
filled (before f w) k z v s h =
    let k1 = and_parts (is_clear f) _ (and_parts (not (is_empty w)) _ k).1 in
    subst (λ x. 0 < length x) (sym h.1) (some_front h.0 w (filled f k1.0 (and_parts (not (nullable f)) _ k1.1).0 v h.0 h.2))
filled (past w f) k z v s (inl h) = subst (λ x. 0 < length x) (sym h.1) (some_word w h.0 (and_parts (not (is_empty w)) _ k).0)
filled (past w f) k z v s (inr h) =
    let k1 = and_parts (is_clear f) _ (and_parts (not (is_empty w)) _ k).1 in
    filled f k1.0 (and_parts (not (nullable f)) _ k1.1).0 v s h
filled (pair f g) k z v s h =
    let k1 = and_parts (is_clear f) _ k in
    let k2 = and_parts (is_clear g) _ k1.1 in
    subst (λ x. 0 < length x) (sym h.2) (by (nullable f) (nullable g) z (λ e. filled f k1.0 e v.0 h.0 h.3) (λ e. filled g k2.0 e v.1 h.1 h.4))
  where
    by : (t u : Bool) → not (t && u) ≡ true → (not t ≡ true → 0 < length h.0) → (not u ≡ true → 0 < length h.1) → 0 < length (h.0 ++ h.1)
    by false u e x y = some_front h.0 h.1 (x refl)
    by true false e x y = some_back h.0 h.1 (y refl)
    by true true e x y = cc
filled (made m f) k z v s h = filled f k z h.0 s h.2
filled (either w f g) k z v s (inl h) = subst (λ x. 0 < length x) (sym h.1) (some_word w h.0 (and_parts (not (is_empty w)) _ k).0)
filled (either w f g) k z v s (inr h) = filled g (and_parts (is_clear g) _ (and_parts (is_clear f) _ (and_parts (not (is_empty w)) _ k).1).1).0 z v s h
filled (by_first p f g) k z v s (inl h) =
    let k1 = and_parts (is_clear f) _ k in
    filled f k1.0 (and_parts (not (nullable f)) _ (and_parts (is_clear g) _ k1.1).1).0 v s h
filled (by_first p f g) k z v s (inr h) = filled g (and_parts (is_clear g) _ (and_parts (is_clear f) _ k).1).0 z v s h
filled (list {A = X} f) k z v s h =
    let k1 = and_parts (is_clear f) _ k in
    let k2 = and_parts (not (nullable f)) _ k1.1 in
    by h (λ a s x. filled f k1.0 k2.0 a s x)
  where
    by : {all : List X} {u : Text} → SpellsList (Spells f) all u → ((a : X) (s : Text) → Spells f a s → 0 < length s) → 0 < length u
    by (last {a = a} {s = s} x) rule = rule a s x
    by (more {a = a} {s = s} {t = t} x y) rule = some_front s (44 ∷ t) (rule a s x)
filled (many f) k z v s h = cc
filled (a_part R p) k z v s h = cc
filled an_expr k z v s h = expr_filled h
filled a_ref k z v s h = expr_filled h
filled a_whole_ref k z v s h = expr_filled h.0
filled a_name k z v s h = let f = letter_first s h.1 in let l = ap length f.2 in omega arith
filled a_label k z v s h = h.1.1
filled some_digits k z v s h = h.1.1
filled a_number k z v s h = expr_filled h
filled a_constant k z v s h = expr_filled h
filled a_letter k z v s h = let l = ap length h.0 in omega arith

-- members one behind the other
read_many : {A : Type 0} (f : Form A) (p : Parser A) → ((a : A) (s : Text) → Spells f a s → 0 < length s) → {all : List A} {s : Text} → SpellsMany (Spells f) all s
    → ((a : A) (t u : Text) (rest : List A) → Spells f a t → SpellsMany (Spells f) rest u → length (t ++ u) ≤ length s → p (t ++ u) ≡ Some (a, u)) → (n : ℕ) (found : List A) → length s ≤ n → many_of p n found s ≡ Some (found ++ all, [])
read_many f p some none rule n found le = none_left p n found ∙ ap (λ x. Some (x, [])) (sym (append-nil found))
read_many f p some (one_more {a = a} {all = all} {s = t} {t = u} x y) rule zero found le = let l = length-append t u in let z = some a t x in absurd (omega arith)
read_many f p some (one_more {a = a} {all = all} {s = t} {t = u} x y) rule (suc n) found le =
    let l = length-append t u in
    let z = some a t x in
    one_left p n found (t ++ u) (holds (t ++ u) (some_front t u z))
    ∙ bind (p (t ++ u)) (λ a. many_of p n (found ++ a ∷ [])) a u (rule a t u all x y (omega arith))
    ∙ read_many f p some y (λ b q w rest c d few. rule b q w rest c d (omega arith)) n (found ++ a ∷ []) (omega arith)
    ∙ ap (λ x. Some (x, [])) (append_assoc found (a ∷ []) all)
  where
    holds : (i : Text) → 0 < length i → is_empty i ≡ false
    holds [] e = absurd (omega arith)
    holds (b ∷ i) e = refl

pub complete : {A : Type 0} (f : Form A) → is_clear f ≡ true → (d : ℕ) (v : A) (s r : Text) → length s < d → Spells f v s → Next (next f) r → read d f (s ++ r) ≡ Some (v, r)
complete (nothing a) k d v s r lt h n = ap (λ x. Some (a, x ++ r)) h.1 ∙ ap (λ x. Some (x, r)) (sym h.0)
complete (after w f) k d v s r lt h n =
    let l = length-append w h.0 in
    let m = ap length h.1 in
    ap (read d (after w f)) (ap (λ x. x ++ r) h.1 ∙ append_assoc w h.0 r)
    ∙ word_read w (h.0 ++ r) (read d f)
    ∙ complete f (and_parts (not (is_empty w)) _ k).1 d v h.0 r (omega arith) h.2 n
complete (before f w) k d v s r lt h n =
    let l = length-append h.0 w in
    let m = ap length h.1 in
    let k0 = and_parts (not (is_empty w)) _ k in
    let k1 = and_parts (is_clear f) _ k0.1 in
    let k2 = and_parts (not (nullable f)) _ k1.1 in
    ap (read d (before f w)) (ap (λ x. x ++ r) h.1 ∙ append_assoc h.0 w r)
    ∙ bind (read d f (h.0 ++ (w ++ r))) (λ a. expect_word w >> pure a) v (w ++ r) (complete f k1.0 d v h.0 (w ++ r) (omega arith) h.2 (starting w k0.0 k2.1))
    ∙ word_read w r (pure v)
  where
    starting : (w : Text) → not (is_empty w) ≡ true → next f (head w) ≡ true → Next (next f) (w ++ r)
    starting [] some e = cc
    starting (c ∷ w) some e = e
complete (past w f) k d v s r lt (inl h) n =
    let l = length-append w h.0 in
    let m = ap length h.1 in
    let k1 = and_parts (is_clear f) _ (and_parts (not (is_empty w)) _ k).1 in
    ap (read d (past w f)) (ap (λ x. x ++ r) h.1 ∙ append_assoc w h.0 r)
    ∙ ap (read d f) (eaten w (h.0 ++ r))
    ∙ complete f k1.0 d v h.0 r (omega arith) h.2 n
  where
    eaten : (w i : Text) → after_word w (w ++ i) ≡ i
    eaten w i = rw (begins_own w i) (drop_all w i)
complete (past w f) k d v s r lt (inr h) n =
    let k0 = and_parts (not (is_empty w)) _ k in
    let k1 = and_parts (is_clear f) _ k0.1 in
    let k2 = and_parts (not (nullable f)) _ k1.1 in
    ap (read d f) (left w (s ++ r) (missing w k0.0 k1.0 k2.0 k2.1))
    ∙ complete f k1.0 d v s r lt h n
  where
    left : (w i : Text) → begins w i ≡ false → after_word w i ≡ i
    left w i e = rw e refl

    missing : (x : Text) → not (is_empty x) ≡ true → is_clear f ≡ true → not (nullable f) ≡ true → list_all (λ c. not (c == head x)) (firsts f) ≡ true → begins x (s ++ r) ≡ false
    missing [] some kf kn e = cc
    missing (b ∷ x) some kf kn e = elsewhere b x (s ++ r) (firsts_next f (λ c. not (c == b)) kf e v s r h (never (nullable f) kn))
complete (pair f g) k d v s r lt h n =
    let l = length-append h.0 h.1 in
    let m = ap length h.2 in
    let k1 = and_parts (is_clear f) _ k in
    let k2 = and_parts (is_clear g) _ k1.1 in
    ap (read d (pair f g)) (ap (λ x. x ++ r) h.2 ∙ append_assoc h.0 h.1 r)
    ∙ bind (read d f (h.0 ++ (h.1 ++ r))) (λ a. read d g >>= (λ b. pure (a, b))) v.0 (h.1 ++ r) (complete f k1.0 d v.0 h.0 (h.1 ++ r) (omega arith) h.3 (fits f g k2.0 k2.1 v.1 h.1 r h.4 n))
    ∙ bind (read d g (h.1 ++ r)) (λ b. pure (v.0, b)) v.1 r (complete g k2.0 d v.1 h.1 r (omega arith) h.4 (next_weak (next (pair f g)) (next g) (λ c w. (and_parts (next g c) _ w).0) r n))
complete (made m f) k d v s r lt h n =
    bind (read d f (s ++ r)) (λ a. pure (m a)) h.0 r (complete f k d h.0 s r lt h.2 n) ∙ ap (λ x. Some (x, r)) (sym h.1)
complete (either w f g) k d v s r lt (inl h) n =
    let l = length-append w h.0 in
    let m = ap length h.1 in
    let k1 = and_parts (is_clear f) _ (and_parts (not (is_empty w)) _ k).1 in
    ap (read d (either w f g)) (ap (λ x. x ++ r) h.1 ∙ append_assoc w h.0 r)
    ∙ word_eaten w (h.0 ++ r) (λ found. if found then read d f else read d g)
    ∙ complete f k1.0 d v h.0 r (omega arith) h.2 (next_weak (next (either w f g)) (next f) (λ c w. (and_parts (next f c) _ w).0) r n)
complete (either w f g) k d v s r lt (inr h) n =
    let k0 = and_parts (not (is_empty w)) _ k in
    let k1 = and_parts (is_clear f) _ k0.1 in
    let k2 = and_parts (is_clear g) _ k1.1 in
    let ng = next_weak (next (either w f g)) (next g) (λ c q. (and_parts (next g c) _ (and_parts (next f c) _ q).1).0) r n in
    word_left w (s ++ r) (λ found. if found then read d f else read d g) (avoided w g k0.0 k2.1 k2.0 v s r h ng (λ z. behind (nullable g) refl z))
    ∙ complete g k2.0 d v s r lt h ng
  where
    behind : (t : Bool) → nullable g ≡ t → t ≡ true → Next (λ c. not (c == head w)) r
    behind false e z = cc
    behind true e z = next_weak (next (either w f g)) (λ c. not (c == head w)) (λ c q. let q2 : (if nullable g then not (c == head w) else true) ≡ true = (and_parts (next g c) _ (and_parts (next f c) _ q).1).1 in (rw e at q2)) r n
complete (by_first p f g) k d v s r lt (inl h) n =
    let k1 = and_parts (is_clear f) _ k in
    let k2 = and_parts (is_clear g) _ k1.1 in
    let k3 = and_parts (not (nullable f)) _ k2.1 in
    let k4 = and_parts (list_all p (firsts f)) _ k3.1 in
    by (passes p (s ++ r)) (found s (filled f k1.0 k3.0 v s h) (firsts_next f p k1.0 k4.0 v s r h (never (nullable f) k3.0)))
    ∙ complete f k1.0 d v s r lt h (next_weak (next (by_first p f g)) (next f) (λ c w. (and_parts (next f c) _ w).0) r n)
  where
    found : (s : Text) → 0 < length s → Next p (s ++ r) → passes p (s ++ r) ≡ true
    found [] e x = absurd (omega arith)
    found (c ∷ s) e x = x

    by : (t : Bool) → t ≡ true → (if t then read d f (s ++ r) else read d g (s ++ r)) ≡ read d f (s ++ r)
    by true e = refl
    by false e = cc
complete (by_first p f g) k d v s r lt (inr h) n =
    let k1 = and_parts (is_clear f) _ k in
    let k2 = and_parts (is_clear g) _ k1.1 in
    let k3 = and_parts (not (nullable f)) _ k2.1 in
    let k4 = and_parts (list_all p (firsts f)) _ k3.1 in
    by (passes p (s ++ r)) (fails p (s ++ r) (firsts_next g (λ c. not (p c)) k2.0 k4.1 v s r h (λ z. behind (nullable g) refl z)))
    ∙ complete g k2.0 d v s r lt h (next_weak (next (by_first p f g)) (next g) (λ c q. (and_parts (next g c) _ (and_parts (next f c) _ q).1).0) r n)
  where
    by : (t : Bool) → t ≡ false → (if t then read d f (s ++ r) else read d g (s ++ r)) ≡ read d g (s ++ r)
    by true e = cc
    by false e = refl

    behind : (t : Bool) → nullable g ≡ t → t ≡ true → Next (λ c. not (p c)) r
    behind false e z = cc
    behind true e z = next_weak (next (by_first p f g)) (λ c. not (p c)) (λ c q. let q2 : (if nullable g then not (p c) else true) ≡ true = (and_parts (next g c) _ (and_parts (next f c) _ q).1).1 in (rw e at q2)) r n
complete (list {A = X} f) k d v s r lt h n =
    let k1 = and_parts (is_clear f) _ k in
    let k2 = and_parts (not (nullable f)) _ k1.1 in
    list_read (read d f) v (s ++ r) r (by h lt (λ a t u few x w. complete f k1.0 d a t u few x w) k2.1 n)
  where
    by : {all : List X} {u : Text} → SpellsList (Spells f) all u → length u < d → ((a : X) (t u : Text) → length t < d → Spells f a t → Next (next f) u → read d f (t ++ u) ≡ Some (a, u)) → next f 44 ≡ true → Next (λ c. next f c && not (c == 44)) r
        → ReadsList (read d f) all (u ++ r) r
    by (last {a = a} {s = t} x) few rule comma n =
        let l = length-append t r in (
          a,
          r,
          rule a t r few x (next_weak (λ c. next f c && not (c == 44)) (next f) (λ c w. (and_parts (next f c) _ w).0) r n),
          omega arith,
          λ m found enough. no_comma (read d f) m (found ++ a ∷ []) r (unseen 44 r (next_weak (λ c. next f c && not (c == 44)) (λ c. not (c == 44)) (λ c w. (and_parts (next f c) _ w).1) r n)),
        )
    by (more {a = a} {all = all} {s = t} {t = u} x y) few rule comma n =
        let l = length-append t (44 ∷ u) in
        subst (λ z. ReadsList (read d f) (a ∷ all) z r) (sym (append_assoc t (44 ∷ u) r))
        (read_more (read d f) a all t (u ++ r) r (rule a t (44 ∷ (u ++ r)) (omega arith) x comma) (by y (omega arith) rule comma n))
complete (many {A = X} f) k d v s (c ∷ r) lt h n = cc
complete (many {A = X} f) k d v s [] lt h n =
    let k1 = and_parts (is_clear f) _ k in
    let k2 = and_parts (not (nullable f)) _ k1.1 in
    ap (λ x. many_of (read d f) (length x) [] x) (append-nil s)
    ∙ read_many f (read d f) (λ a t x. filled f k1.0 k2.0 a t x) h (λ a t u rest x y few. let l = length-append t u in complete f k1.0 d a t u (omega arith) x (follows rest u y k1.0 k2.0 k2.1)) (length s) [] (omega arith)
  where
    follows : (rest : List X) (u : Text) → SpellsMany (Spells f) rest u → is_clear f ≡ true → not (nullable f) ≡ true → list_all (next f) (firsts f) ≡ true → Next (next f) u
    follows _ _ none k1 k2 k3 = tt
    follows _ _ (one_more {a = a} {s = t} {t = w} x y) k1 k2 k3 = firsts_next f (next f) k1 k3 a t w x (never (nullable f) k2)
complete (a_part R p) k d v s r lt h n = cc
complete an_expr k d v s r lt h n = read_expr d v s r lt h n
complete a_ref k d v s r lt h n = read_ref d v s r lt h n
complete a_whole_ref k d v s r lt h n =
    bind (and_then (reference (expr_within d) (s ++ r)) ref_of) whole_of v r (read_ref d v s r lt h.0 n) ∙ (rw h.1 refl)
complete a_name k d v s r lt h n = read_name s r h.1 n ∙ ap (λ x. Some (x, r)) (sym h.0)
complete a_label k d v s r lt h n = read_label s r h.1 h.2 n ∙ ap (λ x. Some (x, r)) (sym h.0)
complete some_digits k d v s r lt h n = read_short s r h.1 h.2 n ∙ ap (λ x. Some (x, r)) (sym h.0)
complete a_number k d v s r lt h n = read_number v s r h n
complete a_constant k d v s r lt h n = read_constant v s r h n
complete a_letter k d v s r lt h n = ap (λ x. letter (x ++ r)) h.0 ∙ read_letter v r h.1

got : {A : Type 0} → A → Outcome A → A
got a (Some p) = p.0
got a None = a

-- a text has one tree
pub one_tree : {A : Type 0} (f : Form A) → is_clear f ≡ true → (v w : A) (s : Text) → Spells f v s → Spells f w s → v ≡ w
unfolding got
one_tree f k v w s h g =
    let d = suc (length s) in
    ap (got v) (sym (complete f k d v s [] (omega arith) h tt) ∙ complete f k d w s [] (omega arith) g tt)

-- ---- what is read is spelled

-- the text begins with one of the tree, before the rest
abbrev pub Front : {A : Type 0} → Form A → Text → A → Text → Type 0
Front f i v r = (s : Text) × (i ≡ s ++ r) × Spells f v s

pub word_sound : (w i : Text) → Holds {A = Unit {0}} (λ u r. i ≡ w ++ r) (expect_word w i)
word_sound w i = by (begins w i) refl
  where
    by : (t : Bool) → begins w i ≡ t → Holds {A = Unit {0}} (λ u r. i ≡ w ++ r) (if t then Some (tt {0}, drop (length w) i) else None)
    by true e = begins_splits w i e
    by false e = tt

-- one member more of a list
adds : {A : Type 0} (R : A → Text → Type 0) (found : List A) (a : A) (s t : Text) → SpellsList R found s → R a t → SpellsList R (found ++ a ∷ []) (s ++ 44 ∷ t)
adds R _ a _ t (last h) g = more h (last g)
adds R _ a _ t (more {a = b} {all = all} {s = s} {t = u} h k) g = subst (SpellsList R (b ∷ (all ++ a ∷ []))) (sym (append_assoc s (44 ∷ u) (44 ∷ t))) (more h (adds R all a u t k g))

-- one more, behind those that were found
joins : {A : Type 0} (R : A → Text → Type 0) (found : List A) (a : A) (s t : Text) → SpellsMany R found s → R a t → SpellsMany R (found ++ a ∷ []) (s ++ t)
joins R _ a _ t none g = subst (SpellsMany R (a ∷ [])) (append-nil t) (one_more g none)
joins R _ a _ t (one_more {a = b} {all = all} {s = s} {t = u} h k) g = subst (SpellsMany R (b ∷ (all ++ a ∷ []))) (sym (append_assoc s u t)) (one_more h (joins R all a u t k g))

abbrev Grows : {A : Type 0} → (A → Text → Type 0) → Text → Text → List A → Text → Type 0
Grows R s i all r = (t : Text) × (s ++ i ≡ t ++ r) × SpellsList R all t

more_sound : {A : Type 0} (R : A → Text → Type 0) (p : Parser A) → ((i : Text) → Holds (λ a r. (s : Text) × (i ≡ s ++ r) × R a s) (p i)) → (n : ℕ) (found : List A) (s i : Text) → SpellsList R found s → Holds (Grows R s i) (more_of p n found i)
unfolding more_of
more_sound R p sound zero found s i h = (s, refl, h)
more_sound {A = A} R p sound (suc n) found s i h = eats 44 i (λ comma. if comma then (p >>= (λ a. more_of p n (found ++ a ∷ []))) else pure found) (Grows R s i)
    (λ j c. holds_bind (p j) (λ a. more_of p n (found ++ a ∷ [])) (λ a r. (s : Text) × (j ≡ s ++ r) × R a s) (Grows R s i) (sound j) (λ a r x.
    holds_weak (more_of p n (found ++ a ∷ []) r) (Grows R (s ++ 44 ∷ x.0) r) (Grows R s i) (more_sound R p sound n (found ++ a ∷ []) (s ++ 44 ∷ x.0) r (adds R found a s x.0 h x.2))
    (λ all q w. (w.0, ap (λ z. s ++ z) (c ∙ ap (λ z. 44 ∷ z) x.1) ∙ sym (append_assoc s (44 ∷ x.0) r) ∙ w.1, w.2))))
    (s, refl, h)

list_sound : {A : Type 0} (R : A → Text → Type 0) (p : Parser A) → ((i : Text) → Holds (λ a r. (s : Text) × (i ≡ s ++ r) × R a s) (p i)) → (i : Text) → Holds (λ all r. (s : Text) × (i ≡ s ++ r) × SpellsList R all s) (list_of p i)
list_sound R p sound i = holds_bind (p i) (λ a. λ i. more_of p (length i) (a ∷ []) i) (λ a r. (s : Text) × (i ≡ s ++ r) × R a s) (λ all r. (s : Text) × (i ≡ s ++ r) × SpellsList R all s) (sound i) (λ a r x.
    holds_weak (more_of p (length r) (a ∷ []) r) (Grows R x.0 r) (λ all r. (s : Text) × (i ≡ s ++ r) × SpellsList R all s) (more_sound R p sound (length r) (a ∷ []) x.0 r (last x.2)) (λ all q w. (w.0, x.1 ∙ w.1, w.2)))

abbrev GrowsMany : {A : Type 0} → (A → Text → Type 0) → Text → Text → List A → Text → Type 0
GrowsMany R s i all r = (t : Text) × (s ++ i ≡ t ++ r) × SpellsMany R all t

many_sound : {A : Type 0} (R : A → Text → Type 0) (p : Parser A) → ((i : Text) → Holds (λ a r. (s : Text) × (i ≡ s ++ r) × R a s) (p i)) → (n : ℕ) (found : List A) (s i : Text) → SpellsMany R found s → Holds (GrowsMany R s i) (many_of p n found i)
unfolding many_of
many_sound R p sound zero found s i h = (s, refl, h)
many_sound {A = A} R p sound (suc n) found s i h = by (is_empty i)
    (holds_bind (p i) (λ a. many_of p n (found ++ a ∷ [])) (λ a r. (s : Text) × (i ≡ s ++ r) × R a s) (GrowsMany R s i) (sound i) (λ a r x.
    holds_weak (many_of p n (found ++ a ∷ []) r) (GrowsMany R (s ++ x.0) r) (GrowsMany R s i) (many_sound R p sound n (found ++ a ∷ []) (s ++ x.0) r (joins R found a s x.0 h x.2))
    (λ all q w. (w.0, ap (λ z. s ++ z) x.1 ∙ sym (append_assoc s x.0 r) ∙ w.1, w.2))))
  where
    by : (t : Bool) → Holds (GrowsMany R s i) (and_then (p i) (λ a. many_of p n (found ++ a ∷ []))) → Holds (GrowsMany R s i) (if◌then◌else◌ {A = Outcome (List A)} t (Some (found, i)) (and_then (p i) (λ a. many_of p n (found ++ a ∷ []))))
    by true rest = (s, refl, h)
    by false rest = rest

pub sound : {A : Type 0} (f : Form A) → is_clear f ≡ true → (d : ℕ) (i : Text) → Holds (Front f i) (read d f i)
sound (nothing a) k d i = ([], refl, (refl, refl))
sound (after w f) k d i = holds_bind (expect_word w i) (λ _. read d f) (λ u r. i ≡ w ++ r) (Front (after w f) i) (word_sound w i) (λ u j e.
    holds_weak (read d f j) (Front f j) (Front (after w f) i) (sound f (and_parts (not (is_empty w)) _ k).1 d j) (λ v r x. (w ++ x.0, e ∙ ap (λ z. w ++ z) x.1 ∙ sym (append_assoc w x.0 r), (x.0, refl, x.2))))
sound (before f w) k d i = holds_bind (read d f i) (λ a. expect_word w >> pure a) (Front f i) (Front (before f w) i) (sound f (and_parts (is_clear f) _ (and_parts (not (is_empty w)) _ k).1).0 d i) (λ v j x.
    holds_bind (expect_word w j) (λ _. pure v) (λ u r. j ≡ w ++ r) (Front (before f w) i) (word_sound w j) (λ u r e. (x.0 ++ w, x.1 ∙ ap (λ z. x.0 ++ z) e ∙ sym (append_assoc x.0 w r), (x.0, refl, x.2))))
sound (past w f) k d i = by (begins w i) refl
    (λ e. holds_weak (read d f (drop (length w) i)) (Front f (drop (length w) i)) (Front (past w f) i) (sound f (and_parts (is_clear f) _ (and_parts (not (is_empty w)) _ k).1).0 d (drop (length w) i)) (λ v r x. (w ++ x.0, begins_splits w i e ∙ ap (λ z. w ++ z) x.1 ∙ sym (append_assoc w x.0 r), inl (x.0, refl, x.2))))
    (holds_weak (read d f i) (Front f i) (Front (past w f) i) (sound f (and_parts (is_clear f) _ (and_parts (not (is_empty w)) _ k).1).0 d i) (λ v r x. (x.0, x.1, inr x.2)))
  where
    by : (t : Bool) → begins w i ≡ t → (begins w i ≡ true → Holds (Front (past w f) i) (read d f (drop (length w) i))) → Holds (Front (past w f) i) (read d f i) → Holds (Front (past w f) i) (read d f (if t then drop (length w) i else i))
    by true e x y = x e
    by false e x y = y
sound (pair f g) k d i = holds_bind (read d f i) (λ a. read d g >>= (λ b. pure (a, b))) (Front f i) (Front (pair f g) i) (sound f (and_parts (is_clear f) _ k).0 d i) (λ a j x.
    holds_bind (read d g j) (λ b. pure (a, b)) (Front g j) (Front (pair f g) i) (sound g (and_parts (is_clear g) _ (and_parts (is_clear f) _ k).1).0 d j) (λ b k y.
    (x.0 ++ y.0, x.1 ∙ ap (λ z. x.0 ++ z) y.1 ∙ sym (append_assoc x.0 y.0 k), (x.0, y.0, refl, x.2, y.2))))
sound (made m f) k d i = holds_bind (read d f i) (λ a. pure (m a)) (Front f i) (Front (made m f) i) (sound f k d i) (λ a j x. (x.0, x.1, (a, refl, x.2)))
sound (either w f g) k d i = eats_word w i (λ found. if found then read d f else read d g) (Front (either w f g) i)
    (λ j e. holds_weak (read d f j) (Front f j) (Front (either w f g) i) (sound f (and_parts (is_clear f) _ (and_parts (not (is_empty w)) _ k).1).0 d j) (λ v r x. (w ++ x.0, e ∙ ap (λ z. w ++ z) x.1 ∙ sym (append_assoc w x.0 r), inl (x.0, refl, x.2))))
    (holds_weak (read d g i) (Front g i) (Front (either w f g) i) (sound g (and_parts (is_clear g) _ (and_parts (is_clear f) _ (and_parts (not (is_empty w)) _ k).1).1).0 d i) (λ v r x. (x.0, x.1, inr x.2)))
sound {A = A} (by_first p f g) k d i = by (passes p i)
    (holds_weak (read d f i) (Front f i) (Front (by_first p f g) i) (sound f (and_parts (is_clear f) _ k).0 d i) (λ v r x. (x.0, x.1, inl x.2)))
    (holds_weak (read d g i) (Front g i) (Front (by_first p f g) i) (sound g (and_parts (is_clear g) _ (and_parts (is_clear f) _ k).1).0 d i) (λ v r x. (x.0, x.1, inr x.2)))
  where
    by : (t : Bool) → Holds (Front (by_first p f g) i) (read d f i) → Holds (Front (by_first p f g) i) (read d g i) → Holds (Front (by_first p f g) i) (if◌then◌else◌ {A = Outcome A} t (read d f i) (read d g i))
    by true x y = x
    by false x y = y
sound (list f) k d i = list_sound (Spells f) (read d f) (sound f (and_parts (is_clear f) _ k).0 d) i
sound (many f) k d i = many_sound (Spells f) (read d f) (sound f (and_parts (is_clear f) _ k).0 d) (length i) [] [] i none
sound (a_part R p) k d i = cc
sound an_expr k d i = within_sound d i
sound a_ref k d i = ref_sound d i
sound a_whole_ref k d i = holds_bind (and_then (reference (expr_within d) i) ref_of) whole_of (Front a_ref i) (Front a_whole_ref i) (ref_sound d i) (λ v r x. by v r x (is_none ((out-Ref v).part)) refl)
  where
    by : (v : Ref) (r : Text) → Front a_ref i v r → (t : Bool) → is_none ((out-Ref v).part) ≡ t → Holds (Front a_whole_ref i) ((if◌then◌else◌ {A = Parser Ref} t (pure v) refuse) r)
    by v r x true e = (x.0, x.1, (x.2, e))
    by v r x false e = tt
sound a_name k d i = holds_weak (name i) (λ n r. (i ≡ n ++ r) × IsName n) (Front a_name i) (name_sound i) (λ n r x. (n, x.0, (refl, x.1)))
sound a_label k d i = label_sound i
sound some_digits k d i = short_sound i
sound a_number k d i = number_is_sound i
sound a_constant k d i = constant_is_sound i
sound a_letter k d i = letter_sound i
