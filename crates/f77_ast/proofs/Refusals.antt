-- The first of some refusals: it is the earliest, and that of two lists is the sooner one of their first ones.
use Rattle.std.proofs.Common.{◌≡◌, ℕ, suc, Bool, true, false, List, [], ◌∷◌, ◌++◌, Option, None, Some, if◌then◌else◌, refl, sym, ap, ◌∙◌, arith, get_or}
use Rattle.std.specs.Prelude.{Contains, MatchOption}
use Rattle.std.proofs.lemmas.Bool.Decides.{nat_tests}
use Rattle.std.proofs.lemmas.List.Elements.{All-cons}
use Rattle.f77_ast.specs.declared.refusal.Refusal.{Refusal}
use Rattle.f77_ast.specs.Refusal.{is_earlier, earlier_of, sooner, when, first_of, NoneIsEarlier, FirstRefusalIsEarliest, FirstOfBothIsSooner}

-- whether the first of two places, by line and code, comes before the second
abbrev comes_before : ℕ → ℕ → ℕ → ℕ → Bool
comes_before a b c d = is_earlier (record { line = a; code = b }) (record { line = c; code = d })

not_itself : (a b : ℕ) → comes_before a b a b ≡ false
not_itself a b = grind (arith, nat_tests)

not_back : (a b c d : ℕ) → comes_before a b c d ≡ true → comes_before c d a b ≡ false
not_back a b c d e = grind (arith, nat_tests)

through : (a b c d x y : ℕ) → comes_before a b c d ≡ true → comes_before x y a b ≡ true → comes_before x y c d ≡ true
through a b c d x y e f = grind (arith, nat_tests)

not_through : (a b c d x y : ℕ) → comes_before a b c d ≡ false → comes_before x y a b ≡ false → comes_before x y c d ≡ false
not_through a b c d x y e f = grind (arith, nat_tests)

-- ---- the first is the earliest

none_through : (s r : Refusal) (rs : List Refusal) → is_earlier s r ≡ false → NoneIsEarlier s rs → NoneIsEarlier r rs
none_through s r rs e h k d l = not_through s.line s.code r.line r.code (get_or rs k d).line (get_or rs k d).code e (h k d l)

none_of_none : (r : Refusal) (rs : List Refusal) → rs ≡ [] → NoneIsEarlier r rs
none_of_none r [] e k d l = absurd (omega arith)
none_of_none r (s ∷ rs) e k d l = absurd (cc)

later : (r s : Refusal) (rs : List Refusal) → Contains rs s → Contains (r ∷ rs) s
later r s rs h = (suc h.0, omega (arith, h.1), h.2)

pub first_is_earliest : FirstRefusalIsEarliest
first_is_earliest [] = refl
first_is_earliest (r ∷ rs) = by (first_of rs) (first_is_earliest rs)
  where
    chosen : (s : Refusal) → Contains rs s → NoneIsEarlier s rs → (t : Bool) → is_earlier s r ≡ t → Contains (r ∷ rs) (if t then s else r) × NoneIsEarlier (if t then s else r) (r ∷ rs)
    chosen s c n true e = (later r s rs c, All-cons (λ x. is_earlier x s ≡ false) r rs (not_back s.line s.code r.line r.code e) n)
    chosen s c n false e = ((0, omega arith, refl), All-cons (λ x. is_earlier x r ≡ false) r rs (not_itself r.line r.code) (none_through s r rs e n))

    by : (o : Option Refusal) → MatchOption o (rs ≡ []) (λ s. Contains rs s × NoneIsEarlier s rs) → Contains (r ∷ rs) (earlier_of r o) × NoneIsEarlier (earlier_of r o) (r ∷ rs)
    by None e = ((0, omega arith, refl), All-cons (λ x. is_earlier x r ≡ false) r rs (not_itself r.line r.code) (none_of_none r rs e))
    by (Some s) h = chosen s h.0 h.1 (is_earlier s r) refl

-- ---- the sooner of two

pub sooner-none : (o : Option Refusal) → sooner o None ≡ o
sooner-none None = refl
sooner-none (Some r) = refl

-- of three refusals
three : (r s t : Refusal) (b d e : Bool) → is_earlier s r ≡ b → is_earlier t s ≡ d → is_earlier t r ≡ e → earlier_of (if b then s else r) (Some t) ≡ earlier_of r (Some (if d then t else s))
three r s t true true e p q h =
    let k : is_earlier t r ≡ true = through s.line s.code r.line r.code t.line t.code p q in
    ap (λ x. if x then t else s) q ∙ sym (ap (λ x. if x then t else r) k)
three r s t true false e p q h = ap (λ x. if x then t else s) q ∙ sym (ap (λ x. if x then s else r) p)
three r s t false true e p q h = refl
three r s t false false e p q h =
    let k : is_earlier t r ≡ false = not_through s.line s.code r.line r.code t.line t.code p q in
    ap (λ x. if x then t else r) k ∙ sym (ap (λ x. if x then s else r) p)

pub sooner-assoc : (a b c : Option Refusal) → sooner (sooner a b) c ≡ sooner a (sooner b c)
sooner-assoc None b c = refl
sooner-assoc (Some r) None c = refl
sooner-assoc (Some r) (Some s) None = refl
sooner-assoc (Some r) (Some s) (Some t) = ap Some (three r s t (is_earlier s r) (is_earlier t s) (is_earlier t r) refl refl refl)

-- the first of two lists of refusals
pub first_of-append : FirstOfBothIsSooner
first_of-append [] ys = refl
first_of-append (x ∷ xs) ys =
    ap (λ o. sooner (Some x) o) (first_of-append xs ys) ∙ sym (sooner-assoc (Some x) (first_of xs) (first_of ys))

-- the first of a refusal that may be there and of others
pub first_of-when : (b : Bool) (r : Refusal) (rs : List Refusal) → first_of (when b r ++ rs) ≡ sooner (if b then Some r else None) (first_of rs)
first_of-when true r rs = refl
first_of-when false r rs = refl
