-- Lemmas on the lines of a file.
use Rattle.std.proofs.Common.{◌≡◌, ◌≢◌, ℕ, suc, ◌<◌, ◌≤◌, Bool, true, false, ◌&&◌, ◌==◌, List, [], ◌∷◌, ◌++◌, length, get_or, if◌then◌else◌, refl, sym, ap, ◌∙◌, arith, take, drop, length-drop}
use Rattle.std.specs.List.{IsFirstAndRest}
use Rattle.std.proofs.lemmas.List.{take-append-drop, length-take-le, get_or-take}
use Rattle.std.proofs.Math.Seq.{take-length, drop-length, drop-cons}
use Rattle.std.proofs.lemmas.Bool.{ne_eqb}
use Rattle.f77_cards.specs.Lines.{lines_of, line_before, without_returns, ends_here, cut, onto_first}

-- ---- a CR at the end

cons_if : (t : Bool) (b : ℕ) (u v : List ℕ) → b ∷ (if t then u else v) ≡ (if t then b ∷ u else b ∷ v)
cons_if true b u v = refl
cons_if false b u v = refl

before_push : (s : List ℕ) (x : ℕ) → line_before (s ++ x ∷ []) ≡ (if x == 13 then s else s ++ x ∷ [])
before_push [] x = refl
before_push (b ∷ []) x = cons_if (x == 13) b [] (x ∷ [])
before_push (b ∷ c ∷ s) x =
    ap (λ z. b ∷ z) (before_push (c ∷ s) x) ∙ cons_if (x == 13) b (c ∷ s) ((c ∷ s) ++ x ∷ [])

-- a line that ends in a CR
pub before_return : (line front : List ℕ) (x : ℕ) → line ≡ front ++ x ∷ [] → x ≡ 13 → front ≡ line_before line
before_return line front x e r =
    sym (ap line_before e ∙ before_push front x ∙ ap (λ y. if y == 13 then front else front ++ y ∷ []) r)

-- a line that ends in another byte
pub before_other : (line front : List ℕ) (x : ℕ) → line ≡ front ++ x ∷ [] → x ≢ 13 → line ≡ line_before line
before_other line front x e r =
    e ∙ sym (ap line_before e ∙ before_push front x ∙ ap (λ t. if t then front else front ++ x ∷ []) (ne_eqb x 13 r))

-- ---- the first line

-- no LF stands in these bytes
abbrev pub NoFeed : List ℕ → Type 0
NoFeed bytes = (k : ℕ) → k < length bytes → get_or bytes k 0 ≢ 10

no_feed_after : (b : ℕ) (bytes : List ℕ) → NoFeed (b ∷ bytes) → NoFeed bytes
no_feed_after b bytes h k l = h (suc k) (omega arith)

and_false : (t : Bool) → (t && false) ≡ false
and_false true = refl
and_false false = refl

-- the lines where the first byte is neither LF nor a CR that is dropped
other : (b : ℕ) (bytes : List ℕ) → b ≢ 10 → (b == 13 && ends_here bytes) ≡ false → lines_of (b ∷ bytes) ≡ onto_first b (lines_of bytes)
other b bytes n d =
    ap (λ t. cut (if t then without_returns bytes else b ∷ without_returns bytes)) d
    ∙ ap (λ t. if t then [] ∷ cut (without_returns bytes) else onto_first b (cut (without_returns bytes))) (ne_eqb b 10 n)

-- one byte before LF: a CR is dropped
one_by : (b : ℕ) (rest : List ℕ) (t : Bool) → b ≢ 10 → cut (if t && true then 10 ∷ without_returns rest else b ∷ 10 ∷ without_returns rest) ≡ (if t then [] else b ∷ []) ∷ lines_of rest
one_by b rest true n = refl
one_by b rest false n = ap (λ t. if t then [] ∷ [] ∷ lines_of rest else (b ∷ []) ∷ lines_of rest) (ne_eqb b 10 n)

-- the first line, where an LF stands after these bytes
pub line_cut : (front rest : List ℕ) → NoFeed front → lines_of (front ++ 10 ∷ rest) ≡ line_before front ∷ lines_of rest
line_cut [] rest h = refl
line_cut (b ∷ []) rest h = one_by b rest (b == 13) (h 0 (omega arith))
line_cut (b ∷ c ∷ front) rest h =
    other b (c ∷ front ++ 10 ∷ rest) (h 0 (omega arith)) (ap (λ t. b == 13 && t) (ne_eqb c 10 (h 1 (omega arith))) ∙ and_false (b == 13))
    ∙ ap (onto_first b) (line_cut (c ∷ front) rest (no_feed_after b (c ∷ front) h))

-- the only line, where there is no LF
pub line_whole : (bytes : List ℕ) → bytes ≢ [] → NoFeed bytes → lines_of bytes ≡ bytes ∷ []
line_whole [] some h = absurd (some refl)
line_whole (b ∷ []) some h = other b [] (h 0 (omega arith)) (and_false (b == 13))
line_whole (b ∷ c ∷ bytes) some h =
    other b (c ∷ bytes) (h 0 (omega arith)) (ap (λ t. b == 13 && t) (ne_eqb c 10 (h 1 (omega arith))) ∙ and_false (b == 13))
    ∙ ap (onto_first b) (line_whole (c ∷ bytes) (λ e. cc) (no_feed_after b (c ∷ bytes) h))

-- ---- the first line, by the place of the first LF

pub next_whole : (bytes front after : List ℕ) (n : ℕ) → bytes ≢ [] → ((k : ℕ) → k < n → get_or bytes k 0 ≢ 10) → n ≤ length bytes → front ≡ take n bytes → after ≡ drop n bytes → length after ≡ 0 → lines_of bytes ≡ front ∷ lines_of after
next_whole bytes front after n some before within f a none =
    let e : n ≡ length bytes = omega (arith, ap length a, length-drop n bytes) in
    let all : front ≡ bytes = f ∙ ap (λ m. take m bytes) e ∙ take-length bytes in
    let nil : after ≡ [] = a ∙ ap (λ m. drop m bytes) e ∙ drop-length bytes in
    line_whole bytes some (λ k h. before k (omega arith)) ∙ ap (λ z. z ∷ []) (sym all) ∙ ap (λ z. front ∷ lines_of z) (sym nil)

pub next_cut : (bytes front after rest : List ℕ) (n feed : ℕ) → ((k : ℕ) → k < n → get_or bytes k 0 ≢ 10) → n ≤ length bytes → (n < length bytes → get_or bytes n 0 ≡ 10) → front ≡ take n bytes → after ≡ drop n bytes → IsFirstAndRest after feed rest → lines_of bytes ≡ line_before front ∷ lines_of rest
next_cut bytes front after rest n feed before within is_feed f a first =
    let more : n < length bytes = omega (arith, ap length a, length-drop n bytes, first.1) in
    let here : drop n bytes ≡ 10 ∷ drop (suc n) bytes = drop-cons bytes n 0 more ∙ ap (λ b. b ∷ drop (suc n) bytes) (is_feed more) in
    let is_rest : drop (suc n) bytes ≡ rest = cc (sym first.0 ∙ a ∙ here) in
    let all : bytes ≡ front ++ 10 ∷ rest = sym (take-append-drop n bytes) ∙ ap (λ z. z ++ drop n bytes) (sym f) ∙ ap (λ z. front ++ z) here ∙ ap (λ z. front ++ 10 ∷ z) is_rest in
    let size : length front ≡ n = ap length f ∙ length-take-le n bytes within in
    ap lines_of all
    ∙ line_cut front rest (λ k h. let e : get_or front k 0 ≡ get_or bytes k 0 = ap (λ z. get_or z k 0) f ∙ get_or-take n bytes k 0 (omega arith) in λ g. before k (omega arith) (sym e ∙ g))
