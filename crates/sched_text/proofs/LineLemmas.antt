-- Lemmas on how a text is cut.
use Rattle.std.proofs.Common.{◌≡◌, ◌≢◌, ℕ, suc, ◌<◌, ◌≤◌, false, ◌==◌, List, [], ◌∷◌, ◌++◌, length, get_or, if◌then◌else◌, refl, sym, ap, ◌∙◌, arith, take, drop, length-drop}
use Rattle.std.specs.List.{IsFirstAndRest, slice_split, All}
use Rattle.std.specs.Str.Lines.{lines, lines_of_parts, strip_carriage_return}
use Rattle.std.proofs.lemmas.List.{take-append-drop, length-take-le, get_or-take, get_or_default}
use Rattle.std.proofs.lemmas.List.Splits.{slice_split_none, slice_split_at, length-slice_split}
use Rattle.std.proofs.Math.Seq.{take-length, drop-cons}
use Rattle.std.proofs.lemmas.Bool.{ne_eqb, eq-eqb}

-- this byte is none of these
abbrev pub HasNo : ℕ → List ℕ → Type 0
HasNo sign bytes = (k : ℕ) → k < length bytes → get_or bytes k 0 ≢ sign

no_other : (sign : ℕ) (bytes : List ℕ) → HasNo sign bytes → All (λ b. (b == sign) ≡ false) bytes
no_other sign bytes h k d l = ne_eqb (get_or bytes k d) sign (λ e. h k l (sym (get_or_default bytes k d 0 l) ∙ e))

-- ---- the first part

pub all_of : (sign : ℕ) (bytes before after : List ℕ) (n : ℕ) → ((k : ℕ) → k < n → get_or bytes k 0 ≢ sign) → n ≤ length bytes → before ≡ take n bytes → after ≡ drop n bytes → length after ≡ 0 → before ≡ bytes
all_of sign bytes before after n none within b a empty =
    let e : n ≡ length bytes = omega (arith, ap length a, length-drop n bytes) in
    b ∙ ap (λ m. take m bytes) e ∙ take-length bytes

pub one_part : (sign : ℕ) (bytes before after : List ℕ) (n : ℕ) → ((k : ℕ) → k < n → get_or bytes k 0 ≢ sign) → n ≤ length bytes → before ≡ take n bytes → after ≡ drop n bytes → length after ≡ 0 → slice_split (λ b. b == sign) bytes ≡ before ∷ []
one_part sign bytes before after n none within b a empty =
    let e : n ≡ length bytes = omega (arith, ap length a, length-drop n bytes) in
    slice_split_none (λ b. b == sign) bytes (no_other sign bytes (λ k h. none k (omega arith))) ∙ ap (λ z. z ∷ []) (sym (all_of sign bytes before after n none within b a empty))

pub first_part : (sign : ℕ) (bytes before after rest : List ℕ) (n found : ℕ) → ((k : ℕ) → k < n → get_or bytes k 0 ≢ sign) → n ≤ length bytes → (n < length bytes → get_or bytes n 0 ≡ sign) → before ≡ take n bytes → after ≡ drop n bytes → IsFirstAndRest after found rest → slice_split (λ b. b == sign) bytes ≡ before ∷ slice_split (λ b. b == sign) rest
first_part sign bytes before after rest n found none within is_sign b a first =
    let more : n < length bytes = omega (arith, ap length a, length-drop n bytes, first.1) in
    let here : drop n bytes ≡ sign ∷ drop (suc n) bytes = drop-cons bytes n 0 more ∙ ap (λ b. b ∷ drop (suc n) bytes) (is_sign more) in
    let is_rest : drop (suc n) bytes ≡ rest = cc (sym first.0 ∙ a ∙ here) in
    let all : bytes ≡ before ++ sign ∷ rest = sym (take-append-drop n bytes) ∙ ap (λ z. z ++ drop n bytes) (sym b) ∙ ap (λ z. before ++ z) here ∙ ap (λ z. before ++ sign ∷ z) is_rest in
    let size : length before ≡ n = ap length b ∙ length-take-le n bytes within in
    let none_before : HasNo sign before = λ k h. let e : get_or before k 0 ≡ get_or bytes k 0 = ap (λ z. get_or z k 0) b ∙ get_or-take n bytes k 0 (omega arith) in λ g. none k (omega arith) (sym e ∙ g) in
    ap (slice_split (λ b. b == sign)) all
    ∙ slice_split_at (λ b. b == sign) before sign rest (no_other sign before none_before) (eq-eqb sign sign refl)

-- ---- the first line

parts_cons : (x : List ℕ) (parts : List (List ℕ)) → 0 < length parts → lines_of_parts (x ∷ parts) ≡ strip_carriage_return x ∷ lines_of_parts parts
parts_cons x [] h = absurd (omega arith)
parts_cons x (y ∷ more) h = refl

filled : (x : List ℕ) → x ≢ [] → (length x == 0) ≡ false
filled [] h = absurd (h refl)
filled (b ∷ x) h = ne_eqb (length (b ∷ x)) 0 (λ e. omega arith)

pub only_line : (text line : List ℕ) → text ≢ [] → line ≡ text → slice_split (λ b. b == 10) text ≡ line ∷ [] → lines text ≡ line ∷ lines []
only_line text line some same parts =
    ap lines_of_parts parts ∙ ap (λ t. if t then [] else line ∷ []) (filled line (λ e. some (sym same ∙ e)))

pub first_line : (text line rest : List ℕ) → slice_split (λ b. b == 10) text ≡ line ∷ slice_split (λ b. b == 10) rest → lines text ≡ strip_carriage_return line ∷ lines rest
first_line text line rest parts =
    ap lines_of_parts parts
    ∙ parts_cons line (slice_split (λ b. b == 10) rest) (omega (arith, length-slice_split (λ b. b == 10) rest))
