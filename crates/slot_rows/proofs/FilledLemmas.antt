-- Lemmas on the list of the words that have a mark.
use Rattle.std.proofs.Common.{◌≡◌, ◌≢◌, ℕ, zero, suc, ◌<◌, ◌≤◌, inl, inr, List, [], ◌∷◌, ◌++◌, length, get_or, if◌then◌else◌, refl, sym, ap, subst, ◌∙◌, length-append, ◌==◌, arith}
use Rattle.std.specs.Prelude.{slice_set, replicate, sum_by, not}
use Rattle.std.proofs.lemmas.Bool.{cases_eq, cases_lt, lt-ltb, eq-eqb, ne_eqb}
use Rattle.std.proofs.lemmas.List.{get_or-set_same, get_or-set_other, get_or_past}
use Rattle.std.proofs.lemmas.List.Sums.{sum_by-cons, sum_by-set, get_or-le-sum_by}
use Rattle.slot_rows.specs.Filled.{one_if_filled, AreFilled}

one_of : (w : ℕ) → 0 < w → one_if_filled w ≡ 1
one_of w h = ap (λ t. if t then 1 else 0) (lt-ltb 0 w h)

none_of : (w : ℕ) → w ≡ 0 → one_if_filled w ≡ 0
none_of w h = ap one_if_filled h

at_most_one : (w : ℕ) → one_if_filled w ≤ 1
at_most_one zero = omega arith
at_most_one (suc n) = omega (arith, one_of (suc n) (omega arith))

-- a word that isn't 0 is in the list
inside : (words : List ℕ) (k : ℕ) → 0 < get_or words k 0 → k < length words
inside words k h =
    elim (cases_lt k (length words)) [
      | inl l ↦ l
      | inr l ↦ absurd (omega (arith, h, get_or_past words k 0 l))
    ]

-- there are no more filled words than words, and fewer where one is 0
all_of : (words : List ℕ) → sum_by one_if_filled words ≤ length words
all_of [] = omega arith
all_of (w ∷ words) = omega (arith, sum_by-cons one_if_filled w words, at_most_one w, all_of words)

pub fewer : (words : List ℕ) (k : ℕ) → k < length words → get_or words k 0 ≡ 0 → sum_by one_if_filled words < length words
fewer [] k l h = absurd (omega arith)
fewer (w ∷ words) zero l h = omega (arith, sum_by-cons one_if_filled w words, none_of w h, all_of words)
fewer (w ∷ words) (suc k) l h = omega (arith, sum_by-cons one_if_filled w words, at_most_one w, fewer words k (omega arith) h)

pub room_left : (words filled : List ℕ) (k : ℕ) → AreFilled words filled → k < length words → get_or words k 0 ≡ 0 → length filled < length words
room_left words filled k f l h = omega (arith, f.counted, fewer words k l h)

-- where the list is empty, so are all words
pub none_filled : (words : List ℕ) → AreFilled words [] → (k : ℕ) → get_or words k 0 ≡ 0
none_filled words f k =
    elim (cases_lt 0 (get_or words k 0)) [
      | inl l ↦ (let within = inside words k l in absurd (omega (arith, f.counted, get_or-le-sum_by one_if_filled words k 0 within, one_of (get_or words k 0) l)))
      | inr l ↦ omega arith
    ]

zeros : (n : ℕ) → sum_by one_if_filled (replicate n 0) ≡ 0
zeros zero = refl
zeros (suc n) = omega (arith, sum_by-cons one_if_filled 0 (replicate n 0), zeros n)

pub at_first : (n : ℕ) → AreFilled (replicate n 0) []
at_first n = record {
  counted = sym (zeros n);
  marked = λ k l. absurd (omega arith);
  once = λ j k l m. absurd (omega arith);
}

-- ---- one more word

last_item : (xs : List ℕ) (x : ℕ) → get_or (xs ++ x ∷ []) (length xs) 0 ≡ x
last_item [] x = refl
last_item (y ∷ xs) x = last_item xs x

early_item : (xs : List ℕ) (x k : ℕ) → k < length xs → get_or (xs ++ x ∷ []) k 0 ≡ get_or xs k 0
early_item [] x k l = absurd (omega arith)
early_item (y ∷ xs) x zero l = refl
early_item (y ∷ xs) x (suc k) l = early_item xs x k (omega arith)

pub pushed_marked : (words filled : List ℕ) (i w : ℕ) → AreFilled words filled → i < length words → get_or words i 0 ≡ 0 → 0 < w → (k : ℕ) → k < length (filled ++ i ∷ []) → 0 < get_or (slice_set words i w) (get_or (filled ++ i ∷ []) k 0) 0
pushed_marked words filled i w f l h p k m =
    elim (cases_lt k (length filled)) [
      | inl early ↦ (
          let old : 0 < get_or words (get_or filled k 0) 0 = f.marked k early in
          let other : get_or filled k 0 ≢ i = λ e. absurd (omega (arith, old, ap (λ z. get_or words z 0) e, h)) in
          omega (arith, old, ap (λ z. get_or (slice_set words i w) z 0) (early_item filled i k early), get_or-set_other words i (get_or filled k 0) w 0 other))
      | inr late ↦ (
          let e : k ≡ length filled = omega (arith, length-append filled (i ∷ [])) in
          omega (arith, p, ap (λ z. get_or (slice_set words i w) z 0) (ap (λ z. get_or (filled ++ i ∷ []) z 0) e ∙ last_item filled i), get_or-set_same words i w 0 l))
    ]

pub pushed_once : (words filled : List ℕ) (i : ℕ) → AreFilled words filled → get_or words i 0 ≡ 0 → (j k : ℕ) → j < k → k < length (filled ++ i ∷ []) → get_or (filled ++ i ∷ []) j 0 ≢ get_or (filled ++ i ∷ []) k 0
pushed_once words filled i f h j k l m same =
    let early : j < length filled = omega (arith, length-append filled (i ∷ [])) in
    elim (cases_lt k (length filled)) [
      | inl both ↦ f.once j k l both (sym (early_item filled i j early) ∙ same ∙ early_item filled i k both)
      | inr late ↦ (
          let e : k ≡ length filled = omega (arith, length-append filled (i ∷ [])) in
          let is : get_or filled j 0 ≡ i = sym (early_item filled i j early) ∙ same ∙ ap (λ z. get_or (filled ++ i ∷ []) z 0) e ∙ last_item filled i in
          absurd (omega (arith, f.marked j early, ap (λ z. get_or words z 0) is, h)))
    ]

-- a word that had no mark gets one
pub fill : (words filled : List ℕ) (i w : ℕ) → AreFilled words filled → i < length words → get_or words i 0 ≡ 0 → 0 < w → AreFilled (slice_set words i w) (filled ++ i ∷ [])
fill words filled i w f l h p = record {
  counted = omega (arith, f.counted, length-append filled (i ∷ []), sum_by-set one_if_filled words i w 0 l, none_of (get_or words i 0) h, one_of w p);
  marked = pushed_marked words filled i w f l h p;
  once = pushed_once words filled i f h;
}

-- a word that has a mark gets another, or keeps one
pub refill_marked : (words filled : List ℕ) (i w : ℕ) → AreFilled words filled → 0 < get_or words i 0 → 0 < w → (k : ℕ) → k < length filled → 0 < get_or (slice_set words i w) (get_or filled k 0) 0
refill_marked words filled i w f h p k m =
    elim (cases_eq (get_or filled k 0) i) [
      | inl e ↦ omega (arith, p, ap (λ z. get_or (slice_set words i w) z 0) e, get_or-set_same words i w 0 (inside words i h))
      | inr e ↦ omega (arith, f.marked k m, get_or-set_other words i (get_or filled k 0) w 0 e)
    ]

pub refill : (words filled : List ℕ) (i w : ℕ) → AreFilled words filled → 0 < get_or words i 0 → 0 < w → AreFilled (slice_set words i w) filled
refill words filled i w f h p = record {
  counted = omega (arith, f.counted, sum_by-set one_if_filled words i w 0 (inside words i h), one_of (get_or words i 0) h, one_of w p);
  marked = refill_marked words filled i w f h p;
  once = f.once;
}

-- the last of the list is a word with a mark, and loses all
pub last_marked : (words filled : List ℕ) (i : ℕ) → AreFilled words (filled ++ i ∷ []) → 0 < get_or words i 0
last_marked words filled i f =
    omega (arith, f.marked (length filled) (omega (arith, length-append filled (i ∷ []))), ap (λ z. get_or words z 0) (last_item filled i))

pub last_inside : (words filled : List ℕ) (i : ℕ) → AreFilled words (filled ++ i ∷ []) → i < length words
last_inside words filled i f = inside words i (last_marked words filled i f)

popped_marked : (words filled : List ℕ) (i : ℕ) → AreFilled words (filled ++ i ∷ []) → (k : ℕ) → k < length filled → 0 < get_or (slice_set words i 0) (get_or filled k 0) 0
popped_marked words filled i f k m =
    let size = length-append filled (i ∷ []) in
    let differs : get_or filled k 0 ≢ i = λ e. f.once k (length filled) m (omega (arith, size)) (early_item filled i k m ∙ e ∙ sym (last_item filled i)) in
    omega (arith, f.marked k (omega (arith, size)), ap (λ z. get_or words z 0) (early_item filled i k m), get_or-set_other words i (get_or filled k 0) 0 0 differs)

popped_once : (words filled : List ℕ) (i : ℕ) → AreFilled words (filled ++ i ∷ []) → (j k : ℕ) → j < k → k < length filled → get_or filled j 0 ≢ get_or filled k 0
popped_once words filled i f j k l m same =
    f.once j k l (omega (arith, length-append filled (i ∷ []))) (early_item filled i j (omega arith) ∙ same ∙ sym (early_item filled i k m))

pub unfill : (words filled : List ℕ) (i : ℕ) → AreFilled words (filled ++ i ∷ []) → AreFilled (slice_set words i 0) filled
unfill words filled i f = record {
  counted = omega (arith, f.counted, length-append filled (i ∷ []), sum_by-set one_if_filled words i 0 0 (last_inside words filled i f), one_of (get_or words i 0) (last_marked words filled i f));
  marked = popped_marked words filled i f;
  once = popped_once words filled i f;
}

-- ---- by the word itself

pub fill_if : (words filled after : List ℕ) (i w : ℕ) → AreFilled words filled → i < length words → 0 < w → after ≡ (if get_or words i 0 == 0 then filled ++ i ∷ [] else filled) → AreFilled (slice_set words i w) after
fill_if words filled after i w f l p e =
    elim (cases_eq (get_or words i 0) 0) [
      | inl h ↦ subst (AreFilled (slice_set words i w)) (ap (λ t. if t then filled ++ i ∷ [] else filled) (sym (eq-eqb (get_or words i 0) 0 h)) ∙ sym e) (fill words filled i w f l h p)
      | inr h ↦ subst (AreFilled (slice_set words i w)) (ap (λ t. if t then filled ++ i ∷ [] else filled) (sym (ne_eqb (get_or words i 0) 0 h)) ∙ sym e) (refill words filled i w f (omega arith) p)
    ]

pub unfill_if : (words filled after : List ℕ) (i w : ℕ) → AreFilled words (filled ++ i ∷ []) → after ≡ (if not (w == 0) then filled ++ i ∷ [] else filled) → AreFilled (slice_set words i w) after
unfill_if words filled after i w f e =
    elim (cases_eq w 0) [
      | inl h ↦ subst (AreFilled (slice_set words i w)) (ap (λ t. if not t then filled ++ i ∷ [] else filled) (sym (eq-eqb w 0 h)) ∙ sym e) (subst (λ z. AreFilled (slice_set words i z) filled) (sym h) (unfill words filled i f))
      | inr h ↦ subst (AreFilled (slice_set words i w)) (ap (λ t. if not t then filled ++ i ∷ [] else filled) (sym (ne_eqb w 0 h)) ∙ sym e) (refill words (filled ++ i ∷ []) i w f (last_marked words filled i f) (omega arith))
    ]

-- the list without its last has room for it
pub room_again : (words filled : List ℕ) (i : ℕ) → AreFilled words (filled ++ i ∷ []) → length filled < length words
room_again words filled i f = omega (arith, f.counted, length-append filled (i ∷ []), all_of words)

pub nil_of : (xs : List ℕ) → length xs ≡ 0 → xs ≡ []
nil_of [] h = refl
nil_of (x ∷ xs) h = absurd (omega arith)
