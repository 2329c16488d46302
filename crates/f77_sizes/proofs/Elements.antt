-- Subscripts within the bounds of an array go one to one onto the numbers below the number of its elements.
use Rattle.std.proofs.Common.{◌≡◌, ℕ, zero, suc, ◌+◌, ◌*◌, ◌/◌, ◌%◌, ◌<◌, ◌-◌, ℤ, pos, negsuc, ◌+ℤ◌, ◌&&◌, Bool, true, false, cond, nat_lt, [], ◌∷◌, Option, None, Some, refl, ap, sym, ◌∙◌, arith}
use Rattle.std.specs.Prelude.{int_le, if◌then◌else◌}
use Rattle.std.specs.Int.{int_gap}
use Rattle.std.proofs.Math.Nat.{div-lt_iff_lt-mul, mod-lt, mod-add-div, mul_comm}
use Rattle.std.proofs.lemmas.Nat.{mul-add-lt, same_from_place}
use Rattle.f77_structure.specs.declared.storage.Span.{Span}
use Rattle.f77_structure.specs.Storage.{extent_by, is_within, offset_by, offset_of, span_of}
use Rattle.f77_structure.proofs.StorageLemmas.{offset_within}
use Rattle.f77_sizes.specs.Laws.{ElementsAreWithin, ElementsDiffer, ElementsAreAll}
use Rattle.f77_sizes.specs.Sizes.{element_at, element_with, elements_of}

-- ---- one dimension

-- a subscript within the bounds is known by its offset
same_gap : (low high s t : ℤ) → (int_le low s && int_le s high) ≡ true → (int_le low t && int_le t high) ≡ true → int_gap low s ≡ int_gap low t → s ≡ t
same_gap (pos a) high (pos s) (pos t) h k e = grind (arith, h, k, e)
same_gap (pos a) high (pos s) (negsuc t) h k e = grind (arith, h, k, e)
same_gap (pos a) high (negsuc s) t h k e = grind (arith, h, k, e)
same_gap (negsuc a) high (pos s) (pos t) h k e = grind (arith, h, k, e)
same_gap (negsuc a) high (pos s) (negsuc t) h k e = grind (arith, h, k, e)
same_gap (negsuc a) high (negsuc s) (pos t) h k e = grind (arith, h, k, e)
same_gap (negsuc a) high (negsuc s) (negsuc t) h k e = grind (arith, h, k, e)

same_in_span : (span : Option Span) (s t : ℤ) (k : ℕ) → offset_by span s ≡ Some k → offset_by span t ≡ Some k → s ≡ t
same_in_span None s t k e f = absurd (cc)
same_in_span (Some span) s t k e f = by (is_within span s) (is_within span t) refl refl e f
  where
    by : (b c : Bool) → is_within span s ≡ b → is_within span t ≡ c → (if b then Some (offset_of span s) else None) ≡ Some k → (if c then Some (offset_of span t) else None) ≡ Some k → s ≡ t
    by true true h g e f =
        let same : offset_of span s ≡ offset_of span t = cc in
        same_gap span.low span.high s t h g same
    by true false h g e f = absurd (cc)
    by false c h g e f = absurd (cc)

-- the subscript of an offset
after_negative : (a : ℕ) (high : ℤ) (k : ℕ) (b : Bool) → nat_lt k (suc a) ≡ b → k < int_gap (negsuc a) (high +ℤ pos 1) → (int_le (negsuc a) (cond b (negsuc (suc a - suc k)) (pos (k - suc a))) && int_le (cond b (negsuc (suc a - suc k)) (pos (k - suc a))) high) ≡ true
after_negative a (pos c) k true e h = grind (arith, e, h)
after_negative a (pos c) k false e h = grind (arith, e, h)
after_negative a (negsuc zero) k true e h = grind (arith, e, h)
after_negative a (negsuc zero) k false e h = absurd (grind (arith, e, h))
after_negative a (negsuc (suc c)) k true e h = grind (arith, e, h)
after_negative a (negsuc (suc c)) k false e h = absurd (grind (arith, e, h))

none_above : (a b k : ℕ) (c : Bool) → nat_lt 1 (suc (suc b)) ≡ c → k < int_gap (pos a) (cond c (negsuc (suc (suc b) - 2)) (pos (1 - suc (suc b)))) → ⊥
none_above a b k true e h = omega (arith, h)
none_above a b k false e h = omega (arith, h)

after_low : (low high : ℤ) (k : ℕ) → k < int_gap low (high +ℤ pos 1) → (int_le low (low +ℤ pos k) && int_le (low +ℤ pos k) high) ≡ true
after_low (pos a) (pos b) k h = grind (arith, h)
after_low (pos a) (negsuc zero) k h = absurd (omega (arith, h))
after_low (pos a) (negsuc (suc b)) k h = absurd (none_above a b k (nat_lt 1 (suc (suc b))) refl h)
after_low (negsuc a) high k h = after_negative a high k (nat_lt k (suc a)) refl h

gap_negative : (a k : ℕ) (b : Bool) → nat_lt k (suc a) ≡ b → int_gap (negsuc a) (cond b (negsuc (suc a - suc k)) (pos (k - suc a))) ≡ k
gap_negative a k true e = grind (arith, e)
gap_negative a k false e = grind (arith, e)

gap_after : (low : ℤ) (k : ℕ) → int_gap low (low +ℤ pos k) ≡ k
gap_after (pos a) k = omega arith
gap_after (negsuc a) k = gap_negative a k (nat_lt k (suc a)) refl

in_span : (span : Option Span) (k : ℕ) → k < extent_by span → (s : ℤ) × (offset_by span s ≡ Some k)
in_span None k h = absurd (omega arith)
in_span (Some span) k h =
    let s : ℤ = span.low +ℤ pos k in
    (s, ap (λ b. if b then Some (offset_of span s) else None) (after_low span.low span.high k h) ∙ ap Some (gap_after span.low k))

-- ---- all dimensions

record Parts (extent : ℕ) (offset later : Option ℕ) (n : ℕ) : Type 0 where
  o : ℕ
  l : ℕ
  offset_is : offset ≡ Some o
  later_is : later ≡ Some l
  sum : o + extent * l ≡ n

parts_of : (extent : ℕ) (offset later : Option ℕ) (n : ℕ) → element_with extent offset later ≡ Some n → Parts extent offset later n
parts_of extent (Some o) (Some l) n e = record { o = o; l = l; offset_is = refl; later_is = refl; sum = cc }
parts_of extent (Some o) None n e = absurd (cc)
parts_of extent None later n e = absurd (cc)

pub elements_within : ElementsAreWithin
elements_within [] [] n e =
    let none : 0 ≡ n = cc in
    omega (arith, none)
elements_within [] (s ∷ ss) n e = absurd (cc)
elements_within (b ∷ bs) [] n e = absurd (cc)
elements_within (b ∷ bs) (s ∷ ss) n e =
    let p = parts_of (extent_by (span_of b)) (offset_by (span_of b) s) (element_at bs ss) n e in
    let here : p.o < extent_by (span_of b) = offset_within (b ∷ []) s p.o p.offset_is in
    let later : p.l < elements_of bs = elements_within bs ss p.l p.later_is in
    omega (arith, p.sum, mul-add-lt p.l (extent_by (span_of b)) p.o (elements_of bs) later here, mul_comm p.l (extent_by (span_of b)))

pub elements_differ : ElementsDiffer
elements_differ [] [] [] n e f = refl
elements_differ [] [] (t ∷ ts) n e f = absurd (cc)
elements_differ [] (s ∷ ss) ts n e f = absurd (cc)
elements_differ (b ∷ bs) [] ts n e f = absurd (cc)
elements_differ (b ∷ bs) (s ∷ ss) [] n e f = absurd (cc)
elements_differ (b ∷ bs) (s ∷ ss) (t ∷ ts) n e f =
    let extent : ℕ = extent_by (span_of b) in
    let p = parts_of extent (offset_by (span_of b) s) (element_at bs ss) n e in
    let q = parts_of extent (offset_by (span_of b) t) (element_at bs ts) n f in
    let same = same_from_place p.l p.o q.l q.o extent (offset_within (b ∷ []) s p.o p.offset_is) (offset_within (b ∷ []) t q.o q.offset_is) (omega (arith, p.sum, q.sum, mul_comm p.l extent, mul_comm q.l extent)) in
    let here : s ≡ t = same_in_span (span_of b) s t p.o p.offset_is (q.offset_is ∙ ap Some (sym same.1)) in
    let later : ss ≡ ts = elements_differ bs ss ts p.l p.later_is (q.later_is ∙ ap Some (sym same.0)) in
    λ i. here i ∷ later i

pub elements_all : ElementsAreAll
elements_all [] n h = ([], ap Some (omega arith))
elements_all (b ∷ bs) n h =
    let extent : ℕ = extent_by (span_of b) in
    let some : 0 < extent = some_extent extent (elements_of bs) n h in
    let rest = elements_all bs (n / extent) ((div-lt_iff_lt-mul {k = extent} {x = n} {y = elements_of bs} some).1 (omega (arith, h, mul_comm extent (elements_of bs)))) in
    let here = in_span (span_of b) (n % extent) (mod-lt n some) in
    (here.0 ∷ rest.0, ap (λ o. element_with extent o (element_at bs rest.0)) here.1 ∙ ap (λ l. element_with extent (Some (n % extent)) l) rest.1 ∙ ap Some (mod-add-div n extent))
  where
    some_extent : (e r n : ℕ) → n < e * r → 0 < e
    some_extent zero r n h = absurd (omega (arith, h))
    some_extent (suc e) r n h = omega arith
