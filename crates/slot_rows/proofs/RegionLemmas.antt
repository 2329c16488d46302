-- Lemmas on the regions that have units, and on their order.
use Rattle.std.proofs.Common.{◌≡◌, ◌≢◌, ℕ, zero, suc, ◌+◌, ◌<◌, ◌≤◌, ◌^◌, inl, inr, Bool, true, false, ◌&&◌, List, [], ◌∷◌, ◌++◌, length, get_or, if◌then◌else◌, refl, sym, ap, subst, ◌∙◌, take, arith, ℤ, Option, Some, None}
use Rattle.std.specs.Prelude.{nat_lt, nat_le, All}
use Rattle.std.specs.List.{IsDistinct, AllByRecursion, filter_map, cons_option}
use Rattle.std.specs.Option.{option_to_list}
use Rattle.std.specs.List.Sorted.{IsPermutation, IsNonDecreasingBy}
use Rattle.std.proofs.lemmas.Bool.{cases_eq, eq-eqb, ne_eqb, and_cases, or_cases, or_left, or_right, ltb-false, both_ways, and_parts, leb-true, ltb-true, lt-ltb, and_from}
use Rattle.std.proofs.lemmas.List.Elements.{All-cons, All-tail, filter_map-append}
use Rattle.std.proofs.lemmas.List.{take_more, length-take-le}
use Rattle.std.proofs.lemmas.List.Sorted.{All-permutation, list_any-IsPermutation}
use Rattle.std.proofs.lemmas.Map.Keys.{IsDistinct-IsPermutation}
use Rattle.f77_ast.specs.declared.program.Region.{Region}
use Rattle.slot_rows.specs.declared.table.Span.{Span}
use Rattle.slot_rows.specs.Regions.{region_at}
use Rattle.slot_rows.specs.Spans.{is_in, has_address, has_span, region_of, overlap, spans_overlap, spans_of, AreAlone, AreApart, ArePlaced}

spans_no : (k : ℕ) (r : Region) (rs : List Region) → r.len ≡ 0 → spans_of k (r ∷ rs) ≡ spans_of (k + 1) rs
spans_no k r rs h = ap (λ t. if t then spans_of (k + 1) rs else record { start = r.start; len = r.len; place = k } ∷ spans_of (k + 1) rs) (eq-eqb r.len 0 h)

spans_yes : (k : ℕ) (r : Region) (rs : List Region) → r.len ≢ 0 → spans_of k (r ∷ rs) ≡ record { start = r.start; len = r.len; place = k } ∷ spans_of (k + 1) rs
spans_yes k r rs h = ap (λ t. if t then spans_of (k + 1) rs else record { start = r.start; len = r.len; place = k } ∷ spans_of (k + 1) rs) (ne_eqb r.len 0 h)

-- each span is the region at its place, counted from k
record PlacedFrom (k : ℕ) (rs : List Region) (s : Span) : Type 0 where
  at : ℕ
  is : s.place ≡ k + at
  within : at < length rs
  start : (e : Region) → (get_or rs at e).start ≡ s.start
  size : (e : Region) → (get_or rs at e).len ≡ s.len
  some : 0 < s.len

placed_later : (k : ℕ) (r : Region) (rs : List Region) (s : Span) → PlacedFrom (k + 1) rs s → PlacedFrom k (r ∷ rs) s
placed_later k r rs s p = record { at = suc p.at; is = omega (arith, p.is); within = omega (arith, p.within); start = p.start; size = p.size; some = p.some }

placed_first : (k : ℕ) (r : Region) (rs : List Region) → r.len ≢ 0 → PlacedFrom k (r ∷ rs) (record { start = r.start; len = r.len; place = k })
placed_first k r rs h = record { at = 0; is = omega arith; within = omega arith; start = λ e. refl; size = λ e. refl; some = omega (arith, h) }

all_placed : (k : ℕ) (rs : List Region) → All (PlacedFrom k rs) (spans_of k rs)
all_placed k [] = λ i d l. absurd (omega arith)
all_placed k (r ∷ rs) =
    let later : All (PlacedFrom k (r ∷ rs)) (spans_of (k + 1) rs) = λ i d l. placed_later k r rs (get_or (spans_of (k + 1) rs) i d) (all_placed (k + 1) rs i d l) in
    elim (cases_eq r.len 0) [
      | inl e ↦ subst (All (PlacedFrom k (r ∷ rs))) (sym (spans_no k r rs e)) later
      | inr e ↦ subst (All (PlacedFrom k (r ∷ rs))) (sym (spans_yes k r rs e)) (All-cons (PlacedFrom k (r ∷ rs)) (record { start = r.start; len = r.len; place = k }) (spans_of (k + 1) rs) (placed_first k r rs e) later)
    ]

-- an address of a region is one of its span
in_parts : (a : ℕ) (r : Region) → is_in a r ≡ true → (r.start ≤ a) × (a < r.start + r.len)
in_parts a r h =
    let parts = and_parts (nat_le r.start a) (nat_lt a (r.start + r.len)) h in
    (leb-true r.start a parts.0, ltb-true a (r.start + r.len) parts.1)

covered_by : (k : ℕ) (rs : List Region) (a : ℕ) → has_address rs a ≡ true → has_span (spans_of k rs) a ≡ true
covered_by k [] a h = absurd (cc)
covered_by k (r ∷ rs) a h =
    elim (cases_eq r.len 0) [
      | inl e ↦ ap (λ z. has_span z a) (spans_no k r rs e) ∙ elim (or_cases (is_in a r) (has_address rs a) h) [
        | inl t ↦ absurd (omega (arith, e, in_parts a r t))
        | inr t ↦ covered_by (k + 1) rs a t
      ]
      | inr e ↦ ap (λ z. has_span z a) (spans_yes k r rs e) ∙ elim (or_cases (is_in a r) (has_address rs a) h) [
        | inl t ↦ or_left (is_in a r) (has_span (spans_of (k + 1) rs) a) t
        | inr t ↦ or_right (is_in a r) (has_span (spans_of (k + 1) rs) a) (covered_by (k + 1) rs a t)
      ]
    ]

-- spans overlap no more than regions
apart_from : (r : Region) (p k : ℕ) (rs : List Region) → AllByRecursion (λ y. overlap r y ≡ false) rs → AllByRecursion (λ t. spans_overlap (record { start = r.start; len = r.len; place = p }) t ≡ false) (spans_of k rs)
apart_from r p k [] h = tt
apart_from r p k (y ∷ rs) h =
    elim (cases_eq y.len 0) [
      | inl e ↦ subst (AllByRecursion (λ t. spans_overlap (record { start = r.start; len = r.len; place = p }) t ≡ false)) (sym (spans_no k y rs e)) (apart_from r p (k + 1) rs h.1)
      | inr e ↦ subst (AllByRecursion (λ t. spans_overlap (record { start = r.start; len = r.len; place = p }) t ≡ false)) (sym (spans_yes k y rs e)) (h.0, apart_from r p (k + 1) rs h.1)
    ]

distinct_spans : (k : ℕ) (rs : List Region) → IsDistinct overlap rs → IsDistinct spans_overlap (spans_of k rs)
unfolding IsDistinct
distinct_spans k [] h = tt
distinct_spans k (r ∷ rs) h =
    elim (cases_eq r.len 0) [
      | inl e ↦ subst (IsDistinct spans_overlap) (sym (spans_no k r rs e)) (distinct_spans (k + 1) rs h.1)
      | inr e ↦ subst (IsDistinct spans_overlap) (sym (spans_yes k r rs e)) (apart_from r k (k + 1) rs h.0, distinct_spans (k + 1) rs h.1)
    ]

all_at : (P : Span → Type 0) (xs : List Span) (i : ℕ) (d : Span) → AllByRecursion P xs → i < length xs → P (get_or xs i d)
all_at P [] i d h l = absurd (omega arith)
all_at P (x ∷ xs) zero d h l = h.0
all_at P (x ∷ xs) (suc i) d h l = all_at P xs i d h.1 (omega arith)

distinct_at : (xs : List Span) (i j : ℕ) (d : Span) → IsDistinct spans_overlap xs → i < j → j < length xs → spans_overlap (get_or xs i d) (get_or xs j d) ≡ false
unfolding IsDistinct
distinct_at [] i j d h l m = absurd (omega arith)
distinct_at (x ∷ xs) i zero d h l m = absurd (omega arith)
distinct_at (x ∷ xs) zero (suc j) d h l m = all_at (λ t. spans_overlap x t ≡ false) xs j d h.0 (omega arith)
distinct_at (x ∷ xs) (suc i) (suc j) d h l m = distinct_at xs i j d h.1 (omega arith) (omega arith)

ends_before : (s t : Span) → spans_overlap s t ≡ false → s.start ≤ t.start → 0 < t.len → s.start + s.len ≤ t.start
ends_before s t h l some =
    elim (and_cases (nat_lt s.start (t.start + t.len)) (nat_lt t.start (s.start + s.len)) h) [
      | inl e ↦ absurd (omega (arith, ltb-false s.start (t.start + t.len) e))
      | inr e ↦ ltb-false t.start (s.start + s.len) e
    ]

and_flips : (x y : Bool) → (x && y) ≡ (y && x)
and_flips true true = refl
and_flips true false = refl
and_flips false true = refl
and_flips false false = refl

overlap_flips : (s t : Span) → spans_overlap s t ≡ spans_overlap t s
overlap_flips s t = and_flips (nat_lt s.start (t.start + t.len)) (nat_lt t.start (s.start + s.len))

-- ---- after a sort by the starts

sorted_placed : (rs : List Region) (sorted : List Span) → IsPermutation (spans_of 0 rs) sorted → All (PlacedFrom 0 rs) sorted
sorted_placed rs sorted p = All-permutation (PlacedFrom 0 rs) (spans_of 0 rs) sorted p (all_placed 0 rs)

pub apart : (rs : List Region) (sorted : List Span) → IsDistinct overlap rs → IsPermutation (spans_of 0 rs) sorted → IsNonDecreasingBy (λ s. s.start) sorted → AreApart sorted
apart rs sorted h p up =
    let distinct : IsDistinct spans_overlap sorted = IsDistinct-IsPermutation spans_overlap overlap_flips (spans_of 0 rs) sorted p (distinct_spans 0 rs h) in
    let placed = sorted_placed rs sorted p in
    record {
      some = λ i d l. (placed i d l).some;
      rising = λ i j d l m. ends_before (get_or sorted i d) (get_or sorted j d) (distinct_at sorted i j d distinct l m) (up i j d (omega arith) m) ((placed j d m).some);
    }

pub placed : (rs : List Region) (sorted : List Span) → IsPermutation (spans_of 0 rs) sorted → ArePlaced rs sorted
placed rs sorted p =
    let all = sorted_placed rs sorted p in
    record {
      within = λ i d l. (let s = all i d l in omega (arith, s.is, s.within));
      start = λ i d e l. (let s = all i d l in ap (λ k. (get_or rs k e).start) (let t : (get_or sorted i d).place ≡ s.at = omega (arith, s.is) in t) ∙ s.start e);
      size = λ i d e l. (let s = all i d l in ap (λ k. (get_or rs k e).len) (let t : (get_or sorted i d).place ≡ s.at = omega (arith, s.is) in t) ∙ s.size e);
    }

pub covered : (rs : List Region) (sorted : List Span) → IsPermutation (spans_of 0 rs) sorted → (a : ℕ) → has_address rs a ≡ true → has_span sorted a ≡ true
covered rs sorted p a h =
    sym (list_any-IsPermutation (λ span. is_in a (region_of span)) (spans_of 0 rs) sorted p) ∙ covered_by 0 rs a h

pub within : (rs : List Region) (sorted : List Span) → IsPermutation (spans_of 0 rs) sorted → All (λ r. r.start + r.len < 2 ^ 32) rs → All (λ s. s.start + s.len < 2 ^ 32) sorted
within rs sorted p h i d l =
    let s = sorted_placed rs sorted p i d l in
    let e : Region = record { start = 0; len = 0 } in
    omega (arith, h s.at e s.within, s.start e, s.size e)

-- regions that don't overlap have no address in common
region_at_place : (P : Region → Type 0) (xs : List Region) (i : ℕ) (d : Region) → AllByRecursion P xs → i < length xs → P (get_or xs i d)
region_at_place P [] i d h l = absurd (omega arith)
region_at_place P (x ∷ xs) zero d h l = h.0
region_at_place P (x ∷ xs) (suc i) d h l = region_at_place P xs i d h.1 (omega arith)

distinct_regions : (rs : List Region) (i j : ℕ) (d : Region) → IsDistinct overlap rs → i < j → j < length rs → overlap (get_or rs i d) (get_or rs j d) ≡ false
unfolding IsDistinct
distinct_regions [] i j d h l m = absurd (omega arith)
distinct_regions (x ∷ xs) i zero d h l m = absurd (omega arith)
distinct_regions (x ∷ xs) zero (suc j) d h l m = region_at_place (λ t. overlap x t ≡ false) xs j d h.0 (omega arith)
distinct_regions (x ∷ xs) (suc i) (suc j) d h l m = distinct_regions xs i j d h.1 (omega arith) (omega arith)

both_in : (r s : Region) (a : ℕ) → overlap r s ≡ false → is_in a r ≡ true → is_in a s ≡ true → ⊥
both_in r s a h p q =
    let u = in_parts a r p in
    let v = in_parts a s q in
    both_ways (overlap r s) h (and_from (nat_lt r.start (s.start + s.len)) (nat_lt s.start (r.start + r.len)) (lt-ltb r.start (s.start + s.len) (omega (arith, u, v))) (lt-ltb s.start (r.start + r.len) (omega (arith, u, v))))

pub alone : (rs : List Region) → IsDistinct overlap rs → AreAlone rs
alone rs h = record { alone = λ i j a d l m p q. both_in (get_or rs i d) (get_or rs j d) a (distinct_regions rs i j d h l m) p q }

-- ---- one more region

spans_append : (k : ℕ) (rs qs : List Region) → spans_of k (rs ++ qs) ≡ spans_of k rs ++ spans_of (k + length rs) qs
spans_append k [] qs = ap (λ j. spans_of j qs) (let e : k ≡ k + 0 = omega arith in e)
spans_append k (r ∷ rs) qs =
    let shifted : spans_of (k + 1 + length rs) qs ≡ spans_of (k + suc (length rs)) qs = ap (λ j. spans_of j qs) (let e : k + 1 + length rs ≡ k + suc (length rs) = omega arith in e) in
    elim (cases_eq r.len 0) [
      | inl e ↦ spans_no k r (rs ++ qs) e ∙ spans_append (k + 1) rs qs ∙ ap (λ z. z ++ spans_of (k + 1 + length rs) qs) (sym (spans_no k r rs e)) ∙ ap (λ z. spans_of k (r ∷ rs) ++ z) shifted
      | inr e ↦ spans_yes k r (rs ++ qs) e ∙ ap (λ z. record { start = r.start; len = r.len; place = k } ∷ z) (spans_append (k + 1) rs qs) ∙ ap (λ z. z ++ spans_of (k + 1 + length rs) qs) (sym (spans_yes k r rs e)) ∙ ap (λ z. spans_of k (r ∷ rs) ++ z) shifted
    ]

pub spans_more : (rs : List Region) (i : ℕ) (d : Region) → i < length rs → spans_of 0 (take (i + 1) rs) ≡ spans_of 0 (take i rs) ++ spans_of i (get_or rs i d ∷ [])
spans_more rs i d l =
    ap (spans_of 0) (take_more rs i d l) ∙ spans_append 0 (take i rs) (get_or rs i d ∷ [])
    ∙ ap (λ j. spans_of 0 (take i rs) ++ spans_of j (get_or rs i d ∷ [])) (let same : 0 + length (take i rs) ≡ i = omega (arith, length-take-le i rs (omega arith)) in same)

-- an address of regions that end by n is below n
pub below : (rs : List Region) (a n : ℕ) → All (λ r. r.start + r.len ≤ n) rs → has_address rs a ≡ true → a < n
below [] a n all h = absurd (cc)
below (r ∷ rs) a n all h =
    elim (or_cases (is_in a r) (has_address rs a) h) [
      | inl t ↦ omega (arith, in_parts a r t, all 0 r (omega arith))
      | inr t ↦ below rs a n (All-tail (λ r. r.start + r.len ≤ n) r rs all) t
    ]

-- one more number
one_named : (regions : List Region) (o : Option Region) → cons_option o [] ≡ option_to_list o
one_named regions None = refl
one_named regions (Some r) = refl

pub named_more : (regions : List Region) (numbers : List ℤ) (i : ℕ) (d : ℤ) → i < length numbers → filter_map (region_at regions) (take (i + 1) numbers) ≡ filter_map (region_at regions) (take i numbers) ++ option_to_list (region_at regions (get_or numbers i d))
named_more regions numbers i d l =
    ap (filter_map (region_at regions)) (take_more numbers i d l)
    ∙ filter_map-append (region_at regions) (take i numbers) (get_or numbers i d ∷ [])
    ∙ ap (λ z. filter_map (region_at regions) (take i numbers) ++ z) (one_named regions (region_at regions (get_or numbers i d)))
