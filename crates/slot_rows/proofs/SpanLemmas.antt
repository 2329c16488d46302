-- Lemmas on where units are.
use Rattle.std.proofs.Common.{◌≡◌, ◌≢◌, ℕ, zero, suc, ◌+◌, ◌-◌, ◌<◌, ◌≤◌, inl, inr, true, false, List, [], ◌∷◌, ◌++◌, length, get_or, if◌then◌else◌, refl, sym, ap, subst, ◌∙◌, length-append, append_assoc, take, arith}
use Rattle.std.specs.Prelude.{nat_lt, nat_le}
use Rattle.std.proofs.lemmas.Bool.{cases_eq, cases_lt, cases_Bool, eq-eqb, ne_eqb, and_parts, and_from, leb-true, ltb-true, le-leb, lt-ltb, or_cases, or_left, or_right, both_ways}
use Rattle.std.proofs.lemmas.List.{append-nil, take_more}
use Rattle.std.specs.List.Sorted.{IsPartitionedBy, IsPartitionPoint}
use Rattle.f77_ast.specs.declared.program.Region.{Region}
use Rattle.slot_rows.specs.declared.table.Span.{Span}
use Rattle.slot_rows.specs.Spans.{is_in, has_address, has_span, region_of, place_with, AreAlone, AreApart, ArePlaced, run, addresses_of, befores_of, place_in}

-- addresses that rise, from a least one on
abbrev pub Rise : ℕ → List ℕ → Type 0
Rise least [] = Unit {0}
Rise least (x ∷ xs) = (least ≤ x) × Rise (x + 1) xs

rise_from : (low high : ℕ) (xs : List ℕ) → low ≤ high → Rise high xs → Rise low xs
rise_from low high [] l h = tt
rise_from low high (x ∷ xs) l h = (omega (arith, h.0), h.1)

above : (least : ℕ) (xs : List ℕ) (u : ℕ) → Rise least xs → u < length xs → least ≤ get_or xs u 0
above least [] u r l = absurd (omega arith)
above least (x ∷ xs) zero r l = r.0
above least (x ∷ xs) (suc u) r l = omega (arith, r.0, above (x + 1) xs u r.1 (omega arith))

place_here : (x : ℕ) (xs : List ℕ) (a : ℕ) → x ≡ a → place_in (x ∷ xs) a ≡ 0
place_here x xs a e = ap (λ t. if t then 0 else place_in xs a + 1) (eq-eqb x a e)

place_later : (x : ℕ) (xs : List ℕ) (a : ℕ) → x ≢ a → place_in (x ∷ xs) a ≡ place_in xs a + 1
place_later x xs a e = ap (λ t. if t then 0 else place_in xs a + 1) (ne_eqb x a e)

-- a unit is at the place of its address
pub place_of_unit : (least : ℕ) (xs : List ℕ) (u : ℕ) → Rise least xs → u < length xs → place_in xs (get_or xs u 0) ≡ u
place_of_unit least [] u r l = absurd (omega arith)
place_of_unit least (x ∷ xs) zero r l = place_here x xs x refl
place_of_unit least (x ∷ xs) (suc u) r l =
    let more : u < length xs = omega arith in
    let differs : x ≢ get_or xs u 0 = λ e. absurd (omega (arith, e, above (x + 1) xs u r.1 more)) in
    place_later x xs (get_or xs u 0) differs ∙ omega (arith, place_of_unit (x + 1) xs u r.1 more)

-- and the unit at the place of an address has it
pub unit_at_place : (xs : List ℕ) (a : ℕ) → place_in xs a < length xs → get_or xs (place_in xs a) 0 ≡ a
unit_at_place [] a l = absurd (omega arith)
unit_at_place (x ∷ xs) a l =
    elim (cases_eq x a) [
      | inl e ↦ ap (λ k. get_or (x ∷ xs) k 0) (place_here x xs a e) ∙ e
      | inr e ↦ (
          let k : place_in (x ∷ xs) a ≡ suc (place_in xs a) = place_later x xs a e ∙ omega arith in
          ap (λ k. get_or (x ∷ xs) k 0) k ∙ unit_at_place xs a (omega (arith, l, k)))
    ]

pub place_at_most : (xs : List ℕ) (a : ℕ) → place_in xs a ≤ length xs
place_at_most [] a = omega arith
place_at_most (x ∷ xs) a =
    elim (cases_eq x a) [
      | inl e ↦ omega (arith, place_here x xs a e)
      | inr e ↦ omega (arith, place_later x xs a e, place_at_most xs a)
    ]

-- ---- the addresses of spans rise

run_rises : (first n : ℕ) (rest : List ℕ) → Rise (first + n) rest → Rise first (run first n ++ rest)
run_rises first zero rest r = rise_from first (first + 0) rest (omega arith) r
run_rises first (suc n) rest r =
    let more : Rise (first + 1 + n) rest = rise_from (first + 1 + n) (first + suc n) rest (omega arith) r in
    (omega arith, run_rises (first + 1) n rest more)

tail_apart : (span : Span) (spans : List Span) → AreApart (span ∷ spans) → AreApart spans
tail_apart span spans a = record {
  some = λ i d l. a.some (suc i) d (omega arith);
  rising = λ i j d l m. a.rising (suc i) (suc j) d (omega arith) (omega arith);
}

rises_after : (least : ℕ) (spans : List Span) → AreApart spans → ((d : Span) → 0 < length spans → least ≤ (get_or spans 0 d).start) → Rise least (addresses_of spans)
rises_after least [] a h = tt
rises_after least (span ∷ spans) a h =
    let more : Rise (span.start + span.len) (addresses_of spans) = rises_after (span.start + span.len) spans (tail_apart span spans a) (λ d l. a.rising 0 1 d (omega arith) (omega arith)) in
    rise_from least span.start (run span.start span.len ++ addresses_of spans) (h span (omega arith)) (run_rises span.start span.len (addresses_of spans) more)

pub addresses_rise : (spans : List Span) → AreApart spans → Rise 0 (addresses_of spans)
addresses_rise spans a = rises_after 0 spans a (λ d l. omega arith)

-- ---- where an address of a span is

length-run : (first n : ℕ) → length (run first n) ≡ n
length-run first zero = refl
length-run first (suc n) = ap (λ k. suc k) (length-run (first + 1) n)

in_run : (first n : ℕ) (rest : List ℕ) (k : ℕ) → k < n → get_or (run first n ++ rest) k 0 ≡ first + k
in_run first zero rest k l = absurd (omega arith)
in_run first (suc n) rest zero l = omega arith
in_run first (suc n) rest (suc k) l = in_run (first + 1) n rest k (omega arith) ∙ omega arith

after_run : (first n : ℕ) (rest : List ℕ) (k : ℕ) → get_or (run first n ++ rest) (n + k) 0 ≡ get_or rest k 0
after_run first zero rest k = ap (λ j. get_or rest j 0) (let e : 0 + k ≡ k = omega arith in e)
after_run first (suc n) rest k =
    ap (λ j. get_or (first ∷ (run (first + 1) n ++ rest)) j 0) (let e : suc n + k ≡ suc (n + k) = omega arith in e) ∙ after_run (first + 1) n rest k

-- befores count from any number
pub before_at : (n : ℕ) (spans : List Span) (i k : ℕ) (d : Span) → i < length spans → k < (get_or spans i d).len → (n ≤ get_or (befores_of n spans) i 0) × (get_or (addresses_of spans) (get_or (befores_of n spans) i 0 - n + k) 0 ≡ (get_or spans i d).start + k) × (get_or (befores_of n spans) i 0 - n + k < length (addresses_of spans))
before_at n [] i k d l m = absurd (omega arith)
before_at n (span ∷ spans) zero k d l m =
    (omega arith, ap (λ j. get_or (run span.start span.len ++ addresses_of spans) j 0) (let e : n - n + k ≡ k = omega arith in e) ∙ in_run span.start span.len (addresses_of spans) k m, omega (arith, m, length-append (run span.start span.len) (addresses_of spans), length-run span.start span.len))
before_at n (span ∷ spans) (suc i) k d l m =
    let more = before_at (n + span.len) spans i k d (omega arith) m in
    let place : ℕ = get_or (befores_of (n + span.len) spans) i 0 in
    let moved : place - n + k ≡ span.len + (place - (n + span.len) + k) = omega (arith, more.0) in
    (omega (arith, more.0), ap (λ j. get_or (run span.start span.len ++ addresses_of spans) j 0) moved ∙ after_run span.start span.len (addresses_of spans) (place - (n + span.len) + k) ∙ more.1, omega (arith, moved, more.2, length-append (run span.start span.len) (addresses_of spans), length-run span.start span.len))

pub unit_of_address : (spans : List Span) (i a : ℕ) (d : Span) → AreApart spans → i < length spans → (get_or spans i d).start ≤ a → a < (get_or spans i d).start + (get_or spans i d).len → (place_in (addresses_of spans) a ≡ get_or (befores_of 0 spans) i 0 + (a - (get_or spans i d).start)) × (place_in (addresses_of spans) a < length (addresses_of spans))
unit_of_address spans i a d apart l low high =
    let k : ℕ = a - (get_or spans i d).start in
    let found = before_at 0 spans i k d l (omega arith) in
    let unit : ℕ = get_or (befores_of 0 spans) i 0 + k in
    let here : get_or (addresses_of spans) unit 0 ≡ a = ap (λ j. get_or (addresses_of spans) j 0) (let e : unit ≡ get_or (befores_of 0 spans) i 0 - 0 + k = omega arith in e) ∙ found.1 ∙ omega arith in
    let within : unit < length (addresses_of spans) = omega (arith, found.2) in
    let is : place_in (addresses_of spans) a ≡ unit = ap (place_in (addresses_of spans)) (sym here) ∙ place_of_unit 0 (addresses_of spans) unit (addresses_rise spans apart) within in
    (is, omega (arith, is, within))

-- ---- which span has an address

span_parts : (address : ℕ) (span : Span) → is_in address (region_of span) ≡ true → (span.start ≤ address) × (address < span.start + span.len)
span_parts address span h =
    let parts = and_parts (nat_le span.start address) (nat_lt address (span.start + span.len)) h in
    (leb-true span.start address parts.0, ltb-true address (span.start + span.len) parts.1)

-- some span has it
pub record Having (spans : List Span) (address : ℕ) : Type 0 where
  pub at : ℕ
  pub within : at < length spans
  pub low : (d : Span) → (get_or spans at d).start ≤ address
  pub high : (d : Span) → address < (get_or spans at d).start + (get_or spans at d).len

having_first : (span : Span) (spans : List Span) (address : ℕ) → is_in address (region_of span) ≡ true → Having (span ∷ spans) address
having_first span spans address h = record {
  at = 0;
  within = omega arith;
  low = λ d. (span_parts address span h).0;
  high = λ d. (span_parts address span h).1;
}

having_later : (span : Span) (spans : List Span) (address : ℕ) → Having spans address → Having (span ∷ spans) address
having_later span spans address h = record { at = suc h.at; within = omega (arith, h.within); low = h.low; high = h.high }

any_later : (span : Span) (spans : List Span) (address : ℕ) → is_in address (region_of span) ≡ false → has_span (span ∷ spans) address ≡ true → has_span spans address ≡ true
any_later span spans address e h =
    elim (or_cases (is_in address (region_of span)) (has_span spans address) h) [
      | inl t ↦ absurd (both_ways (is_in address (region_of span)) e t)
      | inr t ↦ t
    ]

pub having : (spans : List Span) (address : ℕ) → has_span spans address ≡ true → Having spans address
having [] address h = absurd (cc)
having (span ∷ spans) address h =
    elim (cases_Bool (is_in address (region_of span))) [
      | inl e ↦ having_first span spans address e
      | inr e ↦ having_later span spans address (having spans address (any_later span spans address e h))
    ]

-- ---- a search by halves

starts_rise : (spans : List Span) (i j : ℕ) (d : Span) → AreApart spans → i ≤ j → j < length spans → (get_or spans i d).start ≤ (get_or spans j d).start
starts_rise spans i j d a l m =
    elim (cases_eq i j) [
      | inl e ↦ omega (arith, ap (λ k. (get_or spans k d).start) e)
      | inr e ↦ omega (arith, a.rising i j d (omega arith) m)
    ]

pub partitioned : (spans : List Span) (address : ℕ) → AreApart spans → IsPartitionedBy (λ span. nat_le span.start address) spans
partitioned spans address a i j d l m h =
    le-leb (get_or spans i d).start address (omega (arith, starts_rise spans i j d a l m, leb-true (get_or spans j d).start address h))

found_late : (spans : List Span) (address n : ℕ) (h : Having spans address) → IsPartitionPoint (λ span. nat_le span.start address ≡ true) (λ span. nat_le span.start address ≡ false) spans n → n ≤ h.at → n ≡ suc h.at
found_late spans address n h p late =
    let d : Span = record { start = 0; len = 0; place = 0 } in
    absurd (both_ways (nat_le (get_or spans h.at d).start address) (p.1 h.at d late h.within) (le-leb (get_or spans h.at d).start address (h.low d)))

found_early : (spans : List Span) (address n : ℕ) → AreApart spans → (h : Having spans address) → n ≤ length spans → IsPartitionPoint (λ span. nat_le span.start address ≡ true) (λ span. nat_le span.start address ≡ false) spans n → suc h.at < n → n ≡ suc h.at
found_early spans address n a h bound p early =
    let d : Span = record { start = 0; len = 0; place = 0 } in
    let next : (get_or spans (suc h.at) d).start ≤ address = leb-true (get_or spans (suc h.at) d).start address (p.0 (suc h.at) d (omega arith) early) in
    absurd (omega (arith, next, h.high d, a.rising h.at (suc h.at) d (omega arith) (omega (arith, bound))))

pub found : (spans : List Span) (address n : ℕ) → AreApart spans → (h : Having spans address) → n ≤ length spans → IsPartitionPoint (λ span. nat_le span.start address ≡ true) (λ span. nat_le span.start address ≡ false) spans n → n ≡ suc h.at
found spans address n a h bound p =
    elim (cases_lt h.at n) [
      | inr late ↦ found_late spans address n h p late
      | inl early ↦ elim (cases_eq n (suc h.at)) [
        | inl e ↦ e
        | inr e ↦ found_early spans address n a h bound p (omega arith)
      ]
    ]

pub length-befores_of : (n : ℕ) (spans : List Span) → length (befores_of n spans) ≡ length spans
length-befores_of n [] = refl
length-befores_of n (span ∷ spans) = ap (λ k. suc k) (length-befores_of (n + span.len) spans)

-- ---- one more span

pub befores_more : (n : ℕ) (spans : List Span) (span : Span) → befores_of n (spans ++ span ∷ []) ≡ befores_of n spans ++ (n + length (addresses_of spans)) ∷ []
befores_more n [] span = ap (λ k. k ∷ []) (let e : n ≡ n + 0 = omega arith in e)
befores_more n (first ∷ spans) span =
    ap (λ z. n ∷ z) (befores_more (n + first.len) spans span ∙ ap (λ k. befores_of (n + first.len) spans ++ k ∷ []) (let e : n + first.len + length (addresses_of spans) ≡ n + length (run first.start first.len ++ addresses_of spans) = omega (arith, length-append (run first.start first.len) (addresses_of spans), length-run first.start first.len) in e))

pub addresses_more : (spans : List Span) (span : Span) → addresses_of (spans ++ span ∷ []) ≡ addresses_of spans ++ run span.start span.len
addresses_more [] span = append-nil (run span.start span.len)
addresses_more (first ∷ spans) span =
    ap (λ z. run first.start first.len ++ z) (addresses_more spans span) ∙ sym (append_assoc (run first.start first.len) (addresses_of spans) (run span.start span.len))

pub run_more : (first n : ℕ) → run first (n + 1) ≡ run first n ++ (first + n) ∷ []
run_more first zero = ap (λ k. k ∷ []) (let e : first ≡ first + 0 = omega arith in e)
run_more first (suc n) =
    ap (run first) (let e : suc n + 1 ≡ suc (n + 1) = omega arith in e)
    ∙ ap (λ z. first ∷ z) (run_more (first + 1) n ∙ ap (λ k. run (first + 1) n ++ k ∷ []) (let e : first + 1 + n ≡ first + suc n = omega arith in e))

-- ---- which region has the address of a unit, and where it is

-- the addresses of spans are in them
in_run_of : (first n k : ℕ) → k < n → (first ≤ get_or (run first n) k 0) × (get_or (run first n) k 0 < first + n)
in_run_of first zero k l = absurd (omega arith)
in_run_of first (suc n) zero l = (omega arith, omega arith)
in_run_of first (suc n) (suc k) l = let more = in_run_of (first + 1) n k (omega arith) in (omega (arith, more.0), omega (arith, more.1))

first_part_of : (first n : ℕ) (rest : List ℕ) (k : ℕ) → k < n → get_or (run first n ++ rest) k 0 ≡ get_or (run first n) k 0
first_part_of first zero rest k l = absurd (omega arith)
first_part_of first (suc n) rest zero l = refl
first_part_of first (suc n) rest (suc k) l = first_part_of (first + 1) n rest k (omega arith)

having_run : (span : Span) (spans : List Span) (a : ℕ) → span.start ≤ a → a < span.start + span.len → Having (span ∷ spans) a
having_run span spans a low high = record { at = 0; within = omega arith; low = λ d. low; high = λ d. high }

pub unit_having : (spans : List Span) (u : ℕ) → u < length (addresses_of spans) → Having spans (get_or (addresses_of spans) u 0)
unit_having [] u l = absurd (omega arith)
unit_having (span ∷ spans) u l =
    elim (cases_lt u span.len) [
      | inl early ↦ (
          let is = first_part_of span.start span.len (addresses_of spans) u early in
          let parts = in_run_of span.start span.len u early in
          having_run span spans (get_or (run span.start span.len ++ addresses_of spans) u 0) (omega (arith, is, parts.0)) (omega (arith, is, parts.1)))
      | inr late ↦ (
          let k : ℕ = u - span.len in
          let moved : u ≡ span.len + k = omega arith in
          let is : get_or (run span.start span.len ++ addresses_of spans) u 0 ≡ get_or (addresses_of spans) k 0 = ap (λ j. get_or (run span.start span.len ++ addresses_of spans) j 0) moved ∙ after_run span.start span.len (addresses_of spans) k in
          let within : k < length (addresses_of spans) = omega (arith, l, length-append (run span.start span.len) (addresses_of spans), length-run span.start span.len) in
          subst (Having (span ∷ spans)) (sym is) (having_later span spans (get_or (addresses_of spans) k 0) (unit_having spans k within)))
    ]

abbrev pub no_region : Region
no_region = record { start = 0; len = 0 }

abbrev pub no_span : Span
no_span = record { start = 0; len = 0; place = 0 }

-- the region at the place of a span has its addresses
pub region_has : (regions : List Region) (spans : List Span) (i a : ℕ) → ArePlaced regions spans → i < length spans → ((d : Span) → (get_or spans i d).start ≤ a) → ((d : Span) → a < (get_or spans i d).start + (get_or spans i d).len) → (d : Span) (e : Region) → is_in a (get_or regions (get_or spans i d).place e) ≡ true
region_has regions spans i a p l low high d e =
    let region : Region = get_or regions (get_or spans i d).place e in
    and_from (nat_le region.start a) (nat_lt a (region.start + region.len))
    (le-leb region.start a (omega (arith, p.start i d e l, low d)))
    (lt-ltb a (region.start + region.len) (omega (arith, p.start i d e l, p.size i d e l, high d)))

any_at : (regions : List Region) (i a : ℕ) → i < length regions → ((e : Region) → is_in a (get_or regions i e) ≡ true) → has_address regions a ≡ true
any_at [] i a l h = absurd (omega arith)
any_at (r ∷ regions) zero a l h = or_left (is_in a r) (has_address regions a) (h r)
any_at (r ∷ regions) (suc i) a l h = or_right (is_in a r) (has_address regions a) (any_at regions i a (omega arith) h)

pub has_by_span : (regions : List Region) (spans : List Span) (a : ℕ) (d : Span) → ArePlaced regions spans → Having spans a → has_address regions a ≡ true
has_by_span regions spans a d p h =
    any_at regions (get_or spans h.at d).place a (p.within h.at d h.within) (λ e. region_has regions spans h.at a p h.within h.low h.high d e)

place_first : (r : Region) (regions : List Region) (a : ℕ) → is_in a r ≡ true → place_with (r ∷ regions) a ≡ 0
place_first r regions a h = ap (λ t. if t then 0 else place_with regions a + 1) h

place_more : (r : Region) (regions : List Region) (a : ℕ) → is_in a r ≡ false → place_with (r ∷ regions) a ≡ place_with regions a + 1
place_more r regions a h = ap (λ t. if t then 0 else place_with regions a + 1) h

tail_alone : (r : Region) (regions : List Region) → AreAlone (r ∷ regions) → AreAlone regions
tail_alone r regions h = record { alone = λ i j a d l m. h.alone (suc i) (suc j) a d (omega arith) (omega arith) }

pub place_is : (regions : List Region) (i a : ℕ) → AreAlone regions → i < length regions → ((e : Region) → is_in a (get_or regions i e) ≡ true) → i ≡ place_with regions a
place_is [] i a h l has = absurd (omega arith)
place_is (r ∷ regions) zero a h l has = sym (place_first r regions a (has r))
place_is (r ∷ regions) (suc i) a h l has =
    elim (cases_Bool (is_in a r)) [
      | inl t ↦ absurd (h.alone 0 (suc i) a r (omega arith) l t (has r))
      | inr t ↦ omega (arith, place_more r regions a t, place_is regions i a (tail_alone r regions h) (omega arith) has)
    ]

pub found_at : (spans ys : List Span) (address n : ℕ) → ys ≡ spans → AreApart spans → (h : Having spans address) → n ≤ length ys → IsPartitionPoint (λ span. nat_le span.start address ≡ true) (λ span. nat_le span.start address ≡ false) ys n → n ≡ suc h.at
found_at spans ys address n e a h bound p =
    found spans address n a h (omega (arith, bound, ap length e)) (subst (λ z. IsPartitionPoint (λ span. nat_le span.start address ≡ true) (λ span. nat_le span.start address ≡ false) z n) e p)

pub befores_next : (spans : List Span) (i : ℕ) (d : Span) → i < length spans → befores_of 0 (take (i + 1) spans) ≡ befores_of 0 (take i spans) ++ length (addresses_of (take i spans)) ∷ []
befores_next spans i d l =
    ap (befores_of 0) (take_more spans i d l) ∙ befores_more 0 (take i spans) (get_or spans i d)
    ∙ ap (λ k. befores_of 0 (take i spans) ++ k ∷ []) (let same : 0 + length (addresses_of (take i spans)) ≡ length (addresses_of (take i spans)) = omega arith in same)

pub addresses_next : (spans : List Span) (i : ℕ) (d : Span) → i < length spans → addresses_of (take (i + 1) spans) ≡ addresses_of (take i spans) ++ run (get_or spans i d).start (get_or spans i d).len
addresses_next spans i d l =
    ap addresses_of (take_more spans i d l) ∙ addresses_more (take i spans) (get_or spans i d)
