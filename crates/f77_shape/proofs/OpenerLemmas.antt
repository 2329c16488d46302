-- Openers of places: what the tables tell of all stretches.
use Rattle.std.proofs.Common.{◌≡◌, ℕ, zero, suc, ◌-◌, ◌<◌, ◌≤◌, ◌==◌, max, Bool, true, false, not, ◌&&◌, ◌||◌, nat_lt, List, [], ◌∷◌, length, map, slice_index, if◌then◌else◌, refl, sym, ap, ◌∙◌, arith}
use Rattle.std.proofs.lemmas.Bool.Decides.{nat_tests}
use Rattle.std.proofs.lemmas.Option.{slice_get_within, get_or_from_slice_get}
use Rattle.std.specs.List.{list_any}
use Rattle.f77_structure.specs.declared.stretches.Stretch.{Stretch}
use Rattle.f77_shape.specs.StretchIndex.{ends_before, mirrored}
use Rattle.f77_shape.specs.Jumps.{is_entered}
use Rattle.f77_shape.specs.Openers.{opens_behind, AreOpeners, farthest_from, farthest, AreFarthest, opener_before, AreFound}
use Rattle.f77_shape.proofs.CrossingLemmas.{any_either}
use Rattle.f77_shape.proofs.RuleLemmas.{any_same}

-- ---- the farthest places

-- whether a stretch opens at a place and runs to another
abbrev pub runs_to : (opens place : ℕ) → Stretch → Bool
runs_to opens place stretch = (stretch.opens == opens) && not (nat_lt stretch.last place)

farther : (so_far last place : ℕ) (b : Bool) → nat_lt (if b then max so_far last else so_far) place ≡ (nat_lt so_far place && not (b && not (nat_lt last place)))
farther so_far last place true = grind (arith, nat_tests)
farther so_far last place false = and_true (nat_lt so_far place)
  where
    and_true : (b : Bool) → b ≡ (b && true)
    and_true true = refl
    and_true false = refl

and_not_or : (a b c : Bool) → ((a && not b) && not c) ≡ (a && not (b || c))
and_not_or true true c = refl
and_not_or true false c = refl
and_not_or false b c = refl

farthest_from_tells : (so_far opens place : ℕ) (stretches : List Stretch) → nat_lt (farthest_from so_far opens stretches) place ≡ (nat_lt so_far place && not (list_any (runs_to opens place) stretches))
farthest_from_tells so_far opens place [] = by (nat_lt so_far place)
  where
    by : (b : Bool) → b ≡ (b && true)
    by true = refl
    by false = refl
farthest_from_tells so_far opens place (s ∷ stretches) =
    farthest_from_tells (if s.opens == opens then max so_far s.last else so_far) opens place stretches
    ∙ ap (λ b. b && not (list_any (runs_to opens place) stretches)) (farther so_far s.last place (s.opens == opens))
    ∙ and_not_or (nat_lt so_far place) (runs_to opens place s) (list_any (runs_to opens place) stretches)

some_place : (opens place : ℕ) → opens < place → nat_lt 0 place ≡ true
some_place opens place h = grind (arith, nat_tests)

pub farthest_tells : (opens place : ℕ) (stretches : List Stretch) → opens < place → nat_lt (farthest opens stretches) place ≡ not (list_any (runs_to opens place) stretches)
farthest_tells opens place stretches h =
    farthest_from_tells 0 opens place stretches
    ∙ ap (λ b. b && not (list_any (runs_to opens place) stretches)) (some_place opens place h)

-- ---- the openers

-- whether a stretch opens at a place or behind it and before an end, and runs to another place
abbrev pub opens_between : (from end place : ℕ) → Stretch → Bool
opens_between from end place stretch = (nat_lt stretch.opens end && not (nat_lt stretch.last place)) && not (nat_lt stretch.opens from)

none : (stretches : List Stretch) → list_any (λ s. false) stretches ≡ false
none [] = refl
none (s ∷ stretches) = none stretches

none_before : (from place : ℕ) (stretches : List Stretch) → list_any (opens_between from 0 place) stretches ≡ false
none_before from place stretches = any_same (opens_between from 0 place) (λ s. false) stretches (λ s. at s.opens s.last) ∙ none stretches
  where
    at : (opens last : ℕ) → ((nat_lt opens 0 && not (nat_lt last place)) && not (nat_lt opens from)) ≡ false
    at opens last = grind (arith, nat_tests)

one_end_more : (from end place opens last : ℕ) → ((nat_lt opens (suc end) && not (nat_lt last place)) && not (nat_lt opens from)) ≡ (((nat_lt opens end && not (nat_lt last place)) && not (nat_lt opens from)) || (((opens == end) && not (nat_lt last place)) && not (nat_lt end from)))
one_end_more from end place opens last = grind (arith, nat_tests)

out_of_any : {A : Type 0} (test : A → Bool) (b : Bool) (xs : List A) → list_any (λ x. test x && b) xs ≡ (list_any test xs && b)
out_of_any test b [] = refl
out_of_any test b (x ∷ xs) = ap (λ c. (test x && b) || c) (out_of_any test b xs) ∙ by (test x) (list_any test xs) b
  where
    by : (t r b : Bool) → ((t && b) || (r && b)) ≡ ((t || r) && b)
    by true true true = refl
    by true true false = refl
    by true false true = refl
    by true false false = refl
    by false r b = refl

between_more : (from end place : ℕ) (stretches : List Stretch) → list_any (opens_between from (suc end) place) stretches ≡ (list_any (opens_between from end place) stretches || (list_any (runs_to end place) stretches && not (nat_lt end from)))
between_more from end place stretches =
    any_either (opens_between from (suc end) place) (opens_between from end place) (λ s. runs_to end place s && not (nat_lt end from)) stretches (λ s. one_end_more from end place s.opens s.last)
    ∙ ap (λ b. list_any (opens_between from end place) stretches || b) (out_of_any (runs_to end place) (not (nat_lt end from)) stretches)

pub opener_within : (f : ℕ → ℕ) (place end : ℕ) → opener_before f place end ≤ end
opener_within f place zero = omega arith
opener_within f place (suc end) = by (nat_lt (f end) place) (opener_within f place end)
  where
    by : (b : Bool) → opener_before f place end ≤ end → (if b then opener_before f place end else suc end) ≤ suc end
    by true less = omega (arith, less)
    by false less = omega arith

last_wins : (from end opener : ℕ) → opener ≤ end → nat_lt from (suc end) ≡ (nat_lt from opener || not (nat_lt end from))
last_wins from end opener h = grind (arith, nat_tests)

or_false : (b : Bool) → b ≡ (b || false)
or_false true = refl
or_false false = refl

-- the opener before an end tells of all stretches that open before it
before_tells : (stretches : List Stretch) (from place end : ℕ) → end ≤ place → nat_lt from (opener_before (λ opens. farthest opens stretches) place end) ≡ list_any (opens_between from end place) stretches
before_tells stretches from place zero h = at from ∙ sym (none_before from place stretches)
  where
    at : (n : ℕ) → nat_lt n 0 ≡ false
    at n = grind (arith, nat_tests)
before_tells stretches from place (suc end) h =
    ap (λ b. nat_lt from (if b then inner else suc end)) (farthest_tells end place stretches h)
    ∙ by (list_any (runs_to end place) stretches)
    ∙ ap (λ b. b || (list_any (runs_to end place) stretches && not (nat_lt end from))) (before_tells stretches from place end (omega (arith, h)))
    ∙ sym (between_more from end place stretches)
  where
    inner : ℕ
    inner = opener_before (λ opens. farthest opens stretches) place end

    by : (b : Bool) → nat_lt from (if not b then opener_before (λ opens. farthest opens stretches) place end else suc end) ≡ (nat_lt from (opener_before (λ opens. farthest opens stretches) place end) || (b && not (nat_lt end from)))
    by true = last_wins from end (opener_before (λ opens. farthest opens stretches) place end) (opener_within (λ opens. farthest opens stretches) place end)
    by false = or_false (nat_lt from (opener_before (λ opens. farthest opens stretches) place end))

between_holds : (from place opens last : ℕ) → ((nat_lt opens place && not (nat_lt last place)) && not (nat_lt opens from)) ≡ ((nat_lt opens place && nat_lt place (suc last)) && not (nat_lt opens from))
between_holds from place opens last = grind (arith, nat_tests)

pub opener_tells : (stretches : List Stretch) (from place : ℕ) → nat_lt from (opener_before (λ opens. farthest opens stretches) place place) ≡ list_any (opens_behind from place) stretches
opener_tells stretches from place =
    before_tells stretches from place place (omega arith)
    ∙ any_same (opens_between from place place) (opens_behind from place) stretches (λ s. between_holds from place s.opens s.last)

-- openers by two tables that agree
opener_same : (f g : ℕ → ℕ) (place end : ℕ) → ((opens : ℕ) → opens < end → f opens ≡ g opens) → opener_before f place end ≡ opener_before g place end
opener_same f g place zero same = refl
opener_same f g place (suc end) same =
    ap (λ n. if nat_lt n place then opener_before f place end else suc end) (same end (omega arith))
    ∙ ap (λ n. if nat_lt (g end) place then n else suc end) (opener_same f g place end (λ opens h. same opens (omega (arith, h))))

-- the openers that a sweep finds tell of all stretches
pub found_tell : (stretches : List Stretch) (count : ℕ) (runs openers : List ℕ) → AreFarthest stretches count runs → length openers ≡ length runs → AreFound runs openers → AreOpeners stretches openers
found_tell stretches count runs openers far counts found = record {
  at = λ from to opener h.
      let within : to < length openers = slice_get_within openers to opener h in
      let counted : length runs ≡ count = far.counted in
      ap (nat_lt from) (sym (get_or_from_slice_get openers to opener 0 h) ∙ found.at to within ∙ opener_same (slice_index runs) (λ opens. farthest opens stretches) to to (λ opens less. far.at opens (omega (arith, within, counts, counted, less))))
      ∙ opener_tells stretches from to;
}

-- ---- the search for an opener

-- all that opens between an opener of a place before and that place runs no farther than it
skips : (f : ℕ → ℕ) (place before end : ℕ) → before ≤ place → opener_before f place end ≡ opener_before f place (opener_before f before end)
skips f place before zero h = refl
skips f place before (suc end) h = by (nat_lt (f end) before) refl (skips f place before end h)
  where
    below : (n : ℕ) → nat_lt n before ≡ true → nat_lt n place ≡ true
    below n e = grind (arith, nat_tests)

    by : (b : Bool) → nat_lt (f end) before ≡ b → opener_before f place end ≡ opener_before f place (opener_before f before end) → opener_before f place (suc end) ≡ opener_before f place (if b then opener_before f before end else suc end)
    by true e rest = ap (λ b. if b then opener_before f place end else suc end) (below (f end) e) ∙ rest
    by false e rest = refl

-- one turn of the search
pub skipped : (f : ℕ → ℕ) (place end : ℕ) → 0 < end → end ≤ place → f (end - 1) < place → opener_before f place (opener_before f (end - 1) (end - 1)) ≡ opener_before f place end
skipped f place zero some h less = absurd (omega (arith, some))
skipped f place (suc end) some h less = ap (λ n. opener_before f place (opener_before f n n)) back ∙ sym (skips f place end end (omega (arith, h))) ∙ ap (λ b. if b then opener_before f place end else suc end) (sym (is_less (f end) (ap_less)))
  where
    back : suc end - 1 ≡ end
    back = omega arith

    ap_less : f end < place
    ap_less = rw (sym back) less

    is_less : (n : ℕ) → n < place → nat_lt n place ≡ true
    is_less n l = grind (arith, nat_tests)

-- the end of the search
pub stops : (f : ℕ → ℕ) (place end : ℕ) → 0 < end → place ≤ f (end - 1) → end ≡ opener_before f place end
stops f place zero some more = absurd (omega (arith, some))
stops f place (suc end) some more = ap (λ b. if b then opener_before f place end else suc end) (sym (is_more (f end) ap_more))
  where
    back : suc end - 1 ≡ end
    back = omega arith

    ap_more : place ≤ f end
    ap_more = rw (sym back) more

    is_more : (n : ℕ) → place ≤ n → nat_lt n place ≡ false
    is_more n l = grind (arith, nat_tests)

-- ---- mirrored stretches

any_map : (test : Stretch → Bool) (f : Stretch → Stretch) (xs : List Stretch) → list_any test (map f xs) ≡ list_any (λ x. test (f x)) xs
any_map test f [] = refl
any_map test f (x ∷ xs) = ap (λ b. test (f x) || b) (any_map test f xs)

mirrored_within : (limit from to opens last : ℕ) → from ≤ limit → to ≤ limit → last < limit → ((nat_lt (limit - last - 1) (limit - to) && nat_lt (limit - to) (suc (limit - opens - 1))) && not (nat_lt (limit - last - 1) (limit - from))) ≡ ((nat_lt opens to && nat_lt to (suc last)) && nat_lt last from)
mirrored_within limit from to opens last h k l = grind (arith, nat_tests)

mirrored_past : (limit from to opens last : ℕ) → from ≤ limit → to ≤ limit → limit ≤ last → ((nat_lt 0 (limit - to) && nat_lt (limit - to) (suc 0)) && not (nat_lt 0 (limit - from))) ≡ ((nat_lt opens to && nat_lt to (suc last)) && nat_lt last from)
mirrored_past limit from to opens last h k l = grind (arith, nat_tests)

mirrored_one : (limit from to : ℕ) (s : Stretch) → from ≤ limit → to ≤ limit → opens_behind (limit - from) (limit - to) (mirrored limit s) ≡ ends_before from to s
mirrored_one limit from to s h k = by (nat_lt s.last limit) refl
  where
    less : (n : ℕ) → nat_lt n limit ≡ true → n < limit
    less n e = grind (arith, nat_tests)

    more : (n : ℕ) → nat_lt n limit ≡ false → limit ≤ n
    more n e = grind (arith, nat_tests)

    by : (b : Bool) → nat_lt s.last limit ≡ b → opens_behind (limit - from) (limit - to) (if b then record { opens = limit - s.last - 1; last = limit - s.opens - 1 } else record { opens = 0; last = 0 }) ≡ ends_before from to s
    by true e = mirrored_within limit from to s.opens s.last h k (less s.last e)
    by false e = mirrored_past limit from to s.opens s.last h k (more s.last e)

pub any_mirrored : (limit from to : ℕ) (stretches : List Stretch) → from ≤ limit → to ≤ limit → list_any (opens_behind (limit - from) (limit - to)) (map (mirrored limit) stretches) ≡ list_any (ends_before from to) stretches
any_mirrored limit from to stretches h k =
    any_map (opens_behind (limit - from) (limit - to)) (mirrored limit) stretches
    ∙ any_same (λ s. opens_behind (limit - from) (limit - to) (mirrored limit s)) (ends_before from to) stretches (λ s. mirrored_one limit from to s h k)

-- ---- what is entered

entered_one : (from to opens last : ℕ) → ((nat_lt opens to && nat_lt to (suc last)) && not (nat_lt opens from && nat_lt from (suc last))) ≡ (((nat_lt opens to && nat_lt to (suc last)) && not (nat_lt opens from)) || ((nat_lt opens to && nat_lt to (suc last)) && nat_lt last from))
entered_one from to opens last = grind (arith, nat_tests)

pub any_entered : (from to : ℕ) (stretches : List Stretch) → list_any (is_entered from to) stretches ≡ (list_any (opens_behind from to) stretches || list_any (ends_before from to) stretches)
any_entered from to stretches = any_either (is_entered from to) (opens_behind from to) (ends_before from to) stretches (λ s. entered_one from to s.opens s.last)

-- one turn of the search for an opener
pub next_end : (runs openers : List ℕ) (place end : ℕ) → place ≡ length openers → AreFound runs openers → 0 < end → end ≤ place → slice_index openers (end - 1) ≡ opener_before (slice_index runs) (end - 1) (end - 1)
next_end runs openers place end count found some h = found.at (end - 1) (omega (arith, count, some, h))

pub next_smaller : (runs openers : List ℕ) (place end : ℕ) → place ≡ length openers → AreFound runs openers → 0 < end → end ≤ place → slice_index openers (end - 1) < end
next_smaller runs openers place end count found some h =
    let at = next_end runs openers place end count found some h in
    let within = opener_within (slice_index runs) (end - 1) (end - 1) in
    omega (arith, at, within, some)

pub next_same : (runs openers : List ℕ) (place end : ℕ) → place ≡ length openers → AreFound runs openers → 0 < end → end ≤ place → slice_index runs (end - 1) < place → opener_before (slice_index runs) place (slice_index openers (end - 1)) ≡ opener_before (slice_index runs) place end
next_same runs openers place end count found some h less =
    ap (opener_before (slice_index runs) place) (next_end runs openers place end count found some h)
    ∙ skipped (slice_index runs) place end some h less

-- one of two tests
pub first_of_two : (r a b : Bool) → r ≡ a → r ≡ true → r ≡ (a || b)
first_of_two r a b e t = t ∙ sym (ap (λ x. x || b) (sym e ∙ t))

pub second_of_two : (r s a b : Bool) → r ≡ a → r ≡ false → s ≡ b → s ≡ (a || b)
second_of_two r s a b e f same = same ∙ sym (ap (λ x. x || b) (sym e ∙ f))
