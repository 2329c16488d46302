-- The ends that are found dimension by dimension are the least and the greatest member.
use Rattle.std.proofs.Common.{◌≡◌, ℕ, zero, suc, ℤ, pos, negsuc, ◌+ℤ◌, ◌-ℤ◌, ◌*ℤ◌, ◌<ℤ◌, ◌≤ℤ◌, Bool, true, false, List, [], ◌∷◌, Option, Some, None, IfSome, IfNone, int_lt, if◌then◌else◌, refl, ap, sym, subst, ◌∙◌, arith}
use Rattle.std.proofs.lemmas.Int.{ints}
use Rattle.std.proofs.Math.IntN.{*ℤ-zero, *ℤ-one}
use Rattle.hyb_base.specs.declared.env.Env.{Env}
use Rattle.hyb_base.specs.Near.{IsNear}
use Rattle.sym_lmad.specs.declared.lmad.Dim.{Dim}
use Rattle.sym_lmad.specs.declared.lmad.Extent.{Extent}
use Rattle.sym_lmad.specs.declared.lmad.Lmad.{Lmad}
use Rattle.sym_lmad.specs.declared.sym.Sym.{Sym}
use Rattle.sym_lmad.specs.Ends.{pair_by, low_by, high_by, last_by, widened, widened_to, widened_by, go_on, ends_by, ends_of_dims}
use Rattle.sym_lmad.specs.Members.{IsReached, extents_and, extents_by, Placed, IsMember, AreNearEnds}
use Rattle.sym_lmad.specs.Worth.{near_of, worth_of}
use Rattle.sym_lmad.proofs.GainLaws.{distributes}
use Rattle.sym_lmad.proofs.Near.{some_is, near_is, near_bounds, near_some}
use Rattle.sym_lmad.proofs.NumberLaws.{worth_near}

pub last_is : (z : ℤ) → pos 0 <ℤ z → last_by z ≡ Some (z -ℤ pos 1)
last_is (pos zero) h = absurd (omega (arith, ints))
last_is (pos (suc n)) h = ap Some (omega (arith, ints))
last_is (negsuc n) h = absurd (omega (arith, ints))

pub last_is_none : (z : ℤ) → z ≤ℤ pos 0 → last_by z ≡ None
last_is_none (pos zero) h = refl
last_is_none (pos (suc n)) h = absurd (omega (arith, ints))
last_is_none (negsuc n) h = refl

last_back : (z last : ℤ) → last_by z ≡ Some last → (pos 0 <ℤ z) × (last ≡ z -ℤ pos 1)
last_back (pos zero) last h = absurd (cc)
last_back (pos (suc n)) last h = let e : pos n ≡ last = some_is (pos n) last h in (omega (arith, ints), omega (arith, ints, e))
last_back (negsuc n) last h = absurd (cc)

-- ---- signs of products

product_suc : (c : ℤ) (m : ℕ) → c *ℤ pos (suc m) ≡ c *ℤ pos m +ℤ c
unfolding lib.IntN.one
product_suc c m =
    let e : pos (suc m) ≡ pos m +ℤ pos 1 = omega (arith, ints) in
    ap (λ z. c *ℤ z) e ∙ distributes c (pos m) (pos 1) ∙ ap (λ z. c *ℤ pos m +ℤ z) (*ℤ-one c)

falls_by : (c : ℤ) → c ≤ℤ pos 0 → (m : ℕ) → (c *ℤ pos m) ≤ℤ pos 0
falls_by c h zero = let e : c *ℤ pos 0 ≡ pos 0 = *ℤ-zero c in omega (arith, ints, e)
falls_by c h (suc m) = let e = product_suc c m in let k = falls_by c h m in omega (arith, ints, e, k)

rises_by : (c : ℤ) → pos 0 ≤ℤ c → (m : ℕ) → pos 0 ≤ℤ (c *ℤ pos m)
rises_by c h zero = let e : c *ℤ pos 0 ≡ pos 0 = *ℤ-zero c in omega (arith, ints, e)
rises_by c h (suc m) = let e = product_suc c m in let k = rises_by c h m in omega (arith, ints, e, k)

natural : (z : ℤ) → pos 0 ≤ℤ z → (m : ℕ) × (z ≡ pos m)
natural (pos m) h = (m, refl)
natural (negsuc m) h = absurd (omega (arith, ints))

falls : (c z : ℤ) → c ≤ℤ pos 0 → pos 0 ≤ℤ z → (c *ℤ z) ≤ℤ pos 0
falls c z h k = let n = natural z k in subst (λ t. (c *ℤ t) ≤ℤ pos 0) (sym n.1) (falls_by c h n.0)

rises : (c z : ℤ) → pos 0 ≤ℤ c → pos 0 ≤ℤ z → pos 0 ≤ℤ (c *ℤ z)
rises c z h k = let n = natural z k in subst (λ t. pos 0 ≤ℤ (c *ℤ t)) (sym n.1) (rises_by c h n.0)

apart : (c i last : ℤ) → c *ℤ last ≡ c *ℤ i +ℤ c *ℤ (last -ℤ i)
apart c i last = let e : last ≡ i +ℤ (last -ℤ i) = omega (arith, ints) in ap (λ z. c *ℤ z) e ∙ distributes c i (last -ℤ i)

-- ---- the ends

abbrev moved_if : Bool → (from by : ℤ) → ℤ
moved_if true from by = from +ℤ by
moved_if false from by = from

abbrev kept_if : Bool → (from by : ℤ) → ℤ
kept_if true from by = from
kept_if false from by = from +ℤ by

abbrev by_last : Extent → ℤ
by_last e = e.stride *ℤ (e.count -ℤ pos 1)

abbrev low_step : ℤ → Extent → ℤ
low_step low e = moved_if (int_lt e.stride (pos 0)) low (by_last e)

abbrev high_step : ℤ → Extent → ℤ
high_step high e = kept_if (int_lt e.stride (pos 0)) high (by_last e)

abbrev pub least : List Extent → ℤ → ℤ
least [] low = low
least (e ∷ es) low = least es (low_step low e)

abbrev pub greatest : List Extent → ℤ → ℤ
greatest [] high = high
greatest (e ∷ es) high = greatest es (high_step high e)

-- each dimension has a number
abbrev pub ArePositive : List Extent → Type 0
ArePositive [] = Unit {0}
ArePositive (e ∷ es) = (pos 0 <ℤ e.count) × ArePositive es

-- where a dimension's member at one of its numbers is
step_bounds : (e : Extent) (from i : ℤ) → pos 0 ≤ℤ i → i <ℤ e.count → (low_step from e ≤ℤ (from +ℤ (e.stride *ℤ i))) × ((from +ℤ (e.stride *ℤ i)) ≤ℤ high_step from e)
step_bounds e from i h k = go (int_lt e.stride (pos 0)) refl
  where
    split : by_last e ≡ e.stride *ℤ i +ℤ e.stride *ℤ ((e.count -ℤ pos 1) -ℤ i)
    split = apart e.stride i (e.count -ℤ pos 1)

    go : (b : Bool) → int_lt e.stride (pos 0) ≡ b → (moved_if b from (by_last e) ≤ℤ (from +ℤ (e.stride *ℤ i))) × ((from +ℤ (e.stride *ℤ i)) ≤ℤ kept_if b from (by_last e))
    go true t =
        let neg : e.stride ≤ℤ pos 0 = grind (arith, ints) in
        let down : (e.stride *ℤ ((e.count -ℤ pos 1) -ℤ i)) ≤ℤ pos 0 = falls e.stride ((e.count -ℤ pos 1) -ℤ i) neg (omega (arith, ints)) in
        let below : (e.stride *ℤ i) ≤ℤ pos 0 = falls e.stride i neg h in
        let s = split in
        (omega (arith, ints, s, down), omega (arith, ints, below))
    go false t =
        let up : pos 0 ≤ℤ e.stride = grind (arith, ints) in
        let rest : pos 0 ≤ℤ (e.stride *ℤ ((e.count -ℤ pos 1) -ℤ i)) = rises e.stride ((e.count -ℤ pos 1) -ℤ i) up (omega (arith, ints)) in
        let above : pos 0 ≤ℤ (e.stride *ℤ i) = rises e.stride i up h in
        let s = split in
        (omega (arith, ints, above), omega (arith, ints, s, rest))

moved_mono : (b : Bool) (x y by : ℤ) → x ≤ℤ y → moved_if b x by ≤ℤ moved_if b y by
moved_mono true x y by h = omega (arith, ints)
moved_mono false x y by h = h

kept_mono : (b : Bool) (x y by : ℤ) → x ≤ℤ y → kept_if b x by ≤ℤ kept_if b y by
kept_mono true x y by h = h
kept_mono false x y by h = omega (arith, ints)

least_mono : (es : List Extent) (x y : ℤ) → x ≤ℤ y → least es x ≤ℤ least es y
least_mono [] x y h = h
least_mono (e ∷ es) x y h = least_mono es (low_step x e) (low_step y e) (moved_mono (int_lt e.stride (pos 0)) x y (by_last e) h)

greatest_mono : (es : List Extent) (x y : ℤ) → x ≤ℤ y → greatest es x ≤ℤ greatest es y
greatest_mono [] x y h = h
greatest_mono (e ∷ es) x y h = greatest_mono es (high_step x e) (high_step y e) (kept_mono (int_lt e.stride (pos 0)) x y (by_last e) h)

less_trans : (x y z : ℤ) → x ≤ℤ y → y ≤ℤ z → x ≤ℤ z
less_trans x y z h k = omega (arith, ints)

pub least_bound : (es : List Extent) (from a : ℤ) → IsReached from es a → least es from ≤ℤ a
least_bound [] from a h = let e : a ≡ from = h in omega (arith, ints, e)
least_bound (e ∷ es) from a h = less_trans (least es (low_step from e)) (least es (from +ℤ (e.stride *ℤ h.0))) a (least_mono es (low_step from e) (from +ℤ (e.stride *ℤ h.0)) (step_bounds e from h.0 h.1.0 h.1.1).0) (least_bound es (from +ℤ (e.stride *ℤ h.0)) a h.1.2)

pub greatest_bound : (es : List Extent) (from a : ℤ) → IsReached from es a → a ≤ℤ greatest es from
greatest_bound [] from a h = let e : a ≡ from = h in omega (arith, ints, e)
greatest_bound (e ∷ es) from a h = less_trans a (greatest es (from +ℤ (e.stride *ℤ h.0))) (greatest es (high_step from e)) (greatest_bound es (from +ℤ (e.stride *ℤ h.0)) a h.1.2) (greatest_mono es (from +ℤ (e.stride *ℤ h.0)) (high_step from e) (step_bounds e from h.0 h.1.0 h.1.1).1)

pub are_positive : (es : List Extent) (from a : ℤ) → IsReached from es a → ArePositive es
are_positive [] from a h = tt
are_positive (e ∷ es) from a h = let i = h.0 in let low : pos 0 ≤ℤ i = h.1.0 in let high : i <ℤ e.count = h.1.1 in (omega (arith, ints, low, high), are_positive es (from +ℤ (e.stride *ℤ h.0)) a h.1.2)

none_more : (c from : ℤ) → from +ℤ (c *ℤ pos 0) ≡ from
none_more c from = let e : c *ℤ pos 0 ≡ pos 0 = *ℤ-zero c in omega (arith, ints, e)

pub least_reached : (es : List Extent) (from : ℤ) → ArePositive es → IsReached from es (least es from)
least_reached [] from h = refl
least_reached (e ∷ es) from h = go (int_lt e.stride (pos 0)) (λ z. least_reached es z h.1)
  where
    more : pos 0 <ℤ e.count
    more = h.0

    go : (b : Bool) → ((z : ℤ) → IsReached z es (least es z)) → IsReached from (e ∷ es) (least es (moved_if b from (by_last e)))
    go true rest = let m = more in (e.count -ℤ pos 1, (omega (arith, ints, m), omega (arith, ints, m), rest (from +ℤ by_last e)))
    go false rest = (pos 0, (omega (arith, ints), more, subst (λ z. IsReached z es (least es from)) (sym (none_more e.stride from)) (rest from)))

pub greatest_reached : (es : List Extent) (from : ℤ) → ArePositive es → IsReached from es (greatest es from)
greatest_reached [] from h = refl
greatest_reached (e ∷ es) from h = go (int_lt e.stride (pos 0)) (λ z. greatest_reached es z h.1)
  where
    more : pos 0 <ℤ e.count
    more = h.0

    go : (b : Bool) → ((z : ℤ) → IsReached z es (greatest es z)) → IsReached from (e ∷ es) (greatest es (kept_if b from (by_last e)))
    go true rest = (pos 0, (omega (arith, ints), more, subst (λ z. IsReached z es (greatest es from)) (sym (none_more e.stride from)) (rest from)))
    go false rest = let m = more in (e.count -ℤ pos 1, (omega (arith, ints, m), omega (arith, ints, m), rest (from +ℤ by_last e)))

-- a number of its own is reached
pub itself_reached : (es : List Extent) (from : ℤ) → ArePositive es → IsReached from es from
itself_reached [] from h = refl
itself_reached (e ∷ es) from h = (pos 0, (omega (arith, ints), h.0, subst (λ z. IsReached z es from) (sym (none_more e.stride from)) (itself_reached es from h.1)))

-- ---- what the search gives

low_is : (low : ℤ) (e : Extent) → IsNear (low_step low e) → low_by low e.stride (e.count -ℤ pos 1) ≡ Some (low_step low e)
low_is low e h = go (int_lt e.stride (pos 0)) h
  where
    go : (b : Bool) → IsNear (moved_if b low (by_last e)) → (if b then near_of (low +ℤ by_last e) else Some low) ≡ Some (moved_if b low (by_last e))
    go true h = near_some (low +ℤ by_last e) h
    go false h = refl

high_is : (high : ℤ) (e : Extent) → IsNear (high_step high e) → high_by high e.stride (e.count -ℤ pos 1) ≡ Some (high_step high e)
high_is high e h = go (int_lt e.stride (pos 0)) h
  where
    go : (b : Bool) → IsNear (kept_if b high (by_last e)) → (if b then Some high else near_of (high +ℤ by_last e)) ≡ Some (kept_if b high (by_last e))
    go true h = refl
    go false h = near_some (high +ℤ by_last e) h

low_back : (low : ℤ) (e : Extent) (l : ℤ) → IsNear low → low_by low e.stride (e.count -ℤ pos 1) ≡ Some l → (l ≡ low_step low e) × IsNear (low_step low e)
low_back low e l near h = go (int_lt e.stride (pos 0)) h
  where
    go : (b : Bool) → (if b then near_of (low +ℤ by_last e) else Some low) ≡ Some l → (l ≡ moved_if b low (by_last e)) × IsNear (moved_if b low (by_last e))
    go true h = let i : low +ℤ by_last e ≡ l = near_is (low +ℤ by_last e) l h in (sym i, near_bounds (low +ℤ by_last e) l h)
    go false h = (sym (some_is low l h), near)

high_back : (high : ℤ) (e : Extent) (l : ℤ) → IsNear high → high_by high e.stride (e.count -ℤ pos 1) ≡ Some l → (l ≡ high_step high e) × IsNear (high_step high e)
high_back high e l near h = go (int_lt e.stride (pos 0)) h
  where
    go : (b : Bool) → (if b then Some high else near_of (high +ℤ by_last e)) ≡ Some l → (l ≡ kept_if b high (by_last e)) × IsNear (kept_if b high (by_last e))
    go true h = (sym (some_is high l h), near)
    go false h = let i : high +ℤ by_last e ≡ l = near_is (high +ℤ by_last e) l h in (sym i, near_bounds (high +ℤ by_last e) l h)

low_between : (es : List Extent) (low : ℤ) (e : Extent) → pos 0 <ℤ e.count → ArePositive es → IsNear low → IsNear (least es (low_step low e)) → IsNear (low_step low e)
low_between es low e more rest near last =
    let under : least es (low_step low e) ≤ℤ low_step low e = least_bound es (low_step low e) (low_step low e) (itself_reached es (low_step low e) rest) in
    let start : low_step low e ≤ℤ low = subst (λ z. low_step low e ≤ℤ z) (none_more e.stride low) (step_bounds e low (pos 0) (omega (arith, ints)) more).0 in
    let a = near.1 in
    let b = last.0 in
    (omega (arith, ints, under, b), omega (arith, ints, start, a))

high_between : (es : List Extent) (high : ℤ) (e : Extent) → pos 0 <ℤ e.count → ArePositive es → IsNear high → IsNear (greatest es (high_step high e)) → IsNear (high_step high e)
high_between es high e more rest near last =
    let over : high_step high e ≤ℤ greatest es (high_step high e) = greatest_bound es (high_step high e) (high_step high e) (itself_reached es (high_step high e) rest) in
    let start : high ≤ℤ high_step high e = subst (λ z. z ≤ℤ high_step high e) (none_more e.stride high) (step_bounds e high (pos 0) (omega (arith, ints)) more).1 in
    let a = near.0 in
    let b = last.1 in
    (omega (arith, ints, start, a), omega (arith, ints, over, b))

pub ends_are_found : (es : List Extent) (low high : ℤ) → ArePositive es → IsNear low → IsNear high → IsNear (least es low) → IsNear (greatest es high) → ends_by es (low, high) ≡ Some (least es low, greatest es high)
ends_are_found [] low high more l h k m = refl
ends_are_found (e ∷ es) low high more l h k m =
    let near_l = low_between es low e more.0 more.1 l k in
    let near_h = high_between es high e more.0 more.1 h m in
    let one : widened (low, high) e.stride e.count ≡ Some (low_step low e, high_step high e) = ap (widened_to (low, high) e.stride) (last_is e.count more.0) ∙ (λ i. pair_by (low_is low e near_l i) (high_is high e near_h i)) in
    ap (λ o. go_on o (ends_by es)) one ∙ ends_are_found es (low_step low e) (high_step high e) more.1 near_l near_h k m

pub record Found (es : List Extent) (low high : ℤ) (ends : ℤ × ℤ) : Type 0 where
  pub positive : ArePositive es
  pub is_least : ends.0 ≡ least es low
  pub is_greatest : ends.1 ≡ greatest es high
  pub near_least : IsNear (least es low)
  pub near_greatest : IsNear (greatest es high)

abbrev FindsFrom : List Extent → ℤ × ℤ → Type 0
FindsFrom es ends = (x y : ℤ) → IsNear x → IsNear y → ends_by es (x, y) ≡ Some ends → Found es x y ends

pub found : (es : List Extent) (low high : ℤ) (ends : ℤ × ℤ) → IsNear low → IsNear high → ends_by es (low, high) ≡ Some ends → Found es low high ends
found [] low high ends l h e = let i : (low, high) ≡ ends = some_is (low, high) ends e in record {
  positive = tt;
  is_least = ap (λ (p : ℤ × ℤ). p.0) (sym i);
  is_greatest = ap (λ (p : ℤ × ℤ). p.1) (sym i);
  near_least = l;
  near_greatest = h;
}
found (e ∷ es) low high ends l h is = by_last_of (λ x y l h is. found es x y ends l h is) (last_by e.count) refl is
  where
    by_pair : FindsFrom es ends → pos 0 <ℤ e.count → (o p : Option ℤ) → low_by low e.stride (e.count -ℤ pos 1) ≡ o → high_by high e.stride (e.count -ℤ pos 1) ≡ p → go_on (pair_by o p) (ends_by es) ≡ Some ends → Found (e ∷ es) low high ends
    by_pair next more (Some x) (Some y) a b is =
        let lo = low_back low e x l a in
        let hi = high_back high e y h b in
        let rest : ends_by es (low_step low e, high_step high e) ≡ Some ends = (λ i. ends_by es (sym lo.0 i, sym hi.0 i)) ∙ is in
        let f : Found es (low_step low e) (high_step high e) ends = next (low_step low e) (high_step high e) lo.1 hi.1 rest in
        record {
          positive = (more, f.positive);
          is_least = f.is_least;
          is_greatest = f.is_greatest;
          near_least = f.near_least;
          near_greatest = f.near_greatest;
        }
    by_pair next more (Some x) None a b is = absurd (cc)
    by_pair next more None p a b is = absurd (cc)

    by_last_of : FindsFrom es ends → (o : Option ℤ) → last_by e.count ≡ o → go_on (widened_to (low, high) e.stride o) (ends_by es) ≡ Some ends → Found (e ∷ es) low high ends
    by_last_of next None t is = absurd (cc)
    by_last_of next (Some last) t is =
        let k = last_back e.count last t in
        by_pair next k.0 (low_by low e.stride (e.count -ℤ pos 1)) (high_by high e.stride (e.count -ℤ pos 1)) refl refl (subst (λ z. go_on (pair_by (low_by low e.stride z) (high_by high e.stride z)) (ends_by es) ≡ Some ends) k.1 is)

-- ---- dimensions whose counts are symbols

abbrev SameEnds : (Sym → Option ℤ) → List Dim → Type 0
SameEnds worth ds = (es : List Extent) (ends : ℤ × ℤ) → extents_by worth ds ≡ Some es → ends_of_dims worth ds ends ≡ ends_by es ends

same_ends : (worth : Sym → Option ℤ) (ds : List Dim) (es : List Extent) (ends : ℤ × ℤ) → extents_by worth ds ≡ Some es → ends_of_dims worth ds ends ≡ ends_by es ends
same_ends worth [] es ends h = ap (λ x. ends_by x ends) (some_is [] es h)
same_ends worth (d ∷ ds) es ends h = go (λ es ends h. same_ends worth ds es ends h) (worth d.count) (extents_by worth ds) refl h
  where
    next : SameEnds worth ds → (es : List Extent) (o : Option (ℤ × ℤ)) → extents_by worth ds ≡ Some es → go_on o (ends_of_dims worth ds) ≡ go_on o (ends_by es)
    next same es (Some ends) e = same es ends e
    next same es None e = refl

    go : SameEnds worth ds → (n : Option ℤ) (rest : Option (List Extent)) → extents_by worth ds ≡ rest → extents_and d.stride n rest ≡ Some es → go_on (widened_by ends d.stride n) (ends_of_dims worth ds) ≡ ends_by es ends
    go same (Some n) (Some rest) e h = next same rest (widened ends d.stride n) e ∙ ap (λ x. ends_by x ends) (some_is (record { stride = d.stride; count = n } ∷ rest) es h)
    go same (Some n) None e h = absurd (cc)
    go same None rest e h = absurd (cc)

abbrev HaveExtents : (Sym → Option ℤ) → List Dim → ℤ × ℤ → Type 0
HaveExtents worth ds last = (ends : ℤ × ℤ) → ends_of_dims worth ds ends ≡ Some last → (es : List Extent) × (extents_by worth ds ≡ Some es)

have_extents : (worth : Sym → Option ℤ) (ds : List Dim) (ends last : ℤ × ℤ) → ends_of_dims worth ds ends ≡ Some last → (es : List Extent) × (extents_by worth ds ≡ Some es)
have_extents worth [] ends last h = ([], refl)
have_extents worth (d ∷ ds) ends last h = go (λ ends h. have_extents worth ds ends last h) (worth d.count) refl h
  where
    next : HaveExtents worth ds last → (n : ℤ) (o : Option (ℤ × ℤ)) → go_on o (ends_of_dims worth ds) ≡ Some last → (es : List Extent) × (extents_and d.stride (Some n) (extents_by worth ds) ≡ Some es)
    next rest n (Some ends) h = let r = rest ends h in (record { stride = d.stride; count = n } ∷ r.0, ap (extents_and d.stride (Some n)) r.1)
    next rest n None h = absurd (cc)

    go : HaveExtents worth ds last → (n : Option ℤ) → worth d.count ≡ n → go_on (widened_by ends d.stride n) (ends_of_dims worth ds) ≡ Some last → (es : List Extent) × (extents_by worth (d ∷ ds) ≡ Some es)
    go rest (Some n) e h = let r = next rest n (widened ends d.stride n) h in (r.0, ap (λ o. extents_and d.stride o (extents_by worth ds)) e ∙ r.1)
    go rest None e h = absurd (cc)

-- one dimension more
pub one_more : (worth : Sym → Option ℤ) (dims ds : List Dim) (d : Dim) (ends next : ℤ × ℤ) (n : ℤ) → dims ≡ d ∷ ds → worth d.count ≡ Some n → widened ends d.stride n ≡ Some next → ends_of_dims worth dims ends ≡ ends_of_dims worth ds next
one_more worth dims ds d ends next n e h k = ap (λ x. ends_of_dims worth x ends) e ∙ ap (λ o. go_on (widened_by ends d.stride o) (ends_of_dims worth ds)) h ∙ ap (λ o. go_on o (ends_of_dims worth ds)) k

module _ (env : Env) (values : List ℤ) (lmad : Lmad) where
  abbrev worth : Sym → Option ℤ
  worth = worth_of env values

  pub same_place : (from to : ℤ) (es fs : List Extent) → Placed env values lmad from es → Placed env values lmad to fs → (from ≡ to) × (es ≡ fs)
  same_place from to es fs p q = (some_is from to (sym p.base ∙ q.base), some_is es fs (sym p.counts ∙ q.counts))

  pub members_from : (from a : ℤ) (es : List Extent) → Placed env values lmad from es → IsMember env values lmad a → IsReached from es a
  members_from from a es p m = let e = same_place m.0 from m.1.0 es m.1.1.0 p in subst (λ f. IsReached f es a) e.0 (subst (λ x. IsReached m.0 x a) e.1 m.1.1.1)

  near_base : (base : ℤ) → worth lmad.base ≡ Some base → IsNear base
  near_base base h = near_bounds base base (worth_near env values lmad.base base h)

  pub ends_some : (base : ℤ) (o : Option (ℤ × ℤ)) → worth lmad.base ≡ Some base → ends_of_dims worth lmad.dims (base, base) ≡ o → IfSome o (λ ends. AreNearEnds env values lmad ends.0 ends.1)
  ends_some base None b h = tt
  ends_some base (Some ends) b h =
      let r = have_extents worth lmad.dims (base, base) ends h in
      let p : Placed env values lmad base r.0 = record { base = b; counts = r.1 } in
      let f : Found r.0 base base ends = found r.0 base base ends (near_base base b) (near_base base b) (sym (same_ends worth lmad.dims r.0 (base, base) r.1) ∙ h) in
      record {
        ends = record {
          least = (base, (r.0, (p, subst (IsReached base r.0) (sym f.is_least) (least_reached r.0 base f.positive))));
          greatest = (base, (r.0, (p, subst (IsReached base r.0) (sym f.is_greatest) (greatest_reached r.0 base f.positive))));
          between = λ a m. let q = members_from base a r.0 p m in (subst (λ z. z ≤ℤ a) (sym f.is_least) (least_bound r.0 base a q), subst (λ z. a ≤ℤ z) (sym f.is_greatest) (greatest_bound r.0 base a q));
        };
        near_low = subst IsNear (sym f.is_least) f.near_least;
        near_high = subst IsNear (sym f.is_greatest) f.near_greatest;
      }

  equal : (x y : ℤ) → x ≤ℤ y → y ≤ℤ x → x ≡ y
  equal x y h k = omega (arith, ints)

  pub ends_none : (base : ℤ) (o : Option (ℤ × ℤ)) → worth lmad.base ≡ Some base → ends_of_dims worth lmad.dims (base, base) ≡ o → IfNone o ((low high : ℤ) → AreNearEnds env values lmad low high → ⊥)
  ends_none base (Some ends) b h = tt
  ends_none base None b h = λ low high n.
      let m = n.ends.least in
      let es = m.1.0 in
      let p : Placed env values lmad base es = record { base = b; counts = m.1.1.0.counts } in
      let low_in = members_from base low es p m in
      let high_in = members_from base high es p n.ends.greatest in
      let positive = are_positive es base low low_in in
      let is_low : low ≡ least es base = equal low (least es base) (n.ends.between (least es base) (base, (es, (p, least_reached es base positive)))).0 (least_bound es base low low_in) in
      let is_high : high ≡ greatest es base = equal high (greatest es base) (greatest_bound es base high high_in) (n.ends.between (greatest es base) (base, (es, (p, greatest_reached es base positive)))).1 in
      let got = ends_are_found es base base positive (near_base base b) (near_base base b) (subst IsNear is_low n.near_low) (subst IsNear is_high n.near_high) in
      let none : ends_by es (base, base) ≡ None = sym (same_ends worth lmad.dims es (base, base) p.counts) ∙ h in
      absurd (cc (got, none))

  pub no_base : worth lmad.base ≡ None → (low high : ℤ) → AreNearEnds env values lmad low high → ⊥
  no_base h low high n = let b = n.ends.least.1.1.0.base in absurd (cc (h, b))
