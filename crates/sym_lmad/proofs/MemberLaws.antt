-- The members that are listed are the members that are reached.
use Rattle.std.proofs.Common.{◌≡◌, ℕ, zero, suc, ◌+◌, ◌<◌, ℤ, pos, negsuc, ◌+ℤ◌, ◌*ℤ◌, ◌<ℤ◌, ◌≤ℤ◌, min, Bool, true, false, ◌&&◌, Result, Ok, Err, OnErr, IfOk, List, [], ◌∷◌, ◌++◌, length, slice_index_or, Option, Some, None, ◌⊎◌, inl, inr, Contains, is_some, int_lt, if◌then◌else◌, refl, ap, sym, subst, ◌∙◌, append_assoc, arith, add-one}
use Rattle.std.specs.Ordering.{int_eq}
use Rattle.std.specs.Bool.{MatchBool}
use Rattle.std.proofs.lemmas.Int.{ints}
use Rattle.std.proofs.lemmas.List.Elements.{Contains-append_left, Contains-append_right, Contains-append_cases}
use Rattle.std.proofs.Math.IntN.{zero-*ℤ}
use Rattle.hyb_base.specs.declared.env.Env.{Env}
use Rattle.hyb_base.specs.Near.{IsNear}
use Rattle.sym_lmad.specs.declared.lmad.Dim.{Dim}
use Rattle.sym_lmad.specs.declared.lmad.Extent.{Extent}
use Rattle.sym_lmad.specs.declared.lmad.Lmad.{Lmad}
use Rattle.sym_lmad.specs.declared.sym.Sym.{Sym}
use Rattle.sym_lmad.specs.Ends.{ends_by}
use Rattle.sym_lmad.specs.Members.{IsReached, extents_and, extents_by, extents_onto, Placed, count_of, turns_of, in_turn, members_of, are_positive, AreNear, AddsMembers, LacksMembers, AddsFirst, AddsSome, MembersAreListed}
use Rattle.sym_lmad.specs.Worth.{near_of, worth_of}
use Rattle.sym_lmad.proofs.EndLaws.{ArePositive, Found, found, ends_are_found, itself_reached, least, greatest, least_bound, greatest_bound, least_reached, greatest_reached}
use Rattle.sym_lmad.proofs.Near.{near_bounds, near_some}

-- ---- turns

in_turn_had : (n : ℕ) (f : ℕ → List ℤ) (a : ℤ) → Contains (in_turn n f) a → (i : ℕ) × ((i < n) × Contains (f i) a)
in_turn_had zero f a h = absurd (omega (arith, h.1))
in_turn_had (suc n) f a h = go (Contains-append_cases (in_turn n f) (f n) a h) (λ k. in_turn_had n f a k)
  where
    go : Contains (in_turn n f) a ⊎ Contains (f n) a → (Contains (in_turn n f) a → (i : ℕ) × ((i < n) × Contains (f i) a)) → (i : ℕ) × ((i < suc n) × Contains (f i) a)
    go (inl k) before = let r = before k in let less : r.0 < n = r.1.0 in (r.0, (omega (arith, less), r.1.1))
    go (inr k) before = (n, (omega arith, k))

cut : (i n : ℕ) → i < suc n → (i < n) ⊎ (i ≡ n)
cut zero zero h = inr refl
cut zero (suc n) h = inl (omega arith)
cut (suc i) zero h = absurd (omega arith)
cut (suc i) (suc n) h = go (cut i n (omega arith))
  where
    go : (i < n) ⊎ (i ≡ n) → (suc i < suc n) ⊎ (suc i ≡ suc n)
    go (inl k) = inl (omega arith)
    go (inr k) = inr (ap suc k)

in_turn_has : (n : ℕ) (f : ℕ → List ℤ) (a : ℤ) (i : ℕ) → i < n → Contains (f i) a → Contains (in_turn n f) a
in_turn_has zero f a i h k = absurd (omega arith)
in_turn_has (suc n) f a i h k = go (cut i n h) (λ less. in_turn_has n f a i less k)
  where
    go : (i < n) ⊎ (i ≡ n) → (i < n → Contains (in_turn n f) a) → Contains (in_turn n f ++ f n) a
    go (inl less) before = Contains-append_left (in_turn n f) (f n) a (before less)
    go (inr e) before = Contains-append_right (in_turn n f) (f n) a (subst (λ m. Contains (f m) a) e k)

pub in_turn_more : (n : ℕ) (f : ℕ → List ℤ) → in_turn (n + 1) f ≡ in_turn n f ++ f n
in_turn_more n f = ap (λ m. in_turn m f) (add-one n)

-- what comes after a turn
pub in_turn_later : (i n : ℕ) (f : ℕ → List ℤ) → i < n → (later : List ℤ) × (in_turn n f ≡ in_turn (i + 1) f ++ later)
in_turn_later i zero f h = absurd (omega arith)
in_turn_later i (suc n) f h = go (cut i n h) (λ less. in_turn_later i n f less)
  where
    nothing : (xs : List ℤ) → xs ≡ xs ++ []
    nothing [] = refl
    nothing (x ∷ xs) = ap (λ t. x ∷ t) (nothing xs)

    go : (i < n) ⊎ (i ≡ n) → (i < n → (later : List ℤ) × (in_turn n f ≡ in_turn (i + 1) f ++ later)) → (later : List ℤ) × (in_turn n f ++ f n ≡ in_turn (i + 1) f ++ later)
    go (inl less) before = let r = before less in (r.0 ++ f n, ap (λ t. t ++ f n) r.1 ∙ append_assoc (in_turn (i + 1) f) r.0 (f n))
    go (inr e) before = ([], sym (in_turn_more n f) ∙ ap (λ m. in_turn (m + 1) f) (sym e) ∙ nothing (in_turn (i + 1) f))

-- a turn is a number of the dimension
pub turn_in : (e : Extent) (i : ℕ) → i < turns_of e → pos i <ℤ e.count
turn_in e i h = go e.count (int_eq e.stride (pos 0)) h
  where
    go : (count : ℤ) (b : Bool) → i < (if b then min (count_of count) 1 else count_of count) → pos i <ℤ count
    go (pos n) true h = omega (arith, ints)
    go (pos n) false h = omega (arith, ints)
    go (negsuc n) true h = absurd (omega arith)
    go (negsuc n) false h = absurd (omega arith)

-- a number of the dimension is a turn, or the stride is 0 and the first turn gives the same
number_in : (e : Extent) (m : ℕ) (from : ℤ) → pos m <ℤ e.count → (i : ℕ) × ((i < turns_of e) × (from +ℤ (e.stride *ℤ pos m) ≡ from +ℤ (e.stride *ℤ pos i)))
number_in e m from h = go e.count (int_eq e.stride (pos 0)) refl h
  where
    still : int_eq e.stride (pos 0) ≡ true → from +ℤ (e.stride *ℤ pos m) ≡ from +ℤ (e.stride *ℤ pos 0)
    still t = let z : e.stride ≡ pos 0 = grind (arith, ints) in ap (λ s. from +ℤ (s *ℤ pos m)) z ∙ ap (λ t. from +ℤ t) (zero-*ℤ (pos m) ∙ sym (zero-*ℤ (pos 0))) ∙ ap (λ s. from +ℤ (s *ℤ pos 0)) (sym z)

    go : (count : ℤ) (b : Bool) → int_eq e.stride (pos 0) ≡ b → pos m <ℤ count → (i : ℕ) × ((i < (if b then min (count_of count) 1 else count_of count)) × (from +ℤ (e.stride *ℤ pos m) ≡ from +ℤ (e.stride *ℤ pos i)))
    go (pos n) true t h = (0, (omega (arith, ints), still t))
    go (pos n) false t h = (m, (omega (arith, ints), refl))
    go (negsuc n) b t h = absurd (omega (arith, ints))

-- ---- the list and the relation

only : (from a : ℤ) → Contains (from ∷ []) a → a ≡ from
only from a h = go h.0 h.1 h.2
  where
    go : (k : ℕ) → k < length (from ∷ []) → slice_index_or (from ∷ []) k a ≡ a → a ≡ from
    go zero h e = sym e
    go (suc k) h e = absurd (omega arith)

pub listed_is_reached : (es : List Extent) (from a : ℤ) → Contains (members_of es from) a → IsReached from es a
listed_is_reached [] from a h = only from a h
listed_is_reached (e ∷ es) from a h =
    let r = in_turn_had (turns_of e) (λ i. members_of es (from +ℤ (e.stride *ℤ pos i))) a h in
    (pos r.0, (omega (arith, ints), turn_in e r.0 r.1.0, listed_is_reached es (from +ℤ (e.stride *ℤ pos r.0)) a r.1.1))

natural : (z : ℤ) → pos 0 ≤ℤ z → (m : ℕ) × (z ≡ pos m)
natural (pos m) h = (m, refl)
natural (negsuc m) h = absurd (omega (arith, ints))

pub reached_is_listed : (es : List Extent) (from a : ℤ) → IsReached from es a → Contains (members_of es from) a
reached_is_listed [] from a h = (0, omega arith, sym h)
reached_is_listed (e ∷ es) from a h =
    let n = natural h.0 h.1.0 in
    let below : pos n.0 <ℤ e.count = subst (λ z. z <ℤ e.count) n.1 h.1.1 in
    let rest : IsReached (from +ℤ (e.stride *ℤ pos n.0)) es a = subst (λ z. IsReached (from +ℤ (e.stride *ℤ z)) es a) n.1 h.1.2 in
    let turn = number_in e n.0 from below in
    in_turn_has (turns_of e) (λ i. members_of es (from +ℤ (e.stride *ℤ pos i))) a turn.0 turn.1.0 (subst (λ z. Contains (members_of es z) a) turn.1.1 (reached_is_listed es (from +ℤ (e.stride *ℤ pos n.0)) a rest))

pub members_are_listed : MembersAreListed
members_are_listed from es a = (listed_is_reached es from a, reached_is_listed es from a)

-- ---- dimensions with members, and without

pub positive_all : (es : List Extent) → are_positive es ≡ true → ArePositive es
positive_all [] h = tt
positive_all (e ∷ es) h = go (int_lt (pos 0) e.count) refl h (λ k. positive_all es k)
  where
    go : (b : Bool) → int_lt (pos 0) e.count ≡ b → (b && are_positive es) ≡ true → (are_positive es ≡ true → ArePositive es) → ArePositive (e ∷ es)
    go true t h rest = (grind (arith, ints), rest h)
    go false t h rest = absurd (cc)

positive_none : (es : List Extent) → are_positive es ≡ false → (from a : ℤ) → IsReached from es a → ⊥
positive_none [] h from a r = absurd (cc)
positive_none (e ∷ es) h from a r = go (int_lt (pos 0) e.count) refl h (λ k. positive_none es k (from +ℤ (e.stride *ℤ r.0)) a r.1.2)
  where
    go : (b : Bool) → int_lt (pos 0) e.count ≡ b → (b && are_positive es) ≡ false → (are_positive es ≡ false → ⊥) → ⊥
    go true t h rest = rest h
    go false t h rest = let i = r.0 in let low : pos 0 ≤ℤ i = r.1.0 in let high : i <ℤ e.count = r.1.1 in let none : e.count ≤ℤ pos 0 = grind (arith, ints) in omega (arith, ints, low, high, none)

no_member : (xs : List ℤ) → ((a : ℤ) → Contains xs a → ⊥) → xs ≡ []
no_member [] h = refl
no_member (x ∷ xs) h = absurd (h x (0, omega arith, refl))

pub without_members : (es : List Extent) (base : ℤ) (old : List ℤ) → are_positive es ≡ false → (AreNear base es) × (old ≡ old ++ members_of es base)
without_members es base old h =
    (record { near = λ a r. absurd (positive_none es h base a r) }, nothing old ∙ ap (λ t. old ++ t) (sym (no_member (members_of es base) (λ a k. positive_none es h base a (listed_is_reached es base a k)))))
  where
    nothing : (xs : List ℤ) → xs ≡ xs ++ []
    nothing [] = refl
    nothing (x ∷ xs) = ap (λ t. x ∷ t) (nothing xs)

pub ends_make_near : (es : List Extent) (base : ℤ) (ends : ℤ × ℤ) → IsNear base → ends_by es (base, base) ≡ Some ends → AreNear base es
ends_make_near es base ends near h =
    let f : Found es base base ends = found es base base ends near near h in
    let l = f.near_least.0 in
    let g = f.near_greatest.1 in
    record { near = λ a r. let low = least_bound es base a r in let high = greatest_bound es base a r in (omega (arith, ints, low, l), omega (arith, ints, high, g)) }

pub near_from : (es : List Extent) (base : ℤ) (o : Option (ℤ × ℤ)) → IsNear base → ends_by es (base, base) ≡ o → is_some o ≡ true → AreNear base es
near_from es base (Some ends) near h is = ends_make_near es base ends near h
near_from es base None near h is = absurd (cc)

pub far_member : (es : List Extent) (base : ℤ) → IsNear base → are_positive es ≡ true → ends_by es (base, base) ≡ None → (a : ℤ) × (IsReached base es a × (IsNear a → ⊥))
far_member es base near some none = go (near_of (least es base)) refl
  where
    positive : ArePositive es
    positive = positive_all es some

    go : (o : Option ℤ) → near_of (least es base) ≡ o → (a : ℤ) × (IsReached base es a × (IsNear a → ⊥))
    go None h = (least es base, (least_reached es base positive, λ n. absurd (cc (h, near_some (least es base) n))))
    go (Some v) h = (greatest es base, (greatest_reached es base positive, λ n. absurd (cc (none, ends_are_found es base base positive near near (near_bounds (least es base) v h) n))))

-- what is near of a dimension's members is near of the rest's
pub near_after : (e : Extent) (es : List Extent) (from : ℤ) (i : ℕ) → AreNear from (e ∷ es) → i < turns_of e → AreNear (from +ℤ (e.stride *ℤ pos i)) es
near_after e es from i h k = record { near = λ a r. h.near a (pos i, (omega (arith, ints), turn_in e i k, r)) }

pub near_place : (e : Extent) (es : List Extent) (from : ℤ) (i : ℕ) → AreNear from (e ∷ es) → are_positive es ≡ true → i < turns_of e → IsNear (from +ℤ (e.stride *ℤ pos i))
near_place e es from i h p k = (near_after e es from i h k).near (from +ℤ (e.stride *ℤ pos i)) (itself_reached es (from +ℤ (e.stride *ℤ pos i)) (positive_all es p))

pub positive_rest : (e : Extent) (es : List Extent) → are_positive (e ∷ es) ≡ true → are_positive es ≡ true
positive_rest e es h = go (int_lt (pos 0) e.count) h
  where
    go : (b : Bool) → (b && are_positive es) ≡ true → are_positive es ≡ true
    go true h = h
    go false h = absurd (cc)

-- ---- what is added

pub on_err : {T E : Type 0} (r : Result T E) (P : Type 0) → P → OnErr r P
on_err (Ok x) P h = tt
on_err (Err e) P h = h

pub adds_first_turn : (i n : ℕ) (f : ℕ → List ℤ) (old mid new : List ℤ) → i < n → mid ≡ old ++ in_turn i f → AddsFirst (f i) mid new → AddsFirst (in_turn n f) old new
adds_first_turn i n f old mid new h is adds =
    let later = in_turn_later i n f h in
    let first = adds.0 in
    let rest = adds.1.0 in (
      in_turn i f ++ first,
      (
        rest ++ later.0,
        (
          later.1 ∙ ap (λ t. t ++ later.0) (in_turn_more i f ∙ ap (λ t. in_turn i f ++ t) adds.1.1.0) ∙ ap (λ t. t ++ later.0) (sym (append_assoc (in_turn i f) first rest)) ∙ append_assoc (in_turn i f ++ first) rest later.0,
          adds.1.1.1 ∙ ap (λ t. t ++ first) is ∙ append_assoc old (in_turn i f) first,
        ),
      ),
    )

pub adds_nothing : (numbers old new : List ℤ) → new ≡ old → AddsFirst numbers old new
adds_nothing numbers old new h = ([], (numbers, (refl, h ∙ nothing old)))
  where
    nothing : (xs : List ℤ) → xs ≡ xs ++ []
    nothing [] = refl
    nothing (x ∷ xs) = ap (λ t. x ∷ t) (nothing xs)

pub onto_more : (old : List Extent) (stride n : ℤ) (rest : Option (List Extent)) → extents_onto old (extents_and stride (Some n) rest) ≡ extents_onto (old ++ record { stride = stride; count = n } ∷ []) rest
onto_more old stride n (Some es) = ap Some (sym (append_assoc old (record { stride = stride; count = n } ∷ []) es))
onto_more old stride n None = refl

pub onto_step : (worth : Sym → Option ℤ) (old : List Extent) (dims ds : List Dim) (d : Dim) (n : ℤ) → dims ≡ d ∷ ds → worth d.count ≡ Some n → extents_onto old (extents_by worth dims) ≡ extents_onto (old ++ record { stride = d.stride; count = n } ∷ []) (extents_by worth ds)
onto_step worth old dims ds d n e h = ap (λ x. extents_onto old (extents_by worth x)) e ∙ ap (λ o. extents_onto old (extents_and d.stride o (extents_by worth ds))) h ∙ onto_more old d.stride n (extents_by worth ds)

module _ (env : Env) (values : List ℤ) (lmad : Lmad) where
  pub lacks_base : worth_of env values lmad.base ≡ None → LacksMembers env values lmad
  lacks_base h = inl (λ from es p. let b = p.base in absurd (cc (h, b)))

  onto_nothing : (o : Option (List Extent)) → extents_onto [] o ≡ o
  onto_nothing (Some es) = refl
  onto_nothing None = refl

  pub lacks_counts : extents_onto [] (extents_by (worth_of env values) lmad.dims) ≡ None → LacksMembers env values lmad
  lacks_counts h = inl (λ from es p. let b = p.counts in let n = sym (onto_nothing (extents_by (worth_of env values) lmad.dims)) ∙ h in absurd (cc (n, b)))

  pub placed : (from : ℤ) (es : List Extent) → worth_of env values lmad.base ≡ Some from → extents_onto [] (extents_by (worth_of env values) lmad.dims) ≡ Some es → Placed env values lmad from es
  placed from es h k = record { base = h; counts = sym (onto_nothing (extents_by (worth_of env values) lmad.dims)) ∙ k }

  pub all_or_none : (from : ℤ) (es : List Extent) (old new : List ℤ) (near : Bool) → Placed env values lmad from es → MatchBool near (AreNear from es × (new ≡ old ++ members_of es from)) ((new ≡ old) × ((a : ℤ) × (IsReached from es a × (IsNear a → ⊥)))) →
      MatchBool near (AddsMembers env values lmad old new) ((new ≡ old) × LacksMembers env values lmad)
  all_or_none from es old new true p h = record { from = from; extents = es; placed = p; are_near = h.0; added = h.1 }
  all_or_none from es old new false p h = (h.0, inr (h.1.0, ((from, (es, (p, h.1.1.0))), h.1.1.1)))

  pub adds_some : (from : ℤ) (es : List Extent) (old new : List ℤ) → Placed env values lmad from es → AddsFirst (members_of es from) old new → AddsSome env values lmad old new
  adds_some from es old new p h = inr (from, (es, (p, h)))

  pub all_answers : {E : Type 0} (r : Result Bool E) (from : ℤ) (es : List Extent) (old new : List ℤ) → Placed env values lmad from es → IfOk r (λ near. MatchBool near (AreNear from es × (new ≡ old ++ members_of es from)) ((new ≡ old) × ((a : ℤ) × (IsReached from es a × (IsNear a → ⊥))))) →
      IfOk r (λ all. MatchBool all (AddsMembers env values lmad old new) ((new ≡ old) × LacksMembers env values lmad))
  all_answers (Ok near) from es old new p h = all_or_none from es old new near p h
  all_answers (Err e) from es old new p h = tt
