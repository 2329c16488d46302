-- One pass over windows finds whether each two of them are in order.
use Rattle.std.proofs.Common.{◌≡◌, ℕ, zero, suc, ◌+◌, ◌<◌, ◌≤◌, ◌⊎◌, inl, inr, ℤ, pos, ◌<ℤ◌, ◌≤ℤ◌, Bool, true, false, ◌&&◌, Option, Some, None, is_some, if◌then◌else◌, refl, ap, sym, subst, ◌∙◌, arith, add-one}
use Rattle.std.proofs.lemmas.Int.{ints}
use Rattle.pdag_nodes.specs.Windows.{Windows, is_full, is_behind, are_in_order, follows_all, are_ascending, follows, pass, passed_to}
use Rattle.pdag_nodes.proofs.TurnLaws.{cut, each_true, each_false}

-- a window isn't beyond another one
abbrev IsWithin : Bool → ℤ × ℤ → ℤ × ℤ → Type 0
IsWithin true window last = window.1 ≤ℤ last.1
IsWithin false window last = last.0 ≤ℤ window.0

behind_too : (rising : Bool) (u l w : ℤ × ℤ) → IsWithin rising u l → is_behind rising l w ≡ true → is_behind rising u w ≡ true
behind_too true u l w h e = let a : u.1 ≤ℤ l.1 = h in let b : l.1 <ℤ w.0 = grind (arith, ints) in grind (arith, ints)
behind_too false u l w h e = let a : l.0 ≤ℤ u.0 = h in let b : w.1 <ℤ l.0 = grind (arith, ints) in grind (arith, ints)

within_too : (rising : Bool) (u l w : ℤ × ℤ) → IsWithin rising u l → is_behind rising l w ≡ true → is_full w ≡ true → IsWithin rising u w
within_too true u l w h e f = let a : u.1 ≤ℤ l.1 = h in let b : l.1 <ℤ w.0 = grind (arith, ints) in let d : w.0 ≤ℤ w.1 = grind (arith, ints) in omega (arith, ints, a, b, d)
within_too false u l w h e f = let a : l.0 ≤ℤ u.0 = h in let b : w.1 <ℤ l.0 = grind (arith, ints) in let d : w.0 ≤ℤ w.1 = grind (arith, ints) in omega (arith, ints, a, b, d)

within_itself : (rising : Bool) (w : ℤ × ℤ) → IsWithin rising w w
within_itself true w = omega (arith, ints)
within_itself false w = omega (arith, ints)

order_is : (rising : Bool) (o p : Option (ℤ × ℤ)) (u w : ℤ × ℤ) (a b : Bool) → o ≡ Some u → p ≡ Some w → is_full u ≡ a → is_full w ≡ b → are_in_order rising o p ≡ (if a && b then is_behind rising u w else true)
order_is rising o p u w a b e f h k = (λ i. are_in_order rising (e i) (f i)) ∙ (λ i. if h i && k i then is_behind rising u w else true)

and_false : (a : Bool) → (a && false) ≡ false
and_false true = refl
and_false false = refl

module _ (rising : Bool) (windows : Windows) where
  -- what is known of the windows from 1 to n
  abbrev IsThere : ℕ → (ℤ × ℤ → Type 0) → Type 0
  IsThere k P = (window : ℤ × ℤ) × ((windows (pos (suc k)) ≡ Some window) × P window)

  abbrev AllEmpty : ℕ → Type 0
  AllEmpty n = (k : ℕ) → k < n → IsThere k (λ window. is_full window ≡ false)

  abbrev AllWithin : ℕ → ℤ × ℤ → Type 0
  AllWithin n last = ((k : ℕ) → k < n → IsThere k (λ window. is_full window ≡ true → IsWithin rising window last)) × ((is_full last ≡ true) × ((k : ℕ) × ((k < n) × (windows (pos (suc k)) ≡ Some last))))

  abbrev Known : ℕ → Option (Option (ℤ × ℤ)) → Type 0
  Known n None = Unit {0}
  Known n (Some None) = AllEmpty n
  Known n (Some (Some last)) = AllWithin n last

  extend : (n : ℕ) (P : ℤ × ℤ → Type 0) → ((k : ℕ) → k < n → IsThere k P) → IsThere n P → (k : ℕ) → k < suc n → IsThere k P
  extend n P before now k h = go (cut k n h)
    where
      go : (k < n) ⊎ (k ≡ n) → IsThere k P
      go (inl less) = before k less
      go (inr e) = subst (λ m. IsThere m P) (sym e) now

  -- one window more that is empty
  in_order_with_empty : (n : ℕ) (w : ℤ × ℤ) (P : ℤ × ℤ → Type 0) → windows (pos (suc n)) ≡ Some w → is_full w ≡ false → ((k : ℕ) → k < n → IsThere k P) → follows_all rising windows n ≡ true
  in_order_with_empty n w P e f there = each_true n (λ k. are_in_order rising (windows k) (windows (pos (suc n)))) (λ k less. let u = there k less in
      order_is rising (windows (pos (suc k))) (windows (pos (suc n))) u.0 w (is_full u.0) false u.1.0 e refl f ∙ ap (λ b. if b then is_behind rising u.0 w else true) (and_false (is_full u.0)))

  -- one that isn't, after empty ones
  in_order_after_empty : (n : ℕ) (w : ℤ × ℤ) → windows (pos (suc n)) ≡ Some w → is_full w ≡ true → AllEmpty n → follows_all rising windows n ≡ true
  in_order_after_empty n w e f there = each_true n (λ k. are_in_order rising (windows k) (windows (pos (suc n)))) (λ k less. let u = there k less in
      order_is rising (windows (pos (suc k))) (windows (pos (suc n))) u.0 w false true u.1.0 e u.1.1 f)

  -- one that isn't, behind the last one that isn't
  in_order_behind : (n : ℕ) (w last : ℤ × ℤ) → windows (pos (suc n)) ≡ Some w → is_full w ≡ true → is_behind rising last w ≡ true → AllWithin n last → follows_all rising windows n ≡ true
  in_order_behind n w last e f behind all = each_true n (λ k. are_in_order rising (windows k) (windows (pos (suc n)))) (λ k less. let u = all.0 k less in at k u.0 u.1.0 u.1.1 (is_full u.0) refl)
    where
      at : (k : ℕ) (u : ℤ × ℤ) → windows (pos (suc k)) ≡ Some u → (is_full u ≡ true → IsWithin rising u last) → (b : Bool) → is_full u ≡ b → are_in_order rising (windows (pos (suc k))) (windows (pos (suc n))) ≡ true
      at k u is within true h = order_is rising (windows (pos (suc k))) (windows (pos (suc n))) u w true true is e h f ∙ behind_too rising u last w (within h) behind
      at k u is within false h = order_is rising (windows (pos (suc k))) (windows (pos (suc n))) u w false true is e h f

  out_of_order : (n : ℕ) (w last : ℤ × ℤ) → windows (pos (suc n)) ≡ Some w → is_full w ≡ true → is_behind rising last w ≡ false → AllWithin n last → follows_all rising windows n ≡ false
  out_of_order n w last e f behind all =
      let k = all.1.1.0 in
      each_false n (λ k. are_in_order rising (windows k) (windows (pos (suc n)))) k all.1.1.1.0 (order_is rising (windows (pos (suc k))) (windows (pos (suc n))) last w true true all.1.1.1.1 e all.1.0 f ∙ behind)

  abbrev Step : ℕ → Option (Option (ℤ × ℤ)) → Type 0
  Step n o = Known (suc n) o × (are_ascending rising windows (suc n) ≡ is_some o)

  -- all is as the last of the three says
  by_last : (n : ℕ) (w : ℤ × ℤ) (answer : Bool) → are_ascending rising windows n ≡ true → windows (pos (suc n)) ≡ Some w → follows_all rising windows n ≡ answer → are_ascending rising windows (suc n) ≡ answer
  by_last n w answer e is h = (λ i. (e i && is_some (is i)) && follows_all rising windows n) ∙ h

  with_window : (n : ℕ) (w : ℤ × ℤ) → are_ascending rising windows n ≡ true → windows (pos (suc n)) ≡ Some w → (last : Option (ℤ × ℤ)) → Known n (Some last) → (full : Bool) → is_full w ≡ full → Step n (if full then (if follows rising last w then Some (Some w) else None) else Some last)
  with_window n w e is None known false f = (extend n (λ u. is_full u ≡ false) known (w, (is, f)), by_last n w true e is (in_order_with_empty n w (λ u. is_full u ≡ false) is f known))
  with_window n w e is (Some last) known false f = (
    (extend n (λ u. is_full u ≡ true → IsWithin rising u last) known.0 (w, (is, λ t. absurd (cc (f, t)))), (known.1.0, (known.1.1.0, (omega (arith, known.1.1.1.0), known.1.1.1.1)))),
    by_last n w true e is (in_order_with_empty n w (λ u. is_full u ≡ true → IsWithin rising u last) is f known.0),
  )
  with_window n w e is None known true f = (
    (extend n (λ u. is_full u ≡ true → IsWithin rising u w) (λ k less. let u = known k less in (u.0, (u.1.0, λ t. absurd (cc (u.1.1, t))))) (w, (is, λ t. within_itself rising w)), (f, (n, (omega arith, is)))),
    by_last n w true e is (in_order_after_empty n w is f known),
  )
  with_window n w e is (Some last) known true f = go (is_behind rising last w) refl
    where
      go : (b : Bool) → is_behind rising last w ≡ b → Step n (if b then Some (Some w) else None)
      go true behind = (
        (extend n (λ u. is_full u ≡ true → IsWithin rising u w) (λ k less. let u = known.0 k less in (u.0, (u.1.0, λ t. within_too rising u.0 last w (u.1.1 t) behind f))) (w, (is, λ t. within_itself rising w)), (f, (n, (omega arith, is)))),
        by_last n w true e is (in_order_behind n w last is f behind known),
      )
      go false behind = (tt, by_last n w false e is (out_of_order n w last is f behind known))

  one_more : (n : ℕ) (o : Option (Option (ℤ × ℤ))) → Known n o → are_ascending rising windows n ≡ is_some o → (wo : Option (ℤ × ℤ)) → windows (pos (suc n)) ≡ wo → Step n (pass rising o wo)
  one_more n None known e wo is = (tt, (λ i. (e i && is_some (windows (pos (suc n)))) && follows_all rising windows n))
  one_more n (Some last) known e None is = (tt, (λ i. (e i && is_some (is i)) && follows_all rising windows n))
  one_more n (Some last) known e (Some w) is = with_window n w e is last known (is_full w) refl

  pub pass_tells : (n : ℕ) → Known n (passed_to rising windows n) × (are_ascending rising windows n ≡ is_some (passed_to rising windows n))
  pass_tells zero = (λ k h. absurd (omega arith), refl)
  pass_tells (suc n) = let h = pass_tells n in one_more n (passed_to rising windows n) h.0 h.1 (windows (pos (suc n))) refl

pub pass_is : (rising : Bool) (windows : Windows) (n : ℕ) → is_some (passed_to rising windows n) ≡ are_ascending rising windows n
pass_is rising windows n = sym (pass_tells rising windows n).1

pub pass_more : (rising : Bool) (windows : Windows) (n : ℕ) → passed_to rising windows (n + 1) ≡ pass rising (passed_to rising windows n) (windows (pos (n + 1)))
pass_more rising windows n = ap (passed_to rising windows) (add-one n) ∙ ap (λ m. pass rising (passed_to rising windows n) (windows (pos m))) (sym (add-one n))

-- once it has failed, it has failed
pub pass_fails : (rising : Bool) (windows : Windows) (k n : ℕ) → k ≤ n → passed_to rising windows k ≡ None → passed_to rising windows n ≡ None
pass_fails rising windows k zero h e = let z : k ≡ 0 = omega arith in subst (λ m. passed_to rising windows m ≡ None) z e
pass_fails rising windows k (suc n) h e = go (cut k (suc n) (omega arith)) (λ less. pass_fails rising windows k n less e)
  where
    go : (k < suc n) ⊎ (k ≡ suc n) → (k ≤ n → passed_to rising windows n ≡ None) → passed_to rising windows (suc n) ≡ None
    go (inl less) before = ap (λ o. pass rising o (windows (pos (suc n)))) (before (omega (arith, less)))
    go (inr same) before = subst (λ m. passed_to rising windows m ≡ None) same e

pub not_ascending : (rising : Bool) (windows : Windows) (k n : ℕ) → k < n → passed_to rising windows (k + 1) ≡ None → are_ascending rising windows n ≡ false
not_ascending rising windows k n h e = sym (pass_is rising windows n) ∙ ap is_some (pass_fails rising windows (k + 1) n (omega arith) e)
