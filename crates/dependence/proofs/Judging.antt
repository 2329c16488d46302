-- Each region has a mode, or has none and a flow pair.
use Rattle.std.proofs.Common.{ℕ, zero, suc, ◌≡◌, ◌==◌, ◌+◌, ◌-◌, ◌<◌, ◌⊎◌, inl, inr, true, false, List, [], ◌∷◌, length, map, None, Some, get_or, if◌then◌else◌, refl, sym, ap, ◌∙◌, subst, arith, true≢false, eqb-true}
use Rattle.interleaving.specs.Traces.{Read, Write, Move, is_written}
use Rattle.hyb_base.specs.declared.ops.RedOp.{RedOp}
use Rattle.dependence.specs.declared.modes.Judged.{Judged}
use Rattle.dependence.specs.declared.modes.Mode.{Mode}
use Rattle.dependence.specs.declared.modes.Mode.TheVariants.{Untouched, ReadOnly, Shared, Private, Reduce}
use Rattle.dependence.specs.declared.modes.Pair.{Pair}
use Rattle.dependence.specs.Conflicts.{IsFlowPair, IsConflict, HasNoConflict, HasNoFlow}
use Rattle.dependence.specs.Executions.{Trace, trace_of, is_touched}
use Rattle.dependence.specs.Laws.{VerdictsAre, JudgedFit}
use Rattle.dependence.specs.Regions.{Interval, IsIn, OnlyBy, Applies, row, IsModeOf, HasNoMode, ModeFits, ModesFit}
use Rattle.dependence.specs.Verdicts.{FlowsIn, IsJudged, AreJudged, IsFlow}
use Rattle.dependence.proofs.Bounds.{less, same, more, order_of, all_or, first_test}
use Rattle.dependence.proofs.Operators.{operator_or}
use Rattle.dependence.proofs.Pairs.{Written, Touched, first_touches, none_written, flow_or, conflict_or}

module _ (traces : List Trace) (region : Interval) where
  -- an address of a region at which something holds
  pub record At (Q : ℕ → Type 0) : Type 0 where
    pub address : ℕ
    pub inside : IsIn region address
    pub holds : Q address

  at_or : (P Q : ℕ → Type 0) → ((a : ℕ) → P a ⊎ Q a) → ((a : ℕ) → IsIn region a → P a) ⊎ At Q
  at_or P Q decide = elim (all_or (λ d. P (region.start + d)) (λ d. Q (region.start + d)) (λ d. decide (region.start + d)) region.len) [
    | inl all ↦ inl (λ a i. let e : region.start + (a - region.start) ≡ a = omega (arith, i.0) in subst P e (all (a - region.start) (omega (arith, i.0, i.1))))
    | inr one ↦ inr (record { address = region.start + one.0; inside = (omega arith, omega (arith, one.1.0)); holds = one.1.1 })
  ]

  abbrev IsTouched : ℕ → Type 0
  IsTouched a = (k : ℕ) × Touched traces a k

  abbrev IsWritten : ℕ → Type 0
  IsWritten a = (k : ℕ) × Written traces a k

  abbrev Conflicts : ℕ → Type 0
  Conflicts a = (k : ℕ) × ((j : ℕ) × IsConflict traces a k j)

  abbrev Flows : ℕ → Type 0
  Flows a = (k : ℕ) × ((j : ℕ) × IsFlowPair traces a k j)

  touched_or : ((a : ℕ) → IsIn region a → (k : ℕ) → is_touched (trace_of traces k) a ≡ false) ⊎ At IsTouched
  touched_or = at_or (λ a. (k : ℕ) → is_touched (trace_of traces k) a ≡ false) IsTouched (λ a. elim (first_test traces (λ t. is_touched t a) refl) [ inl none ↦ inl none | inr n ↦ inr (n.0, n.1.passes) ])

  written_or : ((a : ℕ) → IsIn region a → (k : ℕ) → is_written (trace_of traces k) a ≡ false) ⊎ At IsWritten
  written_or = at_or (λ a. (k : ℕ) → is_written (trace_of traces k) a ≡ false) IsWritten (λ a. elim (first_test traces (λ t. is_written t a) refl) [ inl none ↦ inl none | inr n ↦ inr (n.0, n.1.passes) ])

  not_untouched : At IsTouched → Applies traces region Untouched → ⊥
  not_untouched t h = true≢false (sym t.holds.1 ∙ h t.holds.0 t.address t.inside)

  not_read : At IsWritten → Applies traces region ReadOnly → ⊥
  not_read w h = true≢false (sym w.holds.1 ∙ h w.holds.0 w.address w.inside)

  not_shared : At Conflicts → Applies traces region Shared → ⊥
  not_shared c h = h c.address c.inside c.holds.0 c.holds.1.0 c.holds.1.1

  not_private : At Flows → Applies traces region Private → ⊥
  not_private f h = h f.address f.inside f.holds.0 f.holds.1.0 f.holds.1.1

  below_read : At IsTouched → (mode : Mode) → row mode < 1 → Applies traces region mode → ⊥
  below_read t Untouched l h = not_untouched t h
  below_read t ReadOnly l h = omega (arith, l)
  below_read t Shared l h = omega (arith, l)
  below_read t Private l h = omega (arith, l)
  below_read t (Reduce op) l h = omega (arith, l)

  below_shared : At IsTouched → At IsWritten → (mode : Mode) → row mode < 2 → Applies traces region mode → ⊥
  below_shared t w Untouched l h = not_untouched t h
  below_shared t w ReadOnly l h = not_read w h
  below_shared t w Shared l h = omega (arith, l)
  below_shared t w Private l h = omega (arith, l)
  below_shared t w (Reduce op) l h = omega (arith, l)

  below_private : At IsTouched → At IsWritten → At Conflicts → (mode : Mode) → row mode < 3 → Applies traces region mode → ⊥
  below_private t w c Untouched l h = not_untouched t h
  below_private t w c ReadOnly l h = not_read w h
  below_private t w c Shared l h = not_shared c h
  below_private t w c Private l h = omega (arith, l)
  below_private t w c (Reduce op) l h = omega (arith, l)

  below_reduce : At IsTouched → At IsWritten → At Conflicts → At Flows → (mode : Mode) → row mode < 4 → Applies traces region mode → ⊥
  below_reduce t w c f Untouched l h = not_untouched t h
  below_reduce t w c f ReadOnly l h = not_read w h
  below_reduce t w c f Shared l h = not_shared c h
  below_reduce t w c f Private l h = not_private f h
  below_reduce t w c f (Reduce op) l h = omega (arith, l)

  no_mode : At IsTouched → At IsWritten → At Conflicts → At Flows → ((op : RedOp) → Applies traces region (Reduce op) → ⊥) → HasNoMode traces region
  no_mode t w c f none Untouched h = not_untouched t h
  no_mode t w c f none ReadOnly h = not_read w h
  no_mode t w c f none Shared h = not_shared c h
  no_mode t w c f none Private h = not_private f h
  no_mode t w c f none (Reduce op) h = none op h

  abbrev conflict_pair : At Conflicts → Pair
  conflict_pair c = record { address = c.address; earlier = c.holds.0; later = c.holds.1.0 }

  abbrev flow_pair : At Flows → Pair
  flow_pair f = record { address = f.address; earlier = f.holds.0; later = f.holds.1.0 }

  abbrev Left : Type 0
  Left = (pair : Pair) × (HasNoMode traces region × FlowsIn traces region pair)

  pub judged_or : ((judged : Judged) × IsJudged traces region judged) ⊎ Left
  judged_or = elim touched_or [
    | inl none ↦ inl (record { mode = Untouched; pair = None }, record { mode = record { applies = λ k a i. none a i k; first = λ earlier l h. absurd (omega (arith, l)) }; named = tt })
    | inr t ↦ elim written_or [
      | inl none ↦ inl (record { mode = ReadOnly; pair = None }, record { mode = record { applies = λ k a i. none a i k; first = below_read t }; named = tt })
      | inr w ↦ elim (at_or (λ a. HasNoConflict traces a) Conflicts (λ a. conflict_or traces a)) [
        | inl none ↦ inl (record { mode = Shared; pair = None }, record { mode = record { applies = none; first = below_shared t w }; named = tt })
        | inr c ↦ elim (at_or (λ a. HasNoFlow traces a) Flows (λ a. flow_or traces a)) [
          | inl none ↦ inl (record { mode = Private; pair = Some (conflict_pair c) }, record { mode = record { applies = none; first = below_private t w c }; named = record { inside = c.inside; conflict = c.holds.1.1 } })
          | inr f ↦ elim (operator_or traces region) [
            | inl none ↦ inr (flow_pair f, (no_mode t w c f none, record { inside = f.inside; flow = f.holds.1.1 }))
            | inr op ↦ inl (record { mode = Reduce op.0; pair = Some (flow_pair f) }, record { mode = record { applies = op.1; first = below_reduce t w c f }; named = record { inside = f.inside; flow = f.holds.1.1 } })
          ]
        ]
      ]
    ]
  ]

  -- one mode
  one_operator : (op o : RedOp) (trace : Trace) (a : ℕ) → IsIn region a → is_touched trace a ≡ true → OnlyBy op region trace → OnlyBy o region trace → op ≡ o
  one_operator op o [] a i t h k = absurd (true≢false (sym t))
  one_operator op o (Read b by ∷ trace) a i t h k = (elim (b == a) as (λ w. (b == a) ≡ w → (if w then true else is_touched trace a) ≡ true → op ≡ o) [
    | true ↦ λ e _. let b_in : IsIn region b = subst (λ (n : ℕ). IsIn region n) (sym (eqb-true b a e)) i in let x : by ≡ Some op = h.0 b_in in let y : by ≡ Some o = k.0 b_in in cc
    | false ↦ λ e f. one_operator op o trace a i f h.1 k.1
  ]) refl t
  one_operator op o (Write b by ∷ trace) a i t h k = (elim (b == a) as (λ w. (b == a) ≡ w → (if w then true else is_touched trace a) ≡ true → op ≡ o) [
    | true ↦ λ e _. let b_in : IsIn region b = subst (λ (n : ℕ). IsIn region n) (sym (eqb-true b a e)) i in let x : by ≡ Some op = h.0 b_in in let y : by ≡ Some o = k.0 b_in in cc
    | false ↦ λ e f. one_operator op o trace a i f h.1 k.1
  ]) refl t
  one_operator op o (Move ∷ trace) a i t h k = one_operator op o trace a i t h k

  pub one_reduced : (op o : RedOp) → (Applies traces region Untouched → ⊥) → Applies traces region (Reduce op) → Applies traces region (Reduce o) → op ≡ o
  one_reduced op o used p q = elim touched_or [
    | inl none ↦ absurd (used (λ k a i. none a i k))
    | inr t ↦ one_operator op o (trace_of traces t.holds.0) t.address t.inside t.holds.1 (p t.holds.0) (q t.holds.0)
  ]

  same_row : (mode other : Mode) → row mode ≡ row other → IsModeOf traces region mode → IsModeOf traces region other → mode ≡ other
  same_row Untouched Untouched e p q = refl
  same_row ReadOnly ReadOnly e p q = refl
  same_row Shared Shared e p q = refl
  same_row Private Private e p q = refl
  same_row (Reduce op) (Reduce o) e p q = ap Reduce (one_reduced op o (p.first Untouched (omega arith)) p.applies q.applies)
  same_row _ _ e p q = absurd (omega (arith, e))

  pub one_mode : (mode other : Mode) → IsModeOf traces region mode → IsModeOf traces region other → mode ≡ other
  one_mode mode other p q = elim (order_of (row mode) (row other)) [ less l ↦ absurd (q.first mode l p.applies) | same e ↦ same_row mode other e p q | more l ↦ absurd (p.first other l q.applies) ]

  -- the mode fits
  pub mode_fits : (mode : Mode) → Applies traces region mode → ModeFits traces region mode
  mode_fits Untouched h = λ a i k j c. true≢false (sym (first_touches traces a k j c) ∙ h k a i)
  mode_fits ReadOnly h = λ a i. none_written traces a (λ k. h k a i)
  mode_fits Shared h = h
  mode_fits Private h = h
  mode_fits (Reduce op) h = h

module _ (traces : List Trace) where
  some : (regions : List Interval) → ((modes : List Judged) × AreJudged traces regions modes) ⊎ ((pair : Pair) × IsFlow traces regions pair)
  some [] = inl ([], tt)
  some (region ∷ regions) = elim (judged_or traces region) [
    | inl judged ↦ elim (some regions) [
      | inl rest ↦ inl (judged.0 ∷ rest.0, (judged.1, rest.1))
      | inr one ↦ inr (one.0, record { region = one.1.region; listed = (suc one.1.listed.0, omega (arith, one.1.listed.1), one.1.listed.2); no_mode = one.1.no_mode; flows = one.1.flows })
    ]
    | inr left ↦ inr (left.0, record { region = region; listed = (0, omega arith, refl); no_mode = left.1.0; flows = left.1.1 })
  ]

  judged_at : (regions : List Interval) (modes : List Judged) (n : ℕ) (region : Interval) → AreJudged traces regions modes → n < length regions → get_or regions n region ≡ region → (judged : Judged) × IsJudged traces region judged
  judged_at [] modes n region h l e = absurd (omega (arith, l))
  judged_at (first ∷ regions) [] n region h l e = absurd h
  judged_at (first ∷ regions) (judged ∷ modes) zero region h l e = (judged, subst (λ (r : Interval). IsJudged traces r judged) e h.0)
  judged_at (first ∷ regions) (judged ∷ modes) (suc n) region h l e = judged_at regions modes n region h.1 (omega (arith, l)) e

  not_both : (regions : List Interval) (modes : List Judged) (pair : Pair) → AreJudged traces regions modes → IsFlow traces regions pair → ⊥
  not_both regions modes pair h f = let j = judged_at regions modes f.listed.0 f.region h f.listed.1 f.listed.2 in f.no_mode (j.0).mode (j.1).mode.applies

  judged_fit : (regions : List Interval) (modes : List Judged) → AreJudged traces regions modes → ModesFit traces regions (map (λ judged. judged.mode) modes)
  judged_fit [] [] h = tt
  judged_fit [] (judged ∷ modes) h = h
  judged_fit (region ∷ regions) [] h = h
  judged_fit (region ∷ regions) (judged ∷ modes) h = (mode_fits traces region judged.mode (h.0).mode.applies, judged_fit regions modes h.1)

pub verdicts_are : VerdictsAre
verdicts_are = record { some = some; not_both = not_both; one_mode = λ traces region mode other p q. one_mode traces region mode other p q }

pub judged_modes_fit : JudgedFit
judged_modes_fit = λ traces regions modes h. judged_fit traces regions modes h
