-- Modes of regions, and the modes of their cells.
use Rattle.std.proofs.Common.{ℕ, zero, suc, ◌≡◌, ◌==◌, ◌<◌, Bool, true, false, List, [], ◌∷◌, length, get_or, if◌then◌else◌, refl, sym, ap, ◌∙◌, subst, arith, true≢false, eq-eqb}
use Rattle.interleaving.specs.Modes.{Compatible, CompatibleWithAll, OnlyAccumulates, Fits, forbids_flow, FlowPair, AntiPair, OutputPair}
use Rattle.interleaving.specs.Modes as cells
use Rattle.interleaving.specs.Traces.{Read, Write, Move}
use Rattle.hyb_base.specs.declared.ops.RedOp.{RedOp}
use Rattle.dependence.specs.declared.modes.Mode.{Mode}
use Rattle.dependence.specs.declared.modes.Mode.TheVariants.{Untouched, ReadOnly, Shared, Private, Reduce}
use Rattle.dependence.specs.Conflicts.{flow, anti, output, HasNoConflict, HasNoFlow}
use Rattle.dependence.specs.Executions.{Trace, trace_of, is_touched}
use Rattle.dependence.specs.Laws.{cell_mode, CellsAre, AreCovered, CellsFit}
use Rattle.dependence.specs.Regions.{Interval, IsIn, OnlyBy, ModeFits, ModesFit}
use Rattle.dependence.proofs.Touches.{written_touched, exposed_touched}

module _ (modes : ℕ → cells.Mode RedOp) where
  late_empty : (early : Trace) → Compatible modes early []
  late_empty early = record { no_flow = λ a _ p. true≢false (sym p.1); no_anti = λ a _ p. true≢false (sym p.1); no_output = λ a _ p. true≢false (sym p.1) }

  early_empty : (late : Trace) → Compatible modes [] late
  early_empty late = record { no_flow = λ a _ p. true≢false (sym p.0); no_anti = λ a _ p. true≢false (sym p.0); no_output = λ a _ p. true≢false (sym p.0) }

  -- what fits, by the numbers of iterations
  with_all_at : (early : Trace) (traces : List Trace) → CompatibleWithAll modes early traces → (j : ℕ) → Compatible modes early (trace_of traces j)
  with_all_at early [] h j = late_empty early
  with_all_at early (trace ∷ traces) h zero = late_empty early
  with_all_at early (trace ∷ traces) h (suc zero) = h.0
  with_all_at early (trace ∷ traces) h (suc (suc j)) = with_all_at early traces h.1 (suc j)

  compatible_at : (traces : List Trace) → Fits modes traces → (k j : ℕ) → k < j → Compatible modes (trace_of traces k) (trace_of traces j)
  compatible_at [] h k j l = early_empty []
  compatible_at (trace ∷ traces) h zero j l = early_empty (trace_of (trace ∷ traces) j)
  compatible_at (trace ∷ traces) h (suc zero) zero l = absurd (omega (arith, l))
  compatible_at (trace ∷ traces) h (suc zero) (suc zero) l = absurd (omega (arith, l))
  compatible_at (trace ∷ traces) h (suc zero) (suc (suc j)) l = with_all_at trace traces h.1 (suc j)
  compatible_at (trace ∷ traces) h (suc (suc k)) zero l = absurd (omega (arith, l))
  compatible_at (trace ∷ traces) h (suc (suc k)) (suc zero) l = absurd (omega (arith, l))
  compatible_at (trace ∷ traces) h (suc (suc k)) (suc (suc j)) l = compatible_at traces h.2 (suc k) (suc j) (omega (arith, l))

  only_at : (traces : List Trace) → Fits modes traces → (k : ℕ) → OnlyAccumulates modes (trace_of traces k)
  only_at [] h k = tt
  only_at (trace ∷ traces) h zero = tt
  only_at (trace ∷ traces) h (suc zero) = h.0
  only_at (trace ∷ traces) h (suc (suc k)) = only_at traces h.2 (suc k)

  with_all_by : (early : Trace) (traces : List Trace) → ((j : ℕ) → Compatible modes early (trace_of traces (suc j))) → CompatibleWithAll modes early traces
  with_all_by early [] h = tt
  with_all_by early (trace ∷ traces) h = (h zero, with_all_by early traces (λ j. h (suc j)))

  fits_by : (traces : List Trace) → ((k : ℕ) → OnlyAccumulates modes (trace_of traces (suc k))) → ((k j : ℕ) → k < j → Compatible modes (trace_of traces (suc k)) (trace_of traces (suc j))) → Fits modes traces
  fits_by [] h c = tt
  fits_by (trace ∷ traces) h c = (h zero, with_all_by trace traces (λ j. c zero (suc j) (omega arith)), fits_by traces (λ k. h (suc k)) (λ k j l. c (suc k) (suc j) (omega (arith, l))))

  -- a trace whose accesses to reduced cells lie in regions that are reduced
  abbrev Reduced : Trace → Type 0
  Reduced trace = (a : ℕ) → is_touched trace a ≡ true → (op : RedOp) → modes a ≡ cells.Reduce op → (region : Interval) × (IsIn region a × OnlyBy op region trace)

  here : (a : ℕ) (t : Bool) → (if a == a then true else t) ≡ true
  here a t = ap (λ w. if w then true else t) (eq-eqb a a refl)

  later : (b a : ℕ) (t : Bool) → t ≡ true → (if b == a then true else t) ≡ true
  later b a t h = elim (b == a) as (λ w. (if w then true else t) ≡ true) [ true ↦ refl | false ↦ h ]

  only_by : (trace : Trace) → Reduced trace → OnlyAccumulates modes trace
  only_by [] h = tt
  only_by (Read b by ∷ trace) h = (
    λ op e. let r = h b (here b (is_touched trace b)) op e in r.1.1.0 r.1.0,
    only_by trace (λ a t op e. let r = h a (later b a (is_touched trace a) t) op e in (r.0, (r.1.0, r.1.1.1))),
  )
  only_by (Write b by ∷ trace) h = (
    λ op e. let r = h b (here b (is_touched trace b)) op e in r.1.1.0 r.1.0,
    only_by trace (λ a t op e. let r = h a (later b a (is_touched trace a) t) op e in (r.0, (r.1.0, r.1.1.1))),
  )
  only_by (Move ∷ trace) h = only_by trace h

  -- the other way
  only_region : (op : RedOp) (region : Interval) (trace : Trace) → ((a : ℕ) → IsIn region a → modes a ≡ cells.Reduce op) → OnlyAccumulates modes trace → OnlyBy op region trace
  only_region op region [] is h = tt
  only_region op region (Read b by ∷ trace) is h = (λ i. h.0 op (is b i), only_region op region trace is h.1)
  only_region op region (Write b by ∷ trace) is h = (λ i. h.0 op (is b i), only_region op region trace is h.1)
  only_region op region (Move ∷ trace) is h = only_region op region trace is h

  module _ (traces : List Trace) where
    -- a region with its mode
    pub record Listed (region : Interval) : Type 0 where
      pub mode : Mode
      pub is : (a : ℕ) → IsIn region a → modes a ≡ cell_mode mode
      pub fits : ModeFits traces region mode

    listed_at : (regions : List Interval) (listed : List Mode) (n : ℕ) (region : Interval) → CellsAre modes regions listed → ModesFit traces regions listed → n < length regions → get_or regions n region ≡ region → Listed region
    listed_at [] listed n region is h l e = absurd (omega (arith, l))
    listed_at (first ∷ regions) [] n region is h l e = absurd h
    listed_at (first ∷ regions) (mode ∷ listed) zero region is h l e = subst (λ (r : Interval). Listed r) e (record { mode = mode; is = is.0; fits = h.0 })
    listed_at (first ∷ regions) (mode ∷ listed) (suc n) region is h l e = listed_at regions listed n region is.1 h.1 (omega (arith, l)) e

    no_conflict : (region : Interval) (mode : Mode) (a : ℕ) → cells.Shared ≡ cell_mode mode → ModeFits traces region mode → IsIn region a → HasNoConflict traces a
    no_conflict region Untouched a e h i = h a i
    no_conflict region ReadOnly a e h i = h a i
    no_conflict region Shared a e h i = h a i
    no_conflict region Private a e h i = absurd (cc)
    no_conflict region (Reduce op) a e h i = absurd (cc)

    no_flow : (region : Interval) (mode : Mode) (a : ℕ) → forbids_flow (cell_mode mode) ≡ true → ModeFits traces region mode → IsIn region a → HasNoFlow traces a
    no_flow region Untouched a e h i = λ k j p. h a i k j (flow p)
    no_flow region ReadOnly a e h i = λ k j p. h a i k j (flow p)
    no_flow region Shared a e h i = λ k j p. h a i k j (flow p)
    no_flow region Private a e h i = h a i
    no_flow region (Reduce op) a e h i = absurd (true≢false (sym e))

    reduced : (region : Interval) (mode : Mode) (op : RedOp) → cells.Reduce op ≡ cell_mode mode → ModeFits traces region mode → (k : ℕ) → OnlyBy op region (trace_of traces k)
    reduced region Untouched op e h k = absurd (cc)
    reduced region ReadOnly op e h k = absurd (cc)
    reduced region Shared op e h k = absurd (cc)
    reduced region Private op e h k = absurd (cc)
    reduced region (Reduce o) op e h k = let same : o ≡ op = cc in subst (λ (x : RedOp). OnlyBy x region (trace_of traces k)) same (h k)

    module _ (regions : List Interval) (listed : List Mode) (is : CellsAre modes regions listed) where
      module _ (covered : AreCovered traces regions) (h : ModesFit traces regions listed) where
        -- the region of an address that is touched
        pub record Around (a : ℕ) : Type 0 where
          pub region : Interval
          pub inside : IsIn region a
          pub at : Listed region

        around : (k a : ℕ) → is_touched (trace_of traces k) a ≡ true → Around a
        around k a t = let r = covered k a t in record { region = r.0; inside = r.1.1; at = listed_at regions listed (r.1.0).0 r.0 is h (r.1.0).1 (r.1.0).2 }

        pairs_so : (k j : ℕ) → k < j → Compatible modes (trace_of traces k) (trace_of traces j)
        pairs_so k j l = record {
          no_flow = λ a forbidden p.
              let r : Around a = around k a (written_touched (trace_of traces k) a p.0) in
              no_flow r.region r.at.mode a (sym (ap forbids_flow (r.at.is a r.inside)) ∙ forbidden) r.at.fits r.inside k j (record { earlier = l; pair = p });
          no_anti = λ a shared p.
              let r : Around a = around k a (exposed_touched (trace_of traces k) a p.0) in
              no_conflict r.region r.at.mode a (sym shared ∙ r.at.is a r.inside) r.at.fits r.inside k j (anti (record { earlier = l; pair = p }));
          no_output = λ a shared p.
              let r : Around a = around k a (written_touched (trace_of traces k) a p.0) in
              no_conflict r.region r.at.mode a (sym shared ∙ r.at.is a r.inside) r.at.fits r.inside k j (output (record { earlier = l; pair = p }));
        }

        only_so : (k : ℕ) → OnlyAccumulates modes (trace_of traces k)
        only_so k = only_by (trace_of traces k) (λ a t op e. let r : Around a = around k a t in (r.region, (r.inside, reduced r.region r.at.mode op (sym e ∙ r.at.is a r.inside) r.at.fits k)))

        pub cells_fit : Fits modes traces
        cells_fit = fits_by traces (λ k. only_so (suc k)) (λ k j l. pairs_so (suc k) (suc j) (omega (arith, l)))

    module _ (h : Fits modes traces) where
      conflict_free : (region : Interval) → ((a : ℕ) → IsIn region a → modes a ≡ cells.Shared) → (a : ℕ) → IsIn region a → HasNoConflict traces a
      conflict_free region is a i k j (flow p) = (compatible_at traces h k j p.earlier).no_flow a (ap forbids_flow (is a i)) p.pair
      conflict_free region is a i k j (anti p) = (compatible_at traces h k j p.earlier).no_anti a (is a i) p.pair
      conflict_free region is a i k j (output p) = (compatible_at traces h k j p.earlier).no_output a (is a i) p.pair

      region_fits : (region : Interval) (mode : Mode) → ((a : ℕ) → IsIn region a → modes a ≡ cell_mode mode) → ModeFits traces region mode
      region_fits region Untouched is = conflict_free region is
      region_fits region ReadOnly is = conflict_free region is
      region_fits region Shared is = conflict_free region is
      region_fits region Private is = λ a i k j p. (compatible_at traces h k j p.earlier).no_flow a (ap forbids_flow (is a i)) p.pair
      region_fits region (Reduce op) is = λ k. only_region op region (trace_of traces k) is (only_at traces h k)

      pub regions_fit : (regions : List Interval) (listed : List Mode) → CellsAre modes regions listed → ModesFit traces regions listed
      regions_fit [] [] is = tt
      regions_fit [] (mode ∷ listed) is = is
      regions_fit (region ∷ regions) [] is = is
      regions_fit (region ∷ regions) (mode ∷ listed) is = (region_fits region mode is.0, regions_fit regions listed is.1)

pub the_cells : CellsFit
the_cells = λ traces regions listed modes is covered. (λ h. cells_fit modes traces regions listed is covered h, λ h. regions_fit modes traces h regions listed is)
