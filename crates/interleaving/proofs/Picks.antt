-- What a pick names.
use Rattle.std.proofs.Common.{ℕ, zero, suc, ◌+◌, ◌<◌, ◌%◌, ◌≡◌, Bool, true, false, List, [], ◌∷◌, length, take, Option, None, Some, if◌then◌else◌, refl, sym, ap, ◌∙◌, subst, arith, mod-lt}
use Rattle.std.proofs.Math.Nat.{mod-eq_of_lt}
use Rattle.interleaving.specs.Machine.{Event, reads, writes, moves, ends, faults, Machine, Store}
use Rattle.interleaving.specs.Modes.{Mode}
use Rattle.interleaving.specs.Picks.{index_at, iteration_at, IsLive, picked_of, picked, replaced, with_stepped, NamesLive, PicksName}
use Rattle.interleaving.specs.Region.{Iteration, Region, step_by, step_at, commit, with_before, with_after, unfinished, settled, settled_from, place_of, advanced, advanced_all, all_fresh, begun}
use Rattle.interleaving.proofs.Commits.{LeadGoes}
use Rattle.interleaving.proofs.Windows.{some_unfinished}

module _ {P O V : Type 0} (m : Machine P O V) (modes : ℕ → Mode O) where
  -- the iteration at a place among the unfinished ones of a window, and the step at that place
  record AtPlace (window place : ℕ) (s : Store V) (pending : List (Iteration P V)) : Type 0 where
    it : Iteration P V
    below : index_at place pending < window
    there : iteration_at pending (index_at place pending) ≡ Some it
    unfinished : it.finished ≡ false
    steps : step_at m modes place s pending ≡ with_stepped pending (index_at place pending) (step_by m modes (m.event it.process) s it)

  before_stepped : (it : Iteration P V) (more : List (Iteration P V)) (index : ℕ) (came : Option (Store V × Iteration P V)) → with_before it (with_stepped more index came) ≡ with_stepped (it ∷ more) (suc index) came
  before_stepped it more index None = refl
  before_stepped it more index (Some r) = refl

  after_stepped : (it : Iteration P V) (more : List (Iteration P V)) (came : Option (Store V × Iteration P V)) → with_after came more ≡ with_stepped (it ∷ more) zero came
  after_stepped it more None = refl
  after_stepped it more (Some r) = refl

  at_place : (window place : ℕ) (s : Store V) (pending : List (Iteration P V)) → place < unfinished (take window pending) → AtPlace window place s pending
  at_place zero place s pending h = absurd (omega (arith, h))
  at_place (suc window) place s [] h = absurd (omega (arith, h))
  at_place (suc window) zero s (it ∷ more) h = go it.finished refl h (λ h. at_place window zero s more h)
    where
      go : (w : Bool) → it.finished ≡ w → zero < (if w then unfinished (take window more) else suc (unfinished (take window more))) → (zero < unfinished (take window more) → AtPlace window zero s more) → AtPlace (suc window) zero s (it ∷ more)
      go true e h ih =
          let k : AtPlace window zero s more = ih h in
          let at : index_at zero (it ∷ more) ≡ suc (index_at zero more) = ap (λ w. if w then suc (index_at zero more) else zero) e in
          record {
            it = k.it;
            below = subst (λ n. n < suc window) (sym at) (omega (arith, k.below));
            there = ap (iteration_at (it ∷ more)) at ∙ k.there;
            unfinished = k.unfinished;
            steps = ap (λ w. if w then with_before it (step_at m modes zero s more) else with_after (step_by m modes (m.event it.process) s it) more) e ∙ ap (with_before it) k.steps ∙ before_stepped it more (index_at zero more) (step_by m modes (m.event k.it.process) s k.it) ∙ ap (λ n. with_stepped (it ∷ more) n (step_by m modes (m.event k.it.process) s k.it)) (sym at);
          }
      go false e h ih =
          let at : index_at zero (it ∷ more) ≡ zero = ap (λ w. if w then suc (index_at zero more) else zero) e in
          record {
            it = it;
            below = subst (λ n. n < suc window) (sym at) (omega arith);
            there = ap (iteration_at (it ∷ more)) at;
            unfinished = e;
            steps = ap (λ w. if w then with_before it (step_at m modes zero s more) else with_after (step_by m modes (m.event it.process) s it) more) e ∙ after_stepped it more (step_by m modes (m.event it.process) s it) ∙ ap (λ n. with_stepped (it ∷ more) n (step_by m modes (m.event it.process) s it)) (sym at);
          }
  at_place (suc window) (suc place) s (it ∷ more) h =
      let inner : ℕ = if it.finished then suc place else place in
      let k : AtPlace window inner s more = at_place window inner s more (fewer it.finished h) in
      record {
        it = k.it;
        below = omega (arith, k.below);
        there = k.there;
        unfinished = k.unfinished;
        steps = ap (with_before it) k.steps ∙ before_stepped it more (index_at inner more) (step_by m modes (m.event k.it.process) s k.it);
      }
    where
      fewer : (w : Bool) → suc place < (if w then unfinished (take window more) else suc (unfinished (take window more))) → (if w then suc place else place) < unfinished (take window more)
      fewer true h = h
      fewer false h = omega (arith, h)

  -- the place of an iteration at an index
  record HasPlace (window index : ℕ) (pending : List (Iteration P V)) : Type 0 where
    place : ℕ
    below : place < unfinished (take window pending)
    at : index_at place pending ≡ index

  place_for : (window index : ℕ) (pending : List (Iteration P V)) (it : Iteration P V) → index < window → iteration_at pending index ≡ Some it → it.finished ≡ false → HasPlace window index pending
  place_for zero index pending it h e f = absurd (omega (arith, h))
  place_for (suc window) index [] it h e f = absurd (cc)
  place_for (suc window) zero (first ∷ more) it h e f =
      let same : first ≡ it = cc in
      let g : first.finished ≡ false = ap (λ i. i.finished) same ∙ f in
      record {
        place = zero;
        below = subst (λ w. zero < (if w then unfinished (take window more) else suc (unfinished (take window more)))) (sym g) (omega arith);
        at = ap (λ w. if w then suc (index_at zero more) else zero) g;
      }
  place_for (suc window) (suc index) (first ∷ more) it h e f = go (place_for window index more it (omega (arith, h)) e f) first.finished refl
    where
      go : HasPlace window index more → (w : Bool) → first.finished ≡ w → HasPlace (suc window) (suc index) (first ∷ more)
      go k true g = with_place k.place k.below k.at
        where
          with_place : (place : ℕ) → place < unfinished (take window more) → index_at place more ≡ index → HasPlace (suc window) (suc index) (first ∷ more)
          with_place zero b a = record {
            place = zero;
            below = subst (λ w. zero < (if w then unfinished (take window more) else suc (unfinished (take window more)))) (sym g) b;
            at = ap (λ w. if w then suc (index_at zero more) else zero) g ∙ ap suc a;
          }
          with_place (suc place) b a = record {
            place = suc place;
            below = subst (λ w. suc place < (if w then unfinished (take window more) else suc (unfinished (take window more)))) (sym g) b;
            at = ap (λ w. suc (index_at (if w then suc place else place) more)) g ∙ ap suc a;
          }
      go k false g = record {
        place = suc k.place;
        below = subst (λ w. suc k.place < (if w then unfinished (take window more) else suc (unfinished (take window more)))) (sym g) (let b : k.place < unfinished (take window more) = k.below in omega (arith, b));
        at = ap (λ w. suc (index_at (if w then suc k.place else k.place) more)) g ∙ ap suc k.at;
      }

  -- a region after commits
  lead_settled : (c : ℕ) (s : Store V) (pending : List (Iteration P V)) → LeadGoes (settled m modes c s pending).pending
  lead_settled c s [] = tt
  lead_settled c s (it ∷ more) = (elim it.finished as (λ w. it.finished ≡ w → LeadGoes (if w then settled m modes (suc c) (commit m modes s it.own) more else record { committed = c; store = s; pending = it ∷ more }).pending)
      [ true ↦ λ e. lead_settled (suc c) (commit m modes s it.own) more | false ↦ λ e. e ]) refl

  count_settled : (c : ℕ) (s : Store V) (pending : List (Iteration P V)) → (settled m modes c s pending).committed + length (settled m modes c s pending).pending ≡ c + length pending
  count_settled c s [] = refl
  count_settled c s (it ∷ more) =
      let ih : (settled m modes (suc c) (commit m modes s it.own) more).committed + length (settled m modes (suc c) (commit m modes s it.own) more).pending ≡ suc c + length more = count_settled (suc c) (commit m modes s it.own) more in
      elim it.finished as (λ w. let r : Region P V = if w then settled m modes (suc c) (commit m modes s it.own) more else record { committed = c; store = s; pending = it ∷ more } in r.committed + length r.pending ≡ c + suc (length more))
      [ true ↦ omega (arith, ih) | false ↦ refl ]

  length_stepped : (pending : List (Iteration P V)) (index : ℕ) (came : Option (Store V × Iteration P V)) (r : Store V × List (Iteration P V)) → with_stepped pending index came ≡ Some r → length r.1 ≡ length pending
  length_stepped pending index None r e = absurd (cc)
  length_stepped pending index (Some q) r e = let same : ◌≡◌ {A = Store V × List (Iteration P V)} (q.0, replaced pending index q.1) r = cc in subst (λ x. length x.1 ≡ length pending) same (length_replaced pending index q.1)
    where
      length_replaced : (pending : List (Iteration P V)) (index : ℕ) (it : Iteration P V) → length (replaced pending index it) ≡ length pending
      length_replaced [] index it = refl
      length_replaced (old ∷ more) zero it = refl
      length_replaced (old ∷ more) (suc index) it = ap suc (length_replaced more index it)

  -- the step of an iteration faults exactly where its event is a fault
  step_faults : (ev : Event O V) (s : Store V) (it : Iteration P V) → step_by m modes ev s it ≡ None → ev ≡ faults
  step_faults (reads a by) s it e = absurd (cc)
  step_faults (writes a v by) s it e = absurd (cc)
  step_faults moves s it e = absurd (cc)
  step_faults ends s it e = absurd (cc)
  step_faults faults s it e = refl

  none_stepped : (c : ℕ) (pending : List (Iteration P V)) (index : ℕ) (came : Option (Store V × Iteration P V)) → settled_from m modes c (with_stepped pending index came) ≡ None → came ≡ None
  none_stepped c pending index None e = refl
  none_stepped c pending index (Some q) e = absurd (cc)

  module _ (window : ℕ) (w : 0 < window) where
    -- the first iteration that isn't committed is unfinished, and all are counted
    pub record Settled (count : ℕ) (r : Region P V) : Type 0 where
      pub leads : LeadGoes r.pending
      pub counted : r.committed + length r.pending ≡ count

    at_pick : (r : Region P V) (pick : ℕ) → LeadGoes r.pending → (r.pending ≡ [] → ⊥) → AtPlace window (place_of window r pick) r.store r.pending
    at_pick r pick l n = let some : 0 < unfinished (take window r.pending) = some_unfinished window r.pending w l n in at_place window (place_of window r pick) r.store r.pending (mod-lt pick some)

    none_here : (r : Region P V) (pick : ℕ) → r.pending ≡ [] → advanced m modes window r pick ≡ None
    none_here r pick e = ap (λ its. settled_from m modes r.committed (step_at m modes (pick % unfinished (take window its)) r.store its)) e

    stays_settled : (count : ℕ) (r c : Region P V) (pick : ℕ) → Settled count r → advanced m modes window r pick ≡ Some c → Settled count c
    stays_settled count r c pick k e = by r.pending refl
      where
        by : (pending : List (Iteration P V)) → r.pending ≡ pending → Settled count c
        by [] q = let n : advanced m modes window r pick ≡ None = none_here r pick q in let bad : None ≡ Some c = sym n ∙ e in absurd (cc)
        by (it ∷ more) q = go (at_pick r pick k.leads (λ z. let bad : [] ≡ it ∷ more = sym z ∙ q in absurd (cc)))
          where
            go : AtPlace window (place_of window r pick) r.store r.pending → Settled count c
            go a = from (step_at m modes (place_of window r pick) r.store r.pending) a.steps e
              where
                from : (came : Option (Store V × List (Iteration P V))) → came ≡ with_stepped r.pending (index_at (place_of window r pick) r.pending) (step_by m modes (m.event a.it.process) r.store a.it) → settled_from m modes r.committed came ≡ Some c → Settled count c
                from None f g = absurd (cc)
                from (Some x) f g =
                    let same : settled m modes r.committed x.0 x.1 ≡ c = cc in
                    let long : length x.1 ≡ length r.pending = length_stepped r.pending (index_at (place_of window r pick) r.pending) (step_by m modes (m.event a.it.process) r.store a.it) x (sym f) in
                    let all : (settled m modes r.committed x.0 x.1).committed + length (settled m modes r.committed x.0 x.1).pending ≡ r.committed + length x.1 = count_settled r.committed x.0 x.1 in
                    let was : r.committed + length r.pending ≡ count = k.counted in
                    subst (Settled count) same (record { leads = lead_settled r.committed x.0 x.1; counted = omega (arith, long, all, was) })

    all_settled : (count : ℕ) (picks : List ℕ) (r c : Region P V) → Settled count r → advanced_all m modes window picks (Some r) ≡ Some c → Settled count c
    all_settled count [] r c k e = let same : r ≡ c = cc in subst (Settled count) same k
    all_settled count (pick ∷ picks) r c k e = go (advanced m modes window r pick) refl e (λ q s f. all_settled count picks q c s f)
      where
        none_stays : (picks : List ℕ) → advanced_all m modes window picks None ≡ Some c → ⊥
        none_stays [] g = cc
        none_stays (pick ∷ picks) g = cc

        go : (came : Option (Region P V)) → advanced m modes window r pick ≡ came → advanced_all m modes window picks came ≡ Some c → ((q : Region P V) → Settled count q → advanced_all m modes window picks (Some q) ≡ Some c → Settled count c) → Settled count c
        go None f g ih = absurd (none_stays picks g)
        go (Some q) f g ih = ih q (stays_settled count r q pick k f) g

    lead_fresh : (starts : List P) → LeadGoes {P = P} {V = V} (all_fresh starts)
    lead_fresh [] = tt
    lead_fresh (p ∷ starts) = refl

    length_fresh : (starts : List P) → length (all_fresh {P = P} {V = V} starts) ≡ length starts
    length_fresh [] = refl
    length_fresh (p ∷ starts) = ap suc (length_fresh starts)

    first_settled : (starts : List P) (entry : Store V) → Settled (length starts) (begun starts entry)
    first_settled starts entry = record { leads = lead_fresh starts; counted = let e : length (all_fresh {P = P} {V = V} starts) ≡ length starts = length_fresh starts in omega (arith, e) }

    names_live : (r : Region P V) (pick : ℕ) → LeadGoes r.pending → (r.pending ≡ [] → ⊥) → NamesLive m modes window r pick
    names_live r pick l n =
        let a : AtPlace window (place_of window r pick) r.store r.pending = at_pick r pick l n in
        let step : advanced m modes window r pick ≡ settled_from m modes r.committed (with_stepped r.pending (index_at (place_of window r pick) r.pending) (step_by m modes (m.event a.it.process) r.store a.it)) = ap (settled_from m modes r.committed) a.steps in
        record {
          index = index_at (place_of window r pick) r.pending;
          it = a.it;
          live = record { below = a.below; there = a.there; unfinished = a.unfinished };
          names = ap (picked_of m r.committed (index_at (place_of window r pick) r.pending)) a.there;
          steps = step;
          faulted = λ e. step_faults (m.event a.it.process) r.store a.it (none_stepped r.committed r.pending (index_at (place_of window r pick) r.pending) (step_by m modes (m.event a.it.process) r.store a.it) (sym step ∙ e));
          faults_so = λ e. step ∙ ap (λ ev. settled_from m modes r.committed (with_stepped r.pending (index_at (place_of window r pick) r.pending) (step_by m modes ev r.store a.it))) e;
        }

    named : (r : Region P V) (index : ℕ) (it : Iteration P V) → IsLive window r index it → (pick : ℕ) × (picked m window r pick ≡ Some (record { number = suc (r.committed + index); process = it.process; event = m.event it.process }))
    named r index it live =
        let k : HasPlace window index r.pending = place_for window index r.pending it live.below live.there live.unfinished in
        let small : place_of window r k.place ≡ k.place = mod-eq_of_lt k.below in
        let at : index_at (place_of window r k.place) r.pending ≡ index = ap (λ n. index_at n r.pending) small ∙ k.at in
        (k.place, ap (λ n. picked_of m r.committed n (iteration_at r.pending n)) at ∙ ap (picked_of m r.committed index) live.there)

pub picks_name : (P O V : Type 0) → PicksName P O V
picks_name P O V m modes window w starts entry picks r e =
    let k : Settled m modes window w (length starts) r = all_settled m modes window w (length starts) picks (begun starts entry) r (first_settled m modes window w starts entry) e in
    record { counted = k.counted; each_names = λ pick n. names_live m modes window w r pick k.leads n; each_named = λ index it live. named m modes window w r index it live }
