-- Picks keep what is known of a region.
use Rattle.std.proofs.Common.{ℕ, zero, suc, ◌+◌, ◌<◌, ◌≤◌, ◌%◌, ◌≡◌, inl, inr, List, [], ◌∷◌, length, take, Option, None, Some, refl, sym, ap, ◌∙◌, subst, arith, mod-lt}
use mathlib.Core.Path.{fun_ext}
use Rattle.interleaving.specs.Interleaving.{HasLeft}
use Rattle.interleaving.specs.Machine.{Machine, IsMachine, Store}
use Rattle.interleaving.specs.Modes.{Mode}
use Rattle.interleaving.specs.Prefixes.{AllDidFirst}
use Rattle.interleaving.specs.Region.{Iteration, Region, step_at, unfinished, settled, settled_from, place_of, advanced, advanced_all}
use Rattle.interleaving.specs.Traces.{Access, Stop, AtEnd, AtFault, Cut, InTurn, all_at_end}
use Rattle.interleaving.proofs.Commits.{AllStops, LeadGoes, Invariant, invariant_settled}
use Rattle.interleaving.proofs.Courses.{Course, traces_of, left_of, stops_of, starts_of, done_of, StopsSo, visible, value_at_end, AllOnCourse, none, going, gone}
use Rattle.interleaving.proofs.Places.{steps_at}
use Rattle.interleaving.proofs.Steps.{StepGives, steps, fails, cuts}
use Rattle.interleaving.proofs.Windows.{unfinished-take, some_unfinished}

-- an iteration that runs to its end
abbrev pub Ends : {O : Type 0} → Stop → List (Access O) → Type 0
Ends stop trace = stop ≡ AtEnd

-- an iteration that, where it is cut, has taken `limit` steps at least
abbrev pub CutLate : {O : Type 0} → (limit : ℕ) → Stop → List (Access O) → Type 0
CutLate limit stop trace = stop ≡ Cut → limit ≤ length trace

module _ {P O V : Type 0} (m : Machine P O V) (modes : ℕ → Mode O) where
  -- where steps are left, there is an iteration
  not_over : {entry t : Store V} {pending : List (Iteration P V)} {gs : List (Course P O V)} (n : ℕ) → AllOnCourse m modes entry t pending gs → left_of gs ≡ suc n → pending ≡ [] → ⊥
  not_over n none e q = absurd (omega (arith, e))
  not_over n (going st hist f compatible more) e q = cc
  not_over n (gone st hist compatible more) e q = cc

  module _ (Fact : Stop → List (Access O) → Type 0) (starts : List P) (entry : Store V) (traces : List (List (Access O))) (stops : List Stop) (end : Store V) where
    abbrev Holds : Region P V → (left taken : ℕ) → Type 0
    Holds r left taken = Invariant m modes Fact starts entry traces stops end r left taken

    -- what a step of a region gives: a region with one step less, or an iteration has come to its fault, or to where it is cut
    pub data AdvanceGives (r : Region P V) (came : Option (Region P V)) (n taken : ℕ) : Type 0 where
      onward : (q : Region P V) → came ≡ Some q → Holds q n (suc taken) → AdvanceGives r came n taken
      to_fault : (gs : List (Course P O V)) → came ≡ None → AllStops Fact (stops_of gs) (traces_of gs) → StopsSo AtFault gs → AdvanceGives r came n taken
      to_cut : (t : Store V) (gs : List (Course P O V)) → AllOnCourse m modes entry t r.pending gs → AllStops Fact (stops_of gs) (traces_of gs) → done_of gs ≤ taken → StopsSo Cut gs → AdvanceGives r came n taken

    advances : {Sound : P → Type 0} → IsMachine m Sound → (window : ℕ) → 0 < window → (r : Region P V) (n taken pick : ℕ) → Holds r (suc n) taken → AdvanceGives r (advanced m modes window r pick) n taken
    advances laws window w r n taken pick k =
        let some : 0 < unfinished (take window r.pending) = some_unfinished window r.pending w k.leads (not_over n k.on_course k.remain) in
        let below : place_of window r pick < unfinished (take window r.pending) = mod-lt pick some in
        let within : unfinished (take window r.pending) ≤ unfinished r.pending = unfinished-take window r.pending in
        go (step_at m modes (place_of window r pick) r.store r.pending) (steps_at m modes entry (place_of window r pick) r.store k.base k.on_course k.agrees (omega (arith, below, within)))
      where
        go : (came : Option (Store V × List (Iteration P V))) → StepGives m modes entry k.base came k.courses → AdvanceGives r (settled_from m modes r.committed came) n taken
        go came (fails e h) = to_fault k.courses (ap (settled_from m modes r.committed) e) k.stop_so h
        go came (cuts h) = to_cut k.base k.courses k.on_course k.stop_so k.count h
        go came (steps step) =
            let stop_so : AllStops Fact (stops_of step.courses) (traces_of step.courses) = subst (λ l. AllStops Fact l (traces_of step.courses)) (sym step.stops) (subst (AllStops Fact (stops_of k.courses)) (sym step.traces) k.stop_so) in
            let turn : (u : Store V) → InTurn m (starts_of step.courses) k.base (traces_of step.courses) u → InTurn m starts entry traces u = λ u h. k.in_turn u (subst (λ x. InTurn m x k.base (traces_of k.courses) u) step.starts (subst (λ x. InTurn m (starts_of step.courses) k.base x u) step.traces h)) in
            let did : (j : ℕ) (its : List (Iteration P V)) → AllDidFirst m modes entry j (starts_of step.courses) (traces_of step.courses) its → AllDidFirst m modes entry (j + r.committed) starts traces its = λ j its h. k.did j its (subst (λ x. AllDidFirst m modes entry j x (traces_of k.courses) its) step.starts (subst (λ x. AllDidFirst m modes entry j (starts_of step.courses) x its) step.traces h)) in
            let one : Holds (settled m modes r.committed step.store step.pending) (left_of step.courses) (suc taken) =
            invariant_settled m modes Fact starts entry traces stops end laws r.committed step.store k.base step.pending step.courses (suc taken) step.on_course step.agrees (λ a. step.same a (k.base a) ∙ k.comes a) (omega (arith, step.more, k.count)) stop_so turn did (λ h. k.ends (sym step.stops ∙ h ∙ ap all_at_end step.traces)) in
            let fewer : suc (left_of step.courses) ≡ left_of k.courses = step.fewer in
            let total : left_of k.courses ≡ suc n = k.remain in
            onward (settled m modes r.committed step.store step.pending) (ap (settled_from m modes r.committed) step.is) (subst (λ l. Holds (settled m modes r.committed step.store step.pending) l (suc taken)) (omega (arith, fewer, total)) one)

    -- a region with no steps left is over
    pub over : (r : Region P V) (taken : ℕ) → Holds r 0 taken → (r.pending ≡ []) × (r.store ≡ end)
    over r taken k = go r.pending k.courses k.on_course k.leads k.remain refl k.agrees k.comes
      where
        go : (pending : List (Iteration P V)) (gs : List (Course P O V)) → AllOnCourse m modes entry k.base pending gs → LeadGoes pending → left_of gs ≡ 0 → r.pending ≡ pending → ((a : ℕ) → r.store a ≡ visible m modes k.base gs a) → ((a : ℕ) → value_at_end m modes a gs (k.base a) ≡ end a) → (r.pending ≡ []) × (r.store ≡ end)
        go _ _ none l e q agrees comes = (q, fun_ext (λ a. agrees a ∙ comes a))
        go _ _ (going st hist f compatible more) l e q agrees comes = absurd (omega (arith, e))
        go _ _ (gone st hist compatible more) l e q agrees comes = absurd (cc)

    pub has_left : (r : Region P V) (n taken : ℕ) → Holds r n taken → HasLeft r end n
    has_left r zero taken k = record { over = λ e. (over r taken k).0; store = λ e. (over r taken k).1; going = λ h. absurd (omega (arith, h)) }
    has_left r (suc n) taken k = record { over = λ e. absurd (omega (arith, e)); store = λ e. absurd (omega (arith, e)); going = λ h. not_over n k.on_course k.remain }

    -- a region that is over has run its iterations in turn
    pub turned : (r : Region P V) (n taken : ℕ) → Holds r n taken → r.pending ≡ [] → InTurn m starts entry traces r.store × (n ≡ 0) × (stops ≡ all_at_end traces)
    turned r n taken k e = go r.pending k.courses k.on_course e k.remain k.agrees k.in_turn k.ends
      where
        go : (pending : List (Iteration P V)) (gs : List (Course P O V)) → AllOnCourse m modes entry k.base pending gs → pending ≡ [] → left_of gs ≡ n → ((a : ℕ) → r.store a ≡ visible m modes k.base gs a) → ((u : Store V) → InTurn m (starts_of gs) k.base (traces_of gs) u → InTurn m starts entry traces u) → (stops_of gs ≡ all_at_end (traces_of gs) → stops ≡ all_at_end traces) → InTurn m starts entry traces r.store × (n ≡ 0) × (stops ≡ all_at_end traces)
        go _ _ none q l agrees turn ends = (turn r.store (sym (fun_ext agrees)), sym l, ends refl)
        go _ _ (going st hist f compatible more) q l agrees turn ends = absurd (cc)
        go _ _ (gone st hist compatible more) q l agrees turn ends = absurd (cc)

  none_stops : (gs : List (Course P O V)) (stop : Stop) → (stop ≡ AtEnd → ⊥) → AllStops Ends (stops_of gs) (traces_of gs) → StopsSo stop gs → ⊥
  none_stops [] stop n h s = s
  none_stops (g ∷ gs) stop n h (inl s) = n (sym s.1 ∙ h.0)
  none_stops (g ∷ gs) stop n h (inr s) = none_stops gs stop n h.1 s

  cut_late : (limit : ℕ) {entry t : Store V} {pending : List (Iteration P V)} {gs : List (Course P O V)} → AllOnCourse m modes entry t pending gs → AllStops (CutLate limit) (stops_of gs) (traces_of gs) → StopsSo Cut gs → limit ≤ done_of gs
  cut_late limit none h s = absurd s
  cut_late limit (going {pre = pre} {rest = rest} {trace = trace} {gs = gs} st hist f compatible more) h (inl s) =
      let none_left : length rest ≡ 0 = ap length s.0 in
      let counted : length pre + length rest ≡ length trace = st.counted in
      let long : limit ≤ length trace = h.0 s.1 in
      omega (arith, none_left, counted, long)
  cut_late limit (going {pre = pre} {gs = gs} st hist f compatible more) h (inr s) = let ih : limit ≤ done_of gs = cut_late limit more h.1 s in omega (arith, ih)
  cut_late limit (gone {pre = pre} {gs = gs} st hist compatible more) h (inl s) = absurd (cc (s.1))
  cut_late limit (gone {pre = pre} {gs = gs} st hist compatible more) h (inr s) = let ih : limit ≤ done_of gs = cut_late limit more h.1 s in omega (arith, ih)

  pub advanced_none : (window : ℕ) (picks : List ℕ) (c : Region P V) → advanced_all m modes window picks None ≡ Some c → ⊥
  advanced_none window [] c e = cc
  advanced_none window (pick ∷ picks) c e = cc

  -- where no iteration is left, a pick steps none
  none_steps : (window : ℕ) (r : Region P V) (pick : ℕ) → r.pending ≡ [] → advanced m modes window r pick ≡ None
  none_steps window r pick e = ap (λ its. settled_from m modes r.committed (step_at m modes (pick % unfinished (take window its)) r.store its)) e

  module _ (starts : List P) (entry : Store V) (traces : List (List (Access O))) (stops : List Stop) (end : Store V) where
    -- some picks, where all iterations run to their ends
    pub advances_all : {Sound : P → Type 0} → IsMachine m Sound → (window : ℕ) → 0 < window → (picks : List ℕ) (r : Region P V) (n taken : ℕ) → Invariant m modes Ends starts entry traces stops end r (length picks + n) taken →
        (q : Region P V) × (advanced_all m modes window picks (Some r) ≡ Some q) × Invariant m modes Ends starts entry traces stops end q n (taken + length picks)
    advances_all laws window w [] r n taken k = (r, refl, subst (λ l. Invariant m modes Ends starts entry traces stops end r l (taken + 0)) (omega arith) (subst (Invariant m modes Ends starts entry traces stops end r (0 + n)) (omega arith) k))
    advances_all laws window w (pick ∷ picks) r n taken k =
        go (advanced m modes window r pick) (advances Ends starts entry traces stops end laws window w r (length picks + n) taken pick (subst (λ l. Invariant m modes Ends starts entry traces stops end r l taken) (omega arith) k))
        (λ q s. advances_all laws window w picks q n (suc taken) s)
      where
        go : (came : Option (Region P V)) → AdvanceGives Ends starts entry traces stops end r came (length picks + n) taken → ((q : Region P V) → Invariant m modes Ends starts entry traces stops end q (length picks + n) (suc taken) → (c : Region P V) × (advanced_all m modes window picks (Some q) ≡ Some c) × Invariant m modes Ends starts entry traces stops end c n (suc taken + length picks)) →
            (c : Region P V) × (advanced_all m modes window picks came ≡ Some c) × Invariant m modes Ends starts entry traces stops end c n (taken + suc (length picks))
        go came (onward q e s) ih =
            let rest : (c : Region P V) × (advanced_all m modes window picks (Some q) ≡ Some c) × Invariant m modes Ends starts entry traces stops end c n (suc taken + length picks) = ih q s in
            (rest.0, ap (advanced_all m modes window picks) e ∙ rest.1, subst (Invariant m modes Ends starts entry traces stops end rest.0 n) (omega arith) rest.2)
        go came (to_fault gs e stop_so h) ih = absurd (none_stops gs AtFault (λ q. cc) stop_so h)
        go came (to_cut t gs on_course stop_so c h) ih = absurd (none_stops gs Cut (λ q. cc) stop_so h)

    -- some picks that leave a region, where iterations may come to a fault or are cut late
    pub reaches : {Sound : P → Type 0} → IsMachine m Sound → (window : ℕ) → 0 < window → (limit : ℕ) (picks : List ℕ) (r : Region P V) (n taken : ℕ) (c : Region P V) → Invariant m modes (CutLate limit) starts entry traces stops end r n taken → length picks + taken ≤ limit → advanced_all m modes window picks (Some r) ≡ Some c →
        (left : ℕ) × (length picks + left ≡ n) × Invariant m modes (CutLate limit) starts entry traces stops end c left (taken + length picks)
    reaches laws window w limit [] r n taken c k h e =
        let same : r ≡ c = cc in
        (n, omega arith, subst (λ x. Invariant m modes (CutLate limit) starts entry traces stops end x n (taken + 0)) same (subst (Invariant m modes (CutLate limit) starts entry traces stops end r n) (omega arith) k))
    reaches laws window w limit (pick ∷ picks) r zero taken c k h e =
        let none_left : r.pending ≡ [] = (over (CutLate limit) starts entry traces stops end r taken k).0 in
        absurd (advanced_none window picks c (sym (ap (advanced_all m modes window picks) (none_steps window r pick none_left)) ∙ e))
    reaches laws window w limit (pick ∷ picks) r (suc n) taken c k h e =
        go (advanced m modes window r pick) (advances (CutLate limit) starts entry traces stops end laws window w r n taken pick k) e
        (λ q s f. reaches laws window w limit picks q n (suc taken) c s (omega (arith, h)) f)
      where
        go : (came : Option (Region P V)) → AdvanceGives (CutLate limit) starts entry traces stops end r came n taken → advanced_all m modes window picks came ≡ Some c → ((q : Region P V) → Invariant m modes (CutLate limit) starts entry traces stops end q n (suc taken) → advanced_all m modes window picks (Some q) ≡ Some c → (left : ℕ) × (length picks + left ≡ n) × Invariant m modes (CutLate limit) starts entry traces stops end c left (suc taken + length picks)) →
            (left : ℕ) × (suc (length picks) + left ≡ suc n) × Invariant m modes (CutLate limit) starts entry traces stops end c left (taken + suc (length picks))
        go came (onward q f s) e ih =
            let t : (left : ℕ) × (length picks + left ≡ n) × Invariant m modes (CutLate limit) starts entry traces stops end c left (suc taken + length picks) = ih q s (sym (ap (advanced_all m modes window picks) f) ∙ e) in
            (t.0, omega (arith, t.1), subst (Invariant m modes (CutLate limit) starts entry traces stops end c t.0) (omega arith) t.2)
        go came (to_fault gs f stop_so s) e ih = absurd (advanced_none window picks c (sym (ap (advanced_all m modes window picks) f) ∙ e))
        go came (to_cut t gs on_course stop_so f s) e ih = let late : limit ≤ done_of gs = cut_late limit on_course stop_so s in absurd (omega (arith, h, f, late))
