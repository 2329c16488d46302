-- What is known of a region before its first step.
use Rattle.std.proofs.Common.{ℕ, suc, ◌+◌, ◌≡◌, List, [], ◌∷◌, length, None, refl, sym, ap, ◌∙◌, subst, arith}
use Rattle.interleaving.specs.Machine.{Machine, IsMachine, AreReady, Store}
use Rattle.interleaving.specs.Modes.{Mode, CompatibleWithAll, Fits}
use Rattle.interleaving.specs.Prefixes.{AllDidFirst}
use Rattle.interleaving.specs.Region.{all_fresh, begun}
use Rattle.interleaving.specs.Traces.{Access, Stop, InTurn, Alone, all_at_end, is_exposed, is_written, steps_of, steps_of_all}
use Rattle.interleaving.proofs.Advances.{CutLate}
use Rattle.interleaving.proofs.Commits.{AllStops, LeadGoes, Invariant}
use Rattle.interleaving.proofs.Courses.{Course, traces_of, left_of, stops_of, starts_of, done_of, visible, value_at_end, OnCourse, AllOnCourse, none, going}
use Rattle.interleaving.proofs.Deeds.{Deed, did_read, did_write, did_move, accesses_of}
use Rattle.interleaving.proofs.Histories.{at_start}
use Rattle.interleaving.proofs.Scripts.{Script, scripted}

module _ {P O V : Type 0} (m : Machine P O V) (modes : ℕ → Mode O) where
  pub record Begins (s : Store V) (starts : List P) (traces : List (List (Access O))) (stops : List Stop) : Type 0 where
    pub courses : List (Course P O V)
    pub on_course : AllOnCourse m modes s s (all_fresh starts) courses
    pub agrees : (u : Store V) (a : ℕ) → visible m modes u courses a ≡ u a
    pub remain : left_of courses ≡ steps_of_all traces
    pub traced : traces_of courses ≡ traces
    pub stopped : stops_of courses ≡ stops
    pub started : starts_of courses ≡ starts
    pub undone : done_of courses ≡ 0

  steps-accesses : (deeds : List (Deed O V)) → steps_of (accesses_of deeds) ≡ suc (length deeds)
  steps-accesses [] = refl
  steps-accesses (did_read a x by ∷ deeds) = ap suc (steps-accesses deeds) ∙ omega arith
  steps-accesses (did_write a v by added ∷ deeds) = ap suc (steps-accesses deeds) ∙ omega arith
  steps-accesses (did_move ∷ deeds) = ap suc (steps-accesses deeds) ∙ omega arith

  length-accesses : (deeds : List (Deed O V)) → length (accesses_of deeds) ≡ length deeds
  length-accesses [] = refl
  length-accesses (did_read a x by ∷ deeds) = ap suc (length-accesses deeds)
  length-accesses (did_write a v by added ∷ deeds) = ap suc (length-accesses deeds)
  length-accesses (did_move ∷ deeds) = ap suc (length-accesses deeds)

  -- with an iteration before the others
  with_first : (p : P) (s t : Store V) (starts : List P) (trace : List (Access O)) (stop : Stop) (traces : List (List (Access O))) (stops : List Stop) → Script m modes p s trace stop t → CompatibleWithAll modes trace traces → Begins s starts traces stops → Begins s (p ∷ starts) (trace ∷ traces) (stop ∷ stops)
  with_first p s t starts trace stop traces stops k compatible more = record {
    courses = record { start = p; pre = []; rest = k.deeds; trace = trace; stop = stop; left = suc (length k.deeds) } ∷ more.courses;
    on_course = going on_it (record { came = at_start; solo = k.solo; traced = k.told }) (k.follows []) (subst (CompatibleWithAll modes trace) (sym more.traced) compatible) more.on_course;
    agrees = more.agrees;
    remain = let counted : steps_of trace ≡ suc (length k.deeds) = ap steps_of (sym k.told) ∙ steps-accesses k.deeds in let others : left_of more.courses ≡ steps_of_all traces = more.remain in omega (arith, counted, others);
    traced = ap (λ r. trace ∷ r) more.traced;
    stopped = ap (λ r. stop ∷ r) more.stopped;
    started = ap (λ r. p ∷ r) more.started;
    undone = let none_yet : done_of more.courses ≡ 0 = more.undone in omega (arith, none_yet);
  }
    where
      on_it : OnCourse m modes s p (λ a. None) [] k.deeds trace stop
      on_it = record {
        keeps = λ a. refl;
        may_read = λ a w r. ap (λ tr. is_exposed tr a) (sym k.told) ∙ r;
        has_written = λ a w. absurd (cc);
        will = λ a w. ap (λ tr. is_written tr a) (sym k.told) ∙ w;
        counted = let c : length trace ≡ length k.deeds = ap length (sym k.told) ∙ length-accesses k.deeds in omega (arith, c);
        again = k.again;
        grown = λ a. tt;
        grows = k.grows;
        sees = k.sees;
      }

  -- iterations that run each alone
  pub begins_alone : {Sound : P → Type 0} → IsMachine m Sound → (limit : ℕ) (starts : List P) (s : Store V) (traces : List (List (Access O))) (stops : List Stop) → AreReady m Sound starts → Alone m limit starts s traces stops → Fits modes traces → Begins s starts traces stops × AllStops (CutLate limit) stops traces
  begins_alone laws limit [] s [] [] ready alone fits = (record { courses = []; on_course = none; agrees = λ u a. refl; remain = refl; traced = refl; stopped = refl; started = refl; undone = refl }, tt)
  begins_alone laws limit (p ∷ starts) s (trace ∷ traces) (stop ∷ stops) ready alone fits =
      let rest : Begins s starts traces stops × AllStops (CutLate limit) stops traces = begins_alone laws limit starts s traces stops ready.2 alone.3 fits.2 in
      (with_first p s alone.0 starts trace stop traces stops (scripted m modes laws ready.0 ready.1 fits.0 alone.1) fits.1 rest.0, (alone.2, rest.1))
  begins_alone laws limit [] s [] (stop ∷ stops) ready alone fits = absurd alone
  begins_alone laws limit [] s (trace ∷ traces) stops ready alone fits = absurd alone
  begins_alone laws limit (p ∷ starts) s [] stops ready alone fits = absurd alone
  begins_alone laws limit (p ∷ starts) s (trace ∷ traces) [] ready alone fits = absurd alone

  lead-fresh : (starts : List P) → LeadGoes {P = P} {V = V} (all_fresh starts)
  lead-fresh [] = tt
  lead-fresh (p ∷ starts) = refl

  -- what its cells hold at the end
  abbrev pub end_of : {s : Store V} {starts : List P} {traces : List (List (Access O))} {stops : List Stop} → Begins s starts traces stops → Store V
  end_of {s = s} b = λ a. value_at_end m modes a b.courses (s a)

  pub first_holds : (Fact : Stop → List (Access O) → Type 0) (starts : List P) (s : Store V) (traces : List (List (Access O))) (stops : List Stop) → (b : Begins s starts traces stops) → AllStops Fact stops traces → Invariant m modes Fact starts s traces stops (end_of b) (begun starts s) (steps_of_all traces) 0
  first_holds Fact starts s traces stops b stop_so = record {
    base = s;
    courses = b.courses;
    on_course = b.on_course;
    agrees = λ a. sym (b.agrees s a);
    comes = λ a. refl;
    remain = b.remain;
    count = let none_yet : done_of b.courses ≡ 0 = b.undone in omega (arith, none_yet);
    stop_so = subst (λ l. AllStops Fact l (traces_of b.courses)) (sym b.stopped) (subst (AllStops Fact stops) (sym b.traced) stop_so);
    leads = lead-fresh starts;
    in_turn = λ u h. subst (λ x. InTurn m x s traces u) b.started (subst (λ x. InTurn m (starts_of b.courses) s x u) b.traced h);
    did = λ k its h.
        let e : k ≡ k + 0 = omega arith in
        subst (λ n. AllDidFirst m modes s n starts traces its) e (subst (λ x. AllDidFirst m modes s k x traces its) b.started (subst (λ x. AllDidFirst m modes s k (starts_of b.courses) x its) b.traced h));
    ends = λ h. sym b.stopped ∙ h ∙ ap all_at_end b.traced;
  }
