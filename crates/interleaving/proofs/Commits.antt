-- What is known of a region between its steps.
use Rattle.std.proofs.Common.{ℕ, suc, ◌+◌, ◌≤◌, ◌≡◌, ◌⊎◌, inl, inr, Bool, true, false, List, [], ◌∷◌, length, Option, refl, sym, ap, ◌∙◌, subst, arith, unwrap_or}
use mathlib.Core.Path.{fun_ext}
use Rattle.interleaving.specs.Machine.{Machine, IsMachine, Store}
use Rattle.interleaving.specs.Modes.{Mode, Shared, Private, Reduce, CompatibleWithAll}
use Rattle.interleaving.specs.Prefixes.{AllDidFirst}
use Rattle.interleaving.specs.Region.{Iteration, Region, merged, commit, settled}
use Rattle.interleaving.specs.Traces.{Access, Stop, AtEnd, Runs, InTurn, all_at_end, is_written}
use Rattle.interleaving.proofs.Courses.{Course, traces_of, left_of, stops_of, starts_of, done_of, AllUnread, past, past_at, visible, value_at_end, OnCourse, AllOnCourse, none, going, gone, unread_later, past-own, past-shared, past-unwritten, visible-local, visible-own, Agree, on_course_over}
use Rattle.interleaving.proofs.Deeds.{Deed, accesses_of, value_now, own_now, Grows, value_now-unwritten, commits-copy, commits-partial}

-- a fact of how each iteration stops and of its trace
abbrev pub AllStops : {O : Type 0} → (Fact : Stop → List (Access O) → Type 0) → List Stop → List (List (Access O)) → Type 0
AllStops Fact [] traces = Unit {0}
AllStops Fact (stop ∷ stops) [] = ⊥
AllStops Fact (stop ∷ stops) (trace ∷ traces) = Fact stop trace × AllStops Fact stops traces

-- the first of the iterations that aren't committed is unfinished
abbrev pub LeadGoes : {P V : Type 0} → List (Iteration P V) → Type 0
LeadGoes [] = Unit {0}
LeadGoes (it ∷ more) = it.finished ≡ false

module _ {P O V : Type 0} (m : Machine P O V) (modes : ℕ → Mode O) where
  -- a cell after the commit of an iteration
  merges : {Sound : P → Type 0} → IsMachine m Sound → (md : Mode O) (a : ℕ) (s t : Store V) (own : Option V) (pre : List (Deed O V)) (gs : List (Course P O V)) → md ≡ modes a → Grows m (modes a) a pre → own ≡ own_now m md a pre → s a ≡ visible m modes (past m modes pre t) gs a →
      merged m md (s a) own ≡ visible m modes (λ b. value_now m (modes b) b pre (t b)) gs a
  merges laws Shared a s t own pre gs e g k agrees = agrees ∙ visible-local m modes a (past m modes pre t) (λ b. value_now m (modes b) b pre (t b)) gs (subst (λ md. past_at m modes md a pre (t a) ≡ value_now m md a pre (t a)) e (past-shared m modes a pre (t a)))
  merges laws Private a s t own pre gs e g k agrees =
      let own_mode : modes a ≡ Shared → ⊥ = λ q. cc in
      let was : s a ≡ t a = agrees ∙ visible-own m modes a (past m modes pre t) gs own_mode ∙ past-own m modes (modes a) a pre (t a) own_mode in
      ap (λ w. unwrap_or w (s a)) k ∙ ap (unwrap_or (own_now m Private a pre)) was ∙ commits-copy m a pre (t a) ∙ ap (λ md. value_now m md a pre (t a)) e ∙ sym (visible-own m modes a (λ b. value_now m (modes b) b pre (t b)) gs own_mode)
  merges laws (Reduce o) a s t own pre gs e g k agrees =
      let own_mode : modes a ≡ Shared → ⊥ = λ q. cc in
      let was : s a ≡ t a = agrees ∙ visible-own m modes a (past m modes pre t) gs own_mode ∙ past-own m modes (modes a) a pre (t a) own_mode in
      ap (merged m (Reduce o) (s a)) k ∙ ap (λ x. merged m (Reduce o) x (own_now m (Reduce o) a pre)) was ∙ commits-partial m laws.associates o a pre (t a) (subst (λ md. Grows m md a pre) (sym e) g) ∙ ap (λ md. value_now m md a pre (t a)) e ∙ sym (visible-own m modes a (λ b. value_now m (modes b) b pre (t b)) gs own_mode)

  -- the later iterations are over the store that an iteration leaves
  agree_commit : (t : Store V) (start : P) (own : ℕ → Option V) (pre : List (Deed O V)) (trace : List (Access O)) (gs : List (Course P O V)) → OnCourse m modes t start own pre [] trace AtEnd → CompatibleWithAll modes trace (traces_of gs) → Agree m modes (past m modes pre t) (λ b. value_now m (modes b) b pre (t b)) gs
  agree_commit t start own pre trace gs st compatible a plain = go (is_written (accesses_of pre) a) refl
    where
      go : (w : Bool) → is_written (accesses_of pre) a ≡ w → (past m modes pre t a ≡ value_now m (modes a) a pre (t a)) ⊎ AllUnread a (traces_of gs)
      go true e = inr (unread_later m modes a trace (traces_of gs) plain (st.has_written a e) compatible)
      go false e = inl (past-unwritten m modes (modes a) a pre (t a) e ∙ sym (value_now-unwritten m (modes a) a pre (t a) e))

  module _ (Fact : Stop → List (Access O) → Type 0) (starts : List P) (entry : Store V) (traces : List (List (Access O))) (stops : List Stop) (end : Store V) where
    -- a region that `left` more steps bring to the store `end`; its iterations that aren't committed have taken `taken` steps at most. Whatever runs
    -- these in turn from the base runs all in turn from the entry, and what holds of the first steps of these holds of those of all
    pub record Invariant (r : Region P V) (left taken : ℕ) : Type 0 where
      pub base : Store V
      pub courses : List (Course P O V)
      pub on_course : AllOnCourse m modes entry base r.pending courses
      pub agrees : (a : ℕ) → r.store a ≡ visible m modes base courses a
      pub comes : (a : ℕ) → value_at_end m modes a courses (base a) ≡ end a
      pub remain : left_of courses ≡ left
      pub count : done_of courses ≤ taken
      pub stop_so : AllStops Fact (stops_of courses) (traces_of courses)
      pub leads : LeadGoes r.pending
      pub in_turn : (u : Store V) → InTurn m (starts_of courses) base (traces_of courses) u → InTurn m starts entry traces u
      pub did : (k : ℕ) (pending : List (Iteration P V)) → AllDidFirst m modes entry k (starts_of courses) (traces_of courses) pending → AllDidFirst m modes entry (k + r.committed) starts traces pending
      pub ends : stops_of courses ≡ all_at_end (traces_of courses) → stops ≡ all_at_end traces

    -- it holds once the leading finished iterations are committed
    pub invariant_settled : {Sound : P → Type 0} → IsMachine m Sound → (c : ℕ) (s t : Store V) (pending : List (Iteration P V)) (gs : List (Course P O V)) (taken : ℕ) → AllOnCourse m modes entry t pending gs → ((a : ℕ) → s a ≡ visible m modes t gs a) → ((a : ℕ) → value_at_end m modes a gs (t a) ≡ end a) → done_of gs ≤ taken → AllStops Fact (stops_of gs) (traces_of gs) →
        ((u : Store V) → InTurn m (starts_of gs) t (traces_of gs) u → InTurn m starts entry traces u) → ((k : ℕ) (its : List (Iteration P V)) → AllDidFirst m modes entry k (starts_of gs) (traces_of gs) its → AllDidFirst m modes entry (k + c) starts traces its) → (stops_of gs ≡ all_at_end (traces_of gs) → stops ≡ all_at_end traces) →
        Invariant (settled m modes c s pending) (left_of gs) taken
    invariant_settled laws c s t [] _ taken none agrees comes count stop_so in_turn did ends = record { base = t; courses = []; on_course = none; agrees = agrees; comes = comes; remain = refl; count = count; stop_so = stop_so; leads = tt; in_turn = in_turn; did = did; ends = ends }
    invariant_settled laws c s t (_ ∷ pending) _ taken (going {p = p} {start = start} {own = own} {pre = pre} {rest = rest} {trace = trace} {stop = stop} {gs = gs} st hist f compatible more) agrees comes count stop_so in_turn did ends =
        record { base = t; courses = record { start = start; pre = pre; rest = rest; trace = trace; stop = stop; left = suc (length rest) } ∷ gs; on_course = going st hist f compatible more; agrees = agrees; comes = comes; remain = refl; count = count; stop_so = stop_so; leads = refl; in_turn = in_turn; did = did; ends = ends }
    invariant_settled laws c s t (_ ∷ pending) _ taken (gone {p = p} {start = start} {own = own} {pre = pre} {trace = trace} {gs = gs} st hist compatible more) agrees comes count stop_so in_turn did ends =
        let next : Store V = λ b. value_now m (modes b) b pre (t b) in
        let again : (u : Store V) × Runs m start t trace AtEnd u × ((a : ℕ) → u a ≡ next a) = st.again t (λ a plain. inl refl) in
        let first : Runs m start t trace AtEnd next = subst (Runs m start t trace AtEnd) (fun_ext again.2) again.1 in
        subst (λ n. Invariant (settled m modes (suc c) (commit m modes s own) pending) n taken) (omega arith)
        (invariant_settled laws (suc c) (commit m modes s own) next pending gs taken (on_course_over m modes next (agree_commit t start own pre trace gs st compatible) more)
        (λ a. merges laws (modes a) a s t (own a) pre gs refl (st.grown a) (st.keeps a) (agrees a)) comes (omega (arith, count)) stop_so.1
        (λ u rest. in_turn u (next, first, rest)) (λ k its h. let e : suc k + c ≡ k + suc c = omega arith in subst (λ n. AllDidFirst m modes entry n starts traces its) e (did (suc k) its h)) (λ h. ends (ap (λ r. AtEnd ∷ r) h)))
