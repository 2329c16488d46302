-- Each step of an unfinished iteration keeps what is known of a region.
use Rattle.std.proofs.Common.{ℕ, suc, ◌+◌, ◌≤◌, ◌≡◌, ◌==◌, ◌⊎◌, inl, inr, Bool, true, false, List, [], ◌∷◌, length, Option, None, Some, if◌then◌else◌, refl, sym, ap, ◌∙◌, subst, arith, eqb-true, eq-eqb, unwrap_or}
use Rattle.interleaving.specs.Machine.{Machine, Store}
use Rattle.interleaving.specs.Modes.{Mode, Shared, Private, Reduce, forbids_flow, CompatibleWithAll}
use Rattle.interleaving.specs.Region.{Iteration, answer_of, store_after, own_after, step_by, with_after}
use Rattle.interleaving.specs.Traces.{Access, Stop, AtEnd, AtFault, Cut, is_exposed, is_written}
use Rattle.interleaving.proofs.Deeds.{Deed, did_read, did_write, did_move, accesses_of, value_now, own_now, heard, said, own_with, commits-copy}
use Rattle.interleaving.proofs.Histories.{History, history_read, history_write, history_move}
use Rattle.interleaving.proofs.Scripts.{Follows, ending, failing, stopping, looking, putting, turning}
use Rattle.interleaving.proofs.Courses.{Course, traces_of, left_of, stops_of, starts_of, done_of, StopsSo, AllUnread, past, past_at, written_through, visible, value_at_end, OnCourse, AllOnCourse, going, gone, unwritten_later, unread_later, past-own, past-shared, visible-local, visible-own, visible-unwritten, Agree, on_course_over}

module _ {P O V : Type 0} (m : Machine P O V) (modes : ℕ → Mode O) (entry : Store V) where
  -- what a step of a region gives, over what was known of it
  pub record Stepped (t : Store V) (came : Option (Store V × List (Iteration P V))) (gs : List (Course P O V)) : Type 0 where
    pub store : Store V
    pub pending : List (Iteration P V)
    pub courses : List (Course P O V)
    pub is : came ≡ Some (store, pending)
    pub on_course : AllOnCourse m modes entry t pending courses
    pub agrees : (a : ℕ) → store a ≡ visible m modes t courses a
    pub fewer : suc (left_of courses) ≡ left_of gs
    pub same : (a : ℕ) (x : V) → value_at_end m modes a courses x ≡ value_at_end m modes a gs x
    pub traces : traces_of courses ≡ traces_of gs
    pub stops : stops_of courses ≡ stops_of gs
    pub starts : starts_of courses ≡ starts_of gs
    pub more : done_of courses ≤ suc (done_of gs)

  -- a step is taken, or its iteration meets a fault, or it has been run no further
  pub data StepGives (t : Store V) (came : Option (Store V × List (Iteration P V))) (gs : List (Course P O V)) : Type 0 where
    steps : Stepped t came gs → StepGives t came gs
    fails : came ≡ None → StopsSo AtFault gs → StepGives t came gs
    cuts : StopsSo Cut gs → StepGives t came gs

  -- a read in the region answers as the script has it
  answer : (md : Mode O) (a : ℕ) (x s t : V) (own : Option V) (pre : List (Deed O V)) → own ≡ own_now m md a pre → (forbids_flow md ≡ true → x ≡ value_now m md a pre t) → (md ≡ Shared → s ≡ past_at m modes Shared a pre t) → ((md ≡ Shared → ⊥) → s ≡ t) → answer_of m md s own ≡ heard m md x (own_now m md a pre)
  answer Shared a x s t own pre k sees sh pr = sh refl ∙ past-shared m modes a pre t ∙ sym (sees refl)
  answer Private a x s t own pre k sees sh pr = ap (λ w. unwrap_or w s) k ∙ ap (λ w. unwrap_or (own_now m Private a pre) w) (pr (λ q. cc)) ∙ commits-copy m a pre t ∙ sym (sees refl)
  answer (Reduce o) a x s t own pre k sees sh pr = ap (λ w. unwrap_or w (m.identity o)) k

  -- a read of a shared cell
  shared_read : (t : Store V) (start : P) (own : ℕ → Option V) (pre rest : List (Deed O V)) (trace : List (Access O)) (stop : Stop) (pending : List (Iteration P V)) (gs : List (Course P O V)) (a : ℕ) (x : V) (by : Option O) →
      OnCourse m modes t start own pre (did_read a x by ∷ rest) trace stop → CompatibleWithAll modes trace (traces_of gs) → AllOnCourse m modes entry (past m modes pre t) pending gs → modes a ≡ Shared → visible m modes (past m modes pre t) gs a ≡ past m modes pre t a
  shared_read t start own pre rest trace stop pending gs a x by st compatible more sh = visible-unwritten m modes a more (unwritten_later m modes a trace (traces_of gs) sh (touched (is_written (accesses_of pre) a) refl) compatible)
    where
      first : (if a == a then true else is_exposed (accesses_of rest) a) ≡ true
      first = subst (λ t. (if t then true else is_exposed (accesses_of rest) a) ≡ true) (sym (eq-eqb a a refl)) refl

      touched : (w : Bool) → is_written (accesses_of pre) a ≡ w → (is_exposed trace a ≡ true) ⊎ (is_written trace a ≡ true)
      touched true e = inr (st.has_written a e)
      touched false e = inl (st.may_read a e first)

  course_read : (t : Store V) (start : P) (own : ℕ → Option V) (pre rest : List (Deed O V)) (trace : List (Access O)) (stop : Stop) (a : ℕ) (x : V) (by : Option O) → OnCourse m modes t start own pre (did_read a x by ∷ rest) trace stop → OnCourse m modes t start own (did_read a x by ∷ pre) rest trace stop
  course_read t start own pre rest trace stop a x by st = record {
    keeps = st.keeps;
    may_read = λ b w r. st.may_read b w (later b r);
    has_written = st.has_written;
    will = st.will;
    counted = (let c : length pre + suc (length rest) ≡ length trace = st.counted in omega (arith, c));
    again = st.again;
    grown = st.grown;
    grows = st.grows;
    sees = λ b p. (st.sees b p).1;
  }
    where
      later : (b : ℕ) → is_exposed (accesses_of rest) b ≡ true → (if a == b then true else is_exposed (accesses_of rest) b) ≡ true
      later b r = elim (a == b) as (λ t. (if t then true else is_exposed (accesses_of rest) b) ≡ true) [ true ↦ refl | false ↦ r ]

  course_moved : (t : Store V) (start : P) (own : ℕ → Option V) (pre rest : List (Deed O V)) (trace : List (Access O)) (stop : Stop) → OnCourse m modes t start own pre (did_move ∷ rest) trace stop → OnCourse m modes t start own (did_move ∷ pre) rest trace stop
  course_moved t start own pre rest trace stop st = record { keeps = st.keeps; may_read = st.may_read; has_written = st.has_written; will = st.will; counted = (let c : length pre + suc (length rest) ≡ length trace = st.counted in omega (arith, c)); again = st.again; grown = st.grown; grows = st.grows; sees = st.sees }

  -- what an iteration has of its own after a write
  own_after-other : (md : Mode O) (own : ℕ → Option V) (a b : ℕ) (w : V) → (a == b) ≡ false → own_after md own a w b ≡ own b
  own_after-other Shared own a b w e = refl
  own_after-other Private own a b w e = ap (λ t. if t then Some w else own b) e
  own_after-other (Reduce o) own a b w e = ap (λ t. if t then Some w else own b) e

  own_after-same : (md : Mode O) (own : ℕ → Option V) (a : ℕ) (v added : V) (pre : List (Deed O V)) → own a ≡ own_now m md a pre → own_after md own a (said m md v added (own_now m md a pre)) a ≡ own_with m md v added (own_now m md a pre)
  own_after-same Shared own a v added pre k = k
  own_after-same Private own a v added pre k = ap (λ t. if t then Some v else own a) (eq-eqb a a refl)
  own_after-same (Reduce o) own a v added pre k = ap (λ t. if t then Some (m.apply o (unwrap_or (own_now m (Reduce o) a pre) (m.identity o)) added) else own a) (eq-eqb a a refl)

  keeps_put : (a b : ℕ) (v added : V) (by : Option O) (own : ℕ → Option V) (pre : List (Deed O V)) → ((c : ℕ) → own c ≡ own_now m (modes c) c pre) → own_after (modes a) own a (said m (modes a) v added (own_now m (modes a) a pre)) b ≡ own_now m (modes b) b (did_write a v by added ∷ pre)
  keeps_put a b v added by own pre k =
      let w : V = said m (modes a) v added (own_now m (modes a) a pre) in
      (elim (a == b) as (λ t. (a == b) ≡ t → own_after (modes a) own a w b ≡ (if t then own_with m (modes b) v added (own_now m (modes b) b pre) else own_now m (modes b) b pre)) [
        | true ↦ λ e. subst (λ c. own_after (modes a) own a w c ≡ own_with m (modes c) v added (own_now m (modes c) c pre)) (eqb-true a b e) (own_after-same (modes a) own a v added pre (k a))
        | false ↦ λ e. own_after-other (modes a) own a b w e ∙ k b
      ]) refl

  course_written : (t : Store V) (start : P) (own : ℕ → Option V) (pre rest : List (Deed O V)) (trace : List (Access O)) (stop : Stop) (a : ℕ) (v : V) (by : Option O) (added : V) → OnCourse m modes t start own pre (did_write a v by added ∷ rest) trace stop → OnCourse m modes t start (own_after (modes a) own a (said m (modes a) v added (own_now m (modes a) a pre))) (did_write a v by added ∷ pre) rest trace stop
  course_written t start own pre rest trace stop a v by added st = record {
    keeps = λ b. keeps_put a b v added by own pre st.keeps;
    may_read = λ b. (elim (a == b) as (λ t. ((if t then true else is_written (accesses_of pre) b) ≡ true → is_written trace b ≡ true) → (is_written (accesses_of pre) b ≡ false → (if t then false else is_exposed (accesses_of rest) b) ≡ true → is_exposed trace b ≡ true) → (if t then true else is_written (accesses_of pre) b) ≡ false → is_exposed (accesses_of rest) b ≡ true → is_exposed trace b ≡ true)
        [ true ↦ λ i h w r. absurd (cc) | false ↦ λ i h w r. h w r ]) (later b) (st.may_read b);
    has_written = later;
    will = λ b. (elim (a == b) as (λ t. ((if t then true else is_written (accesses_of rest) b) ≡ true → is_written trace b ≡ true) → is_written (accesses_of rest) b ≡ true → is_written trace b ≡ true) [ true ↦ λ h w. h refl | false ↦ λ h w. h w ]) (st.will b);
    counted = (let c : length pre + suc (length rest) ≡ length trace = st.counted in omega (arith, c));
    again = st.again;
    grown = λ b. ((st.grows b).0, st.grown b);
    grows = λ b. (st.grows b).1;
    sees = st.sees;
  }
    where
      later : (b : ℕ) → (if a == b then true else is_written (accesses_of pre) b) ≡ true → is_written trace b ≡ true
      later b = (elim (a == b) as (λ t. ((if t then true else is_written (accesses_of rest) b) ≡ true → is_written trace b ≡ true) → (if t then true else is_written (accesses_of pre) b) ≡ true → is_written trace b ≡ true) [ true ↦ λ h w. h refl | false ↦ λ h w. st.has_written b w ]) (st.will b)

  -- the trace has the write that comes next
  combines : (t : Store V) (start : P) (own : ℕ → Option V) (pre rest : List (Deed O V)) (trace : List (Access O)) (stop : Stop) (a : ℕ) (v : V) (by : Option O) (added : V) → OnCourse m modes t start own pre (did_write a v by added ∷ rest) trace stop → is_written trace a ≡ true
  combines t start own pre rest trace stop a v by added st = st.will a (subst (λ t. (if t then true else is_written (accesses_of rest) a) ≡ true) (sym (eq-eqb a a refl)) refl)

  -- the iterations after it don't read that cell before they write it, where it is shared
  agree_put : (t : Store V) (start : P) (own : ℕ → Option V) (pre rest : List (Deed O V)) (trace : List (Access O)) (stop : Stop) (gs : List (Course P O V)) (a : ℕ) (v : V) (by : Option O) (added : V) →
      OnCourse m modes t start own pre (did_write a v by added ∷ rest) trace stop → CompatibleWithAll modes trace (traces_of gs) → Agree m modes (past m modes pre t) (past m modes (did_write a v by added ∷ pre) t) gs
  agree_put t start own pre rest trace stop gs a v by added st compatible b plain =
      (elim (a == b) as (λ q. (a == b) ≡ q → (past m modes pre t b ≡ (if q then written_through m modes (modes b) v (past m modes pre t b) else past m modes pre t b)) ⊎ AllUnread b (traces_of gs)) [
        | true ↦ λ e. inr (unread_later m modes b trace (traces_of gs) plain (subst (λ c. is_written trace c ≡ true) (eqb-true a b e) (combines t start own pre rest trace stop a v by added st)) compatible)
        | false ↦ λ e. inl refl
      ]) refl

  written_through-own : (md : Mode O) (v x : V) → (md ≡ Shared → ⊥) → written_through m modes md v x ≡ x
  written_through-own Shared v x h = absurd (h refl)
  written_through-own Private v x h = refl
  written_through-own (Reduce o) v x h = refl

  -- the store after that write
  store_after_put : (md : Mode O) (s t : Store V) (start : P) (own : ℕ → Option V) (pre rest : List (Deed O V)) (trace : List (Access O)) (stop : Stop) (pending : List (Iteration P V)) (gs : List (Course P O V)) (a : ℕ) (v : V) (by : Option O) (added : V) (o : Option V) →
      md ≡ modes a → OnCourse m modes t start own pre (did_write a v by added ∷ rest) trace stop → CompatibleWithAll modes trace (traces_of gs) →
      AllOnCourse m modes entry (past m modes (did_write a v by added ∷ pre) t) pending gs → ((b : ℕ) → s b ≡ visible m modes (past m modes pre t) gs b) →
      (b : ℕ) → store_after md s a (said m md v added o) b ≡ visible m modes (past m modes (did_write a v by added ∷ pre) t) gs b
  store_after_put Shared s t start own pre rest trace stop pending gs a v by added o is st compatible more agrees b =
      (elim (a == b) as (λ q. (a == b) ≡ q → (if q then v else s b) ≡ visible m modes (past m modes (did_write a v by added ∷ pre) t) gs b) [
        | true ↦ λ e. there (eqb-true a b e) e
        | false ↦ λ e. agrees b ∙ visible-local m modes b (past m modes pre t) (past m modes (did_write a v by added ∷ pre) t) gs (ap (λ q. if q then written_through m modes (modes b) v (past m modes pre t b) else past m modes pre t b) (sym e))
      ]) refl
    where
      there : a ≡ b → (a == b) ≡ true → v ≡ visible m modes (past m modes (did_write a v by added ∷ pre) t) gs b
      there same e =
          let sh : modes b ≡ Shared = ap modes (sym same) ∙ sym is in
          let written : is_written trace b ≡ true = subst (λ c. is_written trace c ≡ true) same (combines t start own pre rest trace stop a v by added st) in
          let one : (if a == b then written_through m modes (modes b) v (past m modes pre t b) else past m modes pre t b) ≡ v = ap (λ q. if q then written_through m modes (modes b) v (past m modes pre t b) else past m modes pre t b) e ∙ ap (λ md. written_through m modes md v (past m modes pre t b)) sh in
          sym (visible-unwritten m modes b more (unwritten_later m modes b trace (traces_of gs) sh (inr written) compatible) ∙ one)
  store_after_put Private s t start own pre rest trace stop pending gs a v by added o is st compatible more agrees b = agrees b ∙ visible-local m modes b (past m modes pre t) (past m modes (did_write a v by added ∷ pre) t) gs (unshared (λ q. cc))
    where
      unshared : (modes a ≡ Shared → ⊥) → past m modes pre t b ≡ past m modes (did_write a v by added ∷ pre) t b
      unshared h = (elim (a == b) as (λ q. (a == b) ≡ q → past m modes pre t b ≡ (if q then written_through m modes (modes b) v (past m modes pre t b) else past m modes pre t b))
          [ true ↦ λ e. sym (written_through-own (modes b) v (past m modes pre t b) (λ q. h (ap modes (eqb-true a b e) ∙ q))) | false ↦ λ e. refl ]) refl
  store_after_put (Reduce by2) s t start own pre rest trace stop pending gs a v by added o is st compatible more agrees b = agrees b ∙ visible-local m modes b (past m modes pre t) (past m modes (did_write a v by added ∷ pre) t) gs (unshared (λ q. cc))
    where
      unshared : (modes a ≡ Shared → ⊥) → past m modes pre t b ≡ past m modes (did_write a v by added ∷ pre) t b
      unshared h = (elim (a == b) as (λ q. (a == b) ≡ q → past m modes pre t b ≡ (if q then written_through m modes (modes b) v (past m modes pre t b) else past m modes pre t b))
          [ true ↦ λ e. sym (written_through-own (modes b) v (past m modes pre t b) (λ q. h (ap modes (eqb-true a b e) ∙ q))) | false ↦ λ e. refl ]) refl

  -- the first iteration takes a step
  pub head_steps : (s t : Store V) (p start : P) (own : ℕ → Option V) (pre rest : List (Deed O V)) (trace : List (Access O)) (stop : Stop) (pending : List (Iteration P V)) (gs : List (Course P O V)) →
      OnCourse m modes t start own pre rest trace stop → History m modes entry start pre rest trace p → Follows m modes p pre rest stop → CompatibleWithAll modes trace (traces_of gs) → AllOnCourse m modes entry (past m modes pre t) pending gs → ((a : ℕ) → s a ≡ visible m modes (past m modes pre t) gs a) →
      StepGives t (with_after (step_by m modes (m.event p) s (record { process = p; own = own; finished = false })) pending) (record { start = start; pre = pre; rest = rest; trace = trace; stop = stop; left = suc (length rest) } ∷ gs)
  head_steps s t p start own pre _ trace _ pending gs st hist (ending e) compatible more agrees = steps (record {
    store = s;
    pending = record { process = p; own = own; finished = true } ∷ pending;
    courses = record { start = start; pre = pre; rest = []; trace = trace; stop = AtEnd; left = 0 } ∷ gs;
    is = ap (λ ev. with_after (step_by m modes ev s (record { process = p; own = own; finished = false })) pending) e;
    on_course = gone st hist compatible more;
    agrees = agrees;
    fewer = omega arith;
    same = λ a x. refl;
    traces = refl;
    stops = refl;
    starts = refl;
    more = omega arith;
  })
  head_steps s t p start own pre _ trace _ pending gs st hist (failing e) compatible more agrees = fails (ap (λ ev. with_after (step_by m modes ev s (record { process = p; own = own; finished = false })) pending) e) (inl (refl, refl))
  head_steps s t p start own pre _ trace _ pending gs st hist stopping compatible more agrees = cuts (inl (refl, refl))
  head_steps s t p start own pre _ trace stop pending gs st hist (turning {rest = rest} e f) compatible more agrees = steps (record {
    store = s;
    pending = record { process = m.done p; own = own; finished = false } ∷ pending;
    courses = record { start = start; pre = did_move ∷ pre; rest = rest; trace = trace; stop = stop; left = suc (length rest) } ∷ gs;
    is = ap (λ ev. with_after (step_by m modes ev s (record { process = p; own = own; finished = false })) pending) e;
    on_course = going (course_moved t start own pre rest trace stop st) (history_move m modes entry start p pre rest trace e hist) f compatible more;
    agrees = agrees;
    fewer = omega arith;
    same = λ a x. refl;
    traces = refl;
    stops = refl;
    starts = refl;
    more = omega arith;
  })
  head_steps s t p start own pre _ trace stop pending gs st hist (looking {rest = rest} a x by e f) compatible more agrees = steps (record {
    store = s;
    pending = record { process = m.resumed p (heard m (modes a) x (own_now m (modes a) a pre)); own = own; finished = false } ∷ pending;
    courses = record { start = start; pre = did_read a x by ∷ pre; rest = rest; trace = trace; stop = stop; left = suc (length rest) } ∷ gs;
    is = ap (λ ev. with_after (step_by m modes ev s (record { process = p; own = own; finished = false })) pending) e ∙ ap (λ y. Some (s, record { process = m.resumed p y; own = own; finished = false } ∷ pending)) there;
    on_course = going (course_read t start own pre rest trace stop a x by st) (history_read m modes entry start p pre rest trace a x by e hist) f compatible more;
    agrees = agrees;
    fewer = omega arith;
    same = λ a x. refl;
    traces = refl;
    stops = refl;
    starts = refl;
    more = omega arith;
  })
    where
      there : answer_of m (modes a) (s a) (own a) ≡ heard m (modes a) x (own_now m (modes a) a pre)
      there = answer (modes a) a x (s a) (t a) (own a) pre (st.keeps a) (λ p. (st.sees a p).0 refl)
          (λ sh. agrees a ∙ shared_read t start own pre rest trace stop pending gs a x by st compatible more sh ∙ ap (λ md. past_at m modes md a pre (t a)) sh)
          (λ n. agrees a ∙ visible-own m modes a (past m modes pre t) gs n ∙ past-own m modes (modes a) a pre (t a) n)
  head_steps s t p start own pre _ trace stop pending gs st hist (putting {rest = rest} a v by added e f) compatible more agrees =
      let after_it : AllOnCourse m modes entry (past m modes (did_write a v by added ∷ pre) t) pending gs = on_course_over m modes (past m modes (did_write a v by added ∷ pre) t) (agree_put t start own pre rest trace stop gs a v by added st compatible) more in
      let w : V = said m (modes a) v added (own_now m (modes a) a pre) in
      steps (record {
        store = store_after (modes a) s a w;
        pending = record { process = m.done p; own = own_after (modes a) own a w; finished = false } ∷ pending;
        courses = record { start = start; pre = did_write a v by added ∷ pre; rest = rest; trace = trace; stop = stop; left = suc (length rest) } ∷ gs;
        is = ap (λ ev. with_after (step_by m modes ev s (record { process = p; own = own; finished = false })) pending) e;
        on_course = going (course_written t start own pre rest trace stop a v by added st) (history_write m modes entry start p pre rest trace a v by added e hist) f compatible after_it;
        agrees = store_after_put (modes a) s t start own pre rest trace stop pending gs a v by added (own_now m (modes a) a pre) refl st compatible after_it agrees;
        fewer = omega arith;
        same = λ a x. refl;
        traces = refl;
        stops = refl;
        starts = refl;
        more = omega arith;
      })
