-- What is known of a region while its iterations take steps.
use Rattle.std.proofs.Common.{ℕ, suc, ◌+◌, ◌≡◌, ◌==◌, ◌⊎◌, inl, inr, Bool, true, false, List, [], ◌∷◌, length, Option, if◌then◌else◌, refl, sym, ap, ◌∙◌, subst}
use Rattle.interleaving.specs.Machine.{Machine, Store}
use Rattle.interleaving.specs.Modes.{Mode, Shared, Private, Reduce, forbids_flow, CompatibleWithAll}
use Rattle.interleaving.specs.Region.{Iteration}
use Rattle.interleaving.specs.Traces.{Access, Stop, AtEnd, is_exposed, is_written}
use Rattle.interleaving.proofs.Deeds.{Deed, did_read, did_write, did_move, accesses_of, value_now, value_then, own_now, Sees, Grows, sees-unread, value_now-written}
use Rattle.interleaving.proofs.Histories.{History}
use Rattle.interleaving.proofs.Scripts.{Follows, Again}

-- the course of an iteration: the process that it began with; the deeds that are done, the newest first, and those that are left; the trace of
-- its run alone and how that stops; and the number of steps that are left, the one that ends it counted
pub record Course (P O V : Type 0) : Type 0 where
  pub start : P
  pub pre : List (Deed O V)
  pub rest : List (Deed O V)
  pub trace : List (Access O)
  pub stop : Stop
  pub left : ℕ

abbrev pub traces_of : {P O V : Type 0} → List (Course P O V) → List (List (Access O))
traces_of [] = []
traces_of (g ∷ gs) = g.trace ∷ traces_of gs

abbrev pub left_of : {P O V : Type 0} → List (Course P O V) → ℕ
left_of [] = 0
left_of (g ∷ gs) = g.left + left_of gs

abbrev pub stops_of : {P O V : Type 0} → List (Course P O V) → List Stop
stops_of [] = []
stops_of (g ∷ gs) = g.stop ∷ stops_of gs

abbrev pub starts_of : {P O V : Type 0} → List (Course P O V) → List P
starts_of [] = []
starts_of (g ∷ gs) = g.start ∷ starts_of gs

-- the number of steps that are done, but for those that end an iteration
abbrev pub done_of : {P O V : Type 0} → List (Course P O V) → ℕ
done_of [] = 0
done_of (g ∷ gs) = length g.pre + done_of gs

-- an iteration has no step left before it stops so
abbrev pub StopsSo : {P O V : Type 0} → Stop → List (Course P O V) → Type 0
StopsSo stop [] = ⊥
StopsSo stop (g ∷ gs) = ((g.rest ≡ []) × (g.stop ≡ stop)) ⊎ StopsSo stop gs

abbrev pub AllUnwritten : {O : Type 0} → ℕ → List (List (Access O)) → Type 0
AllUnwritten a [] = Unit {0}
AllUnwritten a (trace ∷ traces) = (is_written trace a ≡ true → ⊥) × AllUnwritten a traces

abbrev pub AllUnread : {O : Type 0} → ℕ → List (List (Access O)) → Type 0
AllUnread a [] = Unit {0}
AllUnread a (trace ∷ traces) = (is_exposed trace a ≡ true → ⊥) × AllUnread a traces

module _ {P O V : Type 0} (m : Machine P O V) (modes : ℕ → Mode O) where
  -- a write of a shared cell is seen by later iterations at once, one of another cell isn't
  abbrev pub written_through : Mode O → (v x : V) → V
  written_through Shared v x = v
  written_through _ v x = x

  abbrev pub past_at : Mode O → ℕ → List (Deed O V) → V → V
  past_at md a [] x = x
  past_at md a (did_read b y by ∷ pre) x = past_at md a pre x
  past_at md a (did_write b v by added ∷ pre) x = if b == a then written_through md v (past_at md a pre x) else past_at md a pre x
  past_at md a (did_move ∷ pre) x = past_at md a pre x

  -- a store past the deeds that an iteration has done
  abbrev pub past : List (Deed O V) → Store V → Store V
  past pre t = λ a. past_at (modes a) a pre (t a)

  -- a store past the deeds that all have done: what the region's store holds
  abbrev pub visible : Store V → List (Course P O V) → Store V
  visible t [] = t
  visible t (g ∷ gs) = visible (past g.pre t) gs

  -- the value of a cell where iterations do the rest in turn
  abbrev pub value_at_end : ℕ → List (Course P O V) → V → V
  value_at_end a [] x = x
  value_at_end a (g ∷ gs) x = value_at_end a gs (value_then m (modes a) a g.rest (value_now m (modes a) a g.pre x))

  -- what is known of an iteration over a store past those before it: its copies and partials are what its deeds made them; its trace has what it
  -- may still read before it writes it, and what it has written and will write; and what it will read has its value
  pub record OnCourse (t : Store V) (start : P) (own : ℕ → Option V) (pre rest : List (Deed O V)) (trace : List (Access O)) (stop : Stop) : Type 0 where
    pub keeps : (a : ℕ) → own a ≡ own_now m (modes a) a pre
    pub may_read : (a : ℕ) → is_written (accesses_of pre) a ≡ false → is_exposed (accesses_of rest) a ≡ true → is_exposed trace a ≡ true
    pub has_written : (a : ℕ) → is_written (accesses_of pre) a ≡ true → is_written trace a ≡ true
    pub will : (a : ℕ) → is_written (accesses_of rest) a ≡ true → is_written trace a ≡ true
    pub counted : length pre + length rest ≡ length trace
    pub again : Again m modes start t trace stop (λ a x. value_then m (modes a) a rest (value_now m (modes a) a pre x))
    pub grown : (a : ℕ) → Grows m (modes a) a pre
    pub grows : (a : ℕ) → Grows m (modes a) a rest
    pub sees : (a : ℕ) → forbids_flow (modes a) ≡ true → Sees m (modes a) a rest (value_now m (modes a) a pre (t a))

  -- what is known of all iterations that aren't committed, in their order
  pub data AllOnCourse (entry : Store V) : Store V → List (Iteration P V) → List (Course P O V) → Type 0 where
    none : {t : Store V} → AllOnCourse entry t [] []
    going : {t : Store V} {p start : P} {own : ℕ → Option V} {pre rest : List (Deed O V)} {trace : List (Access O)} {stop : Stop} {pending : List (Iteration P V)} {gs : List (Course P O V)} →
        OnCourse t start own pre rest trace stop → History m modes entry start pre rest trace p → Follows m modes p pre rest stop → CompatibleWithAll modes trace (traces_of gs) → AllOnCourse entry (past pre t) pending gs →
        AllOnCourse entry t (record { process = p; own = own; finished = false } ∷ pending) (record { start = start; pre = pre; rest = rest; trace = trace; stop = stop; left = suc (length rest) } ∷ gs)
    gone : {t : Store V} {p start : P} {own : ℕ → Option V} {pre : List (Deed O V)} {trace : List (Access O)} {pending : List (Iteration P V)} {gs : List (Course P O V)} →
        OnCourse t start own pre [] trace AtEnd → History m modes entry start pre [] trace p → CompatibleWithAll modes trace (traces_of gs) → AllOnCourse entry (past pre t) pending gs →
        AllOnCourse entry t (record { process = p; own = own; finished = true } ∷ pending) (record { start = start; pre = pre; rest = []; trace = trace; stop = AtEnd; left = 0 } ∷ gs)

  pub unwritten_later : (a : ℕ) (early : List (Access O)) (traces : List (List (Access O))) → modes a ≡ Shared → (is_exposed early a ≡ true) ⊎ (is_written early a ≡ true) → CompatibleWithAll modes early traces → AllUnwritten a traces
  unwritten_later a early [] s h compatible = tt
  unwritten_later a early (late ∷ traces) s (inl r) compatible = (λ w. compatible.0.no_anti a s (r, w), unwritten_later a early traces s (inl r) compatible.1)
  unwritten_later a early (late ∷ traces) s (inr r) compatible = (λ w. compatible.0.no_output a s (r, w), unwritten_later a early traces s (inr r) compatible.1)

  pub unread_later : (a : ℕ) (early : List (Access O)) (traces : List (List (Access O))) → forbids_flow (modes a) ≡ true → is_written early a ≡ true → CompatibleWithAll modes early traces → AllUnread a traces
  unread_later a early [] s w compatible = tt
  unread_later a early (late ∷ traces) s w compatible = (λ r. compatible.0.no_flow a s (w, r), unread_later a early traces s w compatible.1)

  pub past-own : (md : Mode O) (a : ℕ) (pre : List (Deed O V)) (x : V) → (md ≡ Shared → ⊥) → past_at md a pre x ≡ x
  past-own md a [] x h = refl
  past-own md a (did_read b y by ∷ pre) x h = past-own md a pre x h
  past-own md a (did_move ∷ pre) x h = past-own md a pre x h
  past-own md a (did_write b v by added ∷ pre) x h =
      elim (b == a) as (λ t. (if t then written_through md v (past_at md a pre x) else past_at md a pre x) ≡ x)
      [ true ↦ written_through-own md v (past_at md a pre x) h ∙ past-own md a pre x h | false ↦ past-own md a pre x h ]
    where
      written_through-own : (md : Mode O) (v x : V) → (md ≡ Shared → ⊥) → written_through md v x ≡ x
      written_through-own Shared v x h = absurd (h refl)
      written_through-own Private v x h = refl
      written_through-own (Reduce o) v x h = refl

  pub past-shared : (a : ℕ) (pre : List (Deed O V)) (x : V) → past_at Shared a pre x ≡ value_now m Shared a pre x
  past-shared a [] x = refl
  past-shared a (did_read b y by ∷ pre) x = past-shared a pre x
  past-shared a (did_move ∷ pre) x = past-shared a pre x
  past-shared a (did_write b v by added ∷ pre) x =
      elim (b == a) as (λ t. (if t then v else past_at Shared a pre x) ≡ (if t then v else value_now m Shared a pre x))
      [ true ↦ refl | false ↦ past-shared a pre x ]

  pub past-unwritten : (md : Mode O) (a : ℕ) (pre : List (Deed O V)) (x : V) → is_written (accesses_of pre) a ≡ false → past_at md a pre x ≡ x
  past-unwritten md a [] x h = refl
  past-unwritten md a (did_read b y by ∷ pre) x h = past-unwritten md a pre x h
  past-unwritten md a (did_move ∷ pre) x h = past-unwritten md a pre x h
  past-unwritten md a (did_write b v by added ∷ pre) x h =
      (elim (b == a) as (λ t. (if t then true else is_written (accesses_of pre) a) ≡ false → (if t then written_through md v (past_at md a pre x) else past_at md a pre x) ≡ x)
      [ true ↦ λ e. absurd (cc) | false ↦ λ e. past-unwritten md a pre x e ]) h

  pub visible-local : (a : ℕ) (t u : Store V) (gs : List (Course P O V)) → t a ≡ u a → visible t gs a ≡ visible u gs a
  visible-local a t u [] e = e
  visible-local a t u (g ∷ gs) e = visible-local a (past g.pre t) (past g.pre u) gs (ap (past_at (modes a) a g.pre) e)

  pub visible-own : (a : ℕ) (t : Store V) (gs : List (Course P O V)) → (modes a ≡ Shared → ⊥) → visible t gs a ≡ t a
  visible-own a t [] h = refl
  visible-own a t (g ∷ gs) h = visible-own a (past g.pre t) gs h ∙ past-own (modes a) a g.pre (t a) h

  not_written : (own pre : List (Access O)) (a : ℕ) → (is_written pre a ≡ true → is_written own a ≡ true) → (is_written own a ≡ true → ⊥) → is_written pre a ≡ false
  not_written own pre a h n = (elim (is_written pre a) as (λ t. (t ≡ true → is_written own a ≡ true) → t ≡ false) [ true ↦ λ k. absurd (n (k refl)) | false ↦ λ k. refl ]) h

  pub visible-unwritten : (a : ℕ) {entry t : Store V} {pending : List (Iteration P V)} {gs : List (Course P O V)} → AllOnCourse entry t pending gs → AllUnwritten a (traces_of gs) → visible t gs a ≡ t a
  visible-unwritten a none h = refl
  visible-unwritten a {t = t} (going {pre = pre} {trace = trace} st hist f compatible more) h = visible-unwritten a more h.1 ∙ past-unwritten (modes a) a pre (t a) (not_written trace (accesses_of pre) a (st.has_written a) h.0)
  visible-unwritten a {t = t} (gone {pre = pre} {trace = trace} st hist compatible more) h = visible-unwritten a more h.1 ∙ past-unwritten (modes a) a pre (t a) (not_written trace (accesses_of pre) a (st.has_written a) h.0)

  -- stores that agree in each cell that one of the iterations reads before it writes it
  abbrev pub Agree : (t u : Store V) → List (Course P O V) → Type 0
  Agree t u gs = (a : ℕ) → forbids_flow (modes a) ≡ true → (t a ≡ u a) ⊎ AllUnread a (traces_of gs)

  course_over : (t u : Store V) (start : P) (own : ℕ → Option V) (pre rest : List (Deed O V)) (trace : List (Access O)) (stop : Stop) → ((a : ℕ) → forbids_flow (modes a) ≡ true → (t a ≡ u a) ⊎ (is_exposed trace a ≡ true → ⊥)) → OnCourse t start own pre rest trace stop → OnCourse u start own pre rest trace stop
  course_over t u start own pre rest trace stop agree st = record {
    keeps = st.keeps;
    may_read = st.may_read;
    has_written = st.has_written;
    will = st.will;
    counted = st.counted;
    grown = st.grown;
    grows = st.grows;
    sees = λ a p. one a p (agree a p) (st.sees a p);
    again = λ v g. st.again v (λ a p. elim (g a p) [ inr n ↦ inr n | inl e ↦ elim (agree a p) [ inl f ↦ inl (e ∙ sym f) | inr n ↦ inr n ] ]);
  }
    where
      unread : (a : ℕ) → forbids_flow (modes a) ≡ true → (is_exposed trace a ≡ true → ⊥) → (w r : Bool) → is_written (accesses_of pre) a ≡ w → is_exposed (accesses_of rest) a ≡ r → Sees m (modes a) a rest (value_now m (modes a) a pre (t a)) → Sees m (modes a) a rest (value_now m (modes a) a pre (u a))
      unread a p n true r ew er s = subst (Sees m (modes a) a rest) (value_now-written m (modes a) a pre (t a) (u a) p ew) s
      unread a p n false true ew er s = absurd (n (st.may_read a ew er))
      unread a p n false false ew er s = sees-unread m (modes a) a rest (value_now m (modes a) a pre (t a)) (value_now m (modes a) a pre (u a)) p er s

      one : (a : ℕ) → forbids_flow (modes a) ≡ true → (t a ≡ u a) ⊎ (is_exposed trace a ≡ true → ⊥) → Sees m (modes a) a rest (value_now m (modes a) a pre (t a)) → Sees m (modes a) a rest (value_now m (modes a) a pre (u a))
      one a p (inl e) s = subst (λ x. Sees m (modes a) a rest (value_now m (modes a) a pre x)) e s
      one a p (inr n) s = unread a p n (is_written (accesses_of pre) a) (is_exposed (accesses_of rest) a) refl refl s

  agree_head : (t u : Store V) (g : Course P O V) (gs : List (Course P O V)) → Agree t u (g ∷ gs) → (a : ℕ) → forbids_flow (modes a) ≡ true → (t a ≡ u a) ⊎ (is_exposed g.trace a ≡ true → ⊥)
  agree_head t u g gs agree a p = elim (agree a p) [ inl e ↦ inl e | inr n ↦ inr n.0 ]

  agree_tail : (t u : Store V) (g : Course P O V) (gs : List (Course P O V)) → Agree t u (g ∷ gs) → Agree (past g.pre t) (past g.pre u) gs
  agree_tail t u g gs agree a p = elim (agree a p) [ inl e ↦ inl (ap (past_at (modes a) a g.pre) e) | inr n ↦ inr n.1 ]

  -- what is known holds over another store that agrees so
  pub on_course_over : {entry t : Store V} (u : Store V) {pending : List (Iteration P V)} {gs : List (Course P O V)} → Agree t u gs → AllOnCourse entry t pending gs → AllOnCourse entry u pending gs
  on_course_over u agree none = none
  on_course_over {t = t} u agree (going {p = p} {start = start} {own = own} {pre = pre} {rest = rest} {trace = trace} {stop = stop} {pending = pending} {gs = gs} st hist f compatible more) =
      let g : Course P O V = record { start = start; pre = pre; rest = rest; trace = trace; stop = stop; left = suc (length rest) } in
      going (course_over t u start own pre rest trace stop (agree_head t u g gs agree) st) hist f compatible (on_course_over (past pre u) (agree_tail t u g gs agree) more)
  on_course_over {t = t} u agree (gone {p = p} {start = start} {own = own} {pre = pre} {trace = trace} {pending = pending} {gs = gs} st hist compatible more) =
      let g : Course P O V = record { start = start; pre = pre; rest = []; trace = trace; stop = AtEnd; left = 0 } in
      gone (course_over t u start own pre [] trace AtEnd (agree_head t u g gs agree) st) hist compatible (on_course_over (past pre u) (agree_tail t u g gs agree) more)
