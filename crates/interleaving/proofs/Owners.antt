-- The machine of owners is a machine.
use Rattle.std.proofs.Common.{ℕ, ◌≡◌, ◌==◌, inl, inr, true, false, Option, None, Some, if◌then◌else◌, is_some, refl, sym, ap, ◌∙◌, subst}
use Rattle.interleaving.specs.Machine.{Event, reads, writes, moves, ends, faults, Machine, IsMachine, IsReady, Accumulates}
use Rattle.interleaving.specs.OwnCells.{Owner, event_outside, owner_resumed, owner_done, with_own}

module _ {P O V : Type 0} (m : Machine P O V) where
  -- the event of an owner, by that of its process
  pub data OwnerEvent (q : Owner P V) : Event O V → Type 0 where
    of_read : (a : ℕ) (by : Option O) → m.event q.process ≡ reads a by → is_some (q.value a) ≡ false → OwnerEvent q (reads a by)
    of_write : (a : ℕ) (v : V) (by : Option O) → m.event q.process ≡ writes a v by → is_some (q.value a) ≡ false → OwnerEvent q (writes a v by)
    of_move : m.event q.process ≡ moves → OwnerEvent q moves
    of_own_read : (a : ℕ) (by : Option O) → m.event q.process ≡ reads a by → is_some (q.value a) ≡ true → OwnerEvent q moves
    of_own_write : (a : ℕ) (v : V) (by : Option O) → m.event q.process ≡ writes a v by → is_some (q.value a) ≡ true → OwnerEvent q moves
    of_end : m.event q.process ≡ ends → OwnerEvent q ends
    of_fault : m.event q.process ≡ faults → OwnerEvent q faults

  owner_event : (q : Owner P V) (ev : Event O V) → m.event q.process ≡ ev → OwnerEvent q (event_outside ev q.value)
  owner_event q (reads a by) e = (elim (is_some (q.value a)) as (λ t. is_some (q.value a) ≡ t → OwnerEvent q (if t then moves else reads a by)) [ true ↦ λ h. of_own_read a by e h | false ↦ λ h. of_read a by e h ]) refl
  owner_event q (writes a v by) e = (elim (is_some (q.value a)) as (λ t. is_some (q.value a) ≡ t → OwnerEvent q (if t then moves else writes a v by)) [ true ↦ λ h. of_own_write a v by e h | false ↦ λ h. of_write a v by e h ]) refl
  owner_event q moves e = of_move e
  owner_event q ends e = of_end e
  owner_event q faults e = of_fault e

  pub event_of_owner : (q : Owner P V) (ev : Event O V) → (with_own m).event q ≡ ev → OwnerEvent q ev
  event_of_owner q ev e = subst (OwnerEvent q) e (owner_event q (m.event q.process) refl)

  pub owner_reads : (q : Owner P V) (a : ℕ) (by : Option O) → OwnerEvent q (reads a by) → (m.event q.process ≡ reads a by) × (is_some (q.value a) ≡ false)
  owner_reads q a by (of_read _ _ e h) = (e, h)

  pub owner_writes : (q : Owner P V) (a : ℕ) (v : V) (by : Option O) → OwnerEvent q (writes a v by) → (m.event q.process ≡ writes a v by) × (is_some (q.value a) ≡ false)
  owner_writes q a v by (of_write _ _ _ e h) = (e, h)

  pub ready_where : (q : Owner P V) → IsReady m q.process → IsReady (with_own m) q
  ready_where q h a v o e = let b : (m.event q.process ≡ writes a v (Some o)) × (is_some (q.value a) ≡ false) = owner_writes q a v (Some o) (event_of_owner q (writes a v (Some o)) e) in h a v o b.0

  value_of : (o : Option V) → is_some o ≡ true → (x : V) × (o ≡ Some x)
  value_of None h = absurd (cc)
  value_of (Some x) h = (x, refl)

  -- an owner after a move: the process has moved, or has read or written a cell of its own
  pub data Onward (q : Owner P V) : Owner P V → Type 0 where
    by_move : m.event q.process ≡ moves → Onward q (record q { process = m.done q.process })
    by_own_read : (a : ℕ) (by : Option O) (x : V) → m.event q.process ≡ reads a by → q.value a ≡ Some x → Onward q (record q { process = m.resumed q.process x })
    by_own_write : (a : ℕ) (v : V) (by : Option O) (value : ℕ → Option V) → m.event q.process ≡ writes a v by → Onward q (record { process = m.done q.process; value = value })

  pub onward : (q : Owner P V) → (with_own m).event q ≡ moves → Onward q ((with_own m).done q)
  onward q e = go (event_of_owner q moves e)
    where
      go : OwnerEvent q moves → Onward q (owner_done m q (m.event q.process))
      go (of_move f) = subst (λ ev. Onward q (owner_done m q ev)) (sym f) (by_move f)
      go (of_own_read a by f h) =
          let w : (x : V) × (q.value a ≡ Some x) = value_of (q.value a) h in
          subst (λ ev. Onward q (owner_done m q ev)) (sym f) (subst (λ o. Onward q (owner_resumed m q o)) (sym w.1) (by_own_read a by w.0 f w.1))
      go (of_own_write a v by f h) = subst (λ ev. Onward q (owner_done m q ev)) (sym f) (by_own_write a v by _ f)

  sound_onward : {Sound : P → Type 0} → IsMachine m Sound → (q r : Owner P V) → Sound q.process → Onward q r → Sound r.process
  sound_onward laws q _ sound (by_move e) = laws.sound_moved q.process sound e
  sound_onward laws q _ sound (by_own_read a by x e f) = laws.sound_resumed q.process a by x sound e
  sound_onward laws q _ sound (by_own_write a v by value e) = laws.sound_written q.process a v by sound e

  -- the write of an accumulation to a cell of its own is a move too
  own_write : (q : Owner P V) (a : ℕ) (x w : V) (o : O) → q.value a ≡ Some x → m.event q.process ≡ writes a w (Some o) → IsReady (with_own m) q
  own_write q a x w o e f b v by g =
      let r : (m.event q.process ≡ writes b v (Some by)) × (is_some (q.value b) ≡ false) = owner_writes q b v (Some by) (event_of_owner q (writes b v (Some by)) g) in
      let same : b ≡ a = cc (r.0) in
      let h : is_some (q.value a) ≡ false = subst (λ c. is_some (q.value c) ≡ false) same r.1 in
      let k : is_some (q.value a) ≡ true = ap is_some e in
      absurd (cc)

  ready_onward : {Sound : P → Type 0} → IsMachine m Sound → (q r : Owner P V) → Sound q.process → Onward q r → IsReady (with_own m) r
  ready_onward laws q _ sound (by_move e) = ready_where (record q { process = m.done q.process }) (laws.ready_moved q.process sound e)
  ready_onward laws q _ sound (by_own_read a None x e f) = ready_where (record q { process = m.resumed q.process x }) (laws.ready_resumed q.process a x sound e)
  ready_onward laws q _ sound (by_own_read a (Some o) x e f) = elim (laws.accumulates q.process a o sound e) [
    | inl adds ↦ own_write (record q { process = m.resumed q.process x }) a x (m.apply o x adds.added) o f (adds.combines x)
    | inr fails ↦ ready_where (record q { process = m.resumed q.process x }) (λ b v by g. let h : faults ≡ writes b v (Some by) = sym (fails x) ∙ g in absurd (cc))
  ]
  ready_onward laws q _ sound (by_own_write a v by value e) = ready_where (record { process = m.done q.process; value = value }) (laws.ready_written q.process a v by sound e)

  -- an owner after a read and a write of cells that aren't its own
  done_written : (q : Owner P V) (a : ℕ) (v : V) (by : Option O) → m.event q.process ≡ writes a v by → is_some (q.value a) ≡ false → (with_own m).done q ≡ record q { process = m.done q.process }
  done_written q a v by e h = ap (owner_done m q) e ∙ ap (λ t. record { process = m.done q.process; value = if t then (λ b. if a == b then Some v else q.value b) else q.value }) h

  event_written : (q : Owner P V) (a : ℕ) (v : V) (by : Option O) → m.event q.process ≡ writes a v by → is_some (q.value a) ≡ false → (with_own m).event q ≡ writes a v by
  event_written q a v by e h = ap (λ ev. event_outside ev q.value) e ∙ ap (λ t. if t then moves else writes a v by) h

  adds_where : (q : Owner P V) (a : ℕ) (o : O) → is_some (q.value a) ≡ false → Accumulates m q.process a o → Accumulates (with_own m) q a o
  adds_where q a o h adds = record {
    added = adds.added;
    after = record q { process = adds.after };
    combines = λ x. event_written (record q { process = m.resumed q.process x }) a (m.apply o x adds.added) (Some o) (adds.combines x) h;
    goes_on = λ x. done_written (record q { process = m.resumed q.process x }) a (m.apply o x adds.added) (Some o) (adds.combines x) h ∙ ap (λ p. record q { process = p }) (adds.goes_on x);
    begins = adds.begins;
  }

  -- the machine of owners is a machine
  pub is_machine_with_own : {Sound : P → Type 0} → IsMachine m Sound → IsMachine (with_own m) (λ q. Sound q.process)
  is_machine_with_own {Sound} laws = record {
    sound_resumed = λ q a by x sound e. laws.sound_resumed q.process a by x sound (owner_reads q a by (event_of_owner q (reads a by) e)).0;
    sound_written = λ q a v by sound e.
        let b = owner_writes q a v by (event_of_owner q (writes a v by) e) in
        subst (λ r. Sound r.process) (sym (done_written q a v by b.0 b.1)) (laws.sound_written q.process a v by sound b.0);
    sound_moved = λ q sound e. sound_onward laws q ((with_own m).done q) sound (onward q e);
    accumulates = λ q a o sound e.
        let b = owner_reads q a (Some o) (event_of_owner q (reads a (Some o)) e) in
        elim (laws.accumulates q.process a o sound b.0) [ inl adds ↦ inl (adds_where q a o b.1 adds) | inr fails ↦ inr (λ x. ap (λ ev. event_outside ev q.value) (fails x)) ];
    ready_resumed = λ q a x sound e. ready_where (record q { process = m.resumed q.process x }) (laws.ready_resumed q.process a x sound (owner_reads q a None (event_of_owner q (reads a None) e)).0);
    ready_written = λ q a v by sound e.
        let b = owner_writes q a v by (event_of_owner q (writes a v by) e) in
        subst (IsReady (with_own m)) (sym (done_written q a v by b.0 b.1)) (ready_where (record q { process = m.done q.process }) (laws.ready_written q.process a v by sound b.0));
    ready_moved = λ q sound e. ready_onward laws q ((with_own m).done q) sound (onward q e);
    associates = laws.associates;
  }
