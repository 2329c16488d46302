-- Iterations that run in turn run each alone.
use Rattle.std.proofs.Common.{ℕ, ◌≡◌, ◌⊎◌, inl, inr, Bool, true, false, List, [], ◌∷◌, refl, sym, ap, ◌∙◌, subst}
use Rattle.interleaving.specs.Machine.{Machine, IsMachine, AreReady, Store, put}
use Rattle.interleaving.specs.Modes.{Mode, forbids_flow, Fits}
use Rattle.interleaving.specs.Traces.{Access, Stop, AtEnd, Runs, ended, faulted, cut, read_then, write_then, move_then, InTurn, Alone, all_at_end, is_written}
use Rattle.interleaving.proofs.Courses.{AllUnread, unread_later}
use Rattle.interleaving.proofs.Deeds.{accesses_of, value_then, value_then-unwritten}
use Rattle.interleaving.proofs.Scripts.{Script, scripted}

module _ {P O V : Type 0} (m : Machine P O V) where
  -- two runs of one process over one store that have one trace and stop so leave one store
  pub runs_same : {p : P} {s t u : Store V} {trace : List (Access O)} {stop other : Stop} → Runs m p s trace stop t → Runs m p s trace other u → t ≡ u
  runs_same (ended e) (ended f) = refl
  runs_same (ended e) (faulted f) = refl
  runs_same (ended e) cut = refl
  runs_same (faulted e) (ended f) = refl
  runs_same (faulted e) (faulted f) = refl
  runs_same (faulted e) cut = refl
  runs_same cut (ended f) = refl
  runs_same cut (faulted f) = refl
  runs_same cut cut = refl
  runs_same (move_then e it) (move_then f jt) = runs_same it jt
  runs_same (read_then a by e it) (read_then _ _ f jt) = runs_same it jt
  runs_same {p} {s} {u = u} (write_then {trace = trace} a v by e it) (write_then {stop = other} _ w _ f jt) =
      let same : w ≡ v = cc in
      let kt : Runs m (m.done p) (put s a v) trace other u = subst (λ x. Runs m (m.done p) (put s a x) trace other u) same jt in
      runs_same it kt

  pub in_turn_same : (starts : List P) (s t u : Store V) (traces : List (List (Access O))) → InTurn m starts s traces t → InTurn m starts s traces u → t ≡ u
  in_turn_same [] s t u [] h k = sym h ∙ k
  in_turn_same [] s t u (trace ∷ traces) h k = absurd h
  in_turn_same (p ∷ starts) s t u [] h k = absurd h
  in_turn_same (p ∷ starts) s t u (trace ∷ traces) h k =
      let same : k.0 ≡ h.0 = runs_same k.1 h.1 in
      in_turn_same starts h.0 t u traces h.2 (subst (λ x. InTurn m starts x traces u) same k.2)

  module _ (modes : ℕ → Mode O) where
    -- the later iterations find in the store that an iteration leaves what they find in the one before it, in each cell that they read before
    -- they write it
    pub unread_after : {p : P} {s t : Store V} {trace : List (Access O)} {stop : Stop} (traces : List (List (Access O))) → Fits modes (trace ∷ traces) → Script m modes p s trace stop t → (a : ℕ) → forbids_flow (modes a) ≡ true → (s a ≡ t a) ⊎ AllUnread a traces
    unread_after {s = s} {t = t} {trace = trace} traces fits k a plain = go (is_written trace a) refl
      where
        go : (w : Bool) → is_written trace a ≡ w → (s a ≡ t a) ⊎ AllUnread a traces
        go true e = inr (unread_later m modes a trace traces plain e fits.1)
        go false e = inl (sym (value_then-unwritten m (modes a) a k.deeds (s a) (ap (λ tr. is_written tr a) k.told ∙ e)) ∙ k.leaves a)

    -- iterations that run each alone over a store do so over another that agrees in all cells that they read before they write them
    pub alone_over : {Sound : P → Type 0} → IsMachine m Sound → (limit : ℕ) (starts : List P) (s t : Store V) (traces : List (List (Access O))) (stops : List Stop) → AreReady m Sound starts → ((a : ℕ) → forbids_flow (modes a) ≡ true → (t a ≡ s a) ⊎ AllUnread a traces) → Fits modes traces → Alone m limit starts s traces stops → Alone m limit starts t traces stops
    alone_over laws limit [] s t [] [] ready agree fits alone = tt
    alone_over laws limit [] s t [] (stop ∷ stops) ready agree fits alone = absurd alone
    alone_over laws limit [] s t (trace ∷ traces) stops ready agree fits alone = absurd alone
    alone_over laws limit (p ∷ starts) s t [] stops ready agree fits alone = absurd alone
    alone_over laws limit (p ∷ starts) s t (trace ∷ traces) [] ready agree fits alone = absurd alone
    alone_over laws limit (p ∷ starts) s t (trace ∷ traces) (stop ∷ stops) ready agree fits alone =
        let k : Script m modes p s trace stop alone.0 = scripted m modes laws ready.0 ready.1 fits.0 alone.1 in
        let again = k.again t (λ a plain. elim (agree a plain) [ inl e ↦ inl e | inr n ↦ inr n.0 ]) in
        (again.0, again.1, alone.2, alone_over laws limit starts s t traces stops ready.2 (λ a plain. elim (agree a plain) [ inl e ↦ inl e | inr n ↦ inr n.1 ]) fits.2 alone.3)

    -- iterations that run in turn also run each alone
    pub alone_of : {Sound : P → Type 0} → IsMachine m Sound → (limit : ℕ) (starts : List P) (s t : Store V) (traces : List (List (Access O))) → AreReady m Sound starts → InTurn m starts s traces t → Fits modes traces → Alone m limit starts s traces (all_at_end traces)
    alone_of laws limit [] s t [] ready turn fits = tt
    alone_of laws limit [] s t (trace ∷ traces) ready turn fits = absurd turn
    alone_of laws limit (p ∷ starts) s t [] ready turn fits = absurd turn
    alone_of laws limit (p ∷ starts) s t (trace ∷ traces) ready turn fits =
        let k : Script m modes p s trace AtEnd turn.0 = scripted m modes laws ready.0 ready.1 fits.0 turn.1 in
        (turn.0, turn.1, (λ q. absurd (cc)), alone_over laws limit starts turn.0 s traces (all_at_end traces) ready.2 (unread_after traces fits k) fits.2 (alone_of laws limit starts turn.0 t traces ready.2 turn.2 fits.2))

    -- iterations that all run to their ends alone run in turn, also over another store that agrees so
    pub in_turn_of : {Sound : P → Type 0} → IsMachine m Sound → (limit : ℕ) (starts : List P) (s t : Store V) (traces : List (List (Access O))) → AreReady m Sound starts → ((a : ℕ) → forbids_flow (modes a) ≡ true → (t a ≡ s a) ⊎ AllUnread a traces) → Fits modes traces → Alone m limit starts s traces (all_at_end traces) → (end : Store V) × InTurn m starts t traces end
    in_turn_of laws limit [] s t [] ready agree fits alone = (t, refl)
    in_turn_of laws limit [] s t (trace ∷ traces) ready agree fits alone = absurd alone
    in_turn_of laws limit (p ∷ starts) s t [] ready agree fits alone = absurd alone
    in_turn_of laws limit (p ∷ starts) s t (trace ∷ traces) ready agree fits alone =
        let k : Script m modes p s trace AtEnd alone.0 = scripted m modes laws ready.0 ready.1 fits.0 alone.1 in
        let again = k.again t (λ a plain. elim (agree a plain) [ inl e ↦ inl e | inr n ↦ inr n.0 ]) in
        let rest : (end : Store V) × InTurn m starts again.0 traces end = in_turn_of laws limit starts s again.0 traces ready.2 (later k.deeds again.0 again.2 k.told) fits.2 alone.3 in
        (rest.0, (again.0, again.1, rest.1))
      where
        later : (deeds : List _) (u : Store V) → ((a : ℕ) → u a ≡ value_then m (modes a) a deeds (t a)) → accesses_of deeds ≡ trace → (a : ℕ) → forbids_flow (modes a) ≡ true → (u a ≡ s a) ⊎ AllUnread a traces
        later deeds u comes told a plain = go (is_written trace a) refl
          where
            go : (w : Bool) → is_written trace a ≡ w → (u a ≡ s a) ⊎ AllUnread a traces
            go true f = inr (unread_later m modes a trace traces plain f fits.1)
            go false f = elim (agree a plain) [
              | inl g ↦ inl (comes a ∙ value_then-unwritten m (modes a) a deeds (t a) (ap (λ tr. is_written tr a) told ∙ f) ∙ g)
              | inr n ↦ inr n.1
            ]
