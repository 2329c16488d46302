-- Iterations of a loop in turn and alone.
use Rattle.std.proofs.Common.{ℕ, ◌≡◌, ◌==◌, ◌⊎◌, inl, inr, Bool, true, false, List, [], ◌∷◌, if◌then◌else◌, refl, sym, ap, ◌∙◌}
use Rattle.interleaving.specs.Machine.{Machine, IsMachine, AreReady, Store, put}
use Rattle.interleaving.specs.Modes.{Mode, forbids_flow, Fits}
use Rattle.interleaving.specs.OwnCells.{Start, processes_of, LoopInTurn, LoopAlone}
use Rattle.interleaving.specs.Traces.{Access, Stop, AtEnd, all_at_end, is_exposed, is_written}
use Rattle.interleaving.proofs.Alone.{unread_after}
use Rattle.interleaving.proofs.Courses.{AllUnread, unread_later}
use Rattle.interleaving.proofs.Deeds.{accesses_of, value_then, value_then-unwritten}
use Rattle.interleaving.proofs.Scripts.{Script, scripted}

module _ {P O V : Type 0} (m : Machine P O V) (modes : ℕ → Mode O) (variable : ℕ) where
  -- what a cell has in a store with the variable set
  set_own : (s t : Store V) (v : V) (a : ℕ) → (variable == a) ≡ true → put s variable v a ≡ put t variable v a
  set_own s t v a e = ap (λ w. if w then v else s a) e ∙ sym (ap (λ w. if w then v else t a) e)

  set_other : (s : Store V) (v : V) (a : ℕ) → (variable == a) ≡ false → put s variable v a ≡ s a
  set_other s v a e = ap (λ w. if w then v else s a) e

  -- two stores agree in all cells but the variable that these iterations read before they write them
  abbrev pub AgreeBut : Store V → Store V → List (List (Access O)) → Type 0
  AgreeBut t s traces = (a : ℕ) → (variable == a) ≡ false → forbids_flow (modes a) ≡ true → (t a ≡ s a) ⊎ AllUnread a traces

  -- with the variable set they agree for the first of them
  agree_set : (t s : Store V) (v : V) (trace : List (Access O)) (traces : List (List (Access O))) → AgreeBut t s (trace ∷ traces) → (a : ℕ) → forbids_flow (modes a) ≡ true → (put t variable v a ≡ put s variable v a) ⊎ (is_exposed trace a ≡ true → ⊥)
  agree_set t s v trace traces agree a plain = (elim (variable == a) as (λ w. (variable == a) ≡ w → (put t variable v a ≡ put s variable v a) ⊎ (is_exposed trace a ≡ true → ⊥)) [
    | true ↦ λ e. inl (set_own t s v a e)
    | false ↦ λ e. elim (agree a e plain) [ inl f ↦ inl (set_other t v a e ∙ f ∙ sym (set_other s v a e)) | inr n ↦ inr n.0 ]
  ]) refl

  agree_rest : (t s : Store V) (trace : List (Access O)) (traces : List (List (Access O))) → AgreeBut t s (trace ∷ traces) → AgreeBut t s traces
  agree_rest t s trace traces agree a e plain = elim (agree a e plain) [ inl f ↦ inl f | inr n ↦ inr n.1 ]

  -- iterations that run each alone over a store do so over another that agrees so
  loop_alone_over : {Sound : P → Type 0} → IsMachine m Sound → (limit : ℕ) (starts : List (Start P V)) (s t : Store V) (traces : List (List (Access O))) (stops : List Stop) → AreReady m Sound (processes_of starts) → AgreeBut t s traces → Fits modes traces → LoopAlone m limit variable starts s traces stops → LoopAlone m limit variable starts t traces stops
  loop_alone_over laws limit [] s t [] [] ready agree fits alone = tt
  loop_alone_over laws limit [] s t [] (stop ∷ stops) ready agree fits alone = absurd alone
  loop_alone_over laws limit [] s t (trace ∷ traces) stops ready agree fits alone = absurd alone
  loop_alone_over laws limit (start ∷ starts) s t [] stops ready agree fits alone = absurd alone
  loop_alone_over laws limit (start ∷ starts) s t (trace ∷ traces) [] ready agree fits alone = absurd alone
  loop_alone_over laws limit (start ∷ starts) s t (trace ∷ traces) (stop ∷ stops) ready agree fits alone =
      let k : Script m modes start.process (put s variable start.value) trace stop alone.0 = scripted m modes laws ready.0 ready.1 fits.0 alone.1 in
      let again = k.again (put t variable start.value) (agree_set t s start.value trace traces agree) in
      (again.0, again.1, alone.2, loop_alone_over laws limit starts s t traces stops ready.2 (agree_rest t s trace traces agree) fits.2 alone.3)

  -- iterations that run in turn also run each alone
  pub loop_alone_of : {Sound : P → Type 0} → IsMachine m Sound → (limit : ℕ) (starts : List (Start P V)) (s t : Store V) (traces : List (List (Access O))) → AreReady m Sound (processes_of starts) → LoopInTurn m variable starts s traces t → Fits modes traces → LoopAlone m limit variable starts s traces (all_at_end traces)
  loop_alone_of laws limit [] s t [] ready turn fits = tt
  loop_alone_of laws limit [] s t (trace ∷ traces) ready turn fits = absurd turn
  loop_alone_of laws limit (start ∷ starts) s t [] ready turn fits = absurd turn
  loop_alone_of laws limit (start ∷ starts) s t (trace ∷ traces) ready turn fits =
      let k : Script m modes start.process (put s variable start.value) trace AtEnd turn.0 = scripted m modes laws ready.0 ready.1 fits.0 turn.1 in
      (turn.0, turn.1, (λ q. absurd (cc)), loop_alone_over laws limit starts turn.0 s traces (all_at_end traces) ready.2 (agree k) fits.2 (loop_alone_of laws limit starts turn.0 t traces ready.2 turn.2 fits.2))
    where
      agree : Script m modes start.process (put s variable start.value) trace AtEnd turn.0 → AgreeBut s turn.0 traces
      agree k a e plain = elim (unread_after m modes traces fits k a plain) [ inl f ↦ inl (sym (set_other s start.value a e) ∙ f) | inr n ↦ inr n ]

  -- iterations that all run to their ends alone run in turn, also over another store that agrees so
  pub loop_in_turn : {Sound : P → Type 0} → IsMachine m Sound → (limit : ℕ) (starts : List (Start P V)) (s t : Store V) (traces : List (List (Access O))) → AreReady m Sound (processes_of starts) → AgreeBut t s traces → Fits modes traces → LoopAlone m limit variable starts s traces (all_at_end traces) → (end : Store V) × LoopInTurn m variable starts t traces end
  loop_in_turn laws limit [] s t [] ready agree fits alone = (t, refl)
  loop_in_turn laws limit [] s t (trace ∷ traces) ready agree fits alone = absurd alone
  loop_in_turn laws limit (start ∷ starts) s t [] ready agree fits alone = absurd alone
  loop_in_turn laws limit (start ∷ starts) s t (trace ∷ traces) ready agree fits alone =
      let k : Script m modes start.process (put s variable start.value) trace AtEnd alone.0 = scripted m modes laws ready.0 ready.1 fits.0 alone.1 in
      let again = k.again (put t variable start.value) (agree_set t s start.value trace traces agree) in
      let rest : (end : Store V) × LoopInTurn m variable starts again.0 traces end = loop_in_turn laws limit starts s again.0 traces ready.2 (later k.deeds again.0 again.2 k.told) fits.2 alone.3 in
      (rest.0, (again.0, again.1, rest.1))
    where
      later : (deeds : List _) (u : Store V) → ((a : ℕ) → u a ≡ value_then m (modes a) a deeds (put t variable start.value a)) → accesses_of deeds ≡ trace → AgreeBut u s traces
      later deeds u comes told a e plain = go (is_written trace a) refl
        where
          go : (w : Bool) → is_written trace a ≡ w → (u a ≡ s a) ⊎ AllUnread a traces
          go true f = inr (unread_later m modes a trace traces plain f fits.1)
          go false f = elim (agree a e plain) [
            | inl g ↦ inl (comes a ∙ value_then-unwritten m (modes a) a deeds (put t variable start.value a) (ap (λ tr. is_written tr a) told ∙ f) ∙ set_other t start.value a e ∙ g)
            | inr n ↦ inr n.1
          ]
