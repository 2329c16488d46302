-- Iterations of a loop are those of their owners.
use Rattle.std.proofs.Common.{ℕ, ◌≤◌, ◌≡◌, ◌==◌, Bool, true, false, List, [], ◌∷◌, length, None, Some, if◌then◌else◌, refl, sym, ap, ◌∙◌, subst}
use Rattle.interleaving.specs.Machine.{Machine, AreReady, Store, put}
use Rattle.interleaving.specs.OwnCells.{with_own, all_hidden, Start, processes_of, owner_of, owners_of, LoopInTurn, LoopAlone}
use Rattle.interleaving.specs.Traces.{Access, Stop, AtEnd, InTurn, Alone}
use Rattle.interleaving.proofs.HiddenTraces.{length_hidden}
use Rattle.interleaving.proofs.OwnRuns.{Owned, owned}
use Rattle.interleaving.proofs.Owners.{ready_where}

module _ {P O V : Type 0} (m : Machine P O V) (variable : ℕ) where
  abbrev pub the_own : ℕ → Bool
  the_own a = variable == a

  pub holds_first : (s : Store V) (v : V) (a : ℕ) → (the_own a ≡ true → (if variable == a then Some v else None) ≡ Some (put s variable v a)) × (the_own a ≡ false → (if variable == a then Some v else None) ≡ None)
  holds_first s v a = elim (variable == a) as (λ w. (w ≡ true → (if w then Some v else None) ≡ Some (if w then v else s a)) × (w ≡ false → (if w then Some v else None) ≡ None)) [ true ↦ (λ e. refl, λ e. absurd (cc)) | false ↦ (λ e. absurd (cc), λ e. refl) ]

  pub alike_first : (u s : Store V) (v : V) → ((a : ℕ) → the_own a ≡ false → u a ≡ s a) → (a : ℕ) → the_own a ≡ false → u a ≡ put s variable v a
  alike_first u s v h a o = h a o ∙ sym (ap (λ w. if w then v else s a) o)

  -- iterations of a loop that run in turn: their owners run in turn
  pub record OwnersInTurn (starts : List (Start P V)) (u : Store V) (traces : List (List (Access O))) (t : Store V) : Type 0 where
    pub end : Store V
    pub in_turn : InTurn (with_own m) (owners_of variable starts) u (all_hidden the_own traces) end
    pub others : (a : ℕ) → the_own a ≡ false → end a ≡ t a
    pub stays : (a : ℕ) → the_own a ≡ true → end a ≡ u a

  pub owners_in_turn : (starts : List (Start P V)) (s t u : Store V) (traces : List (List (Access O))) → ((a : ℕ) → the_own a ≡ false → u a ≡ s a) → LoopInTurn m variable starts s traces t → OwnersInTurn starts u traces t
  owners_in_turn [] s t u [] h turn = record { end = u; in_turn = refl; others = λ a o. h a o ∙ ap (λ f. f a) turn; stays = λ a o. refl }
  owners_in_turn [] s t u (trace ∷ traces) h turn = absurd turn
  owners_in_turn (start ∷ starts) s t u [] h turn = absurd turn
  owners_in_turn (start ∷ starts) s t u (trace ∷ traces) h turn =
      let k : Owned m the_own start.process (put s variable start.value) (λ a. if variable == a then Some start.value else None) u trace AtEnd turn.0 = owned m the_own (λ a. if variable == a then Some start.value else None) u (holds_first s start.value) (alike_first u s start.value h) turn.1 in
      let rest : OwnersInTurn starts k.end traces t = owners_in_turn starts turn.0 t k.end traces k.others turn.2 in
      record { end = rest.end; in_turn = (k.end, k.iterates, rest.in_turn); others = rest.others; stays = λ a o. rest.stays a o ∙ k.stays a o }

  pub ready_owners : (Sound : P → Type 0) (starts : List (Start P V)) → AreReady m Sound (processes_of starts) → AreReady (with_own m) (λ q. Sound q.process) (owners_of variable starts)
  ready_owners Sound [] h = tt
  ready_owners Sound (start ∷ starts) h = (h.0, ready_where m (owner_of variable start) h.1, ready_owners Sound starts h.2)

  pub put_alike : (s t : Store V) → ((a : ℕ) → the_own a ≡ false → s a ≡ t a) → (stop : V) (a : ℕ) → put s variable stop a ≡ put t variable stop a
  put_alike s t h stop a = (elim (variable == a) as (λ w. (variable == a) ≡ w → (if w then stop else s a) ≡ (if w then stop else t a)) [ true ↦ λ e. refl | false ↦ λ e. h a e ]) refl

  -- iterations of a loop that run each alone: their owners do
  pub owners_alone : (limit : ℕ) (starts : List (Start P V)) (s : Store V) (traces : List (List (Access O))) (stops : List Stop) → LoopAlone m limit variable starts s traces stops → Alone (with_own m) limit (owners_of variable starts) s (all_hidden the_own traces) stops
  owners_alone limit [] s [] [] alone = tt
  owners_alone limit [] s [] (stop ∷ stops) alone = absurd alone
  owners_alone limit [] s (trace ∷ traces) stops alone = absurd alone
  owners_alone limit (start ∷ starts) s [] stops alone = absurd alone
  owners_alone limit (start ∷ starts) s (trace ∷ traces) [] alone = absurd alone
  owners_alone limit (start ∷ starts) s (trace ∷ traces) (stop ∷ stops) alone =
      let k : Owned m the_own start.process (put s variable start.value) (λ a. if variable == a then Some start.value else None) s trace stop alone.0 = owned m the_own (λ a. if variable == a then Some start.value else None) s (holds_first s start.value) (alike_first s s start.value (λ a o. refl)) alone.1 in
      (k.end, k.iterates, (λ c. let long : limit ≤ length trace = alone.2 c in subst (λ n. limit ≤ n) (sym (length_hidden the_own trace)) long), owners_alone limit starts s traces stops alone.3)
