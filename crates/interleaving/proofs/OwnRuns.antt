-- A run of a process is one of its owner.
use Rattle.std.proofs.Common.{ℕ, ◌≡◌, ◌==◌, Bool, true, false, List, ◌∷◌, Option, None, Some, if◌then◌else◌, is_some, refl, sym, ap, ◌∙◌, subst, eqb-true}
use Rattle.interleaving.specs.Machine.{Event, reads, writes, moves, ends, faults, Machine, Store, put}
use Rattle.interleaving.specs.OwnCells.{Owner, event_outside, owner_resumed, owner_done, with_own, hidden}
use Rattle.interleaving.specs.Traces.{Access, Read, Write, Move, Stop, Runs, ended, faulted, cut, read_then, write_then, move_then}

module _ {P O V : Type 0} (m : Machine P O V) where
  -- the run of an owner over a store that agrees, in all cells that aren't its own, with the one over which its process runs
  pub record Owned (own : ℕ → Bool) (p : P) (s : Store V) (value : ℕ → Option V) (u : Store V) (trace : List (Access O)) (stop : Stop) (t : Store V) : Type 0 where
    pub end : Store V
    pub iterates : Runs (with_own m) (record { process = p; value = value }) u (hidden own trace) stop end
    pub others : (a : ℕ) → own a ≡ false → end a ≡ t a
    pub stays : (a : ℕ) → own a ≡ true → end a ≡ u a

  event_is : (p : P) (value : ℕ → Option V) (ev : Event O V) → m.event p ≡ ev → (with_own m).event (record { process = p; value = value }) ≡ event_outside ev value
  event_is p value ev e = ap (λ ev. event_outside ev value) e

  done_is : (p : P) (value : ℕ → Option V) (ev : Event O V) → m.event p ≡ ev → (with_own m).done (record { process = p; value = value }) ≡ owner_done m (record { process = p; value = value }) ev
  done_is p value ev e = ap (owner_done m (record { process = p; value = value })) e

  -- each cell of its own has the value that the store has
  abbrev Holds : (own : ℕ → Bool) → (ℕ → Option V) → Store V → Type 0
  Holds own value s = (a : ℕ) → (own a ≡ true → value a ≡ Some (s a)) × (own a ≡ false → value a ≡ None)

  abbrev Alike : (own : ℕ → Bool) → Store V → Store V → Type 0
  Alike own u s = (a : ℕ) → own a ≡ false → u a ≡ s a

  look_own : (own : ℕ → Bool) (p : P) (s t : Store V) (value : ℕ → Option V) (u : Store V) (trace : List (Access O)) (stop : Stop) (a : ℕ) (by : Option O) → m.event p ≡ reads a by → own a ≡ true → value a ≡ Some (s a) → Owned own (m.resumed p (s a)) s value u trace stop t → Owned own p s value u (Read a by ∷ trace) stop t
  look_own own p s t value u trace stop a by e o h k =
      let q : Owner P V = record { process = p; value = value } in
      let ev : (with_own m).event q ≡ moves = event_is p value (reads a by) e ∙ ap (λ w. if is_some w then moves else reads a by) h in
      let dn : (with_own m).done q ≡ record { process = m.resumed p (s a); value = value } = done_is p value (reads a by) e ∙ ap (owner_resumed m q) h in
      record {
        end = k.end;
        iterates = subst (λ x. Runs (with_own m) q u (x ∷ hidden own trace) stop k.end) (ap (λ w. if w then Move else Read a by) (sym o)) (move_then ev (subst (λ r. Runs (with_own m) r u (hidden own trace) stop k.end) (sym dn) k.iterates));
        others = k.others;
        stays = k.stays;
      }

  look_other : (own : ℕ → Bool) (p : P) (s t : Store V) (value : ℕ → Option V) (u : Store V) (trace : List (Access O)) (stop : Stop) (a : ℕ) (by : Option O) → m.event p ≡ reads a by → own a ≡ false → value a ≡ None → u a ≡ s a → Owned own (m.resumed p (s a)) s value u trace stop t → Owned own p s value u (Read a by ∷ trace) stop t
  look_other own p s t value u trace stop a by e o h f k =
      let q : Owner P V = record { process = p; value = value } in
      let ev : (with_own m).event q ≡ reads a by = event_is p value (reads a by) e ∙ ap (λ w. if is_some w then moves else reads a by) h in
      record {
        end = k.end;
        iterates = subst (λ x. Runs (with_own m) q u (x ∷ hidden own trace) stop k.end) (ap (λ w. if w then Move else Read a by) (sym o)) (read_then a by ev (subst (λ x. Runs (with_own m) (record { process = m.resumed p x; value = value }) u (hidden own trace) stop k.end) (sym f) k.iterates));
        others = k.others;
        stays = k.stays;
      }

  put_own : (own : ℕ → Bool) (p : P) (s t : Store V) (value : ℕ → Option V) (u : Store V) (trace : List (Access O)) (stop : Stop) (a : ℕ) (v : V) (by : Option O) → m.event p ≡ writes a v by → own a ≡ true → value a ≡ Some (s a) → Owned own (m.done p) (put s a v) (λ b. if a == b then Some v else value b) u trace stop t → Owned own p s value u (Write a by ∷ trace) stop t
  put_own own p s t value u trace stop a v by e o h k =
      let q : Owner P V = record { process = p; value = value } in
      let ev : (with_own m).event q ≡ moves = event_is p value (writes a v by) e ∙ ap (λ w. if is_some w then moves else writes a v by) h in
      let dn : (with_own m).done q ≡ record { process = m.done p; value = λ b. if a == b then Some v else value b } = done_is p value (writes a v by) e ∙ ap (λ w. record { process = m.done p; value = if is_some w then (λ b. if a == b then Some v else value b) else value }) h in
      record {
        end = k.end;
        iterates = subst (λ x. Runs (with_own m) q u (x ∷ hidden own trace) stop k.end) (ap (λ w. if w then Move else Write a by) (sym o)) (move_then ev (subst (λ r. Runs (with_own m) r u (hidden own trace) stop k.end) (sym dn) k.iterates));
        others = k.others;
        stays = k.stays;
      }

  put_other : (own : ℕ → Bool) (p : P) (s t : Store V) (value : ℕ → Option V) (u : Store V) (trace : List (Access O)) (stop : Stop) (a : ℕ) (v : V) (by : Option O) → m.event p ≡ writes a v by → own a ≡ false → value a ≡ None → Owned own (m.done p) (put s a v) value (put u a v) trace stop t → Owned own p s value u (Write a by ∷ trace) stop t
  put_other own p s t value u trace stop a v by e o h k =
      let q : Owner P V = record { process = p; value = value } in
      let ev : (with_own m).event q ≡ writes a v by = event_is p value (writes a v by) e ∙ ap (λ w. if is_some w then moves else writes a v by) h in
      let dn : (with_own m).done q ≡ record { process = m.done p; value = value } = done_is p value (writes a v by) e ∙ ap (λ w. record { process = m.done p; value = if is_some w then (λ b. if a == b then Some v else value b) else value }) h in
      record {
        end = k.end;
        iterates = subst (λ x. Runs (with_own m) q u (x ∷ hidden own trace) stop k.end) (ap (λ w. if w then Move else Write a by) (sym o)) (write_then a v by ev (subst (λ r. Runs (with_own m) r (put u a v) (hidden own trace) stop k.end) (sym dn) k.iterates));
        others = k.others;
        stays = λ b c. k.stays b c ∙ other b c;
      }
    where
      other : (b : ℕ) → own b ≡ true → put u a v b ≡ u b
      other b c = (elim (a == b) as (λ w. (a == b) ≡ w → (if w then v else u b) ≡ u b) [ true ↦ λ f. let g : own b ≡ false = subst (λ c. own c ≡ false) (eqb-true a b f) o in absurd (cc) | false ↦ λ f. refl ]) refl

  holds_put : (own : ℕ → Bool) (value : ℕ → Option V) (s : Store V) (a : ℕ) (v : V) → own a ≡ true → Holds own value s → Holds own (λ b. if a == b then Some v else value b) (put s a v)
  holds_put own value s a v o h b = (elim (a == b) as (λ w. (a == b) ≡ w → (own b ≡ true → (if w then Some v else value b) ≡ Some (if w then v else s b)) × (own b ≡ false → (if w then Some v else value b) ≡ None))
      [ true ↦ λ f. (λ c. refl, λ c. let g : own b ≡ true = subst (λ c. own c ≡ true) (eqb-true a b f) o in absurd (cc)) | false ↦ λ f. h b ]) refl

  holds_other : (own : ℕ → Bool) (value : ℕ → Option V) (s : Store V) (a : ℕ) (v : V) → own a ≡ false → Holds own value s → Holds own value (put s a v)
  holds_other own value s a v o h b = (
    (elim (a == b) as (λ w. (a == b) ≡ w → own b ≡ true → value b ≡ Some (if w then v else s b))
        [ true ↦ λ f c. let g : own b ≡ false = subst (λ c. own c ≡ false) (eqb-true a b f) o in absurd (cc) | false ↦ λ f c. (h b).0 c ]) refl,
    (h b).1,
  )

  alike_put : (own : ℕ → Bool) (u s : Store V) (a : ℕ) (v : V) → Alike own u s → Alike own (put u a v) (put s a v)
  alike_put own u s a v h b o = elim (a == b) as (λ w. (if w then v else u b) ≡ (if w then v else s b)) [ true ↦ refl | false ↦ h b o ]

  alike_own : (own : ℕ → Bool) (u s : Store V) (a : ℕ) (v : V) → own a ≡ true → Alike own u s → Alike own u (put s a v)
  alike_own own u s a v o h b c = (elim (a == b) as (λ w. (a == b) ≡ w → u b ≡ (if w then v else s b)) [ true ↦ λ f. let g : own b ≡ true = subst (λ c. own c ≡ true) (eqb-true a b f) o in absurd (cc) | false ↦ λ f. h b c ]) refl

  -- an iteration over a store is one of its owner over a store that agrees in all cells that aren't its own
  pub owned : (own : ℕ → Bool) {p : P} {s t : Store V} {trace : List (Access O)} {stop : Stop} (value : ℕ → Option V) (u : Store V) → Holds own value s → Alike own u s → Runs m p s trace stop t → Owned own p s value u trace stop t
  owned own {p} {s} value u h g (ended e) = record { end = u; iterates = ended (event_is p value ends e); others = g; stays = λ a o. refl }
  owned own {p} {s} value u h g (faulted e) = record { end = u; iterates = faulted (event_is p value faults e); others = g; stays = λ a o. refl }
  owned own {p} {s} value u h g cut = record { end = u; iterates = cut; others = g; stays = λ a o. refl }
  owned own {p} {s} {t} {stop = stop} value u h g (move_then {trace = trace} e it) =
      let k : Owned own (m.done p) s value u trace stop t = owned own value u h g it in
      record {
        end = k.end;
        iterates = move_then (event_is p value moves e) (subst (λ r. Runs (with_own m) r u (hidden own trace) stop k.end) (sym (done_is p value moves e)) k.iterates);
        others = k.others;
        stays = k.stays;
      }
  owned own {p} {s} {t} {stop = stop} value u h g (read_then {trace = trace} a by e it) =
      let k : Owned own (m.resumed p (s a)) s value u trace stop t = owned own value u h g it in
      (elim (own a) as (λ w. own a ≡ w → Owned own p s value u (Read a by ∷ trace) stop t) [
        | true ↦ λ o. look_own own p s t value u trace stop a by e o ((h a).0 o) k
        | false ↦ λ o. look_other own p s t value u trace stop a by e o ((h a).1 o) (g a o) k
      ]) refl
  owned own {p} {s} {t} {stop = stop} value u h g (write_then {trace = trace} a v by e it) =
      (elim (own a) as (λ w. own a ≡ w → Owned own p s value u (Write a by ∷ trace) stop t) [
        | true ↦ λ o. put_own own p s t value u trace stop a v by e o ((h a).0 o) (owned own (λ b. if a == b then Some v else value b) u (holds_put own value s a v o h) (alike_own own u s a v o g) it)
        | false ↦ λ o. put_other own p s t value u trace stop a v by e o ((h a).1 o) (owned own value (put u a v) (holds_other own value s a v o h) (alike_put own u s a v g) it)
      ]) refl
