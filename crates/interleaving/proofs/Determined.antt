-- A process over a store has one run.
use Rattle.std.proofs.Common.{◌⊎◌, inl, inr, ℕ, zero, suc, ◌+◌, ◌<◌, ◌≤◌, ◌≡◌, List, [], ◌∷◌, length, refl, sym, ap, ap₂, ◌∙◌, subst, arith}
use Rattle.interleaving.specs.Machine.{reads, writes, moves, ends, faults, Machine, Store, put}
use Rattle.interleaving.specs.OwnCells.{Start, LoopInTurn}
use Rattle.interleaving.specs.Traces.{InTurn, Access, Read, Write, Move, Stop, AtEnd, Cut, Runs, ended, faulted, cut, read_then, write_then, move_then, steps_of, steps_of_all}
use Rattle.interleaving.specs.Turning.{starts_from, HasOneRun}

module _ {P O V : Type 0} (m : Machine P O V) where
  -- two runs of which one comes to the end of its iteration: they are the same, or the other is cut no later
  pub data SameOrCut (first trace : List (Access O)) (stop : Stop) (u t : Store V) : Type 0 where
    same : first ≡ trace → stop ≡ AtEnd → u ≡ t → SameOrCut first trace stop u t
    shorter : stop ≡ Cut → length trace ≤ length first → SameOrCut first trace stop u t

  one_more : {first trace : List (Access O)} {stop : Stop} {u t : Store V} (a b : Access O) → a ≡ b → SameOrCut first trace stop u t → SameOrCut (a ∷ first) (b ∷ trace) stop u t
  one_more a b e (same f l s) = same (ap₂ (λ x xs. x ∷ xs) e f) l s
  one_more a b e (shorter l h) = shorter l (omega (arith, h))

  pub same_or_cut : {p : P} {s u t : Store V} {first trace : List (Access O)} {other_stop stop : Stop} → other_stop ≡ AtEnd → Runs m p s first other_stop u → Runs m p s trace stop t → SameOrCut first trace stop u t
  same_or_cut h (faulted e) r = absurd (cc)
  same_or_cut h cut r = absurd (cc)
  same_or_cut h (ended e) (ended f) = same refl refl refl
  same_or_cut {p} h (ended e) (faulted f) = let g : ends ≡ faults = sym e ∙ f in absurd (cc)
  same_or_cut h (ended e) cut = shorter refl (omega arith)
  same_or_cut h (ended e) (read_then a by f r) = let g : ends ≡ reads a by = sym e ∙ f in absurd (cc)
  same_or_cut h (ended e) (write_then a v by f r) = let g : ends ≡ writes a v by = sym e ∙ f in absurd (cc)
  same_or_cut h (ended e) (move_then f r) = let g : ends ≡ moves = sym e ∙ f in absurd (cc)
  same_or_cut h (read_then a by e q) (ended f) = let g : ends ≡ reads a by = sym f ∙ e in absurd (cc)
  same_or_cut h (read_then a by e q) (faulted f) = let g : faults ≡ reads a by = sym f ∙ e in absurd (cc)
  same_or_cut h (read_then a by e q) cut = shorter refl (omega arith)
  same_or_cut {p = p} {s = s} {t = t} h (read_then a by e q) (read_then {trace = trace} {stop = stop} b op f r) =
      let g : reads a by ≡ reads b op = sym e ∙ f in
      let unit : a ≡ b = cc in
      let mark : by ≡ op = cc in
      one_more (Read a by) (Read b op) (ap₂ (λ x o. Read x o) unit mark) (same_or_cut h q (subst (λ n. Runs m (m.resumed p (s n)) s trace stop t) (sym unit) r))
  same_or_cut h (read_then a by e q) (write_then b v op f r) = let g : reads a by ≡ writes b v op = sym e ∙ f in absurd (cc)
  same_or_cut h (read_then a by e q) (move_then f r) = let g : reads a by ≡ moves = sym e ∙ f in absurd (cc)
  same_or_cut h (write_then a v by e q) (ended f) = let g : ends ≡ writes a v by = sym f ∙ e in absurd (cc)
  same_or_cut h (write_then a v by e q) (faulted f) = let g : faults ≡ writes a v by = sym f ∙ e in absurd (cc)
  same_or_cut h (write_then a v by e q) cut = shorter refl (omega arith)
  same_or_cut h (write_then a v by e q) (read_then b op f r) = let g : writes a v by ≡ reads b op = sym e ∙ f in absurd (cc)
  same_or_cut {p = p} {s = s} {t = t} h (write_then a v by e q) (write_then {trace = trace} {stop = stop} b w op f r) =
      let g : writes a v by ≡ writes b w op = sym e ∙ f in
      let unit : a ≡ b = cc in
      let set : v ≡ w = cc in
      let mark : by ≡ op = cc in
      one_more (Write a by) (Write b op) (ap₂ (λ x o. Write x o) unit mark) (same_or_cut h q (subst (λ n. Runs m (m.done p) (put s n v) trace stop t) (sym unit) (subst (λ x. Runs m (m.done p) (put s b x) trace stop t) (sym set) r)))
  same_or_cut h (write_then a v by e q) (move_then f r) = let g : writes a v by ≡ moves = sym e ∙ f in absurd (cc)
  same_or_cut h (move_then e q) (ended f) = let g : ends ≡ moves = sym f ∙ e in absurd (cc)
  same_or_cut h (move_then e q) (faulted f) = let g : faults ≡ moves = sym f ∙ e in absurd (cc)
  same_or_cut h (move_then e q) cut = shorter refl (omega arith)
  same_or_cut h (move_then e q) (read_then b op f r) = let g : moves ≡ reads b op = sym e ∙ f in absurd (cc)
  same_or_cut h (move_then e q) (write_then b v op f r) = let g : moves ≡ writes b v op = sym e ∙ f in absurd (cc)
  same_or_cut h (move_then e q) (move_then f r) = one_more Move Move refl (same_or_cut h q r)

  steps_are : (trace : List (Access O)) → steps_of trace ≡ suc (length trace)
  steps_are [] = refl
  steps_are (a ∷ trace) = ap suc (steps_are trace)

  -- iterations run in turn from one store in one way
  pub one_way : (starts : List P) (s t u : Store V) (traces others : List (List (Access O))) → InTurn m starts s traces t → InTurn m starts s others u → (traces ≡ others) × (t ≡ u)
  one_way [] s t u [] [] e f = (refl, sym e ∙ f)
  one_way [] s t u [] (other ∷ others) e f = absurd f
  one_way [] s t u (trace ∷ traces) others e f = absurd e
  one_way (p ∷ starts) s t u [] others e f = absurd e
  one_way (p ∷ starts) s t u (trace ∷ traces) [] e f = absurd f
  one_way (p ∷ starts) s t u (trace ∷ traces) (other ∷ others) e f = by (same_or_cut refl e.1 f.1) (λ w. one_way starts e.0 t u traces others e.2 w)
    where
      by : SameOrCut trace other AtEnd e.0 f.0 → (InTurn m starts e.0 others u → (traces ≡ others) × (t ≡ u)) → (trace ∷ traces ≡ other ∷ others) × (t ≡ u)
      by (same g l q) rest =
          let r : (traces ≡ others) × (t ≡ u) = rest (subst (λ w. InTurn m starts w others u) (sym q) f.2) in
          (ap₂ (λ x xs. x ∷ xs) g r.0, r.1)
      by (shorter l h) rest = absurd (cc)

  module _ (variable : ℕ) where
    pub loop_one_way : (starts : List (Start P V)) (s t u : Store V) (traces others : List (List (Access O))) → LoopInTurn m variable starts s traces t → LoopInTurn m variable starts s others u → (traces ≡ others) × (t ≡ u)
    loop_one_way [] s t u [] [] e f = (refl, sym e ∙ f)
    loop_one_way [] s t u [] (other ∷ others) e f = absurd f
    loop_one_way [] s t u (trace ∷ traces) others e f = absurd e
    loop_one_way (start ∷ starts) s t u [] others e f = absurd e
    loop_one_way (start ∷ starts) s t u (trace ∷ traces) [] e f = absurd f
    loop_one_way (start ∷ starts) s t u (trace ∷ traces) (other ∷ others) e f = by (same_or_cut refl e.1 f.1) (λ w. loop_one_way starts e.0 t u traces others e.2 w)
      where
        by : SameOrCut trace other AtEnd e.0 f.0 → (LoopInTurn m variable starts e.0 others u → (traces ≡ others) × (t ≡ u)) → (trace ∷ traces ≡ other ∷ others) × (t ≡ u)
        by (same g l q) rest =
            let r : (traces ≡ others) × (t ≡ u) = rest (subst (λ w. LoopInTurn m variable starts w others u) (sym q) f.2) in
            (ap₂ (λ x xs. x ∷ xs) g r.0, r.1)
        by (shorter l h) rest = absurd (cc)

  module _ (variable : ℕ) (value : ℕ → V) (entry : ℕ → P) where
    -- where all come to their ends, a run that stops inside one of them is cut before that
    pub cut_short : (turns left j : ℕ) (s end before t : Store V) (traces others : List (List (Access O))) (trace : List (Access O)) (stop : Stop) → turns < left → LoopInTurn m variable (starts_from value entry j left) s traces end → LoopInTurn m variable (starts_from value entry j turns) s others before → Runs m (entry (j + turns)) (put before variable (value (j + turns))) trace stop t → (stop ≡ AtEnd → ⊥) → (stop ≡ Cut) × (steps_of_all others + length trace < steps_of_all traces)
    cut_short turns zero j s end before t traces others trace stop h e f r n = absurd (omega (arith, h))
    cut_short turns (suc left) j s end before t [] others trace stop h e f r n = absurd e
    cut_short zero (suc left) j s end before t (first ∷ traces) (other ∷ others) trace stop h e f r n = absurd f
    cut_short zero (suc left) j s end before t (first ∷ traces) [] trace stop h e f r n = by (same_or_cut refl e.1 here)
      where
        here : Runs m (entry j) (put s variable (value j)) trace stop t
        here = let z : j + 0 ≡ j = omega arith in subst (λ w. Runs m (entry j) (put w variable (value j)) trace stop t) (sym f) (subst (λ k. Runs m (entry k) (put before variable (value k)) trace stop t) z r)

        by : SameOrCut first trace stop e.0 t → (stop ≡ Cut) × (0 + length trace < steps_of first + steps_of_all traces)
        by (same a l u) = absurd (n l)
        by (shorter l k) = (l, omega (arith, k, steps_are first))
    cut_short (suc turns) (suc left) j s end before t (first ∷ traces) [] trace stop h e f r n = absurd f
    cut_short (suc turns) (suc left) j s end before t (first ∷ traces) (other ∷ others) trace stop h e f r n = by (same_or_cut refl e.1 f.1) (λ w q. cut_short turns left (suc j) e.0 end before t traces others trace stop (omega (arith, h)) e.2 w q n)
      where
        by : SameOrCut first other AtEnd e.0 f.0 → (LoopInTurn m variable (starts_from value entry (suc j) turns) e.0 others before → Runs m (entry (suc j + turns)) (put before variable (value (suc j + turns))) trace stop t → (stop ≡ Cut) × (steps_of_all others + length trace < steps_of_all traces)) → (stop ≡ Cut) × (steps_of other + steps_of_all others + length trace < steps_of first + steps_of_all traces)
        by (same a l u) rest =
            let k : j + suc turns ≡ suc j + turns = omega arith in
            let r2 : (stop ≡ Cut) × (steps_of_all others + length trace < steps_of_all traces) = rest (subst (λ w. LoopInTurn m variable (starts_from value entry (suc j) turns) w others before) (sym u) f.2) (subst (λ i. Runs m (entry i) (put before variable (value i)) trace stop t) k r) in
            (r2.0, omega (arith, r2.1, ap steps_of a))
        by (shorter l k) rest = absurd (cc)

pub has_one_run : (P O V : Type 0) → HasOneRun P O V
has_one_run P O V = record {
  to_end = λ m p s t u whole trace stop h k. one (same_or_cut m refl h k);
  in_turn = λ m variable starts s t u traces others h k. loop_one_way m variable starts s t u traces others h k;
  shorter = λ m variable value entry turns left j s end before t traces others trace stop h e f r n. cut_short m variable value entry turns left j s end before t traces others trace stop h e f r n;
}
  where
    one : {m : Machine P O V} {whole trace : List (Access O)} {stop : Stop} {t u : Store V} → SameOrCut m whole trace stop t u → ((trace ≡ whole) × (stop ≡ AtEnd) × (u ≡ t)) ⊎ ((stop ≡ Cut) × (length trace < suc (length whole)))
    one (same f l s) = inl (sym f, l, sym s)
    one (shorter l h) = inr (l, omega (arith, h))
