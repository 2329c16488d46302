-- The law of interleaving at a loop worked by hand: what it asks for can be met, and it holds of all picks.
use Rattle.std.proofs.Common.{ℕ, suc, ◌≡◌, ◌==◌, true, false, List, [], ◌∷◌, length, None, Some, if◌then◌else◌, refl, sym, subst, arith, eqb-true}
use Rattle.interleaving.specs.Machine.{AreReady, Store, put}
use Rattle.interleaving.specs.Modes.{Mode, Shared, Compatible, Fits}
use Rattle.interleaving.specs.OwnCells.{Owner, with_own, processes_of, owners_of, LoopInTurn}
use Rattle.interleaving.specs.Region.{Region, begun, advanced_all}
use Rattle.interleaving.specs.Traces.{Access, Read, Write, ended, read_then, write_then}
use Rattle.interleaving.proofs.LoopRegions.{loop_interleaves}
use Rattle.interleaving.proofs.SmallMachine.{Operator, Worker, small, small_is_machine}
use Rattle.interleaving.proofs.WorkedLoops.{assigned, assigned_entry}

abbrev traces : List (List (Access Operator))
traces = (Read 2 None ∷ Write 0 None ∷ []) ∷ (Read 2 None ∷ Write 1 None ∷ []) ∷ []

abbrev shared : ℕ → Mode Operator
shared a = Shared

abbrev first_store : Store ℕ
first_store = put (put assigned_entry 2 1) 0 7

abbrev last_store : Store ℕ
last_store = put (put first_store 2 2) 1 7

in_turn : LoopInTurn small 2 assigned assigned_entry traces last_store
in_turn = (first_store, read_then 2 None refl (write_then 0 7 None refl (ended refl)), (last_store, read_then 2 None refl (write_then 1 7 None refl (ended refl)), refl))

ready : AreReady small (λ p. Unit {0}) (processes_of assigned)
ready = (tt, (λ a v op e. cc), (tt, (λ a v op e. cc), tt))

is_it : (a b : ℕ) → (if b == a then true else false) ≡ true → b ≡ a
is_it a b h = (elim (b == a) as (λ w. (b == a) ≡ w → (if w then true else false) ≡ true → b ≡ a) [ true ↦ λ e f. eqb-true b a e | false ↦ λ e f. absurd (cc) ]) refl h

compatible : Compatible shared (Read 2 None ∷ Write 0 None ∷ []) (Read 2 None ∷ Write 1 None ∷ [])
compatible = record {
  no_flow = λ a plain p.
      let at : 0 ≡ a = is_it a 0 p.0 in
      let bad : (if 2 == 0 then true else (if 1 == 0 then false else false)) ≡ true = subst (λ c. (if 2 == c then true else (if 1 == c then false else false)) ≡ true) (sym at) p.1 in
      absurd (cc);
  no_anti = λ a is p.
      let at : 1 ≡ a = is_it a 1 p.1 in
      let bad : (if 2 == 1 then true else (if 0 == 1 then false else false)) ≡ true = subst (λ c. (if 2 == c then true else (if 0 == c then false else false)) ≡ true) (sym at) p.0 in
      absurd (cc);
  no_output = λ a is p.
      let at : 1 ≡ a = is_it a 1 p.1 in
      let bad : (if 0 == 1 then true else false) ≡ true = subst (λ c. (if 0 == c then true else false) ≡ true) (sym at) p.0 in
      absurd (cc);
}

fits : Fits shared traces
fits = (
  ((λ op e. absurd (cc)), ((λ op e. absurd (cc)), tt)),
  (compatible, tt),
  (((λ op e. absurd (cc)), ((λ op e. absurd (cc)), tt)), tt, tt),
)

-- whatever six picks: the region is over, and its store is the one that the iterations leave in turn, whatever the variable is set to then
pub any_six_picks : (window : ℕ) (picks : List ℕ) → length picks ≡ 6 → (r : Region (Owner Worker ℕ) ℕ) × (advanced_all (with_own small) shared (suc window) picks (Some (begun (owners_of 2 assigned) assigned_entry)) ≡ Some r) × (r.pending ≡ []) × ((final : ℕ) → put r.store 2 final ≡ put last_store 2 final)
any_six_picks window picks h =
    let k = loop_interleaves Worker Operator ℕ (λ p. Unit {0}) small small_is_machine shared 2 (suc window) (omega arith) assigned assigned_entry last_store traces ready in_turn fits picks 0 (omega (arith, h)) in
    (k.0, k.1, k.2.over refl, k.2.store refl)
