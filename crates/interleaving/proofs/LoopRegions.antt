-- The laws on regions of a loop's iterations.
use Rattle.std.proofs.Common.{ℕ, ◌≡◌, inl, Bool, length, Some, refl, sym, ap, ◌∙◌, subst}
use mathlib.Core.Path.{fun_ext}
use Rattle.interleaving.specs.Interleaving.{HasLeft}
use Rattle.interleaving.specs.Loops.{LoopInterleavesWhere, LoopRunsAloneWhere, LoopIsWholeWhere, OwnersWhere}
use Rattle.interleaving.specs.Machine.{Store, put}
use Rattle.interleaving.specs.OwnCells.{Owner, with_own, all_hidden, owners_of, LoopInTurn, LoopAlone}
use Rattle.interleaving.specs.Prefixes.{LoopDoPrefixesWhere}
use Rattle.interleaving.specs.Region.{Region, begun, advanced_all}
use Rattle.interleaving.specs.Traces.{InTurn, all_at_end, steps_of_all}
use Rattle.interleaving.proofs.Alone.{in_turn_same}
use Rattle.interleaving.proofs.HiddenTraces.{all_steps_hidden, fit_hidden, ends_hidden}
use Rattle.interleaving.proofs.LoopAlone.{loop_alone_of, loop_in_turn}
use Rattle.interleaving.proofs.LoopOwners.{the_own, OwnersInTurn, owners_in_turn, ready_owners, put_alike, owners_alone}
use Rattle.interleaving.proofs.Owners.{is_machine_with_own}
use Rattle.interleaving.proofs.Regions.{interleaves, is_whole, do_prefixes}
use Rattle.interleaving.proofs.Variable.{variable_stands}

module _ (P O V : Type 0) (Sound : P → Type 0) where
  pub owners_are : OwnersWhere P O V Sound
  owners_are m laws = is_machine_with_own m laws

  pub loop_interleaves : LoopInterleavesWhere P O V Sound
  loop_interleaves m laws modes variable window w starts entry end traces ready turn fits picks left h =
      let own : ℕ → Bool = the_own m variable in
      let k : OwnersInTurn m variable starts entry traces end = owners_in_turn m variable starts entry end entry traces (λ a o. refl) turn in
      let steps : steps_of_all (all_hidden own traces) ≡ steps_of_all traces = all_steps_hidden own traces in
      let r : (r : Region (Owner P V) V) × (advanced_all (with_own m) modes window picks (Some (begun (owners_of variable starts) entry)) ≡ Some r) × HasLeft r k.end left =
      interleaves (Owner P V) O V (λ q. Sound q.process) (with_own m) (is_machine_with_own m laws) modes window w (owners_of variable starts) entry k.end (all_hidden own traces) (ready_owners m variable Sound starts ready) k.in_turn (fit_hidden own modes traces fits) picks left (h ∙ sym steps) in (
        r.0,
        r.1,
        record {
          over = r.2.over;
          store = λ e final. fun_ext (λ a. ap (λ s. put s variable final a) (r.2.store e) ∙ put_alike m variable k.end end k.others final a);
          control = variable_stands m variable modes window picks starts entry r.0 r.1;
          going = r.2.going;
        },
      )

  pub loop_runs_alone : LoopRunsAloneWhere P O V Sound
  loop_runs_alone m laws modes limit variable starts entry end traces ready turn fits = loop_alone_of m modes variable laws limit starts entry end traces ready turn fits

  pub loop_is_whole : LoopIsWholeWhere P O V Sound
  loop_is_whole m laws modes variable window w limit starts entry traces stops ready alone fits picks short r came none_left =
      let own : ℕ → Bool = the_own m variable in
      let k : InTurn (with_own m) (owners_of variable starts) entry (all_hidden own traces) r.store × (length picks ≡ steps_of_all (all_hidden own traces)) × (stops ≡ all_at_end (all_hidden own traces)) =
      is_whole (Owner P V) O V (λ q. Sound q.process) (with_own m) (is_machine_with_own m laws) modes window w limit (owners_of variable starts) entry (all_hidden own traces) stops (ready_owners m variable Sound starts ready) (owners_alone m variable limit starts entry traces stops alone) (fit_hidden own modes traces fits) picks short r came none_left in
      let ended : stops ≡ all_at_end traces = k.2 ∙ ends_hidden own traces in
      let turns : (end : Store V) × LoopInTurn m variable starts entry traces end = loop_in_turn m modes variable laws limit starts entry entry traces ready (λ a e plain. inl refl) fits (subst (λ l. LoopAlone m limit variable starts entry traces l) ended alone) in
      let same : OwnersInTurn m variable starts entry traces turns.0 = owners_in_turn m variable starts entry turns.0 entry traces (λ a o. refl) turns.1 in
      let store : r.store ≡ same.end = in_turn_same (with_own m) (owners_of variable starts) entry r.store same.end (all_hidden own traces) k.0 same.in_turn in
      (turns.0, turns.1, k.1 ∙ all_steps_hidden own traces, ended, λ final. fun_ext (λ a. ap (λ s. put s variable final a) store ∙ put_alike m variable same.end turns.0 same.others final a))

  pub loop_do_prefixes : LoopDoPrefixesWhere P O V Sound
  loop_do_prefixes m laws modes variable window w limit starts entry traces stops ready alone fits picks short r came =
      let own : ℕ → Bool = the_own m variable in
      do_prefixes (Owner P V) O V (λ q. Sound q.process) (with_own m) (is_machine_with_own m laws) modes window w limit (owners_of variable starts) entry (all_hidden own traces) stops (ready_owners m variable Sound starts ready) (owners_alone m variable limit starts entry traces stops alone) (fit_hidden own modes traces fits) picks short r came
