-- The laws on regions of blocks of a loop's iterations.
use Rattle.std.proofs.Common.{ℕ, ◌≡◌, inl, Bool, List, [], ◌∷◌, ◌++◌, length, Some, refl, sym, ap, ◌∙◌, subst}
use mathlib.Core.Path.{fun_ext}
use Rattle.interleaving.specs.BlockLaws.{LoopBlocksInterleaveWhere, LoopBlocksAreWholeWhere}
use Rattle.interleaving.specs.Blocks.{Block, items_of, all_items_of, in_blocks, owner_blocks}
use Rattle.interleaving.specs.Interleaving.{HasLeft}
use Rattle.interleaving.specs.Machine.{AreReady, Store, put}
use Rattle.interleaving.specs.OwnCells.{Start, Owner, with_own, all_hidden, owner_of, owners_of, LoopInTurn, LoopAlone}
use Rattle.interleaving.specs.Region.{Region, begun, advanced_all}
use Rattle.interleaving.specs.Traces.{InTurn, Alone, all_at_end, steps_of_all}
use Rattle.interleaving.proofs.Alone.{in_turn_same}
use Rattle.interleaving.proofs.BlockRegions.{blocks_interleave, blocks_are_whole}
use Rattle.interleaving.proofs.HiddenTraces.{all_steps_hidden, fit_hidden, ends_hidden}
use Rattle.interleaving.proofs.LoopAlone.{loop_in_turn}
use Rattle.interleaving.proofs.LoopOwners.{the_own, OwnersInTurn, owners_in_turn, ready_owners, put_alike, owners_alone}
use Rattle.interleaving.proofs.Owners.{is_machine_with_own}
use Rattle.interleaving.proofs.Variable.{variable_stands_in_blocks}

module _ {P V : Type 0} (variable : ℕ) where
  owners_append : (x y : List (Start P V)) → owners_of variable (x ++ y) ≡ owners_of variable x ++ owners_of variable y
  owners_append [] y = refl
  owners_append (start ∷ x) y = ap (λ r. owner_of variable start ∷ r) (owners_append x y)

  -- blocks of owners have the owners as their items
  owners_in_blocks : (blocks : List (Block (Start P V))) → all_items_of (owner_blocks variable blocks) ≡ owners_of variable (all_items_of blocks)
  owners_in_blocks [] = refl
  owners_in_blocks (block ∷ blocks) = ap (λ r. owners_of variable (items_of block) ++ r) (owners_in_blocks blocks) ∙ sym (owners_append (items_of block) (all_items_of blocks))

module _ (P O V : Type 0) (Sound : P → Type 0) where
  pub loop_blocks_interleave : LoopBlocksInterleaveWhere P O V Sound
  loop_blocks_interleave m laws modes variable window w blocks entry end traces ready turn fits picks left h =
      let own : ℕ → Bool = the_own m variable in
      let starts : List (Start P V) = all_items_of blocks in
      let items : owners_of variable starts ≡ all_items_of (owner_blocks variable blocks) = sym (owners_in_blocks variable blocks) in
      let k : OwnersInTurn m variable starts entry traces end = owners_in_turn m variable starts entry end entry traces (λ a o. refl) turn in
      let steps : steps_of_all (all_hidden own traces) ≡ steps_of_all traces = all_steps_hidden own traces in
      let r : (r : Region (Block (Owner P V)) V) × (advanced_all (in_blocks (with_own m)) modes window picks (Some (begun (owner_blocks variable blocks) entry)) ≡ Some r) × HasLeft r k.end left =
      blocks_interleave (Owner P V) O V (λ q. Sound q.process) (with_own m) (is_machine_with_own m laws) modes window w (owner_blocks variable blocks) entry k.end (all_hidden own traces)
      (subst (AreReady (with_own m) (λ q. Sound q.process)) items (ready_owners m variable Sound starts ready)) (subst (λ x. InTurn (with_own m) x entry (all_hidden own traces) k.end) items k.in_turn) (fit_hidden own modes traces fits) picks left (h ∙ sym steps) in (
        r.0,
        r.1,
        record {
          over = r.2.over;
          store = λ e final. fun_ext (λ a. ap (λ s. put s variable final a) (r.2.store e) ∙ put_alike m variable k.end end k.others final a);
          control = variable_stands_in_blocks m variable modes window picks blocks entry r.0 r.1;
          going = r.2.going;
        },
      )

  pub loop_blocks_are_whole : LoopBlocksAreWholeWhere P O V Sound
  loop_blocks_are_whole m laws modes variable window w limit blocks entry traces stops ready alone fits picks short r came none_left =
      let own : ℕ → Bool = the_own m variable in
      let starts : List (Start P V) = all_items_of blocks in
      let items : owners_of variable starts ≡ all_items_of (owner_blocks variable blocks) = sym (owners_in_blocks variable blocks) in
      let k : InTurn (with_own m) (all_items_of (owner_blocks variable blocks)) entry (all_hidden own traces) r.store × (length picks ≡ steps_of_all (all_hidden own traces)) × (stops ≡ all_at_end (all_hidden own traces)) =
      blocks_are_whole (Owner P V) O V (λ q. Sound q.process) (with_own m) (is_machine_with_own m laws) modes window w limit (owner_blocks variable blocks) entry (all_hidden own traces) stops
      (subst (AreReady (with_own m) (λ q. Sound q.process)) items (ready_owners m variable Sound starts ready)) (subst (λ x. Alone (with_own m) limit x entry (all_hidden own traces) stops) items (owners_alone m variable limit starts entry traces stops alone)) (fit_hidden own modes traces fits) picks short r came none_left in
      let ended : stops ≡ all_at_end traces = k.2 ∙ ends_hidden own traces in
      let turns : (end : Store V) × LoopInTurn m variable starts entry traces end = loop_in_turn m modes variable laws limit starts entry entry traces ready (λ a e plain. inl refl) fits (subst (λ l. LoopAlone m limit variable starts entry traces l) ended alone) in
      let same : OwnersInTurn m variable starts entry traces turns.0 = owners_in_turn m variable starts entry turns.0 entry traces (λ a o. refl) turns.1 in
      let store : r.store ≡ same.end = in_turn_same (with_own m) (owners_of variable starts) entry r.store same.end (all_hidden own traces) (subst (λ x. InTurn (with_own m) x entry (all_hidden own traces) r.store) (sym items) k.0) same.in_turn in
      (turns.0, turns.1, k.1 ∙ all_steps_hidden own traces, ended, λ final. fun_ext (λ a. ap (λ s. put s variable final a) store ∙ put_alike m variable same.end turns.0 same.others final a))
