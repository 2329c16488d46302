-- The laws on regions of blocks.
use Rattle.std.proofs.Common.{◌≡◌, inl, List, [], ◌∷◌, length, refl, sym, ap, ◌∙◌, subst}
use Rattle.interleaving.specs.BlockLaws.{IsSoundBlock, BlocksWhere, BlocksInterleaveWhere, BlocksAreWholeWhere}
use Rattle.interleaving.specs.Blocks.{Block, items_of, all_items_of, block_traces, in_blocks}
use Rattle.interleaving.specs.Machine.{Machine, AreReady, Store}
use Rattle.interleaving.specs.Modes.{Fits}
use Rattle.interleaving.specs.Traces.{InTurn, Alone, all_at_end, steps_of_all}
use Rattle.interleaving.proofs.Alone.{in_turn_of}
use Rattle.interleaving.proofs.BlockAlone.{BlocksAlone, blocks_alone, some_fit, first_ready}
use Rattle.interleaving.proofs.BlockFits.{fit_so, steps_so}
use Rattle.interleaving.proofs.BlockMachine.{is_machine_in_blocks, block_ready}
use Rattle.interleaving.proofs.BlockRuns.{BlocksInTurn, blocks_in_turn}
use Rattle.interleaving.proofs.Determined.{one_way}
use Rattle.interleaving.proofs.Regions.{interleaves, is_whole}

module _ {P O V : Type 0} (m : Machine P O V) where
  pub ready_blocks : (Sound : P → Type 0) (blocks : List (Block P)) → AreReady m Sound (all_items_of blocks) → AreReady (in_blocks m) (IsSoundBlock m Sound) blocks
  ready_blocks Sound [] h = tt
  ready_blocks Sound (block ∷ blocks) h =
      let k = first_ready m Sound (items_of block) (all_items_of blocks) h in
      (((k.0).0, (k.0).2), block_ready m block (k.0).1, ready_blocks Sound blocks k.1)

module _ (P O V : Type 0) (Sound : P → Type 0) where
  pub blocks_are : BlocksWhere P O V Sound
  blocks_are m laws = is_machine_in_blocks m laws

  pub blocks_interleave : BlocksInterleaveWhere P O V Sound
  blocks_interleave m laws modes window w blocks entry end traces ready turn fits picks left h =
      let k : BlocksInTurn m blocks entry traces end = blocks_in_turn m blocks entry traces end turn in
      let steps : steps_of_all (block_traces k.groups) ≡ steps_of_all traces = steps_so k.groups ∙ ap steps_of_all (sym k.split) in
      interleaves (Block P) O V (IsSoundBlock m Sound) (in_blocks m) (is_machine_in_blocks m laws) modes window w blocks entry end (block_traces k.groups) (ready_blocks m Sound blocks ready) k.in_turn (fit_so modes k.groups (subst (Fits modes) k.split fits)) picks left (h ∙ sym steps)

  pub blocks_are_whole : BlocksAreWholeWhere P O V Sound
  blocks_are_whole m laws modes window w limit blocks entry traces stops ready alone fits picks short r came none_left =
      let k : BlocksAlone m modes limit blocks entry traces stops = blocks_alone m modes laws limit blocks entry traces stops ready fits alone in
      let whole : InTurn (in_blocks m) blocks entry (block_traces k.used) r.store × (length picks ≡ steps_of_all (block_traces k.used)) × (k.block_stops ≡ all_at_end (block_traces k.used)) =
      is_whole (Block P) O V (IsSoundBlock m Sound) (in_blocks m) (is_machine_in_blocks m laws) modes window w limit blocks entry (block_traces k.used) k.block_stops (ready_blocks m Sound blocks ready) k.alone (some_fit m modes limit blocks entry traces stops k fits) picks short r came none_left in
      let ended : stops ≡ all_at_end traces = k.all whole.2 in
      let turn : (end : Store V) × InTurn m (all_items_of blocks) entry traces end = in_turn_of m modes laws limit (all_items_of blocks) entry entry traces ready (λ a plain. inl refl) fits (subst (λ l. Alone m limit (all_items_of blocks) entry traces l) ended alone) in
      let b : BlocksInTurn m blocks entry traces turn.0 = blocks_in_turn m blocks entry traces turn.0 turn.1 in
      let same : (block_traces k.used ≡ block_traces b.groups) × (r.store ≡ turn.0) = one_way (in_blocks m) blocks entry r.store turn.0 (block_traces k.used) (block_traces b.groups) whole.0 b.in_turn in (
        subst (InTurn m (all_items_of blocks) entry traces) (sym same.1) turn.1,
        whole.1 ∙ ap steps_of_all same.0 ∙ steps_so b.groups ∙ ap steps_of_all (sym b.split),
        ended,
      )
