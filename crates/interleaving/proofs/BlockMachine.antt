-- The machine of blocks is a machine.
use Rattle.std.proofs.Common.{ℕ, ◌≡◌, inl, inr, List, [], ◌∷◌, Option, None, Some, refl, sym, ap, ◌∙◌, subst}
use Rattle.interleaving.specs.BlockLaws.{IsSoundBlock}
use Rattle.interleaving.specs.Blocks.{Block, event_in_block, next_block, block_done, in_blocks}
use Rattle.interleaving.specs.Machine.{Event, reads, writes, moves, ends, faults, Machine, IsMachine, IsReady, Accumulates, AreReady}

module _ {P O V : Type 0} (m : Machine P O V) where
  -- the event of a block is that of its iteration, or a move where that ends and another follows
  pub data BlockEvent (block : Block P) : Event O V → Type 0 where
    of_iteration : {ev : Event O V} → m.event block.first ≡ ev → BlockEvent block ev
    to_next : (next : P) (later : List P) → m.event block.first ≡ ends → block.later ≡ next ∷ later → BlockEvent block moves

  block_event : (block : Block P) (ev : Event O V) (later : List P) → m.event block.first ≡ ev → block.later ≡ later → BlockEvent block (event_in_block ev later)
  block_event block (reads a by) later e h = of_iteration e
  block_event block (writes a v by) later e h = of_iteration e
  block_event block moves later e h = of_iteration e
  block_event block ends [] e h = of_iteration e
  block_event block ends (next ∷ later) e h = to_next next later e h
  block_event block faults later e h = of_iteration e

  pub event_of_block : (block : Block P) (ev : Event O V) → (in_blocks m).event block ≡ ev → BlockEvent block ev
  event_of_block block ev e = subst (BlockEvent block) e (block_event block (m.event block.first) block.later refl refl)

  pub block_reads : (block : Block P) (a : ℕ) (by : Option O) → (in_blocks m).event block ≡ reads a by → m.event block.first ≡ reads a by
  block_reads block a by e = go (event_of_block block (reads a by) e)
    where
      go : BlockEvent block (reads a by) → m.event block.first ≡ reads a by
      go (of_iteration f) = f

  pub block_writes : (block : Block P) (a : ℕ) (v : V) (by : Option O) → (in_blocks m).event block ≡ writes a v by → m.event block.first ≡ writes a v by
  block_writes block a v by e = go (event_of_block block (writes a v by) e)
    where
      go : BlockEvent block (writes a v by) → m.event block.first ≡ writes a v by
      go (of_iteration f) = f

  pub block_ready : (block : Block P) → IsReady m block.first → IsReady (in_blocks m) block
  block_ready block h a v op e = h a v op (block_writes block a v (Some op) e)

  -- a block after a step, by the event of its iteration
  pub done_by : (block : Block P) (ev : Event O V) → m.event block.first ≡ ev → (in_blocks m).done block ≡ block_done m block ev
  done_by block ev e = ap (block_done m block) e

  module _ {Sound : P → Type 0} (laws : IsMachine m Sound) where
    moved : (block : Block P) → IsSoundBlock m Sound block → BlockEvent block moves → IsSoundBlock m Sound ((in_blocks m).done block) × IsReady (in_blocks m) ((in_blocks m).done block)
    moved block h (of_iteration e) =
        let same : (in_blocks m).done block ≡ record block { first = m.done block.first } = done_by block moves e in
        subst (λ b. IsSoundBlock m Sound b × IsReady (in_blocks m) b) (sym same)
        ((laws.sound_moved block.first h.0 e, h.1), block_ready (record block { first = m.done block.first }) (laws.ready_moved block.first h.0 e))
    moved block h (to_next next later e f) =
        let same : (in_blocks m).done block ≡ record { first = next; later = later } = done_by block ends e ∙ ap (next_block block) f in
        let k : Sound next × IsReady m next × AreReady m Sound later = subst (AreReady m Sound) f h.1 in
        subst (λ b. IsSoundBlock m Sound b × IsReady (in_blocks m) b) (sym same) ((k.0, k.2), block_ready (record { first = next; later = later }) k.1)

    accumulates : (block : Block P) (a : ℕ) (op : O) → Accumulates m block.first a op → Accumulates (in_blocks m) block a op
    accumulates block a op h = record {
      added = h.added;
      after = record block { first = h.after };
      combines = λ x. ap (λ ev. event_in_block ev block.later) (h.combines x);
      goes_on = λ x. done_by (record block { first = m.resumed block.first x }) (writes a (m.apply op x h.added) (Some op)) (h.combines x) ∙ ap (λ p. record block { first = p }) (h.goes_on x);
      begins = h.begins;
    }

    pub is_machine_in_blocks : IsMachine (in_blocks m) (IsSoundBlock m Sound)
    is_machine_in_blocks = record {
      sound_resumed = λ block a by x h e. (laws.sound_resumed block.first a by x h.0 (block_reads block a by e), h.1);
      sound_written = λ block a v by h e.
          let f : m.event block.first ≡ writes a v by = block_writes block a v by e in
          subst (IsSoundBlock m Sound) (sym (done_by block (writes a v by) f)) (laws.sound_written block.first a v by h.0 f, h.1);
      sound_moved = λ block h e. (moved block h (event_of_block block moves e)).0;
      accumulates = λ block a op h e. elim (laws.accumulates block.first a op h.0 (block_reads block a (Some op) e)) [
        | inl k ↦ inl (accumulates block a op k)
        | inr k ↦ inr (λ x. ap (λ ev. event_in_block ev block.later) (k x))
      ];
      ready_resumed = λ block a x h e. block_ready (record block { first = m.resumed block.first x }) (laws.ready_resumed block.first a x h.0 (block_reads block a None e));
      ready_written = λ block a v by h e.
          let f : m.event block.first ≡ writes a v by = block_writes block a v by e in
          subst (IsReady (in_blocks m)) (sym (done_by block (writes a v by) f)) (block_ready (record block { first = m.done block.first }) (laws.ready_written block.first a v by h.0 f));
      ready_moved = λ block h e. (moved block h (event_of_block block moves e)).1;
      associates = laws.associates;
    }
