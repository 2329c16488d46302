-- Runs of blocks are those of their iterations.
use Rattle.std.proofs.Common.{◌≡◌, ◌⊎◌, inl, inr, List, [], ◌∷◌, ◌++◌, refl, sym, ap, ◌∙◌, subst}
use Rattle.interleaving.specs.Blocks.{Block, items_of, all_items_of, event_in_block, block_done, in_blocks, block_trace, block_traces}
use Rattle.interleaving.specs.Machine.{Event, reads, writes, moves, ends, faults, Machine, Store, put}
use Rattle.interleaving.specs.Traces.{Access, Move, Stop, AtEnd, Runs, ended, faulted, cut, read_then, write_then, move_then, InTurn}
use Rattle.interleaving.proofs.BlockMachine.{done_by}

module _ {P O V : Type 0} (m : Machine P O V) where
  event_so : (p : P) (later : List P) (ev : Event O V) → m.event p ≡ ev → (in_blocks m).event (record { first = p; later = later }) ≡ event_in_block ev later
  event_so p later ev e = ap (λ ev. event_in_block ev later) e

  done_so : (p : P) (later : List P) (ev : Event O V) → m.event p ≡ ev → (in_blocks m).done (record { first = p; later = later }) ≡ block_done m (record { first = p; later = later }) ev
  done_so p later ev e = done_by m (record { first = p; later = later }) ev e

  -- an iteration that runs to its end, and then the next one of its block
  pub then_next : {p : P} {s t u : Store V} {trace rest : List (Access O)} {inner stop : Stop} (next : P) (later : List P) → inner ≡ AtEnd → Runs m p s trace inner t → Runs (in_blocks m) (record { first = next; later = later }) t rest stop u → Runs (in_blocks m) (record { first = p; later = next ∷ later }) s (trace ++ Move ∷ rest) stop u
  then_next {p = p} {s = s} {u = u} {rest = rest} {stop = stop} next later h (ended e) k = move_then (event_so p (next ∷ later) ends e) (subst (λ b. Runs (in_blocks m) b s rest stop u) (sym (done_so p (next ∷ later) ends e)) k)
  then_next next later h (faulted e) k = absurd (cc)
  then_next next later h cut k = absurd (cc)
  then_next {p = p} next later h (read_then a by e it) k = read_then a by (event_so p (next ∷ later) (reads a by) e) (then_next next later h it k)
  then_next {p = p} {s = s} {u = u} {rest = rest} {stop = stop} next later h (write_then {trace = trace} a v by e it) k =
      write_then a v by (event_so p (next ∷ later) (writes a v by) e) (subst (λ b. Runs (in_blocks m) b (put s a v) (trace ++ Move ∷ rest) stop u) (sym (done_so p (next ∷ later) (writes a v by) e)) (then_next next later h it k))
  then_next {p = p} {s = s} {u = u} {rest = rest} {stop = stop} next later h (move_then {trace = trace} e it) k =
      move_then (event_so p (next ∷ later) moves e) (subst (λ b. Runs (in_blocks m) b s (trace ++ Move ∷ rest) stop u) (sym (done_so p (next ∷ later) moves e)) (then_next next later h it k))

  -- an iteration that is the last of its block, or doesn't run to its end
  pub last_run : {p : P} {s t : Store V} {trace : List (Access O)} {stop : Stop} (later : List P) → (later ≡ []) ⊎ (stop ≡ AtEnd → ⊥) → Runs m p s trace stop t → Runs (in_blocks m) (record { first = p; later = later }) s trace stop t
  last_run {p} later (inl l) (ended e) = ended (event_so p later ends e ∙ ap (event_in_block ends) l)
  last_run later (inr n) (ended e) = absurd (n refl)
  last_run {p} later h (faulted e) = faulted (event_so p later faults e)
  last_run later h cut = cut
  last_run {p} later h (read_then a by e it) = read_then a by (event_so p later (reads a by) e) (last_run later h it)
  last_run {p} {s} {t} {stop = stop} later h (write_then {trace = trace} a v by e it) = write_then a v by (event_so p later (writes a v by) e) (subst (λ b. Runs (in_blocks m) b (put s a v) trace stop t) (sym (done_so p later (writes a v by) e)) (last_run later h it))
  last_run {p} {s} {t} {stop = stop} later h (move_then {trace = trace} e it) = move_then (event_so p later moves e) (subst (λ b. Runs (in_blocks m) b s trace stop t) (sym (done_so p later moves e)) (last_run later h it))

  -- iterations in turn, of which the first ones are a block
  record FirstInTurn (block : Block P) (rest : List P) (s : Store V) (traces : List (List (Access O))) (t : Store V) : Type 0 where
    group : Block (List (Access O))
    others : List (List (Access O))
    split : traces ≡ items_of group ++ others
    middle : Store V
    runs : Runs (in_blocks m) block s (block_trace group) AtEnd middle
    in_turn : InTurn m rest middle others t

  first_in_turn : (p : P) (later rest : List P) (s : Store V) (traces : List (List (Access O))) (t : Store V) → InTurn m (p ∷ (later ++ rest)) s traces t → FirstInTurn (record { first = p; later = later }) rest s traces t
  first_in_turn p later rest s [] t h = absurd h
  first_in_turn p [] rest s (trace ∷ traces) t h = record { group = record { first = trace; later = [] }; others = traces; split = refl; middle = h.0; runs = last_run [] (inl refl) h.1; in_turn = h.2 }
  first_in_turn p (next ∷ later) rest s (trace ∷ traces) t h =
      let k : FirstInTurn (record { first = next; later = later }) rest h.0 traces t = first_in_turn next later rest h.0 traces t h.2 in
      record {
        group = record { first = trace; later = k.group.first ∷ k.group.later };
        others = k.others;
        split = ap (λ r. trace ∷ r) k.split;
        middle = k.middle;
        runs = then_next next later refl h.1 k.runs;
        in_turn = k.in_turn;
      }

  -- iterations in turn are blocks in turn
  pub record BlocksInTurn (blocks : List (Block P)) (s : Store V) (traces : List (List (Access O))) (t : Store V) : Type 0 where
    pub groups : List (Block (List (Access O)))
    pub split : traces ≡ all_items_of groups
    pub in_turn : InTurn (in_blocks m) blocks s (block_traces groups) t

  pub blocks_in_turn : (blocks : List (Block P)) (s : Store V) (traces : List (List (Access O))) (t : Store V) → InTurn m (all_items_of blocks) s traces t → BlocksInTurn blocks s traces t
  blocks_in_turn [] s [] t h = record { groups = []; split = refl; in_turn = h }
  blocks_in_turn [] s (trace ∷ traces) t h = absurd h
  blocks_in_turn (block ∷ blocks) s traces t h =
      let k : FirstInTurn block (all_items_of blocks) s traces t = first_in_turn block.first block.later (all_items_of blocks) s traces t h in
      let rest : BlocksInTurn blocks k.middle k.others t = blocks_in_turn blocks k.middle k.others t k.in_turn in
      record {
        groups = k.group ∷ rest.groups;
        split = k.split ∙ ap (λ r. items_of k.group ++ r) rest.split;
        in_turn = (k.middle, k.runs, rest.in_turn);
      }
