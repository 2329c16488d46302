-- Blocks run alone as far as their iterations do.
use Rattle.std.proofs.Common.{ℕ, ◌≤◌, ◌≡◌, ◌⊎◌, inl, inr, List, [], ◌∷◌, ◌++◌, length, refl, sym, ap, ap₂, ◌∙◌, subst, append_assoc}
use Rattle.interleaving.specs.Blocks.{Block, items_of, all_items_of, in_blocks, block_trace, block_traces}
use Rattle.interleaving.specs.Machine.{Machine, IsMachine, AreReady, Store}
use Rattle.interleaving.specs.Modes.{Mode, CompatibleWithAll, Fits}
use Rattle.interleaving.specs.Traces.{Access, Stop, AtEnd, AtFault, Cut, Runs, Alone, all_at_end}
use Rattle.interleaving.proofs.Alone.{alone_over, unread_after}
use Rattle.interleaving.proofs.BlockFits.{fit_so, cut_later}
use Rattle.interleaving.proofs.BlockRuns.{then_next, last_run}
use Rattle.interleaving.proofs.Courses.{AllUnread}
use Rattle.interleaving.proofs.Scripts.{Script, scripted}

module _ {P O V : Type 0} (m : Machine P O V) where
  -- starts of which the first ones are a block
  pub first_ready : (Sound : P → Type 0) (first rest : List P) → AreReady m Sound (first ++ rest) → AreReady m Sound first × AreReady m Sound rest
  first_ready Sound [] rest h = (tt, h)
  first_ready Sound (p ∷ first) rest h = let k : AreReady m Sound first × AreReady m Sound rest = first_ready Sound first rest h.2 in ((h.0, h.1, k.0), k.1)

module _ {P O V : Type 0} (m : Machine P O V) (modes : ℕ → Mode O) where
  -- a block alone: it runs its iterations up to the first that doesn't come to its end
  record BlockAlone (limit : ℕ) (block : Block P) (s : Store V) (traces : List (List (Access O))) (stops : List Stop) : Type 0 where
    used : Block (List (Access O))
    unused : List (List (Access O))
    split : traces ≡ items_of used ++ unused
    stop : Stop
    end : Store V
    runs : Runs (in_blocks m) block s (block_trace used) stop end
    late : stop ≡ Cut → limit ≤ length (block_trace used)
    all : stop ≡ AtEnd → stops ≡ all_at_end traces

  block_alone : {Sound : P → Type 0} → IsMachine m Sound → (limit : ℕ) (p : P) (later : List P) (s : Store V) (traces : List (List (Access O))) (stops : List Stop) → AreReady m Sound (p ∷ later) → Fits modes traces → Alone m limit (p ∷ later) s traces stops → BlockAlone limit (record { first = p; later = later }) s traces stops
  block_alone laws limit p later s [] stops ready fits alone = absurd alone
  block_alone laws limit p later s (trace ∷ traces) [] ready fits alone = absurd alone
  block_alone laws limit p later s (trace ∷ traces) (AtFault ∷ stops) ready fits alone =
      record { used = record { first = trace; later = [] }; unused = traces; split = refl; stop = AtFault; end = alone.0; runs = last_run m later (inr (λ q. cc)) alone.1; late = λ q. absurd (cc); all = λ q. absurd (cc) }
  block_alone laws limit p later s (trace ∷ traces) (Cut ∷ stops) ready fits alone =
      record { used = record { first = trace; later = [] }; unused = traces; split = refl; stop = Cut; end = alone.0; runs = last_run m later (inr (λ q. cc)) alone.1; late = λ q. alone.2 refl; all = λ q. absurd (cc) }
  block_alone laws limit p [] s (trace ∷ []) (AtEnd ∷ []) ready fits alone =
      record { used = record { first = trace; later = [] }; unused = []; split = refl; stop = AtEnd; end = alone.0; runs = last_run m [] (inl refl) alone.1; late = λ q. absurd (cc); all = λ q. refl }
  block_alone laws limit p [] s (trace ∷ []) (AtEnd ∷ (stop ∷ stops)) ready fits alone = absurd (alone.3)
  block_alone laws limit p [] s (trace ∷ (other ∷ traces)) (AtEnd ∷ stops) ready fits alone = absurd (alone.3)
  block_alone laws limit p (next ∷ later) s (trace ∷ traces) (AtEnd ∷ stops) ready fits alone =
      let k : Script m modes p s trace AtEnd alone.0 = scripted m modes laws ready.0 ready.1 fits.0 alone.1 in
      let shifted : Alone m limit (next ∷ later) alone.0 traces stops = alone_over m modes laws limit (next ∷ later) s alone.0 traces stops ready.2 (λ a plain. elim (unread_after m modes traces fits k a plain) as (λ w. (alone.0 a ≡ s a) ⊎ AllUnread a traces) [ inl e ↦ inl (sym e) | inr n ↦ inr n ]) fits.2 alone.3 in
      let rest : BlockAlone limit (record { first = next; later = later }) alone.0 traces stops = block_alone laws limit next later alone.0 traces stops ready.2 fits.2 shifted in
      record {
        used = record { first = trace; later = items_of rest.used };
        unused = rest.unused;
        split = ap (λ r. trace ∷ r) rest.split;
        stop = rest.stop;
        end = rest.end;
        runs = then_next m next later refl alone.1 rest.runs;
        late = λ q. cut_later trace (block_trace rest.used) limit (rest.late q);
        all = λ q. ap (λ r. AtEnd ∷ r) (rest.all q);
      }

  -- traces that are some of others, in their order
  pub record AreSome (some others : List (List (Access O))) : Type 0 where
    pub fits : Fits modes others → Fits modes some
    pub compatible : (early : List (Access O)) → CompatibleWithAll modes early others → CompatibleWithAll modes early some

  without : (unused some others : List (List (Access O))) → AreSome some others → AreSome some (unused ++ others)
  without [] some others h = h
  without (trace ∷ unused) some others h = let k : AreSome some (unused ++ others) = without unused some others h in record { fits = λ f. k.fits f.2; compatible = λ early c. k.compatible early c.1 }

  with_used : (used some others : List (List (Access O))) → AreSome some others → AreSome (used ++ some) (used ++ others)
  with_used [] some others h = h
  with_used (trace ∷ used) some others h = let k : AreSome (used ++ some) (used ++ others) = with_used used some others h in record { fits = λ f. (f.0, k.compatible trace f.1, k.fits f.2); compatible = λ early c. (c.0, k.compatible early c.1) }

  first_fits : (first rest : List (List (Access O))) → Fits modes (first ++ rest) → Fits modes first × Fits modes rest
  first_fits [] rest h = (tt, h)
  first_fits (trace ∷ first) rest h = let k : Fits modes first × Fits modes rest = first_fits first rest h.2 in ((h.0, first_compatible trace first rest h.1, k.0), k.1)
    where
      first_compatible : (early : List (Access O)) (first rest : List (List (Access O))) → CompatibleWithAll modes early (first ++ rest) → CompatibleWithAll modes early first
      first_compatible early [] rest h = tt
      first_compatible early (trace ∷ first) rest h = (h.0, first_compatible early first rest h.1)

  -- iterations alone, of which the first ones are a block
  record SplitAlone (limit : ℕ) (first rest : List P) (s : Store V) (traces : List (List (Access O))) (stops : List Stop) : Type 0 where
    mine : List (List (Access O))
    others : List (List (Access O))
    my_stops : List Stop
    other_stops : List Stop
    traced : traces ≡ mine ++ others
    stopped : stops ≡ my_stops ++ other_stops
    mine_alone : Alone m limit first s mine my_stops
    others_alone : Alone m limit rest s others other_stops

  split_alone : (limit : ℕ) (first rest : List P) (s : Store V) (traces : List (List (Access O))) (stops : List Stop) → Alone m limit (first ++ rest) s traces stops → SplitAlone limit first rest s traces stops
  split_alone limit [] rest s traces stops h = record { mine = []; others = traces; my_stops = []; other_stops = stops; traced = refl; stopped = refl; mine_alone = tt; others_alone = h }
  split_alone limit (p ∷ first) rest s [] stops h = absurd h
  split_alone limit (p ∷ first) rest s (trace ∷ traces) [] h = absurd h
  split_alone limit (p ∷ first) rest s (trace ∷ traces) (stop ∷ stops) h =
      let k : SplitAlone limit first rest s traces stops = split_alone limit first rest s traces stops h.3 in
      record { mine = trace ∷ k.mine; others = k.others; my_stops = stop ∷ k.my_stops; other_stops = k.other_stops; traced = ap (λ r. trace ∷ r) k.traced; stopped = ap (λ r. stop ∷ r) k.stopped; mine_alone = (h.0, h.1, h.2, k.mine_alone); others_alone = k.others_alone }

  ends_append : (x y : List (List (Access O))) → all_at_end (x ++ y) ≡ all_at_end x ++ all_at_end y
  ends_append [] y = refl
  ends_append (trace ∷ x) y = ap (λ r. AtEnd ∷ r) (ends_append x y)

  -- blocks alone
  pub record BlocksAlone (limit : ℕ) (blocks : List (Block P)) (s : Store V) (traces : List (List (Access O))) (stops : List Stop) : Type 0 where
    pub used : List (Block (List (Access O)))
    pub block_stops : List Stop
    pub alone : Alone (in_blocks m) limit blocks s (block_traces used) block_stops
    pub some : AreSome (all_items_of used) traces
    pub all : block_stops ≡ all_at_end (block_traces used) → stops ≡ all_at_end traces

  pub blocks_alone : {Sound : P → Type 0} → IsMachine m Sound → (limit : ℕ) (blocks : List (Block P)) (s : Store V) (traces : List (List (Access O))) (stops : List Stop) → AreReady m Sound (all_items_of blocks) → Fits modes traces → Alone m limit (all_items_of blocks) s traces stops → BlocksAlone limit blocks s traces stops
  blocks_alone laws limit [] s [] [] ready fits alone = record { used = []; block_stops = []; alone = tt; some = record { fits = λ f. f; compatible = λ early c. c }; all = λ e. refl }
  blocks_alone laws limit [] s [] (stop ∷ stops) ready fits alone = absurd alone
  blocks_alone laws limit [] s (trace ∷ traces) stops ready fits alone = absurd alone
  blocks_alone {Sound} laws limit (block ∷ blocks) s traces stops ready fits alone =
      let sp : SplitAlone limit (items_of block) (all_items_of blocks) s traces stops = split_alone limit (items_of block) (all_items_of blocks) s traces stops alone in
      let able = first_ready m Sound (items_of block) (all_items_of blocks) ready in
      let fit_both : Fits modes sp.mine × Fits modes sp.others = first_fits sp.mine sp.others (subst (Fits modes) sp.traced fits) in
      let k : BlockAlone limit block s sp.mine sp.my_stops = block_alone laws limit block.first block.later s sp.mine sp.my_stops able.0 fit_both.0 sp.mine_alone in
      let rest : BlocksAlone limit blocks s sp.others sp.other_stops = blocks_alone laws limit blocks s sp.others sp.other_stops able.1 fit_both.1 sp.others_alone in
      let parts : traces ≡ items_of k.used ++ (k.unused ++ sp.others) = sp.traced ∙ ap (λ r. r ++ sp.others) k.split ∙ append_assoc (items_of k.used) k.unused sp.others in
      record {
        used = k.used ∷ rest.used;
        block_stops = k.stop ∷ rest.block_stops;
        alone = (k.end, k.runs, k.late, rest.alone);
        some = subst (AreSome (items_of k.used ++ all_items_of rest.used)) (sym parts) (with_used (items_of k.used) (all_items_of rest.used) (k.unused ++ sp.others) (without k.unused (all_items_of rest.used) sp.others rest.some));
        all = λ e.
            let one : k.stop ≡ AtEnd = cc in
            let more : rest.block_stops ≡ all_at_end (block_traces rest.used) = cc in
            sp.stopped ∙ ap₂ (λ x y. x ++ y) (k.all one) (rest.all more) ∙ sym (ends_append sp.mine sp.others) ∙ ap all_at_end (sym sp.traced);
      }

  pub some_fit : (limit : ℕ) (blocks : List (Block P)) (s : Store V) (traces : List (List (Access O))) (stops : List Stop) → (k : BlocksAlone limit blocks s traces stops) → Fits modes traces → Fits modes (block_traces k.used)
  some_fit limit blocks s traces stops k fits = fit_so modes k.used (k.some.fits fits)
