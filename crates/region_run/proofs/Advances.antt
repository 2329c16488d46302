-- One step of a region, put together.
use Rattle.std.proofs.Common.{ℕ, zero, suc, ℤ, ◌+◌, ◌%◌, ◌<◌, ◌≤◌, ◌≡◌, true, false, List, [], ◌∷◌, ◌++◌, length, take, get_or, if◌then◌else◌, Option, None, Some, refl, sym, ap, ap₂, ◌∙◌, subst, arith, mod-lt, map, length-append}
use Rattle.std.proofs.lemmas.List.{length-map}
use Rattle.hyb_base.specs.declared.ops.RedOp.{RedOp}
use Rattle.interleaving.specs.Machine.{Event, reads, writes, moves, ends, faults, Machine, Store}
use Rattle.interleaving.specs.Modes.{Mode}
use Rattle.interleaving.specs.OwnCells.{Owner, Start, with_own}
use Rattle.interleaving.specs.Picks.{picked_of, picked, index_at, iteration_at}
use Rattle.interleaving.specs.Region.{Iteration, Region, step_at, settled, settled_from, place_of, advanced, advanced_all, unfinished}
use Rattle.region_run.specs.declared.asks.Asked.{Asked}
use Rattle.region_run.specs.declared.asks.Asked.TheVariants.{Reads, Writes, Moves, Ends, Faults}
use Rattle.region_run.specs.declared.running.Advanced.{Advanced}
use Rattle.region_run.specs.declared.running.Advanced.TheVariants.{Ran, Over, Faulted}
use Rattle.region_run.specs.declared.running.Running.{Running}
use Rattle.region_run.specs.Advanced.{answer_by, answer_to, CameTo, has_run}
use Rattle.region_run.specs.Asked.{asked_of, is_fault}
use Rattle.region_run.specs.declared.live.Live.{Live}
use Rattle.region_run.specs.Live.{iteration_of, all_from}
use Rattle.region_run.specs.Machine.{machine_of, store_of_cells}
use Rattle.region_run.specs.Running.{rest_of, live_of, pending_of, region_of, HoldsTogether, IsRunning, SameLoop, is_first_finished}
use Rattle.region_run.specs.Places.{numbers}
use Rattle.region_run.proofs.Places.{length_numbers, numbers_fit, index_below, index_front, iteration_front}

take_first : {A : Type 0} (n : ℕ) (xs ys : List A) → length xs ≡ n → take n (xs ++ ys) ≡ xs
take_first zero [] ys e = refl
take_first zero (x ∷ xs) ys e = absurd (omega arith)
take_first (suc n) [] ys e = absurd (omega arith)
take_first (suc n) (x ∷ xs) ys e = ap (λ zs. x ∷ zs) (take_first n xs ys (omega arith))

take_whole : {A : Type 0} (n : ℕ) (xs : List A) → length xs ≤ n → take n (xs ++ []) ≡ xs
take_whole zero [] e = refl
take_whole zero (x ∷ xs) e = absurd (omega arith)
take_whole (suc n) [] e = refl
take_whole (suc n) (x ∷ xs) e = ap (λ zs. x ∷ zs) (take_whole n xs (omega arith))

pub same_then : {P R : Type 0} (modes : R → ℕ → Mode RedOp) (count : R → ℕ) (old mid new : Running P R) → SameLoop modes count old mid → SameLoop modes count mid new → SameLoop modes count old new
same_then modes count old mid new a b = record { entry = b.entry ∙ a.entry; variable = b.variable ∙ a.variable; trips = b.trips ∙ a.trips; window = b.window ∙ a.window; same_modes = b.same_modes ∙ a.same_modes; same_count = b.same_count ∙ a.same_count }

module _ {P R M : Type 0} (is_of : P → Type 0) (meant : P → M) (start : M → ℕ → Start M ℤ) (modes : ℕ → Mode RedOp) (count : R → ℕ) (own : R → ℕ → ℕ → Option ℤ) where
  -- the live ones are those in the window
  pub live_window : (old : Running P R) → HoldsTogether is_of meant count own old → take old.window (pending_of meant start own old) ≡ live_of meant own old
  live_window old r = go old.left refl
    where
      long : length (live_of meant own old) ≡ length old.live.items
      long = length-map old.live.items _

      go : (n : ℕ) → old.left ≡ n → take old.window (pending_of meant start own old) ≡ live_of meant own old
      go zero z = ap (λ (n : ℕ). take old.window (live_of meant own old ++ rest_of (start (meant old.entry)) old.variable n old.begun)) z ∙ take_whole old.window (live_of meant own old) (subst (λ (n : ℕ). n ≤ old.window) (sym long) r.window)
      go (suc n) z = take_first old.window (live_of meant own old) (rest_of (start (meant old.entry)) old.variable old.left old.begun) (long ∙ r.full (subst (λ (i : ℕ). 0 < i) (sym z) (omega arith)))

  -- the place of a pick
  pub place_is : (old : Running P R) (pick n : ℕ) (s : List ℤ) → HoldsTogether is_of meant count own old → n ≡ length old.unfinished.items → place_of old.window (region_of meant start own old s) pick ≡ pick % n
  place_is old pick n s r l =
      ap (λ (its : List (Iteration (Owner M ℤ) ℤ)). pick % unfinished its) (live_window old r)
      ∙ ap (λ (k : ℕ). pick % k) (sym (l ∙ ap length r.order ∙ length_numbers old.committed (live_of meant own old)))

  module _ (event : M → Event RedOp ℤ) (resumed : M → ℤ → M) (done : M → M) where
    pub advanced_is : (old : Running P R) (pick n : ℕ) (s : List ℤ) → HoldsTogether is_of meant count own old → n ≡ length old.unfinished.items →
        advanced (with_own (machine_of event resumed done)) modes old.window (region_of meant start own old s) pick ≡ settled_from (with_own (machine_of event resumed done)) modes old.committed (step_at (with_own (machine_of event resumed done)) modes (pick % n) (store_of_cells s) (pending_of meant start own old))
    advanced_is old pick n s r l =
        ap (λ (place : ℕ). settled_from (with_own (machine_of event resumed done)) modes old.committed (step_at (with_own (machine_of event resumed done)) modes place (store_of_cells s) (pending_of meant start own old))) (place_is old pick n s r l)

    ran : {F : Type 0} (answer : Asked F) (c : ℕ) (s : Store ℤ) (its : List (Iteration (Owner M ℤ) ℤ)) → ((f : F) → answer ≡ Faults f → ⊥) → settled_from (with_own (machine_of event resumed done)) modes c (all_from answer s its) ≡ Some (settled (with_own (machine_of event resumed done)) modes c s its)
    ran (Reads a by) c s its ne = refl
    ran (Writes a v by) c s its ne = refl
    ran Moves c s its ne = refl
    ran Ends c s its ne = refl
    ran (Faults f) c s its ne = absurd (ne f refl)

    pub advanced_ran : {F : Type 0} (old mid : Running P R) (pick n : ℕ) (s s' : List ℤ) (answer : Asked F) (modes' : ℕ → Mode RedOp) (after : Region (Owner M ℤ) ℤ) → HoldsTogether is_of meant count own old → n ≡ length old.unfinished.items → modes' ≡ modes → mid.committed ≡ old.committed → ((f : F) → answer ≡ Faults f → ⊥) →
        step_at (with_own (machine_of event resumed done)) modes (pick % n) (store_of_cells s) (pending_of meant start own old) ≡ all_from answer (store_of_cells s') (pending_of meant start own mid) →
        settled (with_own (machine_of event resumed done)) modes' mid.committed (store_of_cells s') (pending_of meant start own mid) ≡ after →
        advanced (with_own (machine_of event resumed done)) modes old.window (region_of meant start own old s) pick ≡ Some after
    advanced_ran old mid pick n s s' answer modes' after r l same counts ne e f =
        advanced_is old pick n s r l
        ∙ ap (settled_from (with_own (machine_of event resumed done)) modes old.committed) e
        ∙ ran answer old.committed (store_of_cells s') (pending_of meant start own mid) ne
        ∙ ap (λ (c : ℕ). Some (settled (with_own (machine_of event resumed done)) modes c (store_of_cells s') (pending_of meant start own mid))) (sym counts)
        ∙ ap (λ (ms : ℕ → Mode RedOp). Some (settled (with_own (machine_of event resumed done)) ms mid.committed (store_of_cells s') (pending_of meant start own mid))) (sym same)
        ∙ ap (λ (x : Region (Owner M ℤ) ℤ). Some x) f

    pub advanced_faulted : (old : Running P R) (pick n : ℕ) (s : List ℤ) → HoldsTogether is_of meant count own old → n ≡ length old.unfinished.items →
        step_at (with_own (machine_of event resumed done)) modes (pick % n) (store_of_cells s) (pending_of meant start own old) ≡ None →
        advanced (with_own (machine_of event resumed done)) modes old.window (region_of meant start own old s) pick ≡ None
    advanced_faulted old pick n s r l e = advanced_is old pick n s r l ∙ ap (settled_from (with_own (machine_of event resumed done)) modes old.committed) e

    -- what a pick names
    pub picked_is : (old : Running P R) (pick n number : ℕ) (s : List ℤ) (d : Iteration (Owner M ℤ) ℤ) → HoldsTogether is_of meant count own old → n ≡ length old.unfinished.items → 0 < n → number ≡ old.committed + index_at (pick % n) (live_of meant own old) →
        let it = get_or (live_of meant own old) (index_at (pick % n) (live_of meant own old)) d in
        picked (with_own (machine_of event resumed done)) old.window (region_of meant start own old s) pick ≡ Some (record { number = suc number; process = it.process; event = (with_own (machine_of event resumed done)).event it.process })
    picked_is old pick n number s d r l some e =
        let m = with_own (machine_of event resumed done) in
        let live = live_of meant own old in
        let rest = rest_of (start (meant old.entry)) old.variable old.left old.begun in
        let counted : n ≡ unfinished live = l ∙ ap length r.order ∙ length_numbers old.committed live in
        let within : pick % n < unfinished live = subst (λ (k : ℕ). pick % n < k) counted (mod-lt pick some) in
        let at : index_at (pick % n) (live ++ rest) ≡ index_at (pick % n) live = index_front live rest (pick % n) within in
        let below : index_at (pick % n) live < length live = index_below live (pick % n) within in
        ap (λ (place : ℕ). picked_of m old.committed (index_at place (live ++ rest)) (iteration_at (live ++ rest) (index_at place (live ++ rest)))) (place_is old pick n s r l)
        ∙ ap (λ (i : ℕ). picked_of m old.committed i (iteration_at (live ++ rest) i)) at
        ∙ ap (picked_of m old.committed (index_at (pick % n) live)) (iteration_front live rest (index_at (pick % n) live) d below)
        ∙ ap (λ (k : ℕ). let it = get_or live (index_at (pick % n) live) d in Some (record { number = suc k; process = it.process; event = m.event it.process })) (sym e)

    -- the answer to it
    module _ {F : Type 0} (fault : M → F) (line : M → ℕ) where
      by_event : (number : ℕ) (p : M) (ev : Event RedOp ℤ) (answer : Asked F) → answer ≡ asked_of (fault p) ev → is_fault answer ≡ false → Ran number answer ≡ answer_by fault line number p ev
      by_event number p (reads a by) answer e h = ap (Ran number) e
      by_event number p (writes a v by) answer e h = ap (Ran number) e
      by_event number p moves answer e h = ap (Ran number) e
      by_event number p ends answer e h = ap (Ran number) e
      by_event number p faults answer e h = let bad : is_fault answer ≡ true = ap is_fault e in let worse : false ≡ true = sym h ∙ bad in absurd (cc)

      by_fault : (number : ℕ) (p : M) (ev : Event RedOp ℤ) (f : F) → Faults f ≡ asked_of (fault p) ev → Faulted number f (line p) ≡ answer_by fault line number p ev
      by_fault number p (reads a by) f e = absurd (cc)
      by_fault number p (writes a v by) f e = absurd (cc)
      by_fault number p moves f e = absurd (cc)
      by_fault number p ends f e = absurd (cc)
      by_fault number p faults f e = let same : f ≡ fault p = cc in ap (λ g. Faulted number g (line p)) same

      going : (answer : Asked F) → ((f : F) → answer ≡ Faults f → ⊥) → is_fault answer ≡ false
      going (Reads a by) ne = refl
      going (Writes a v by) ne = refl
      going Moves ne = refl
      going Ends ne = refl
      going (Faults f) ne = absurd (ne f refl)

      pub answer_ran : (old : Running P R) (pick n number : ℕ) (s : List ℤ) (answer : Asked F) (d : Iteration (Owner M ℤ) ℤ) → HoldsTogether is_of meant count own old → n ≡ length old.unfinished.items → 0 < n → number ≡ old.committed + index_at (pick % n) (live_of meant own old) → ((f : F) → answer ≡ Faults f → ⊥) →
          let it = get_or (live_of meant own old) (index_at (pick % n) (live_of meant own old)) d in
          answer ≡ asked_of (fault it.process.process) (event it.process.process) →
          Ran (suc number) answer ≡ answer_to event fault line (picked (with_own (machine_of event resumed done)) old.window (region_of meant start own old s) pick)
      answer_ran old pick n number s answer d r l some e ne a =
          let it = get_or (live_of meant own old) (index_at (pick % n) (live_of meant own old)) d in
          by_event (suc number) it.process.process (event it.process.process) answer a (going answer ne) ∙ sym (ap (answer_to event fault line) (picked_is old pick n number s d r l some e))

      pub answer_faulted : (old : Running P R) (pick n number at : ℕ) (s : List ℤ) (f : F) (d : Iteration (Owner M ℤ) ℤ) → HoldsTogether is_of meant count own old → n ≡ length old.unfinished.items → 0 < n → number ≡ old.committed + index_at (pick % n) (live_of meant own old) →
          let it = get_or (live_of meant own old) (index_at (pick % n) (live_of meant own old)) d in
          at ≡ line it.process.process →
          Faults f ≡ asked_of (fault it.process.process) (event it.process.process) →
          Faulted (suc number) f at ≡ answer_to event fault line (picked (with_own (machine_of event resumed done)) old.window (region_of meant start own old s) pick)
      answer_faulted old pick n number at s f d r l some e same a =
          let it = get_or (live_of meant own old) (index_at (pick % n) (live_of meant own old)) d in
          ap (λ (k : ℕ). Faulted (suc number) f k) same ∙ by_fault (suc number) it.process.process (event it.process.process) f a ∙ sym (ap (answer_to event fault line) (picked_is old pick n number s d r l some e))

  -- where no iteration is unfinished, none is pending
  pub none_pending : (old : Running P R) → IsRunning is_of meant count own old → old.unfinished.items ≡ [] → pending_of meant start own old ≡ []
  none_pending old r e = go old.live.items refl old.left refl
    where
      leads : (it : Live P) (more : List (Live P)) → old.live.items ≡ it ∷ more → ⊥
      leads it more q =
          let f : it.finished ≡ false = sym (ap is_first_finished q) ∙ r.settled in
          let rest = map (iteration_of meant (own old.rows) old.variable) more in
          let o : [] ≡ numbers old.committed (iteration_of meant (own old.rows) old.variable it ∷ rest) = sym e ∙ r.together.order ∙ ap (λ (its : List (Live P)). numbers old.committed (map (iteration_of meant (own old.rows) old.variable) its)) q in
          let n : (if it.finished then numbers (suc old.committed) rest else old.committed ∷ numbers (suc old.committed) rest) ≡ old.committed ∷ numbers (suc old.committed) rest = ap (λ t. if t then numbers (suc old.committed) rest else old.committed ∷ numbers (suc old.committed) rest) f in
          let bad : [] ≡ old.committed ∷ numbers (suc old.committed) rest = o ∙ n in
          absurd (cc)

      go : (its : List (Live P)) → old.live.items ≡ its → (n : ℕ) → old.left ≡ n → pending_of meant start own old ≡ []
      go [] q zero z = ap (λ (its : List (Live P)). map (iteration_of meant (own old.rows) old.variable) its ++ rest_of (start (meant old.entry)) old.variable old.left old.begun) q ∙ ap (λ (n : ℕ). rest_of (start (meant old.entry)) old.variable n old.begun) z
      go [] q (suc n) z =
          let k : length old.live.items ≡ old.window = r.together.full (subst (λ (i : ℕ). 0 < i) (sym z) (omega arith)) in
          let j : length old.live.items ≡ 0 = ap length q in
          let w : 0 < old.window = r.wide in
          absurd (omega (arith, k, j, w))
      go (it ∷ more) q n z = absurd (leads it more q)

  -- where one is, some is pending
  pub some_pending : (old : Running P R) (n : ℕ) → HoldsTogether is_of meant count own old → n ≡ length old.unfinished.items → 0 < n → pending_of meant start own old ≡ [] → ⊥
  some_pending old n r l some e =
      let live = live_of meant own old in
      let rest = rest_of (start (meant old.entry)) old.variable old.left old.begun in
      let fits : length (numbers old.committed live) ≤ length live = numbers_fit old.committed live in
      let o : length old.unfinished.items ≡ length (numbers old.committed live) = ap length r.order in
      let both : length (live ++ rest) ≡ length live + length rest = length-append live rest in
      let none : length (live ++ rest) ≡ 0 = ap length e in
      omega (arith, fits, o, both, none, l, some)

-- nothing of a region changes where its live iterations stay, and no cell
pub region_stays : {P R M : Type 0} (meant : P → M) (start : M → ℕ → Start M ℤ) (modes : R → ℕ → Mode RedOp) (count : R → ℕ) (own : R → ℕ → ℕ → Option ℤ) (old new : Running P R) (s s' : List ℤ) → SameLoop modes count old new → new.committed ≡ old.committed → (new.left ≡ old.left) × (new.begun ≡ old.begun) → live_of meant own new ≡ live_of meant own old → s' ≡ s →
    region_of meant start own new s' ≡ region_of meant start own old s
region_stays meant start modes count own old new s s' same c k l e = rw (e, c, l, same.entry, same.variable, k.0, k.1)

-- one pick of a list: where it had a step, the rest goes on from there; where it had none, there is no region
pub pick_ran : {P M F : Type 0} (m : Machine P RedOp M) (modes modes' : ℕ → Mode RedOp) (window window' : ℕ) (pick : ℕ) (picks : List ℕ) (r r' : Region P M) (answer : Advanced F) → modes' ≡ modes → window' ≡ window → CameTo answer (advanced m modes' window' r pick) r' → has_run answer ≡ true →
    advanced_all m modes window (pick ∷ picks) (Some r) ≡ advanced_all m modes window picks (Some r')
pick_ran m modes modes' window window' pick picks r r' (Ran number asked) e w came h = ap (advanced_all m modes window picks) (ap₂ (λ (ms : ℕ → Mode RedOp) (n : ℕ). advanced m ms n r pick) (sym e) (sym w) ∙ came)
pick_ran m modes modes' window window' pick picks r r' Over e w came h = absurd (cc)
pick_ran m modes modes' window window' pick picks r r' (Faulted number f at) e w came h = absurd (cc)

pub pick_stopped : {P M F : Type 0} (m : Machine P RedOp M) (modes modes' : ℕ → Mode RedOp) (window window' : ℕ) (pick : ℕ) (picks : List ℕ) (r r' : Region P M) (answer : Advanced F) → modes' ≡ modes → window' ≡ window → CameTo answer (advanced m modes' window' r pick) r' → has_run answer ≡ false →
    advanced_all m modes window (pick ∷ picks) (Some r) ≡ None
pick_stopped m modes modes' window window' pick picks r r' (Ran number asked) e w came h = absurd (cc)
pick_stopped m modes modes' window window' pick picks r r' Over e w came h = ap (advanced_all m modes window picks) (ap₂ (λ (ms : ℕ → Mode RedOp) (n : ℕ). advanced m ms n r pick) (sym e) (sym w) ∙ came)
pick_stopped m modes modes' window window' pick picks r r' (Faulted number f at) e w came h = ap (advanced_all m modes window picks) (ap₂ (λ (ms : ℕ → Mode RedOp) (n : ℕ). advanced m ms n r pick) (sym e) (sym w) ∙ came)
