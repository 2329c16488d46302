-- A pick's iteration takes a step.
use Rattle.std.proofs.Common.{ℕ, zero, suc, ℤ, ◌+◌, ◌-◌, ◌<◌, ◌≡◌, Bool, true, false, List, [], ◌∷◌, ◌++◌, length, map, get_or, set, Option, if◌then◌else◌, refl, sym, ap, ◌∙◌, subst, arith, All, vec_capacity}
use Rattle.std.proofs.lemmas.List.{get_or-map, length-set, length-map}
use Rattle.std.proofs.lemmas.List.Elements.{All-set, All-get_or}
use Rattle.std.specs.List.{remove}
use Rattle.std.specs.VecDeque.{deque_capacity}
use Rattle.hyb_base.specs.declared.ops.RedOp.{RedOp}
use Rattle.interleaving.specs.Machine.{Event, Store}
use Rattle.interleaving.specs.Modes.{Mode}
use Rattle.interleaving.specs.OwnCells.{Owner, Start, with_own}
use Rattle.interleaving.specs.Picks.{index_at}
use Rattle.interleaving.specs.Region.{Iteration, step_at, unfinished}
use Rattle.region_run.specs.declared.asks.Asked.{Asked}
use Rattle.region_run.specs.declared.asks.Asked.TheVariants.{Reads, Writes, Moves, Ends, Faults}
use Rattle.region_run.specs.declared.live.Live.{Live}
use Rattle.region_run.specs.declared.running.Running.{Running}
use Rattle.region_run.specs.Asked.{asked_of, is_end, is_fault}
use Rattle.region_run.specs.Live.{iteration_of, step_of, outcome_from, finished_by, all_from, DidStep, ChangedAt}
use Rattle.region_run.specs.Machine.{machine_of, store_of_cells}
use Rattle.region_run.specs.Places.{numbers, spliced}
use Rattle.region_run.specs.Running.{HaveOwnRows, rest_of, live_of, pending_of, HoldsTogether}
use Rattle.region_run.proofs.Places.{length_numbers, number_at, index_below, going_at, numbers_going, numbers_done, step_at_index}
use Rattle.region_run.proofs.Turns.{map_changed, rows_set}

spliced_all : {F M : Type 0} (answer : Asked F) (s : Store ℤ) (slot : Iteration (Owner M ℤ) ℤ) (slots : List (Iteration (Owner M ℤ) ℤ)) (at : ℕ) (rest : List (Iteration (Owner M ℤ) ℤ)) →
    spliced slots at rest (outcome_from answer s slot) ≡ all_from answer s (set slots at slot ++ rest)
spliced_all (Reads a by) s slot slots at rest = refl
spliced_all (Writes a v by) s slot slots at rest = refl
spliced_all Moves s slot slots at rest = refl
spliced_all Ends s slot slots at rest = refl
spliced_all (Faults f) s slot slots at rest = refl

finished_is : {F : Type 0} (answer : Asked F) → finished_by answer false ≡ is_end answer
finished_is (Reads a by) = refl
finished_is (Writes a v by) = refl
finished_is Moves = refl
finished_is Ends = refl
finished_is (Faults f) = refl

module _ {P R M : Type 0} (is_of : P → Type 0) (meant : P → M) (start : M → ℕ → Start M ℤ) (modes : ℕ → Mode RedOp) (count : R → ℕ) (own : R → ℕ → ℕ → Option ℤ) where
  -- the number at a place, and the index of its iteration
  pub record Found (old : Running P R) (place number : ℕ) : Type 0 where
    pub within : place < unfinished (live_of meant own old)
    pub is : number ≡ old.committed + index_at place (live_of meant own old)
    pub below : index_at place (live_of meant own old) < length old.live.items

  pub found : (old : Running P R) (place number : ℕ) → HoldsTogether is_of meant count own old → place < length old.unfinished.items → number ≡ get_or old.unfinished.items place number → Found old place number
  found old place number r l e =
      let slots = live_of meant own old in
      let counted : length old.unfinished.items ≡ unfinished slots = ap length r.order ∙ length_numbers old.committed slots in
      let within : place < unfinished slots = subst (λ (n : ℕ). place < n) counted l in
      let below : index_at place slots < length slots = index_below slots place within in
      record {
        within = within;
        is = e ∙ ap (λ (ns : List ℕ). get_or ns place number) r.order ∙ number_at old.committed slots place number within;
        below = subst (λ (n : ℕ). index_at place slots < n) (length-map old.live.items (iteration_of meant (own old.rows) old.variable)) below;
      }

  -- the line of the process at a place
  pub line_is : (line : M → ℕ) (old : Running P R) (place number : ℕ) (live : Live P) (d : Iteration (Owner M ℤ) ℤ) → Found old place number → live ≡ get_or old.live.items (number - old.committed) live → (at : ℕ) → at ≡ line (meant live.process) →
      at ≡ line (get_or (live_of meant own old) (index_at place (live_of meant own old)) d).process.process
  line_is line old place number live d f e at q =
      let is : number - old.committed ≡ index_at place (live_of meant own old) = (let e = f.is in omega arith) in
      let below : number - old.committed < length old.live.items = subst (λ (n : ℕ). n < length old.live.items) (sym is) f.below in
      let f' = iteration_of meant (own old.rows) old.variable in
      let there : get_or (live_of meant own old) (index_at place (live_of meant own old)) d ≡ f' live = ap (λ (i : ℕ). get_or (live_of meant own old) i d) (sym is) ∙ get_or-map f' old.live.items (number - old.committed) live d below ∙ ap f' (sym e) in
      q ∙ ap (λ (x : Iteration (Owner M ℤ) ℤ). line x.process.process) (sym there)

  module _ {F : Type 0} (fault : M → F) (event : M → Event RedOp ℤ) (resumed : M → ℤ → M) (done : M → M) where
    -- one of them took a step, and was struck off where that ended it
    pub record Picked (old mid new : Running P R) (place number : ℕ) (s s' : List ℤ) (answer : Asked F) : Type 0 where
      pub changed : ChangedAt old.live.items mid.live.items (number - old.committed) (DidStep is_of meant fault event resumed done modes (own old.rows) (own mid.rows) old.variable s s' answer)
      pub same_count : count mid.rows ≡ count old.rows
      pub room : deque_capacity mid.live ≡ deque_capacity old.live
      pub rest : mid ≡ record old { live = mid.live; rows = mid.rows }
      pub items : new.unfinished.items ≡ (if is_end answer then remove mid.unfinished.items place else mid.unfinished.items)
      pub places : vec_capacity new.unfinished ≡ vec_capacity mid.unfinished
      pub rest_new : new ≡ record mid { unfinished = new.unfinished }

    -- in the list that it changed
    pub lives_are : (old mid new : Running P R) (place number : ℕ) (s s' : List ℤ) (answer : Asked F) → HoldsTogether is_of meant count own old → Found old place number → (p : Picked old mid new place number s s' answer) →
        live_of meant own new ≡ set (live_of meant own old) (index_at place (live_of meant own old)) (iteration_of meant (own mid.rows) old.variable p.changed.is)
    lives_are old mid new place number s s' answer r f p =
        let at : number - old.committed ≡ index_at place (live_of meant own old) = (let e = f.is in omega arith) in
        let variable : mid.variable ≡ old.variable = ap (λ (x : Running P R). x.variable) p.rest in
        let below : number - old.committed < length old.live.items = subst (λ (n : ℕ). n < length old.live.items) (sym at) f.below in
        ap (live_of meant own) p.rest_new
        ∙ ap (λ (v : ℕ). map (iteration_of meant (own mid.rows) v) mid.live.items) variable
        ∙ ap (map (iteration_of meant (own mid.rows) old.variable)) p.changed.stands
        ∙ map_changed meant (own old.rows) (own mid.rows) old.variable old.live.items (number - old.committed) p.changed.was p.changed.is r.own_rows below p.changed.stood p.changed.how.others
        ∙ ap (λ (i : ℕ). set (live_of meant own old) i (iteration_of meant (own mid.rows) old.variable p.changed.is)) at

    was_at : (old mid new : Running P R) (place number : ℕ) (s s' : List ℤ) (answer : Asked F) → Found old place number → (p : Picked old mid new place number s s' answer) → (d : Iteration (Owner M ℤ) ℤ) →
        get_or (live_of meant own old) (index_at place (live_of meant own old)) d ≡ iteration_of meant (own old.rows) old.variable p.changed.was
    was_at old mid new place number s s' answer f p d =
        let at : number - old.committed ≡ index_at place (live_of meant own old) = (let e = f.is in omega arith) in
        let below : number - old.committed < length old.live.items = subst (λ (n : ℕ). n < length old.live.items) (sym at) f.below in
        let f' = iteration_of meant (own old.rows) old.variable in
        ap (λ (i : ℕ). get_or (live_of meant own old) i d) (sym at) ∙ get_or-map f' old.live.items (number - old.committed) p.changed.was d below ∙ ap f' (sym p.changed.stood)

    -- what was answered is the event of the process at the place
    pub asked_at : (old mid new : Running P R) (place number : ℕ) (s s' : List ℤ) (answer : Asked F) → Found old place number → Picked old mid new place number s s' answer → (d : Iteration (Owner M ℤ) ℤ) →
        answer ≡ asked_of (fault (get_or (live_of meant own old) (index_at place (live_of meant own old)) d).process.process) (event (get_or (live_of meant own old) (index_at place (live_of meant own old)) d).process.process)
    asked_at old mid new place number s s' answer f p d = p.changed.how.asked ∙ ap (λ (x : Iteration (Owner M ℤ) ℤ). asked_of (fault x.process.process) (event x.process.process)) (sym (was_at old mid new place number s s' answer f p d))

    pub step_is : (old mid new : Running P R) (place number : ℕ) (s s' : List ℤ) (answer : Asked F) → HoldsTogether is_of meant count own old → Found old place number → Picked old mid new place number s s' answer →
        step_at (with_own (machine_of event resumed done)) modes place (store_of_cells s) (pending_of meant start own old) ≡ all_from answer (store_of_cells s') (pending_of meant start own new)
    step_is old mid new place number s s' answer r f p =
        let slots = live_of meant own old in
        let at = index_at place slots in
        let rest = rest_of (start (meant old.entry)) old.variable old.left old.begun in
        let d = iteration_of meant (own old.rows) old.variable p.changed.was in
        let is = iteration_of meant (own mid.rows) old.variable p.changed.is in
        let rests : rest_of (start (meant old.entry)) old.variable old.left old.begun ≡ rest_of (start (meant new.entry)) new.variable new.left new.begun = rest_same in
        step_at_index (with_own (machine_of event resumed done)) modes place (store_of_cells s) slots rest d f.within
        ∙ ap (λ (x : Iteration (Owner M ℤ) ℤ). spliced slots at rest (step_of event resumed done modes (store_of_cells s) x)) (was_at old mid new place number s s' answer f p d)
        ∙ ap (spliced slots at rest) p.changed.how.next
        ∙ spliced_all answer (store_of_cells s') is slots at rest
        ∙ ap (λ (ls : List (Iteration (Owner M ℤ) ℤ)). all_from answer (store_of_cells s') (ls ++ rest)) (sym (lives_are old mid new place number s s' answer r f p))
        ∙ ap (λ (rs : List (Iteration (Owner M ℤ) ℤ)). all_from answer (store_of_cells s') (live_of meant own new ++ rs)) rests
      where
        whole : new ≡ record old { live = mid.live; rows = mid.rows; unfinished = new.unfinished }
        whole = p.rest_new ∙ ap (λ (x : Running P R). record x { unfinished = new.unfinished }) p.rest

        rest_same : rest_of (start (meant old.entry)) old.variable old.left old.begun ≡ rest_of (start (meant new.entry)) new.variable new.left new.begun
        rest_same = sym (ap (λ (x : Running P R). rest_of (start (meant x.entry)) x.variable x.left x.begun) whole)

    pub running_picked : (old mid new : Running P R) (place number : ℕ) (s s' : List ℤ) (answer : Asked F) → HoldsTogether is_of meant count own old → Found old place number → Picked old mid new place number s s' answer → HoldsTogether is_of meant count own new
    running_picked old mid new place number s s' answer r f p =
        let slots = live_of meant own old in
        let at : number - old.committed ≡ index_at place slots = (let e = f.is in omega arith) in
        let below : number - old.committed < length old.live.items = subst (λ (n : ℕ). n < length old.live.items) (sym at) f.below in
        let is = iteration_of meant (own mid.rows) old.variable p.changed.is in
        let going : p.changed.was.finished ≡ false = ap (λ (x : Iteration (Owner M ℤ) ℤ). x.finished) (sym (was_at old mid new place number s s' answer f p (iteration_of meant (own old.rows) old.variable p.changed.was))) ∙ going_at slots place (iteration_of meant (own old.rows) old.variable p.changed.was) f.within in
        let flag : is.finished ≡ is_end answer = p.changed.how.finished ∙ ap (finished_by answer) going ∙ finished_is answer in
        let new_live : new.live.items ≡ set old.live.items (number - old.committed) p.changed.is = ap (λ (x : Running P R). x.live.items) p.rest_new ∙ p.changed.stands in
        let rows_are : new.rows ≡ mid.rows = ap (λ (x : Running P R). x.rows) p.rest_new in
        let entry : new.entry ≡ old.entry = ap (λ (x : Running P R). x.entry) p.rest_new ∙ ap (λ (x : Running P R). x.entry) p.rest in
        let committed : new.committed ≡ old.committed = ap (λ (x : Running P R). x.committed) p.rest_new ∙ ap (λ (x : Running P R). x.committed) p.rest in
        let begun : new.begun ≡ old.begun = ap (λ (x : Running P R). x.begun) p.rest_new ∙ ap (λ (x : Running P R). x.begun) p.rest in
        let left : new.left ≡ old.left = ap (λ (x : Running P R). x.left) p.rest_new ∙ ap (λ (x : Running P R). x.left) p.rest in
        let window : new.window ≡ old.window = ap (λ (x : Running P R). x.window) p.rest_new ∙ ap (λ (x : Running P R). x.window) p.rest in
        let deque : new.live ≡ mid.live = ap (λ (x : Running P R). x.live) p.rest_new in
        let items : mid.unfinished ≡ old.unfinished = ap (λ (x : Running P R). x.unfinished) p.rest in
        let long : length new.live.items ≡ length old.live.items = ap length new_live ∙ length-set old.live.items (number - old.committed) p.changed.is in
        let count_is : count new.rows ≡ count old.rows = ap count rows_are ∙ p.same_count in
        let row : p.changed.is.row < count old.rows = subst (λ (k : ℕ). k < count old.rows) (sym (p.changed.how.row ∙ ap (λ (x : Live P). x.row) p.changed.stood)) (All-get_or (λ (live : Live P). live.row < count old.rows) old.live.items (number - old.committed) p.changed.was below r.rows) in
        let rows : All (λ (live : Live P). live.row < count old.rows) new.live.items = subst (λ (ls : List (Live P)). All (λ (live : Live P). live.row < count old.rows) ls) (sym new_live) (All-set (λ (live : Live P). live.row < count old.rows) old.live.items (number - old.committed) p.changed.is row r.rows) in
        let order : new.unfinished.items ≡ numbers old.committed (set slots (index_at place slots) is) =
        p.items ∙ ap (λ (v : List ℕ). if is_end answer then remove v place else v) (ap (λ (x : Running P R). x.unfinished.items) p.rest ∙ r.order) ∙ sym (by_end (is_end answer) flag) in
        record {
          processes = subst (λ (ls : List (Live P)). All (λ (live : Live P). is_of live.process) ls) (sym new_live) (All-set (λ (live : Live P). is_of live.process) old.live.items (number - old.committed) p.changed.is p.changed.how.belongs r.processes);
          entry = subst is_of (sym entry) r.entry;
          rows = subst (λ (n : ℕ). All (λ (live : Live P). live.row < n) new.live.items) (sym count_is) rows;
          own_rows = subst HaveOwnRows (sym new_live) (rows_set old.live.items (number - old.committed) p.changed.was p.changed.is r.own_rows below p.changed.stood p.changed.how.row);
          order = order ∙ ap (numbers old.committed) (sym (lives_are old mid new place number s s' answer r f p)) ∙ ap (λ (n : ℕ). numbers n (live_of meant own new)) (sym committed);
          begun = (let k = r.begun in omega (arith, k, long, committed, begun));
          window = (let k = r.window in omega (arith, k, long, window));
          numbers = (let k = r.numbers in rw (begun, left) k);
          full = λ l. (let k : length old.live.items ≡ old.window = r.full (subst (λ (n : ℕ). 0 < n) left l) in omega (arith, k, long, window));
          room = rw (window, deque, p.room) r.room;
          places = rw (window, p.places, items) r.places;
        }
      where
        by_end : (t : Bool) → (iteration_of meant (own mid.rows) old.variable p.changed.is).finished ≡ t → numbers old.committed (set (live_of meant own old) (index_at place (live_of meant own old)) (iteration_of meant (own mid.rows) old.variable p.changed.is)) ≡ (if t then remove (numbers old.committed (live_of meant own old)) place else numbers old.committed (live_of meant own old))
        by_end true h = numbers_done old.committed (live_of meant own old) place (iteration_of meant (own mid.rows) old.variable p.changed.is) f.within h
        by_end false h = numbers_going old.committed (live_of meant own old) place (iteration_of meant (own mid.rows) old.variable p.changed.is) f.within h

    -- where there was a fault, nothing has changed
    pub stays_at : (old mid new : Running P R) (place number : ℕ) (s s' : List ℤ) (answer : Asked F) → HoldsTogether is_of meant count own old → Found old place number → Picked old mid new place number s s' answer → is_fault answer ≡ true →
        (live_of meant own new ≡ live_of meant own old) × (new.unfinished.items ≡ old.unfinished.items) × (s' ≡ s)
    stays_at old mid new place number s s' answer r f p h =
        let at = index_at place (live_of meant own old) in
        let is = iteration_of meant (own mid.rows) old.variable p.changed.is in
        let was = iteration_of meant (own old.rows) old.variable p.changed.was in
        let same : is ≡ get_or (live_of meant own old) at was = (p.changed.how.stays h).0 ∙ sym (was_at old mid new place number s s' answer f p was) in (
          lives_are old mid new place number s s' answer r f p ∙ ap (λ (x : Iteration (Owner M ℤ) ℤ). set (live_of meant own old) at x) same ∙ set_get (live_of meant own old) at was,
          p.items ∙ keeps answer h ∙ ap (λ (x : Running P R). x.unfinished.items) p.rest,
          (p.changed.how.stays h).1,
        )
      where
        set_get : (xs : List (Iteration (Owner M ℤ) ℤ)) (at : ℕ) (d : Iteration (Owner M ℤ) ℤ) → set xs at (get_or xs at d) ≡ xs
        set_get [] at d = refl
        set_get (x ∷ xs) zero d = refl
        set_get (x ∷ xs) (suc at) d = ap (λ ys. x ∷ ys) (set_get xs at d)

        keeps : (answer : Asked F) → is_fault answer ≡ true → (if is_end answer then remove mid.unfinished.items place else mid.unfinished.items) ≡ mid.unfinished.items
        keeps (Reads a by) e = refl
        keeps (Writes a v by) e = refl
        keeps Moves e = refl
        keeps Ends e = absurd (cc)
        keeps (Faults g) e = refl
