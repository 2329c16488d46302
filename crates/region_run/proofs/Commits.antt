-- The first iteration is committed, and the next begins in its row.
use Rattle.std.proofs.Common.{ℕ, zero, suc, ℤ, ◌+◌, ◌^◌, ◌<◌, ◌≤◌, ◌≡◌, ◌≢◌, true, false, List, [], ◌∷◌, ◌++◌, length, map, Option, refl, sym, ap, ◌∙◌, subst, arith, add-one, All, vec_capacity, length-append, append_assoc}
use Rattle.std.proofs.lemmas.List.{map-append, length-map}
use Rattle.std.proofs.lemmas.List.Elements.{All-append}
use Rattle.std.specs.VecDeque.{deque_capacity}
use Rattle.hyb_base.specs.declared.ops.RedOp.{RedOp}
use Rattle.interleaving.specs.Machine.{Event, Store}
use Rattle.interleaving.specs.Modes.{Mode}
use Rattle.interleaving.specs.OwnCells.{Owner, Start, with_own}
use Rattle.interleaving.specs.Region.{Iteration, Region, settled}
use Rattle.region_run.specs.declared.live.Live.{Live}
use Rattle.region_run.specs.declared.running.Running.{Running}
use Rattle.region_run.specs.Live.{iteration_of}
use Rattle.region_run.specs.Machine.{machine_of}
use Rattle.region_run.specs.Places.{numbers}
use Rattle.region_run.specs.Running.{HaveOwnRows, rest_of, live_of, pending_of, HoldsTogether, Committed, Began, is_first_finished}
use Rattle.region_run.proofs.Places.{numbers_fit, numbers_more}
use Rattle.region_run.proofs.Turns.{All-tail, All-head, All-one, map_others, rows_more, settled_first, settled_going}

module _ {P R M : Type 0} (is_of : P → Type 0) (meant : P → M) (start : M → ℕ → Start M ℤ) (modes : R → ℕ → Mode RedOp) (count : R → ℕ) (own : R → ℕ → ℕ → Option ℤ) where
  -- what is true once the first iteration is committed, and the next hasn't begun
  pub record Between (first : Live P) (old mid : Running P R) : Type 0 where
    pub done : first.finished ≡ true
    pub processes : All (λ (live : Live P). is_of live.process) mid.live.items
    pub entry : is_of mid.entry
    pub rows : All (λ (live : Live P). live.row < count mid.rows) mid.live.items
    pub row : first.row < count mid.rows
    pub process : is_of first.process
    pub own_rows : HaveOwnRows mid.live.items
    pub apart : All (λ (other : Live P). other.row ≢ first.row) mid.live.items
    pub same : live_of meant own mid ≡ map (iteration_of meant (own old.rows) old.variable) mid.live.items
    pub order : mid.unfinished.items ≡ numbers mid.committed (live_of meant own mid)
    pub begun : mid.begun ≡ mid.committed + length mid.live.items
    pub window : length mid.live.items + 1 ≤ mid.window
    pub numbers : mid.begun + mid.left < 2 ^ 64
    pub full : 0 < mid.left → length mid.live.items + 1 ≡ mid.window
    pub room : mid.window ≤ deque_capacity mid.live
    pub places : mid.window ≤ vec_capacity mid.unfinished

  pub between : (first : Live P) (old mid : Running P R) (s s' : Store ℤ) → HoldsTogether is_of meant count own old → Committed modes own first old mid s s' → count mid.rows ≡ count old.rows → is_first_finished old.live.items ≡ true → Between first old mid
  between first old mid s s' r c counts f =
      let done : first.finished ≡ true = subst (λ (items : List (Live P)). is_first_finished items ≡ true) c.live f in
      let processes : All (λ (live : Live P). is_of live.process) (first ∷ mid.live.items) = subst (λ (items : List (Live P)). All (λ (live : Live P). is_of live.process) items) c.live r.processes in
      let rows : All (λ (live : Live P). live.row < count old.rows) (first ∷ mid.live.items) = subst (λ (items : List (Live P)). All (λ (live : Live P). live.row < count old.rows) items) c.live r.rows in
      let rows' : All (λ (live : Live P). live.row < count mid.rows) (first ∷ mid.live.items) = subst (λ (n : ℕ). All (λ (live : Live P). live.row < n) (first ∷ mid.live.items)) (sym counts) rows in
      let own_rows : HaveOwnRows (first ∷ mid.live.items) = subst HaveOwnRows c.live r.own_rows in
      let variable : mid.variable ≡ old.variable = ap (λ (x : Running P R). x.variable) c.rest in
      let left : mid.left ≡ old.left = ap (λ (x : Running P R). x.left) c.rest in
      let begun : mid.begun ≡ old.begun = ap (λ (x : Running P R). x.begun) c.rest in
      let window : mid.window ≡ old.window = ap (λ (x : Running P R). x.window) c.rest in
      let entry : mid.entry ≡ old.entry = ap (λ (x : Running P R). x.entry) c.rest in
      let unfinished : mid.unfinished ≡ old.unfinished = ap (λ (x : Running P R). x.unfinished) c.rest in
      let more : length old.live.items ≡ suc (length mid.live.items) = ap length c.live in
      let same : live_of meant own mid ≡ map (iteration_of meant (own old.rows) old.variable) mid.live.items = rw variable (map_others meant (own old.rows) (own mid.rows) old.variable first.row mid.live.items own_rows.0 c.others) in
      let order : old.unfinished.items ≡ numbers old.committed (map (iteration_of meant (own old.rows) old.variable) (first ∷ mid.live.items)) = r.order ∙ ap (λ (items : List (Live P)). numbers old.committed (map (iteration_of meant (own old.rows) old.variable) items)) c.live in
      let rest : numbers old.committed (map (iteration_of meant (own old.rows) old.variable) (first ∷ mid.live.items)) ≡ numbers (suc old.committed) (map (iteration_of meant (own old.rows) old.variable) mid.live.items) = rw done refl in
      let next : mid.committed ≡ suc old.committed = c.count ∙ add-one old.committed in
      record {
        done = done;
        processes = All-tail (λ (live : Live P). is_of live.process) first mid.live.items processes;
        entry = subst is_of (sym entry) r.entry;
        rows = All-tail (λ (live : Live P). live.row < count mid.rows) first mid.live.items rows';
        row = All-head (λ (live : Live P). live.row < count mid.rows) first mid.live.items rows';
        process = All-head (λ (live : Live P). is_of live.process) first mid.live.items processes;
        own_rows = own_rows.1;
        apart = own_rows.0;
        same = same;
        order = ap (λ (x : Running P R). x.unfinished.items) c.rest ∙ order ∙ rest ∙ ap (λ (n : ℕ). numbers n (map (iteration_of meant (own old.rows) old.variable) mid.live.items)) (sym next) ∙ ap (numbers mid.committed) (sym same);
        begun = (let b = r.begun in omega (arith, b, begun, more, next));
        window = (let b = r.window in omega (arith, b, window, more));
        numbers = (let b = r.numbers in rw (begun, left) b);
        full = λ l. (let b : length old.live.items ≡ old.window = r.full (subst (λ (n : ℕ). 0 < n) left l) in omega (arith, b, window, more));
        room = rw (window, c.room) r.room;
        places = rw (window, unfinished) r.places;
      }

  pub room_for : (first : Live P) (old mid : Running P R) → Between first old mid → length mid.unfinished.items < vec_capacity mid.unfinished
  room_for first old mid b =
      let fits : length (numbers mid.committed (live_of meant own mid)) ≤ length (live_of meant own mid) = numbers_fit mid.committed (live_of meant own mid) in
      let o : length mid.unfinished.items ≡ length (numbers mid.committed (live_of meant own mid)) = ap length b.order in
      let l : length (live_of meant own mid) ≡ length mid.live.items = length-map mid.live.items (iteration_of meant (own mid.rows) mid.variable) in
      omega arith

  -- no iteration is left to begin
  pub running_last : (first : Live P) (old mid : Running P R) → Between first old mid → mid.left ≡ 0 → HoldsTogether is_of meant count own mid
  running_last first old mid b z = record {
    processes = b.processes;
    entry = b.entry;
    rows = b.rows;
    own_rows = b.own_rows;
    order = b.order;
    begun = b.begun;
    window = (let k = b.window in omega (arith, k));
    numbers = b.numbers;
    full = λ l. absurd (omega (arith, l, z));
    room = b.room;
    places = b.places;
  }

  -- the next one has begun
  pub running_next : (first : Live P) (old mid new : Running P R) → Between first old mid → 0 < mid.left → Began is_of meant start own first.row mid new → HoldsTogether is_of meant count own new
  running_next first old mid new b more n =
      let rows_are : new.rows ≡ mid.rows = ap (λ (x : Running P R). x.rows) n.rest in
      let variable : new.variable ≡ mid.variable = ap (λ (x : Running P R). x.variable) n.rest in
      let window : new.window ≡ mid.window = ap (λ (x : Running P R). x.window) n.rest in
      let entry : new.entry ≡ mid.entry = ap (λ (x : Running P R). x.entry) n.rest in
      let committed : new.committed ≡ mid.committed = ap (λ (x : Running P R). x.committed) n.rest in
      let longer : length new.live.items ≡ length mid.live.items + 1 = ap length n.live ∙ length-append mid.live.items (n.next ∷ []) in
      let row : n.next.row < count mid.rows = subst (λ (k : ℕ). k < count mid.rows) (sym n.same_row) b.row in
      let rows : All (λ (live : Live P). live.row < count mid.rows) (mid.live.items ++ n.next ∷ []) = All-append (λ (live : Live P). live.row < count mid.rows) mid.live.items (n.next ∷ []) b.rows (All-one (λ (live : Live P). live.row < count mid.rows) n.next row) in
      let slot = iteration_of meant (own new.rows) new.variable n.next in
      let going : slot.finished ≡ false = ap (λ (x : Iteration (Owner M ℤ) ℤ). x.finished) n.slot in
      let lives : live_of meant own new ≡ live_of meant own mid ++ slot ∷ [] =
      ap (map (iteration_of meant (own new.rows) new.variable)) n.live
      ∙ map-append (iteration_of meant (own new.rows) new.variable) mid.live.items (n.next ∷ [])
      ∙ ap (λ (slots : List (Iteration (Owner M ℤ) ℤ)). slots ++ slot ∷ []) (rw (rows_are, variable) refl) in
      let count_of : length (live_of meant own mid) ≡ length mid.live.items = length-map mid.live.items (iteration_of meant (own mid.rows) mid.variable) in
      record {
        processes = subst (λ (items : List (Live P)). All (λ (live : Live P). is_of live.process) items) (sym n.live) (All-append (λ (live : Live P). is_of live.process) mid.live.items (n.next ∷ []) b.processes (All-one (λ (live : Live P). is_of live.process) n.next n.belongs));
        entry = subst is_of (sym entry) b.entry;
        rows = subst (λ (items : List (Live P)). All (λ (live : Live P). live.row < count new.rows) items) (sym n.live) (subst (λ (rs : R). All (λ (live : Live P). live.row < count rs) (mid.live.items ++ n.next ∷ [])) (sym rows_are) rows);
        own_rows = subst HaveOwnRows (sym n.live) (rows_more mid.live.items first.row n.next b.own_rows b.apart n.same_row);
        order = n.unfinished
            ∙ ap (λ (ns : List ℕ). ns ++ mid.begun ∷ []) b.order
            ∙ ap (λ (k : ℕ). numbers mid.committed (live_of meant own mid) ++ k ∷ []) (b.begun ∙ ap (λ (k : ℕ). mid.committed + k) (sym count_of))
            ∙ sym (numbers_more mid.committed (live_of meant own mid) slot going)
            ∙ ap (numbers mid.committed) (sym lives)
            ∙ ap (λ (k : ℕ). numbers k (live_of meant own new)) (sym committed);
        begun = (let k = b.begun in let j = n.begun in omega (arith, k, j, longer, committed));
        window = (let k = b.window in omega (arith, k, longer, window));
        numbers = (let k = b.numbers in let j = n.begun in let i = n.left in omega (arith, k, j, i));
        full = λ l. (let k : length mid.live.items + 1 ≡ mid.window = b.full more in omega (arith, k, longer, window));
        room = rw (window, n.room) b.room;
        places = rw (window, n.places) b.places;
      }

  pub running_then : (first : Live P) (old mid new : Running P R) → Between first old mid → (mid.left ≡ 0 → new ≡ mid) → (0 < mid.left → Began is_of meant start own first.row mid new) → HoldsTogether is_of meant count own new
  running_then first old mid new b none began = go mid.left refl
    where
      go : (n : ℕ) → mid.left ≡ n → HoldsTogether is_of meant count own new
      go zero z = subst (HoldsTogether is_of meant count own) (sym (none z)) (running_last first old mid b z)
      go (suc n) z = let more : 0 < mid.left = subst (λ (i : ℕ). 0 < i) (sym z) (omega arith) in running_next first old mid new b more (began more)

  -- where the next one has begun, all stand for what they stood for
  pub slots_began : (row n : ℕ) (mid new : Running P R) → Began is_of meant start own row mid new → mid.left ≡ suc n → pending_of meant start own new ≡ pending_of meant start own mid
  slots_began row n mid new k z =
      let rows_are : new.rows ≡ mid.rows = ap (λ (x : Running P R). x.rows) k.rest in
      let variable : new.variable ≡ mid.variable = ap (λ (x : Running P R). x.variable) k.rest in
      let entry : new.entry ≡ mid.entry = ap (λ (x : Running P R). x.entry) k.rest in
      let left : new.left ≡ n = (let i = k.left in omega (arith, i, z)) in
      let begun : new.begun ≡ suc mid.begun = k.begun ∙ add-one mid.begun in
      let slot = iteration_of meant (own new.rows) new.variable k.next in
      let lives : live_of meant own new ≡ live_of meant own mid ++ slot ∷ [] =
      ap (map (iteration_of meant (own new.rows) new.variable)) k.live
      ∙ map-append (iteration_of meant (own new.rows) new.variable) mid.live.items (k.next ∷ [])
      ∙ ap (λ (slots : List (Iteration (Owner M ℤ) ℤ)). slots ++ slot ∷ []) (rw (rows_are, variable) refl) in
      let rests : rest_of (start (meant new.entry)) new.variable new.left new.begun ≡ rest_of (start (meant mid.entry)) mid.variable n (suc mid.begun) = rw (entry, variable, left, begun) refl in
      let whole : rest_of (start (meant mid.entry)) mid.variable mid.left mid.begun ≡ slot ∷ rest_of (start (meant mid.entry)) mid.variable n (suc mid.begun) = ap (λ (i : ℕ). rest_of (start (meant mid.entry)) mid.variable i mid.begun) z ∙ ap (λ (x : Iteration (Owner M ℤ) ℤ). x ∷ rest_of (start (meant mid.entry)) mid.variable n (suc mid.begun)) (sym k.slot) in
      ap (λ (slots : List (Iteration (Owner M ℤ) ℤ)). slots ++ rest_of (start (meant new.entry)) new.variable new.left new.begun) lives
      ∙ ap (λ (slots : List (Iteration (Owner M ℤ) ℤ)). (live_of meant own mid ++ slot ∷ []) ++ slots) rests
      ∙ append_assoc (live_of meant own mid) (slot ∷ []) (rest_of (start (meant mid.entry)) mid.variable n (suc mid.begun))
      ∙ ap (λ (slots : List (Iteration (Owner M ℤ) ℤ)). live_of meant own mid ++ slots) (sym whole)

  module _ (event : M → Event RedOp ℤ) (resumed : M → ℤ → M) (done : M → M) where
    abbrev settles : (ℕ → Mode RedOp) → (committed : ℕ) → Store ℤ → List (Iteration (Owner M ℤ) ℤ) → Region (Owner M ℤ) ℤ
    settles ms c s slots = settled (with_own (machine_of event resumed done)) ms c s slots

    -- what is left behind the first
    behind : (first : Live P) (old mid new : Running P R) → Between first old mid → mid ≡ record old { live = mid.live; rows = mid.rows; committed = mid.committed } → (mid.left ≡ 0 → new ≡ mid) → (0 < mid.left → Began is_of meant start own first.row mid new) →
        pending_of meant start own new ≡ map (iteration_of meant (own old.rows) old.variable) mid.live.items ++ rest_of (start (meant old.entry)) old.variable old.left old.begun
    behind first old mid new b rest none began =
        let variable : mid.variable ≡ old.variable = ap (λ (x : Running P R). x.variable) rest in
        let left : mid.left ≡ old.left = ap (λ (x : Running P R). x.left) rest in
        let begun : mid.begun ≡ old.begun = ap (λ (x : Running P R). x.begun) rest in
        let entry : mid.entry ≡ old.entry = ap (λ (x : Running P R). x.entry) rest in
        let same : pending_of meant start own mid ≡ map (iteration_of meant (own old.rows) old.variable) mid.live.items ++ rest_of (start (meant old.entry)) old.variable old.left old.begun =
        ap (λ (slots : List (Iteration (Owner M ℤ) ℤ)). slots ++ rest_of (start (meant mid.entry)) mid.variable mid.left mid.begun) b.same ∙ rw (variable, left, begun, entry) refl in
        by_left mid.left refl ∙ same
      where
        by_left : (n : ℕ) → mid.left ≡ n → pending_of meant start own new ≡ pending_of meant start own mid
        by_left zero z = ap (pending_of meant start own) (none z)
        by_left (suc n) z = slots_began first.row n mid new (began (subst (λ (i : ℕ). 0 < i) (sym z) (omega arith))) z

    pub settled_more : (first : Live P) (old mid new : Running P R) (s s' : Store ℤ) → Committed modes own first old mid s s' → Between first old mid → (mid.left ≡ 0 → new ≡ mid) → (0 < mid.left → Began is_of meant start own first.row mid new) →
        settles (modes old.rows) old.committed s (pending_of meant start own old) ≡ settles (modes old.rows) new.committed s' (pending_of meant start own new)
    settled_more first old mid new s s' c b none began =
        ap (λ (items : List (Live P)). settles (modes old.rows) old.committed s (map (iteration_of meant (own old.rows) old.variable) items ++ rest_of (start (meant old.entry)) old.variable old.left old.begun)) c.live
        ∙ settled_first event resumed done (modes old.rows) old.committed new.committed s s' (iteration_of meant (own old.rows) old.variable first) (map (iteration_of meant (own old.rows) old.variable) mid.live.items ++ rest_of (start (meant old.entry)) old.variable old.left old.begun) (pending_of meant start own new) b.done c.store (behind first old mid new b c.rest none began) (counts_on mid.left refl ∙ c.count ∙ add-one old.committed)
      where
        counts_on : (n : ℕ) → mid.left ≡ n → new.committed ≡ mid.committed
        counts_on zero z = ap (λ (x : Running P R). x.committed) (none z)
        counts_on (suc n) z = ap (λ (x : Running P R). x.committed) (began (subst (λ (i : ℕ). 0 < i) (sym z) (omega arith))).rest

    -- where the first one isn't finished, none is committed
    pub settled_stays : (modes' : ℕ → Mode RedOp) (old : Running P R) (s : Store ℤ) → is_first_finished old.live.items ≡ false → settles modes' old.committed s (pending_of meant start own old) ≡ record { committed = old.committed; store = s; pending = pending_of meant start own old }
    settled_stays modes' old s h = go old.live.items old.left h
      where
        go : (its : List (Live P)) (n : ℕ) → is_first_finished its ≡ false → settles modes' old.committed s (map (iteration_of meant (own old.rows) old.variable) its ++ rest_of (start (meant old.entry)) old.variable n old.begun) ≡ record { committed = old.committed; store = s; pending = map (iteration_of meant (own old.rows) old.variable) its ++ rest_of (start (meant old.entry)) old.variable n old.begun }
        go [] zero f = refl
        go [] (suc n) f = refl
        go (it ∷ more) n f = settled_going event resumed done modes' old.committed s (iteration_of meant (own old.rows) old.variable it) (map (iteration_of meant (own old.rows) old.variable) more ++ rest_of (start (meant old.entry)) old.variable n old.begun) f
