-- The window grows, and the next iteration begins.
use Rattle.std.proofs.Common.{ℕ, suc, ℤ, ◌+◌, ◌-◌, ◌<◌, ◌≡◌, ◌≢◌, true, false, List, [], ◌∷◌, ◌++◌, length, get_or, Option, refl, sym, ap, ◌∙◌, subst, arith, All, vec_capacity, length-append}
use Rattle.std.proofs.lemmas.List.Elements.{All-append}
use Rattle.std.specs.VecDeque.{deque_capacity}
use Rattle.hyb_base.specs.declared.ops.RedOp.{RedOp}
use Rattle.interleaving.specs.Modes.{Mode}
use Rattle.interleaving.specs.OwnCells.{Owner, Start}
use Rattle.interleaving.specs.Region.{Iteration}
use Rattle.region_run.specs.declared.live.Live.{Live}
use Rattle.region_run.specs.declared.running.Running.{Running}
use Rattle.region_run.specs.Running.{pending_of, HoldsTogether, Began, Grew, is_first_finished}
use Rattle.region_run.proofs.Commits.{Between, running_next, slots_began}
use Rattle.region_run.proofs.Turns.{All-one}

module _ {P R M : Type 0} (is_of : P → Type 0) (meant : P → M) (start : M → ℕ → Start M ℤ) (modes : R → ℕ → Mode RedOp) (count : R → ℕ) (own : R → ℕ → ℕ → Option ℤ) where
  below_apart : (row : ℕ) (lives : List (Live P)) → All (λ (live : Live P). live.row < row) lives → All (λ (other : Live P). other.row ≢ row) lives
  below_apart row lives h = λ k d l. let b : (get_or lives k d).row < row = h k d l in λ e. omega (arith, b, e)

  below_more : (row : ℕ) (lives : List (Live P)) → All (λ (live : Live P). live.row < row) lives → All (λ (live : Live P). live.row < row + 1) lives
  below_more row lives h = λ k d l. let b : (get_or lives k d).row < row = h k d l in omega (arith, b)

  first_going : (lives : List (Live P)) (next : Live P) → is_first_finished lives ≡ false → next.finished ≡ false → is_first_finished (lives ++ next ∷ []) ≡ false
  first_going [] next e f = f
  first_going (live ∷ more) next e f = e

  pub grew : (first : Live P) (old mid new : Running P R) → first.finished ≡ true → is_of first.process → mid ≡ record old { window = old.window + 1 } → HoldsTogether is_of meant count own old → is_first_finished old.live.items ≡ false → 0 < old.left →
      All (λ (live : Live P). live.row < first.row) old.live.items → first.row < count old.rows → length old.live.items ≡ old.window → old.window < deque_capacity old.live → old.window < vec_capacity old.unfinished →
      (0 < mid.left → Began is_of meant start own first.row mid new) → Grew is_of meant start count own first.row old new
  grew first old mid new done process is r going more below row full room places began =
      let left : mid.left ≡ old.left = ap (λ (x : Running P R). x.left) is in
      let lives : mid.live ≡ old.live = ap (λ (x : Running P R). x.live) is in
      let items : mid.live.items ≡ old.live.items = ap (λ (x : Running P R). x.live.items) is in
      let rows : mid.rows ≡ old.rows = ap (λ (x : Running P R). x.rows) is in
      let variable : mid.variable ≡ old.variable = ap (λ (x : Running P R). x.variable) is in
      let begun : mid.begun ≡ old.begun = ap (λ (x : Running P R). x.begun) is in
      let window : mid.window ≡ old.window + 1 = ap (λ (x : Running P R). x.window) is in
      let whole : HoldsTogether is_of meant count own old = r in
      let b : Between is_of meant start modes count own first old mid = subst (λ (x : Running P R). Between is_of meant start modes count own first old x) (sym is) (record {
        done = done;
        processes = r.processes;
        entry = r.entry;
        rows = r.rows;
        row = row;
        process = process;
        own_rows = r.own_rows;
        apart = below_apart first.row old.live.items below;
        same = refl;
        order = r.order;
        begun = r.begun;
        window = omega (arith, full);
        numbers = r.numbers;
        full = λ l. omega (arith, full);
        room = omega (arith, room);
        places = omega (arith, places);
      }) in
      let m : 0 < mid.left = subst (λ (n : ℕ). 0 < n) (sym left) more in
      let k : Began is_of meant start own first.row mid new = began m in
      let n : mid.left ≡ suc (mid.left - 1) = omega arith in
      let new_rows : new.rows ≡ mid.rows = ap (λ (x : Running P R). x.rows) k.rest in
      let new_window : new.window ≡ mid.window = ap (λ (x : Running P R). x.window) k.rest in
      let new_variable : new.variable ≡ mid.variable = ap (λ (x : Running P R). x.variable) k.rest in
      let longer : length new.live.items ≡ length mid.live.items + 1 = ap length k.live ∙ length-append mid.live.items (k.next ∷ []) in
      let unfinished : k.next.finished ≡ false = ap (λ (x : Iteration (Owner M ℤ) ℤ). x.finished) k.slot in
      let all : All (λ (live : Live P). live.row < first.row + 1) (old.live.items ++ k.next ∷ []) = All-append (λ (live : Live P). live.row < first.row + 1) old.live.items (k.next ∷ []) (below_more first.row old.live.items below) (All-one (λ (live : Live P). live.row < first.row + 1) k.next (let e = k.same_row in omega (arith, e))) in
      let new_items : new.live.items ≡ old.live.items ++ k.next ∷ [] = k.live ∙ ap (λ (ls : List (Live P)). ls ++ k.next ∷ []) items in
      record {
        together = running_next is_of meant start modes count own first old mid new b m k;
        settled = subst (λ (ls : List (Live P)). is_first_finished ls ≡ false) (sym new_items) (first_going old.live.items k.next going unfinished);
        below = subst (λ (ls : List (Live P)). All (λ (live : Live P). live.row < first.row + 1) ls) (sym new_items) all;
        full = (let e : length mid.live.items ≡ length old.live.items = ap length items in omega (arith, e, longer, full, window, new_window));
        pending = slots_began is_of meant start modes count own first.row (mid.left - 1) mid new k n ∙ ap (λ (x : Running P R). pending_of meant start own (record x { window = old.window })) is;
        window = new_window ∙ window;
        left = (let e = k.left in e ∙ left);
        begun = k.begun ∙ ap (λ (n : ℕ). n + 1) begun;
        same_committed = ap (λ (x : Running P R). x.committed) k.rest ∙ ap (λ (x : Running P R). x.committed) is;
        same_entry = ap (λ (x : Running P R). x.entry) k.rest ∙ ap (λ (x : Running P R). x.entry) is;
        same_rows = new_rows ∙ rows;
        same_variable = new_variable ∙ variable;
        room = k.room ∙ ap (λ (x : Running P R). deque_capacity x.live) is;
        places = k.places ∙ ap (λ (x : Running P R). vec_capacity x.unfinished) is;
      }
