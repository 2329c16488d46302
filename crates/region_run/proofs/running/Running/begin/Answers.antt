use Rattle.std.proofs.Common.{ℕ, ℤ, List, ap₂, arith}
use Rattle.interleaving.specs.OwnCells.{Owner}
use Rattle.interleaving.specs.Region.{Iteration}
use Rattle.region_run.specs.Machine.{store_of_cells}
use Rattle.region_run.proofs.running.Running.begin.Goals as goal

pub returns : goal.returns
returns g c = record {
  is_running = record {
    together = c.loop-row.invariant.together;
    settled = c.loop-row.invariant.settled;
    wide = (let w = c.loop-row.invariant.window in let a = c.loop-row.auto.row-end in let b = c.loop-row-test.false in let r = c.requires.wide in omega (arith, w, a, b, r));
  };
  is_begun = λ values. ap₂ (λ (n : ℕ) (its : List (Iteration (Owner g.P.Asks.Meant ℤ) ℤ)). record { committed = n; store = store_of_cells values; pending = its }) c.loop-row.invariant.none_committed c.loop-row.invariant.pending;
  same_entry = c.loop-row.invariant.same_entry;
  same_variable = c.loop-row.invariant.same_variable;
  same_trips = (let l = c.loop-row.invariant.left in let b = c.loop-row.invariant.begun in omega (arith, l, b));
  same_window = (let w = c.loop-row.invariant.window in let a = c.loop-row.auto.row-end in let b = c.loop-row-test.false in omega (arith, w, a, b));
  same_rows = c.loop-row.invariant.same_rows;
}
