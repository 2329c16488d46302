use Rattle.std.proofs.Common.{◌+◌, ◌<◌, ◌≡◌, All, length, false, vec_capacity}
use Rattle.std.specs.VecDeque.{deque_capacity}
use Rattle.region_run.specs.Running.{pending_of, rest_of, HoldsTogether, is_first_finished}
use Rattle.region_run.proofs.running.Running.begin.Given as goal

abbrev pub invariant-loop-row : goal.invariant-loop-row
invariant-loop-row g l = record {
  together : HoldsTogether (g.P.Asks.is_of l.program) g.P.Asks.meant g.R.Rows.count g.R.Rows.own l.running;
  settled : is_first_finished l.running.live.items ≡ false;
  below : All (λ live. live.row < l.row) l.running.live.items;
  full : length l.running.live.items ≡ l.running.window;
  pending : pending_of g.P.Asks.meant (g.P.Asks.start l.program) g.R.Rows.own l.running ≡ rest_of (g.P.Asks.start l.program (g.P.Asks.meant l.entry)) l.variable l.trips 0;
  window : l.running.window ≡ l.row;
  left : l.running.left + l.row ≡ l.trips;
  begun : l.running.begun ≡ l.row;
  none_committed : l.running.committed ≡ 0;
  same_entry : g.P.Asks.meant l.running.entry ≡ g.P.Asks.meant l.entry;
  same_rows : l.running.rows ≡ l.fn.rows;
  same_variable : l.running.variable ≡ l.variable;
  room : deque_capacity l.running.live ≡ l.window;
  places : vec_capacity l.running.unfinished ≡ l.window;
}
