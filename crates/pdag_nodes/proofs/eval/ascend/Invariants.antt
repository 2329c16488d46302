use Rattle.std.proofs.Common.{◌≡◌, ◌+◌, ◌≤◌, Some}
use Rattle.pdag_nodes.specs.Steps.{windows_of, window_reads, SameButIndex}
use Rattle.pdag_nodes.specs.Turns.{sum_to}
use Rattle.pdag_nodes.specs.Windows.{passed_to}
use Rattle.pdag_nodes.proofs.eval.ascend.Given as goal

abbrev pub invariant-loop-turn : goal.invariant-loop-turn
invariant-loop-turn g l = record {
  kept : SameButIndex l.index l.initial.env l.env;
  values : g.C.Cells.values l.cells ≡ g.C.Cells.values l.initial.cells;
  test : g.C.Cells.may_get l.cells ≡ g.C.Cells.may_get l.initial.cells;
  reads : g.C.Cells.reads l.cells ≤ g.C.Cells.reads l.initial.cells + sum_to l.turn (λ _. window_reads l.low l.high);
  last : passed_to l.rising (windows_of l.initial.env (g.C.Cells.values l.initial.cells) l.index l.low l.high) l.turn ≡ Some l.last;
}
