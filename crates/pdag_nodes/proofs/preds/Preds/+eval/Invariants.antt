use Rattle.std.proofs.Common.{◌≡◌, ◌+◌, ◌*◌, ◌≤◌, max, true}
use Rattle.sym_lmad.specs.Gain.{at_index}
use Rattle.pdag_nodes.specs.Nodes.{meaning_of, truth_of}
use Rattle.pdag_nodes.specs.Steps.{SameButIndex}
use Rattle.pdag_nodes.specs.Turns.{each_to, sum_to}
use Rattle.pdag_nodes.proofs.preds.Preds.+eval.Given as goal

abbrev pub decreases-eval : goal.decreases-eval
decreases-eval g l = 8 * l.id + 7

abbrev pub decreases-judge : goal.decreases-judge
decreases-judge g l = 8 * l.id + 6

abbrev pub decreases-both : goal.decreases-both
decreases-both g l = 8 * max l.first l.second + 8

abbrev pub decreases-either : goal.decreases-either
decreases-either g l = 8 * max l.first l.second + 8

abbrev pub decreases-every : goal.decreases-every
decreases-every g l = 8 * l.body + 9

abbrev pub decreases-each_turn : goal.decreases-each_turn
decreases-each_turn g l = 8 * l.body + 8

abbrev pub invariant-each_turn-loop-turn : goal.invariant-each_turn-loop-turn
invariant-each_turn-loop-turn g l = record {
  kept : SameButIndex l.index l.initial.env l.env;
  values : g.C.Cells.values l.cells ≡ g.C.Cells.values l.initial.cells;
  test : g.C.Cells.may_get l.cells ≡ g.C.Cells.may_get l.initial.cells;
  reads : g.C.Cells.reads l.cells ≤ g.C.Cells.reads l.initial.cells + sum_to l.turn (λ i. (meaning_of (g.C.Cells.values l.initial.cells) l.self l.body (at_index l.initial.env l.index i)).reads);
  held : each_to l.turn (λ i. truth_of (g.C.Cells.values l.initial.cells) l.self l.body (at_index l.initial.env l.index i)) ≡ true;
}
