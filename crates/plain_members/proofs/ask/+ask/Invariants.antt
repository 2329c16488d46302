use Rattle.std.proofs.Common.{◌≡◌, ◌+◌, ◌*◌, max, pos}
use Rattle.plain_members.specs.declared.told.Told.TheVariants.{Out}
use Rattle.plain_members.specs.Asked.{AnswersOver}
use Rattle.usr_graph.specs.Choice.{near_worth}
use Rattle.plain_members.proofs.ask.+ask.Given as goal

abbrev pub decreases-ask : goal.decreases-ask
decreases-ask g l = 8 * l.id + 7

abbrev pub decreases-ask_node : goal.decreases-ask_node
decreases-ask_node g l = 8 * l.id + 6

abbrev pub decreases-of_either : goal.decreases-of_either
decreases-of_either g l = 8 * max l.first l.second + 8

abbrev pub decreases-of_both : goal.decreases-of_both
decreases-of_both g l = 8 * max l.first l.second + 8

abbrev pub decreases-of_first : goal.decreases-of_first
decreases-of_first g l = 8 * max l.first l.second + 9

abbrev pub decreases-not_of : goal.decreases-not_of
decreases-not_of g l = 8 * l.id + 8

abbrev pub decreases-where_holds : goal.decreases-where_holds
decreases-where_holds g l = 8 * l.body + 8

abbrev pub decreases-over_count : goal.decreases-over_count
decreases-over_count g l = 8 * l.body + 10

abbrev pub decreases-below_limit : goal.decreases-below_limit
decreases-below_limit g l = 8 * l.body + 10

abbrev pub decreases-each_turn : goal.decreases-each_turn
decreases-each_turn g l = 8 * l.body + 9

abbrev pub decreases-ask_at : goal.decreases-ask_at
decreases-ask_at g l = 8 * l.body + 8

abbrev pub invariant-each_turn-loop-turn : goal.invariant-each_turn-loop-turn
invariant-each_turn-loop-turn g l = record {
  kept : l.env ≡ l.initial.env;
  values : g.C.Cells.values l.cells ≡ g.C.Cells.values l.initial.cells;
  test : g.C.Cells.may_get l.cells ≡ g.C.Cells.may_get l.initial.cells;
  none : AnswersOver (near_worth l.initial.env (g.C.Cells.values l.initial.cells)) l.graph l.index l.body l.initial.env.indices l.turn (pos l.address) Out;
}
