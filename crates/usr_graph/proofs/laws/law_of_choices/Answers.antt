use Rattle.usr_graph.proofs.Choices.{choices_extend, surely_empty_is_empty}
use Rattle.usr_graph.proofs.laws.law_of_choices.Goals as goal

pub returns-clause-extend : goal.returns-clause-extend
returns-clause-extend c = choices_extend

pub returns-clause-surely_empty : goal.returns-clause-surely_empty
returns-clause-surely_empty c = surely_empty_is_empty
