use Rattle.std.proofs.Common.{take}
use Rattle.f77_uses.specs.Tables.{told_by}
use Rattle.f77_constants.specs.Constants.{name_length}
use Rattle.f77_constants.specs.Rounds.{Round}
use Rattle.f77_constants.specs.Values.{value_in}
use Rattle.f77_constants.proofs.constants.round.Given as goal

abbrev pub invariant-loop-name : goal.invariant-loop-name
invariant-loop-name l = Round (told_by l.tables) (name_length (told_by l.tables) (value_in l.lengths)) (value_in l.initial.values) (value_in l.values) (take l.name-index l.names) l.left
