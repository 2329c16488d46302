-- What a DO statement evaluates to, as the definitions have it.
use Rattle.std.specs.Prelude.{ℕ, ◌<◌}
use Rattle.f77_meaning.specs.Demand.{Demand, gives, wants, fails}
use Rattle.f77_meaning.specs.Do as meaning
use Rattle.f77_machine.specs.declared.evaluated.Evaluated.{Evaluated}
use Rattle.f77_machine.specs.declared.evaluated.Evaluated.TheVariants.{Gives, Wants, Fails}
use Rattle.f77_machine.specs.declared.begin.Begun.{Begun}
use Rattle.f77_machine.specs.declared.count.Parameters.{Parameters}

abbrev pub as_parameters : Parameters → meaning.Parameters
as_parameters m = record { first = m.first; last = m.last; increment = m.increment }

abbrev pub as_begun : Begun → meaning.Begun
as_begun b = record { variable = b.variable; first = b.first; increment = b.increment; count = b.count }

abbrev pub begun_demand : Evaluated Begun → Demand meaning.Begun
begun_demand (Gives b rest) = gives (as_begun b) rest.now
begun_demand (Wants address by) = wants address by
begun_demand (Fails fault) = fails fault

-- the variable lies in storage of `total` addresses
abbrev pub GivesVariableBelow : (total : ℕ) → Evaluated Begun → Type 0
GivesVariableBelow total (Gives b rest) = b.variable < total
GivesVariableBelow total (Wants address by) = Unit {0}
GivesVariableBelow total (Fails fault) = Unit {0}
