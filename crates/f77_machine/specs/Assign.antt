-- What an assignment writes, as the definitions have it.
use Rattle.std.specs.Prelude.{ℕ, ◌<◌}
use Rattle.f77_meaning.specs.Demand.{Demand, gives, wants, fails}
use Rattle.f77_meaning.specs.Assign as meaning
use Rattle.f77_machine.specs.declared.assign.Written.{Written}
use Rattle.f77_machine.specs.declared.evaluated.Evaluated.{Evaluated}
use Rattle.f77_machine.specs.declared.evaluated.Evaluated.TheVariants.{Gives, Wants, Fails}

abbrev pub as_written : Written → meaning.Written
as_written w = record { address = w.address; value = w.value; by = w.by }

abbrev pub written_demand : Evaluated Written → Demand meaning.Written
written_demand (Gives w rest) = gives (as_written w) rest.now
written_demand (Wants address by) = wants address by
written_demand (Fails fault) = fails fault

-- the address that is written lies in storage of `total` addresses
abbrev pub GivesWriteBelow : (total : ℕ) → Evaluated Written → Type 0
GivesWriteBelow total (Gives w rest) = w.address < total
GivesWriteBelow total (Wants address by) = Unit {0}
GivesWriteBelow total (Fails fault) = Unit {0}
