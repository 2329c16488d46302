-- What an evaluation answers.
use Rattle.std.specs.Prelude.{◌≡◌, ℕ, ℤ, ◌+◌, ◌<◌, ◌≤◌, length}
use Rattle.f77_ast.specs.declared.expr.Kind.TheVariants.{Integer}
use Rattle.f77_ast.specs.declared.program.Layout.{Layout}
use Rattle.f77_structure.specs.Storage.{region_at}
use Rattle.f77_structure.specs.Values.{Value, integer}
use Rattle.f77_meaning.specs.Demand.{Demand, gives, wants, fails}
use Rattle.f77_meaning.specs.Demand as meaning
use Rattle.f77_meaning.specs.Process.{placed}
use Rattle.f77_machine.specs.declared.evaluated.Evaluated.{Evaluated}
use Rattle.f77_machine.specs.declared.evaluated.Evaluated.TheVariants.{Gives, Wants, Fails}
use Rattle.f77_machine.specs.declared.place.Located.{Located}

-- an answer as what an evaluation gives
abbrev pub as_demand : {A : Type 0} → Evaluated A → Demand A
as_demand (Gives value rest) = gives value rest.now
as_demand (Wants address by) = wants address by
as_demand (Fails fault) = fails fault

-- the same of a number, as a value
abbrev pub value_demand : Evaluated ℤ → Demand Value
value_demand (Gives number rest) = gives (integer number) rest.now
value_demand (Wants address by) = wants address by
value_demand (Fails fault) = fails fault

-- a variable or an element, as the definitions have it
abbrev pub as_located : Layout → Located → meaning.Located
as_located layout place = record { kind = place.kind; bound = placed place.address (region_at layout.regions place.address) place.len }

-- the same of an answer
abbrev pub located_demand : Layout → Evaluated Located → Demand meaning.Located
located_demand layout (Gives place rest) = gives (as_located layout place) rest.now
located_demand layout (Wants address by) = wants address by
located_demand layout (Fails fault) = fails fault

-- of this many values that were known, no more were taken than are needed; where an address is wanted, fewer were known
-- than are needed, and it lies in storage of `total` addresses
abbrev pub Asks : {A : Type 0} → (total need known : ℕ) → Evaluated A → Type 0
Asks total need known (Gives value rest) = known ≤ length rest.now + need
Asks total need known (Wants address by) = (address < total) × (known < need)
Asks total need known (Fails fault) = Unit {0}

-- a place that is given is of INTEGER, and lies in storage of `total` addresses
abbrev pub GivesIntegerBelow : (total : ℕ) → Evaluated Located → Type 0
GivesIntegerBelow total (Gives place rest) = (place.address < total) × (place.kind ≡ Integer)
GivesIntegerBelow total (Wants address by) = Unit {0}
GivesIntegerBelow total (Fails fault) = Unit {0}
