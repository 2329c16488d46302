-- The tables of a unit's declarations.
use Rattle.std.specs.Prelude.{ℕ, List, nat_eq, unwrap_or}
use Rattle.std.specs.Cmp.Lexicographic.{pointwise}
use Rattle.std.specs.HashMap.{get}
use Rattle.f77_leaves.specs.Declarations.{Declarations, unknown}
use Rattle.f77_leaves.specs.declared.declarations.Known.{Known}
use Rattle.f77_uses.specs.Letters.{given}
use Rattle.f77_uses.specs.declared.known_names.KnownNames.{KnownNames}
use Rattle.f77_uses.specs.declared.tables.Tables.{Tables}

-- what a table knows of a name
abbrev pub known_in : KnownNames → (name : List ℕ) → Known
known_in names name = unwrap_or (get (pointwise nat_eq) names.map name) unknown

-- what the tables tell of names and letters
abbrev pub told_by : Tables → Declarations
told_by tables = record { known = known_in tables.names; implied = given tables.letters }
