-- The tables of a unit.
use Rattle.std.specs.Prelude.{ℕ, Bool, List, nat_eq}
use Rattle.std.specs.HashMap.{get}
use Rattle.std.specs.Option.{is_some}
use Rattle.f77_uses.specs.Tables.{told_by}
use Rattle.f77_constants.specs.Values.{value_in}
use Rattle.f77_due.specs.Unit.{UnitFacts}
use Rattle.f77_due.specs.declared.starts.Starts.{Starts}
use Rattle.f77_due.specs.declared.unit_facts.UnitTables.{UnitTables}

-- whether a letter is one of these
abbrev pub starts_in : Starts → (letter : ℕ) → Bool
starts_in starts letter = is_some (get nat_eq starts.letters letter)

-- what the tables tell
abbrev pub facts_in : UnitTables → UnitFacts
facts_in unit = record { declarations = told_by unit.tables; values = value_in unit.values; starts = starts_in unit.starts }
