-- The table of what a unit uses its names as.
use Rattle.std.specs.Prelude.{ℕ, Bool, not, List}
use Rattle.std.specs.Option.{is_some}
use Rattle.f77_uses.specs.Firsts.{told}
use Rattle.f77_uses.specs.Uses.{NameUses}
use Rattle.f77_uses.specs.declared.use_table.UseTable.{UseTable}

-- whether the table has a name as one that is there by more than SAVE and type statements
abbrev pub is_busy_in : UseTable → (name : List ℕ) → Bool
is_busy_in table name = is_some (told table.busy name)

-- what the table tells of names
abbrev pub uses_in : UseTable → NameUses
uses_in table = record { first = told table.firsts; alone = λ name. not (is_busy_in table name) }
