use Rattle.std.proofs.Common.{◌≡◌, ℕ, List, take}
use Rattle.std.specs.List.{list_any}
use Rattle.f77_uses.specs.Firsts.{told}
use Rattle.f77_uses.specs.Tables.{told_by}
use Rattle.f77_uses.specs.UseTables.{is_busy_in}
use Rattle.f77_uses.specs.Uses.{first_use, on_name, is_busy_with, leaves_in}
use Rattle.f77_uses.proofs.unit_tables.use_table.Given as goal

abbrev pub invariant-loop-listed : goal.invariant-loop-listed
invariant-loop-listed l = record {
  firsts : (name : List ℕ) → told l.uses.firsts name ≡ first_use (told_by l.tables) (leaves_in (take l.listed-index l.unit)) name;
  busy : (name : List ℕ) → is_busy_in l.uses name ≡ list_any (on_name (is_busy_with name)) (leaves_in (take l.listed-index l.unit));
}
