use Rattle.std.proofs.Common.{◌≡◌, ℕ, ◌||◌, List, drop}
use Rattle.std.specs.List.{list_any}
use Rattle.std.specs.Option.{option_or}
use Rattle.f77_uses.specs.Firsts.{told}
use Rattle.f77_uses.specs.Tables.{told_by}
use Rattle.f77_uses.specs.UseTables.{is_busy_in}
use Rattle.f77_uses.specs.Uses.{first_use, on_name, is_busy_with}
use Rattle.f77_uses.proofs.use_table.UseTable.note_all.Given as goal

-- with what is left the table tells what it tells with all
abbrev pub invariant-loop-leaf : goal.invariant-loop-leaf
invariant-loop-leaf l = record {
  firsts : (name : List ℕ) → option_or (told l.self.firsts name) (first_use (told_by l.tables) (drop l.leaf-index l.leaves) name) ≡ option_or (told l.initial.self.firsts name) (first_use (told_by l.tables) l.leaves name);
  busy : (name : List ℕ) → (is_busy_in l.self name || list_any (on_name (is_busy_with name)) (drop l.leaf-index l.leaves)) ≡ (is_busy_in l.initial.self name || list_any (on_name (is_busy_with name)) l.leaves);
}
