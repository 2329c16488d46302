use Rattle.std.proofs.Common.{◌≡◌, ◌||◌, ℕ, drop}
use Rattle.f77_uses.specs.Tables.{told_by}
use Rattle.f77_uses.specs.UseTables.{uses_in}
use Rattle.f77_due.specs.Starts.{starts_in}
use Rattle.f77_due.specs.Unit.{starts_among}
use Rattle.f77_due.proofs.starts.Starts.note_all.Given as goal

-- with what is left there are the letters that there are with all
abbrev pub invariant-loop-leaf : goal.invariant-loop-leaf
invariant-loop-leaf l = (letter : ℕ) → (starts_in l.self letter || starts_among (told_by l.tables) (uses_in l.uses) (drop l.leaf-index l.leaves) letter) ≡ (starts_in l.initial.self letter || starts_among (told_by l.tables) (uses_in l.uses) l.leaves letter)
