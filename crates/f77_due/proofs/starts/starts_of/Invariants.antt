use Rattle.std.proofs.Common.{◌≡◌, ◌||◌, ℕ, drop}
use Rattle.f77_uses.specs.Tables.{told_by}
use Rattle.f77_uses.specs.UseTables.{uses_in}
use Rattle.f77_uses.specs.Uses.{leaves_in}
use Rattle.f77_due.specs.Starts.{starts_in}
use Rattle.f77_due.specs.Unit.{starts_among}
use Rattle.f77_due.proofs.starts.starts_of.Given as goal

-- with what is left there are the letters that there are with all
abbrev pub invariant-loop-listed : goal.invariant-loop-listed
invariant-loop-listed l = (letter : ℕ) → (starts_in l.starts letter || starts_among (told_by l.tables) (uses_in l.uses) (leaves_in (drop l.listed-index l.unit)) letter) ≡ starts_among (told_by l.tables) (uses_in l.uses) (leaves_in l.unit) letter
