use Rattle.std.proofs.Common.{◌≡◌}
use Rattle.f77_ast.specs.Refusal.{sooner}
use Rattle.f77_ast.specs.declared.rule.Rule.TheVariants.{DoubleName}
use Rattle.f77_uses.specs.Breaks.{uses_twice}
use Rattle.f77_uses.specs.Tables.{told_by}
use Rattle.f77_uses.specs.UseTables.{uses_in}
use Rattle.f77_uses.proofs.Turns.{first_from}
use Rattle.f77_uses.proofs.reals.second_use.Given as goal

abbrev pub invariant-loop-listed : goal.invariant-loop-listed
invariant-loop-listed l = sooner l.first (first_from DoubleName (uses_twice (told_by l.tables) (uses_in l.uses)) l.unit l.listed-index) ≡ first_from DoubleName (uses_twice (told_by l.tables) (uses_in l.uses)) l.unit 0
