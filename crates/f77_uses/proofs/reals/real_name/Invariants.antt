use Rattle.std.proofs.Common.{◌≡◌}
use Rattle.f77_ast.specs.Refusal.{sooner}
use Rattle.f77_ast.specs.declared.rule.Rule.TheVariants.{RealName}
use Rattle.f77_uses.specs.Breaks.{names_real}
use Rattle.f77_uses.specs.Tables.{told_by}
use Rattle.f77_uses.specs.UseTables.{uses_in}
use Rattle.f77_uses.proofs.Turns.{first_from}
use Rattle.f77_uses.proofs.reals.real_name.Given as goal

abbrev pub invariant-loop-listed : goal.invariant-loop-listed
invariant-loop-listed l = sooner l.first (first_from RealName (names_real (told_by l.tables) (uses_in l.uses)) l.unit l.listed-index) ≡ first_from RealName (names_real (told_by l.tables) (uses_in l.uses)) l.unit 0
