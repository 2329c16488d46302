use Rattle.std.proofs.Common.{◌≡◌}
use Rattle.f77_ast.specs.Refusal.{sooner}
use Rattle.f77_ast.specs.declared.rule.Rule.TheVariants.{ConstantExpected}
use Rattle.f77_uses.proofs.Turns.{first_from}
use Rattle.f77_due.specs.Breaks.{lacks_one}
use Rattle.f77_due.specs.Starts.{facts_in}
use Rattle.f77_due.proofs.lacking.first_lacking.Given as goal

abbrev pub invariant-loop-listed : goal.invariant-loop-listed
invariant-loop-listed l = sooner l.first (first_from ConstantExpected (lacks_one (facts_in l.tables)) l.unit l.listed-index) ≡ first_from ConstantExpected (lacks_one (facts_in l.tables)) l.unit 0
