use Rattle.std.proofs.Common.{◌≡◌}
use Rattle.f77_ast.specs.Refusal.{sooner}
use Rattle.f77_ast.specs.declared.rule.Rule.TheVariants.{LeftOut}
use Rattle.f77_built.specs.Built.{is_unbuilt}
use Rattle.f77_uses.proofs.Turns.{first_from}
use Rattle.f77_built.proofs.built.unbuilt_in.Given as goal

abbrev pub invariant-loop-listed : goal.invariant-loop-listed
invariant-loop-listed l = sooner l.first (first_from LeftOut (is_unbuilt l.units l.entities l.unit) l.listing l.listed-index) ≡ first_from LeftOut (is_unbuilt l.units l.entities l.unit) l.listing 0
