use Rattle.f77_code.proofs.units.+statements_before.Given as goal

abbrev pub decreases-statements_before : goal.decreases-statements_before
decreases-statements_before l = l.unit
