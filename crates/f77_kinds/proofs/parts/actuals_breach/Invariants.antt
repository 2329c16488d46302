use Rattle.std.proofs.Common.{◌≡◌, drop}
use Rattle.f77_kinds.specs.Breaches.{either, any_of}
use Rattle.f77_kinds.specs.Statements.{actual_breach}
use Rattle.f77_uses.specs.Tables.{told_by}
use Rattle.f77_kinds.proofs.parts.actuals_breach.Given as goal

-- what the other arguments break is still to be added
abbrev pub invariant-loop-arg : goal.invariant-loop-arg
invariant-loop-arg l = either l.breach (any_of (actual_breach (told_by l.tables)) (drop l.arg-index l.args)) ≡ any_of (actual_breach (told_by l.tables)) l.args
