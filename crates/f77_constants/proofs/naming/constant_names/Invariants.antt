use Rattle.std.proofs.Common.{◌≡◌, ◌++◌, drop}
use Rattle.f77_constants.specs.Constants.{constant_names}
use Rattle.f77_constants.proofs.naming.constant_names.Given as goal

-- the names of the other statements are still to be added
abbrev pub invariant-loop-listed : goal.invariant-loop-listed
invariant-loop-listed l = l.names ++ constant_names (drop l.listed-index l.unit) ≡ constant_names l.unit
