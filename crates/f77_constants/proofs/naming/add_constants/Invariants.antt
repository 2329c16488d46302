use Rattle.std.proofs.Common.{◌≡◌, ◌++◌, drop}
use Rattle.std.specs.List.{flat_map}
use Rattle.f77_leaves.specs.Declarations.{constant_facts}
use Rattle.f77_constants.specs.Constants.{valued_names}
use Rattle.f77_constants.proofs.naming.add_constants.Given as goal

-- the names of the others are still to be added
abbrev pub invariant-loop-constant : goal.invariant-loop-constant
invariant-loop-constant l = l.names ++ valued_names (flat_map constant_facts (drop l.constant-index l.constants)) ≡ l.initial.names ++ valued_names (flat_map constant_facts l.constants)
