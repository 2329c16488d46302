use Rattle.std.proofs.Common.{◌≡◌, ◌++◌, drop}
use Rattle.std.specs.List.{flat_map}
use Rattle.f77_leaves.specs.Declarations.{constant_facts}
use Rattle.f77_uses.proofs.facts.add_constants.Given as goal

-- what the others declare is still to be added
abbrev pub invariant-loop-constant : goal.invariant-loop-constant
invariant-loop-constant l = l.into ++ flat_map constant_facts (drop l.constant-index l.constants) ≡ l.initial.into ++ flat_map constant_facts l.constants
