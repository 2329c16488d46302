use Rattle.std.proofs.Common.{◌≡◌, ◌++◌, drop}
use Rattle.std.specs.List.{flat_map}
use Rattle.f77_leaves.specs.Leaves.{rule_leaves}
use Rattle.f77_leaves.proofs.leaves.add_rules.Given as goal

-- what is in the others is still to be added
abbrev pub invariant-loop-rule : goal.invariant-loop-rule
invariant-loop-rule l = l.into ++ flat_map rule_leaves (drop l.rule-index l.rules) ≡ l.initial.into ++ flat_map rule_leaves l.rules
