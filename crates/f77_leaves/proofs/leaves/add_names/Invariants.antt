use Rattle.std.proofs.Common.{◌≡◌, ◌++◌, drop}
use Rattle.f77_leaves.specs.Leaves.{names_leaves}
use Rattle.f77_leaves.proofs.leaves.add_names.Given as goal

-- what is in the others is still to be added
abbrev pub invariant-loop-name : goal.invariant-loop-name
invariant-loop-name l = l.into ++ names_leaves l.role (drop l.name-index l.names) ≡ l.initial.into ++ names_leaves l.role l.names
