use Rattle.std.proofs.Common.{◌≡◌, ◌++◌, drop}
use Rattle.std.specs.List.{flat_map}
use Rattle.f77_leaves.specs.Leaves.{entry_leaves}
use Rattle.f77_leaves.proofs.leaves.add_entries.Given as goal

-- what is in the others is still to be added
abbrev pub invariant-loop-entry : goal.invariant-loop-entry
invariant-loop-entry l = l.into ++ flat_map entry_leaves (drop l.entry-index l.entries) ≡ l.initial.into ++ flat_map entry_leaves l.entries
