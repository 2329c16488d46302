use Rattle.std.proofs.Common.{◌≡◌, ◌++◌, drop}
use Rattle.std.specs.List.{flat_map}
use Rattle.f77_kinds.specs.Letters.{range_letters}
use Rattle.f77_kinds.proofs.letters.add_rule.Given as goal

-- the letters of the other ranges are still to be added
abbrev pub invariant-loop-range : goal.invariant-loop-range
invariant-loop-range l = l.into ++ flat_map range_letters (drop l.range-index l.range-items) ≡ l.initial.into ++ flat_map range_letters l.range-items
