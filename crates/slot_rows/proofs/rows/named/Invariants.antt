use Rattle.std.proofs.Common.{◌≡◌, take}
use Rattle.std.specs.List.{filter_map}
use Rattle.slot_rows.specs.Regions.{region_at}
use Rattle.slot_rows.proofs.rows.named.Given as goal

-- the regions of the numbers before the index
abbrev pub invariant-loop-number : goal.invariant-loop-number
invariant-loop-number l = l.regions.items ≡ filter_map (region_at l.layout.regions) (take l.number-index l.numbers)
