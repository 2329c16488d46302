use Rattle.region_rows.specs.Regions.{cells_from_0}
use Rattle.region_rows.proofs.OneRegion.{one_apart}
use Rattle.region_rows.proofs.reserved.reserve_one.Goals as goal

pub reserve-requires-clause-apart : goal.reserve-requires-clause-apart
reserve-requires-clause-apart c = one_apart (cells_from_0 c.args.cells) c.in_ok-layout.layout.regions c.in_ok-numbers.numbers c.in_ok-layout.ensures.regions c.in_ok-numbers.ensures
