use Rattle.region_rows.proofs.OneRegion.{none_apart}
use Rattle.region_rows.proofs.reserved.reserve_none.Goals as goal

pub reserve-requires-clause-apart : goal.reserve-requires-clause-apart
reserve-requires-clause-apart c = none_apart c.no_region-layout.result.regions c.new-numbers.result c.new-numbers.ensures
