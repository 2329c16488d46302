use Rattle.f77_shape.proofs.Accepted.{ranges_nest}
use Rattle.f77_shape.proofs.laws.law_of_nested_ranges.Goals as goal

pub returns : goal.returns
returns c = ranges_nest
