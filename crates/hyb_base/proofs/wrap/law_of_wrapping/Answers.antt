use Rattle.hyb_base.proofs.Wrapping.{wraps_each}
use Rattle.hyb_base.proofs.wrap.law_of_wrapping.Goals as goal

pub returns : goal.returns
returns c = wraps_each
