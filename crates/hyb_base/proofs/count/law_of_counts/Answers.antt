use Rattle.hyb_base.proofs.Counts.{counts_rise}
use Rattle.hyb_base.proofs.count.law_of_counts.Goals as goal

pub returns : goal.returns
returns c = counts_rise
