use Rattle.hyb_base.proofs.decimal.law_of_decimal.Goals as goal
use Rattle.hyb_base.proofs.Decimals.{reads_back}

pub returns : goal.returns
returns c = reads_back
