use Rattle.sym_lmad.proofs.GainLaws.{gain_makes_line}
use Rattle.sym_lmad.proofs.gain.law_of_gains.Goals as goal

pub returns : goal.returns
returns c = gain_makes_line
