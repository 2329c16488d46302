use Rattle.sym_lmad.proofs.NumberLaws.{run_is_whole_wrapped, worth_is_both}
use Rattle.sym_lmad.proofs.numbers.law_of_numbers.Goals as goal

pub returns-clause-wrapped : goal.returns-clause-wrapped
returns-clause-wrapped c = run_is_whole_wrapped

pub returns-clause-worth : goal.returns-clause-worth
returns-clause-worth c = worth_is_both
