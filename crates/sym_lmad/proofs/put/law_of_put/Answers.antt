use Rattle.sym_lmad.proofs.PutLaws.{put_keeps_numbers, put_keeps_worth, put_reads_ends}
use Rattle.sym_lmad.proofs.put.law_of_put.Goals as goal

pub returns-clause-numbers : goal.returns-clause-numbers
returns-clause-numbers c = put_keeps_numbers

pub returns-clause-worth : goal.returns-clause-worth
returns-clause-worth c = put_keeps_worth

pub returns-clause-reads : goal.returns-clause-reads
returns-clause-reads c = put_reads_ends
