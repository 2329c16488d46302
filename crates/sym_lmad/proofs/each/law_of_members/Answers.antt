use Rattle.sym_lmad.proofs.MemberLaws.{members_are_listed}
use Rattle.sym_lmad.proofs.each.law_of_members.Goals as goal

pub returns : goal.returns
returns c = members_are_listed
