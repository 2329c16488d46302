-- By what the first key is.
use Rattle.std.proofs.Common.{sym, true≢false}
use Rattle.addr_sets.proofs.Members.{none_has, least_of}
use Rattle.addr_sets.proofs.addr_set.AddrSet.least.Goals as goal

pub returns-in-None : goal.returns-in-None
returns-in-None c = rw (← c.self.view_is) (none_has c.self.inside.members.keys (λ some. absurd (true≢false (sym (c.in-None.ensures.variant.1 some)))))

pub returns-in-Some : goal.returns-in-Some
returns-in-Some c = rw (← c.self.view_is) (least_of c.self.inside.members.keys _ c.in-Some.ensures.member c.in-Some.ensures.least)
