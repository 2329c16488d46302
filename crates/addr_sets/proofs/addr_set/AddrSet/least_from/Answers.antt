-- By what the first key of the range is.
use Rattle.addr_sets.proofs.Members.{none_from, least_from}
use Rattle.addr_sets.proofs.addr_set.AddrSet.least_from.Goals as goal

pub returns-in-None : goal.returns-in-None
returns-in-None c = rw (← c.self.view_is) (none_from c.self.inside.members.keys c.args.address (λ q from. (c.range.ensures.in_range tt).5 c.in-None.ensures.steps.0 q (from, tt)))

pub returns-in-Some : goal.returns-in-Some
returns-in-Some c =
    let first = rw c.in-Some.ensures.steps at ((c.range.ensures.in_range tt).1) in
    rw (← c.self.view_is)
    (least_from c.self.inside.members.keys c.args.address _ first.0.0 first.1 (λ q from member. rw c.in-Some.ensures.steps at ((c.range.ensures.in_range tt).2 q (from, tt) member)))
