-- By what the ordered set has after an insertion.
use Rattle.addr_sets.proofs.Members.{insert_has}
use Rattle.addr_sets.proofs.addr_set.AddrSet.insert.Goals as goal

pub returns-clause-ok : goal.returns-clause-ok
returns-clause-ok c = rw (← c.self.view_is) (insert_has c.self.inside.members.keys c.insert.new.self.keys c.args.address (c.in_ok-insert.ensures.updates).0)
