-- By the test of the ordered set.
use Rattle.std.proofs.Common.{sym, ◌∙◌}
use Rattle.addr_sets.proofs.Members.{has_of}
use Rattle.addr_sets.proofs.addr_set.AddrSet.contains.Goals as goal

pub returns : goal.returns
returns c = rw (← c.self.view_is) (c.contains.ensures ∙ sym (has_of c.self.inside.members.keys c.args.address))
