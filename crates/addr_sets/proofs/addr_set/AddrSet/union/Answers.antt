-- By what the iterator of the ordered set yields, collected.
use Rattle.std.proofs.Common.{rules, nat_cmp}
use Rattle.std.specs.BTreeSet.{IsFromIterResult}
use Rattle.addr_sets.proofs.Members.{union_has}
use Rattle.addr_sets.proofs.addr_set.AddrSet.union.Goals as goal

pub returns : goal.returns
returns c =
    let collected : IsFromIterResult nat_cmp c.union-all.result c.in_ok-members.members = search rules in
    rw (← c.self.view_is, ← c.other.view_is) (union_has c.self.inside.members.keys c.other.inside.members.keys c.in_ok-members.members.keys c.union-all.result collected.0 c.union-all.ensures.members)
