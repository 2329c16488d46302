-- The set of no keys.
use Rattle.std.proofs.Common.{arith}
use Rattle.addr_sets.proofs.Members.{none_has}
use Rattle.addr_sets.proofs.addr_set.AddrSet.new.Goals as goal

pub returns : goal.returns
returns c = none_has c.new.result.keys (λ some. omega (arith, c.new.ensures.len))
