use Rattle.std.proofs.Common.{arith}
use Rattle.hybrid_top.proofs.ReadLemmas.{follows_more}
use Rattle.hybrid_top.proofs.read_file.read_on.Goals as goal

pub returns-clause-follows : goal.returns-clause-follows
returns-clause-follows g c f =
    let gives = rw c.len-from.ensures at c.in_ok-given.ensures.gives in
    rw (c.in_ok-push_slice.ensures.ok, c.split_at.ensures.front)
    (follows_more _ c.args.bytes.now _ _ (omega (arith, c.in_ok-given.ensures.within)) gives f)
