use Rattle.std.proofs.Common.{refl, arith}
use Rattle.hybrid_top.proofs.ReadLemmas.{follows_none, follows_whole, follows_long, keeps_same}
use Rattle.hybrid_top.proofs.read_file.read_file.Goals as goal

pub loop-files-init : goal.loop-files-init
loop-files-init g c = record {
  room = omega (arith, c.in_ok-buffer.ensures.len);
  follows = rw c.new-bytes.ensures (follows_none _);
  keeps = keeps_same _;
  no_end = refl;
}

pub returns-then-given-eq0-clause-whole : goal.returns-then-given-eq0-clause-whole
returns-then-given-eq0-clause-whole g c =
    let none = c.if-given-eq0.true in
    let end = rw c.loop-files.invariant.keeps.content at (c.in_ok-given.ensures.end none) in
    let follows = rw c.loop-files.invariant.keeps.content at c.in_ok-given.ensures.follows in
    follows_whole _ _ (omega (arith, c.in_ok-given.ensures.more)) (follows c.loop-files.invariant.follows) end

pub returns-clause-too_long : goal.returns-clause-too_long
returns-clause-too_long g c e = follows_long _ c.loop-files.bytes (omega arith) c.loop-files.invariant.follows
