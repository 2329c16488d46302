use Rattle.std.proofs.Common.{arith}
use Rattle.f77_cards.proofs.Scans.{scanned}
use Rattle.f77_cards.proofs.cards.cards.Goals as goal

pub loop-line-init : goal.loop-line-init
loop-line-init c = record {
  number = omega arith;
  rest = rw c.new-reader.ensures (scanned c.args.bytes.now);
}
