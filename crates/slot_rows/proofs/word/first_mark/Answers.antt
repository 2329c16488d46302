use Rattle.std.proofs.Common.{arith, w64}
use Rattle.std.proofs.lemmas.Nat.Bits.{bit_at-trailing_zeros}
use Rattle.slot_rows.proofs.word.first_mark.Goals as goal

pub returns-clause-marked : goal.returns-clause-marked
returns-clause-marked c = (bit_at-trailing_zeros w64 c.args.word c.requires (omega arith)).1
