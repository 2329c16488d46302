use Rattle.std.proofs.Common.{w64, bit_or, ◌*◌, ◌%◌, ◌^◌}
use Rattle.std.proofs.lemmas.Nat.Bits.{bit_at_set_same, bit_at_set_other}
use Rattle.slot_rows.proofs.Bits.{filled_by_bit}
use Rattle.slot_rows.proofs.word.with_mark.Goals as goal

pub returns-clause-here : goal.returns-clause-here
returns-clause-here c = bit_at_set_same w64 c.args.word c.args.place c.requires

pub returns-clause-others : goal.returns-clause-others
returns-clause-others c = λ i h. bit_at_set_other w64 c.args.word c.args.place c.requires i h

pub returns-clause-some : goal.returns-clause-some
returns-clause-some c =
    filled_by_bit (bit_or c.args.word (1 * 2 ^ c.args.place % 2 ^ 64)) c.args.place (bit_at_set_same w64 c.args.word c.args.place c.requires)
