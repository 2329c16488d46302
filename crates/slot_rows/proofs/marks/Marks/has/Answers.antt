use Rattle.std.proofs.Common.{◌/◌, ◌%◌, ◌==◌, ap, ◌∙◌, arith}
use Rattle.std.specs.Int.{bit_at}
use Rattle.std.proofs.lemmas.List.{get_or_default}
use Rattle.slot_rows.specs.Marks.{marked_in}
use Rattle.slot_rows.proofs.marks.Marks.has.Goals as goal

pub returns : goal.returns
unfolding marked_in
returns c =
    ap (λ b. b == 1) (c.mark_at.ensures ∙ ap (λ w. bit_at w (c.args.unit % 64)) (c.index.ensures ∙ get_or_default c.args.self.now.words.items (c.args.unit / 64) c.index.result.now 0 (omega (arith, c.requires, c.args.self.now.words.ok.0))))
