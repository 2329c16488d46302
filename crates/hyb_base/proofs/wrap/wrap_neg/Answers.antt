use Rattle.std.proofs.Common.{◌∙◌, rules, w64, FitsSigned}
use Rattle.std.proofs.lemmas.Int.{to_z-of_z, wrapping_neg_is}
use Rattle.hyb_base.proofs.wrap.wrap_neg.Goals as goal

pub returns : goal.returns
returns c =
    let result_fits : FitsSigned w64 c.wrapping_neg.result = search rules in
    let a_fits : FitsSigned w64 c.args.a = c.ranges.a in
    to_z-of_z w64 _ result_fits ∙ (simp to_z-of_z at c.wrapping_neg.ensures) ∙ wrapping_neg_is w64 c.args.a a_fits
