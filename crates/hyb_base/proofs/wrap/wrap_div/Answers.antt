use Rattle.std.proofs.Common.{◌≢◌, ap, pos, of_z, rules, w64, FitsSigned}
use Rattle.std.proofs.lemmas.Int.{to_z-of_z}
use Rattle.hyb_base.proofs.Quotients.{quotient_wraps}
use Rattle.hyb_base.proofs.wrap.wrap_div.Goals as goal

pub returns-else-b-eq0-clause-value : goal.returns-else-b-eq0-clause-value
returns-else-b-eq0-clause-value c =
    let result_fits : FitsSigned w64 c.wrapping_div.result = search rules in
    let a_fits : FitsSigned w64 c.args.a = c.ranges.a in
    let b_fits : FitsSigned w64 c.args.b = c.ranges.b in
    let not_zero : c.args.b ≢ pos 0 = λ e. c.if-b-eq0.false (ap (of_z w64) e) in
    rw to_z-of_z (quotient_wraps c.args.a c.args.b c.wrapping_div.result a_fits not_zero (simp to_z-of_z at c.wrapping_div.ensures))
