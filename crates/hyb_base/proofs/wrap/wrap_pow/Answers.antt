use Rattle.std.proofs.Common.{◌≡◌, ◌∙◌, ap, rules, arith, w64, FitsSigned, Some, pos}
use Rattle.std.specs.Prelude.{◌≤ℤ◌, ◌<ℤ◌}
use Rattle.std.proofs.lemmas.Int.{ints, to_z-of_z}
use Rattle.hyb_base.specs.Wrap.{power_of}
use Rattle.hyb_base.proofs.PowerLaws.{power_natural, power_negative, power_none}
use Rattle.hyb_base.proofs.wrap.wrap_pow.Goals as goal

pub returns-then-k-lt0 : goal.returns-then-k-lt0
returns-then-k-lt0 c =
    let a_fits : FitsSigned w64 c.args.a = c.ranges.a in
    let k_fits : FitsSigned w64 c.args.k = c.ranges.k in
    let negative : c.args.k <ℤ pos 0 = omega (arith, ints) in
    let is : c.inverse_power.result ≡ power_of c.args.a c.args.k =
    (simp (c.unsigned_abs.ensures.value, to_z-of_z) at c.inverse_power.ensures) ∙ power_negative c.args.a c.args.k negative in
    record { value = is; none = rw is (power_none c.args.a c.args.k) }

pub returns-else-k-lt0-clause-value : goal.returns-else-k-lt0-clause-value
returns-else-k-lt0-clause-value c =
    let a_fits : FitsSigned w64 c.args.a = c.ranges.a in
    let k_fits : FitsSigned w64 c.args.k = c.ranges.k in
    let result_fits : FitsSigned w64 c.power.result = search rules in
    let natural : pos 0 ≤ℤ c.args.k = omega (arith, ints) in
    ap Some (to_z-of_z w64 _ result_fits ∙ (simp (c.unsigned_abs-else-k-lt0.ensures.value, to_z-of_z) at c.power.ensures))
    ∙ power_natural c.args.a c.args.k natural
