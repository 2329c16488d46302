use Rattle.std.proofs.Common.{◌≡◌, ◌≢◌, ◌%◌, pos, negsuc, arith}
use Rattle.std.proofs.lemmas.Int.{ints}
use Rattle.hyb_base.proofs.PowerLaws.{inverse_of_zero, inverse_of_one, inverse_of_minus_one_even, inverse_of_minus_one_odd, inverse_of_other}
use Rattle.hyb_base.proofs.wrap.inverse_power.Goals as goal

pub returns-in-0 : goal.returns-in-0
returns-in-0 c = let e : c.args.a ≡ pos 0 = omega (arith, ints) in rw e (inverse_of_zero c.args.exponent c.requires)

pub returns-in-1 : goal.returns-in-1
returns-in-1 c = let e : c.args.a ≡ pos 1 = omega (arith, ints) in rw e (inverse_of_one c.args.exponent)

pub returns-in-minus1 : goal.returns-in-minus1
returns-in-minus1 c =
    let e : c.args.a ≡ negsuc 0 = omega (arith, ints) in rw e (inverse_of_minus_one_even c.args.exponent c.if-exponent-eq0.true)

pub returns-in-minus1-2 : goal.returns-in-minus1-2
returns-in-minus1-2 c =
    let e : c.args.a ≡ negsuc 0 = omega (arith, ints) in
    let odd : c.args.exponent % 2 ≡ 1 = omega arith in
    rw e (inverse_of_minus_one_odd c.args.exponent odd)

pub returns-in_default : goal.returns-in_default
returns-in_default c =
    let not_zero : c.args.a ≢ pos 0 = λ e. omega (arith, ints) in
    let not_one : c.args.a ≢ pos 1 = λ e. omega (arith, ints) in
    let not_minus_one : c.args.a ≢ negsuc 0 = λ e. omega (arith, ints) in
    inverse_of_other c.args.a c.args.exponent c.requires not_zero not_one not_minus_one
