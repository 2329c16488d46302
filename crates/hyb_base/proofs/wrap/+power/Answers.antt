use Rattle.std.proofs.Common.{◌∙◌, ◌/◌, ap, rules, w64, FitsSigned}
use Rattle.std.specs.Int.{int_pow}
use Rattle.std.proofs.lemmas.Int.{to_z-of_z}
use Rattle.hyb_base.specs.Wrap.{wrapped, product_of}
use Rattle.hyb_base.proofs.PowerLaws.{even_turn, odd_turn}
use Rattle.hyb_base.proofs.wrap.+power.Goals as goal

pub returns-then-exponent-eq0-2 : goal.returns-then-exponent-eq0-2
returns-then-exponent-eq0-2 t c =
    let a_fits : FitsSigned w64 c.args.a = c.ranges.a in
    let square_fits : FitsSigned w64 c.wrap_mul.result = search rules in
    let even_fits : FitsSigned w64 c.power-even.result = search rules in
    to_z-of_z w64 _ even_fits
    ∙ (simp to_z-of_z at c.power-even.ensures)
    ∙ ap (λ z. wrapped (int_pow z (c.args.exponent / 2))) (simp to_z-of_z at c.wrap_mul.ensures)
    ∙ even_turn c.args.a c.args.exponent c.if-exponent-eq0-2.true

pub returns-else-exponent-eq0-2 : goal.returns-else-exponent-eq0-2
returns-else-exponent-eq0-2 t c =
    let a_fits : FitsSigned w64 c.args.a = c.ranges.a in
    let square_fits : FitsSigned w64 c.wrap_mul.result = search rules in
    let even_fits : FitsSigned w64 c.power-even.result = search rules in
    let result_fits : FitsSigned w64 c.wrap_mul-else-exponent-eq0-2.result = search rules in
    to_z-of_z w64 _ result_fits
    ∙ (simp to_z-of_z at c.wrap_mul-else-exponent-eq0-2.ensures)
    ∙ ap (λ z. product_of z c.args.a) (
    (simp to_z-of_z at c.power-even.ensures)
    ∙ ap (λ z. wrapped (int_pow z (c.args.exponent / 2))) (simp to_z-of_z at c.wrap_mul.ensures)
    )
    ∙ odd_turn c.args.a c.args.exponent c.if-exponent-eq0-2.false
