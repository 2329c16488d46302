use Rattle.std.proofs.Common.{◌≡◌, suc, ◌+◌, ap, ◌∙◌, pos, ◌*ℤ◌, ◌+ℤ◌, to_z, of_z, rules, arith, w64, FitsSigned}
use Rattle.std.proofs.lemmas.Int.{ints, to_z-of_z}
use Rattle.std.specs.Int.{int_wrap}
use Rattle.f77_machine.proofs.Counts.{next_is}
use Rattle.f77_machine.proofs.active.ActiveLoop.next_value.Goals as goal

-- the sum doesn't wrap
pub returns : goal.returns
returns c =
    let first_fits : FitsSigned w64 c.args.self.now.first = search rules in
    let increment_fits : FitsSigned w64 c.args.self.now.increment = search rules in
    let product_fits : FitsSigned w64 c.wrap_mul.result = search rules in
    let sum_fits : FitsSigned w64 c.wrap_add.result = search rules in
    let iterations : to_z w64 (c.args.self.now.done + 1) ≡ pos (suc c.args.self.now.done) = omega (arith, ints, c.requires.left, c.requires.count) in
    let product : c.wrap_mul.result ≡ int_wrap w64 (pos (suc c.args.self.now.done) *ℤ c.args.self.now.increment) =
    c.wrap_mul.ensures ∙ ap (λ k. int_wrap w64 (k *ℤ to_z w64 (of_z w64 c.args.self.now.increment))) iterations
    ∙ ap (λ i. int_wrap w64 (pos (suc c.args.self.now.done) *ℤ i)) (to_z-of_z w64 c.args.self.now.increment increment_fits) in
    let sum : c.wrap_add.result ≡ int_wrap w64 (c.args.self.now.first +ℤ c.wrap_mul.result) =
    c.wrap_add.ensures ∙ ap (λ f. int_wrap w64 (f +ℤ to_z w64 (of_z w64 c.wrap_mul.result))) (to_z-of_z w64 c.args.self.now.first first_fits)
    ∙ ap (λ m. int_wrap w64 (c.args.self.now.first +ℤ m)) (to_z-of_z w64 c.wrap_mul.result product_fits) in
    to_z-of_z w64 c.wrap_add.result sum_fits
    ∙ next_is c.args.self.now.first c.args.self.now.increment c.wrap_mul.result c.wrap_add.result c.args.self.now.done c.args.self.now.count first_fits c.requires.end c.requires.left product sum
