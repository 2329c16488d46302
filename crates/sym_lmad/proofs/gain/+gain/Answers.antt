use Rattle.std.proofs.Common.{◌≡◌, ℕ, ℤ, Option, Some, IfNone, FitsSigned, rules, subst, sym, ap, ◌∙◌}
use Rattle.std.proofs.lemmas.Int.{to_z-of_z}
use Rattle.sym_lmad.specs.declared.sym.Sym.{Sym}
use Rattle.sym_lmad.specs.declared.sym.Sym.TheVariants as s
use Rattle.sym_lmad.specs.Gain.{gain_of}
use Rattle.sym_lmad.proofs.GainLaws.{LacksGain, in_elem, in_first, in_second, in_multiple, sum_too_wide, product_too_wide, if_none}
use mir.Syntax.{w64, w128}
use Rattle.sym_lmad.proofs.gain.+gain.Goals as goal

-- a symbol's lack, by another one that it is
at : (index : ℕ) (x y : Sym) → x ≡ y → LacksGain index y → LacksGain index x
at index x y e h = subst (LacksGain index) (sym e) h

none_at : (index : ℕ) (x y : Sym) (o : Option ℤ) → x ≡ y → IfNone o (LacksGain index y) → IfNone o (LacksGain index x)
none_at index x y o e h = subst (λ z. IfNone o (LacksGain index z)) (sym e) h

pub returns-in_err-moved-in-Elem-clause-none : goal.returns-in_err-moved-in-Elem-clause-none
returns-in_err-moved-in-Elem-clause-none t c = if_none _ _ (at c.args.index c.args.sym.now (s.Elem c.in-Elem.field-0 c.in-Elem.place) c.in-Elem.is (in_elem c.args.index c.in-Elem.field-0 c.in-Elem.place (at c.args.index c.in-Elem.place c.get.result.now (sym c.get.ensures) c.in_err-moved-in-Elem.ensures.none)))

pub returns-in_err-left-in-Add-clause-none : goal.returns-in_err-left-in-Add-clause-none
returns-in_err-left-in-Add-clause-none t c = if_none _ _ (at c.args.index c.args.sym.now (s.Add c.in-Add.left c.in-Add.right) c.in-Add.is (in_first c.args.index c.in-Add.left c.in-Add.right (at c.args.index c.in-Add.left c.get-in-Add.result.now (sym c.get-in-Add.ensures) c.in_err-left-in-Add.ensures.none)))

pub returns-in_err-right-in-Add-clause-none : goal.returns-in_err-right-in-Add-clause-none
returns-in_err-right-in-Add-clause-none t c = if_none _ _ (at c.args.index c.args.sym.now (s.Add c.in-Add.left c.in-Add.right) c.in-Add.is (in_second c.args.index c.in-Add.left c.in-Add.right (at c.args.index c.in-Add.right c.get-in-Add-2.result.now (sym c.get-in-Add-2.ensures) c.in_err-right-in-Add.ensures.none)))

pub returns-in_err-inner-in-Mul-clause-none : goal.returns-in_err-inner-in-Mul-clause-none
returns-in_err-inner-in-Mul-clause-none t c = if_none _ _ (at c.args.index c.args.sym.now (s.Mul c.in-Mul.factor c.in-Mul.inner) c.in-Mul.is (in_multiple c.args.index c.in-Mul.factor c.in-Mul.inner (at c.args.index c.in-Mul.inner c.get-in-Mul.result.now (sym c.get-in-Mul.ensures) c.in_err-inner-in-Mul.ensures.none)))

pub returns-in_ok-right-in-Add-clause-none : goal.returns-in_ok-right-in-Add-clause-none
returns-in_ok-right-in-Add-clause-none t c =
    let left_fits : FitsSigned w128 c.in_ok-left-in-Add.left = search rules in
    let right_fits : FitsSigned w128 c.in_ok-right-in-Add.right = search rules in
    let left : gain_of c.args.index c.in-Add.left ≡ Some c.in_ok-left-in-Add.left = ap (gain_of c.args.index) (sym c.get-in-Add.ensures) ∙ c.in_ok-left-in-Add.ensures.some in
    let right : gain_of c.args.index c.in-Add.right ≡ Some c.in_ok-right-in-Add.right = ap (gain_of c.args.index) (sym c.get-in-Add-2.ensures) ∙ c.in_ok-right-in-Add.ensures.some in
    none_at c.args.index c.args.sym.now (s.Add c.in-Add.left c.in-Add.right) c.sum.result c.in-Add.is
    (sum_too_wide c.args.index c.in-Add.left c.in-Add.right c.in_ok-left-in-Add.left c.in_ok-right-in-Add.right c.sum.result left right (simp to_z-of_z at c.sum.ensures))

pub returns-in_ok-inner-in-Mul-clause-none : goal.returns-in_ok-inner-in-Mul-clause-none
returns-in_ok-inner-in-Mul-clause-none t c =
    let inner_fits : FitsSigned w128 c.in_ok-inner-in-Mul.inner = search rules in
    let factor_fits : FitsSigned w64 c.in-Mul.factor = search rules in
    let inner : gain_of c.args.index c.in-Mul.inner ≡ Some c.in_ok-inner-in-Mul.inner = ap (gain_of c.args.index) (sym c.get-in-Mul.ensures) ∙ c.in_ok-inner-in-Mul.ensures.some in
    none_at c.args.index c.args.sym.now (s.Mul c.in-Mul.factor c.in-Mul.inner) c.multiple.result c.in-Mul.is
    (product_too_wide c.args.index c.in-Mul.factor c.in-Mul.inner c.in_ok-inner-in-Mul.inner c.multiple.result inner (simp to_z-of_z at c.multiple.ensures))
