use Rattle.std.proofs.Common.{rules, ◌∙◌, ap, arith}
use Rattle.std.specs.Prelude.{FitsSigned}
use Rattle.std.specs.Int.{w64}
use Rattle.f77_exprs.proofs.Numbers.{kept}
use Rattle.f77_forms.specs.Form.{small}
use Rattle.f77_forms.proofs.LeafLemmas.{short_there, short_missing}
use Rattle.f77_forms.proofs.leaves.short_value.Goals as goal

pub returns-in-Some : goal.returns-in-Some
returns-in-Some c =
    let f : FitsSigned w64 c.in-Some.value = search rules in
    short_there c.args.digits.now c.in-Some.value c.small.result c.in-Some.ensures (search (rules, arith)) (c.small.ensures ∙ ap small (kept c.in-Some.value f))

pub returns-in-None : goal.returns-in-None
returns-in-None c = short_missing c.args.digits.now c.in-None.ensures
