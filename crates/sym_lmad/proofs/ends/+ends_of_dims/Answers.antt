use Rattle.std.proofs.Common.{◌≡◌, ◌∷◌, Some, rules, ap, sym, ◌∙◌}
use Rattle.sym_lmad.specs.Ends as spec
use Rattle.sym_lmad.specs.Worth.{worth_of}
use Rattle.sym_lmad.proofs.EndLaws.{one_more}
use Rattle.sym_lmad.proofs.ends.+ends_of_dims.Goals as goal

pub returns-in_ok-ends-in-Some-clause-value : goal.returns-in_ok-ends-in-Some-clause-value
returns-in_ok-ends-in-Some-clause-value g t c =
    let worth = worth_of c.args.env.now (g.C.Cells.values c.args.cells.now) in
    let split : c.args.dims.now ≡ c.in-Some.dim.now ∷ c.in-Some.rest.now = search rules in
    let count : worth c.in-Some.dim.now.count ≡ Some c.in_ok-count-in-Some.count = search rules in
    let wide : spec.widened c.args.ends c.in-Some.dim.now.stride c.in_ok-count-in-Some.count ≡ Some c.in_ok-ends-in-Some.ends = search rules in
    c.ends_of_dims.ensures.value ∙ ap (λ values. spec.ends_of_dims (worth_of c.args.env.now values) c.in-Some.rest.now c.in_ok-ends-in-Some.ends) c.value.ensures.same_values
    ∙ sym (one_more worth c.args.dims.now c.in-Some.rest.now c.in-Some.dim.now c.args.ends c.in_ok-ends-in-Some.ends c.in_ok-count-in-Some.count split count wide)
