use Rattle.std.proofs.Common.{◌≡◌, Some, FitsSigned, rules, sym, ◌∙◌}
use Rattle.std.proofs.lemmas.Int.{to_z-of_z}
use Rattle.sym_lmad.specs.Ends as spec
use Rattle.sym_lmad.specs.Worth.{worth_of}
use Rattle.sym_lmad.proofs.EndLaws.{ends_some, ends_none}
use Rattle.sym_lmad.proofs.ends.ends.Goals as goal
use mir.Syntax.{w64}

pub returns-clause-some : goal.returns-clause-some
returns-clause-some g c =
    let values = g.C.Cells.values c.args.cells.now in
    let base : worth_of c.args.env.now values c.args.lmad.now.base ≡ Some c.in_ok-base.base = search rules in
    let fits : FitsSigned w64 c.in_ok-base.base = search rules in
    let got = simp to_z-of_z at c.ends_of_dims.ensures.value in
    let all : spec.ends_of_dims (worth_of c.args.env.now values) c.args.lmad.now.dims (c.in_ok-base.base, c.in_ok-base.base) ≡ c.ends_of_dims.result = sym (got ∙ (λ i. spec.ends_of_dims (worth_of c.args.env.now (c.value.ensures.same_values i)) (c.as_slice.ensures i) (c.in_ok-base.base, c.in_ok-base.base))) in
    ends_some c.args.env.now values c.args.lmad.now c.in_ok-base.base c.ends_of_dims.result base all

pub returns-clause-none : goal.returns-clause-none
returns-clause-none g c =
    let values = g.C.Cells.values c.args.cells.now in
    let base : worth_of c.args.env.now values c.args.lmad.now.base ≡ Some c.in_ok-base.base = search rules in
    let fits : FitsSigned w64 c.in_ok-base.base = search rules in
    let got = simp to_z-of_z at c.ends_of_dims.ensures.value in
    let all : spec.ends_of_dims (worth_of c.args.env.now values) c.args.lmad.now.dims (c.in_ok-base.base, c.in_ok-base.base) ≡ c.ends_of_dims.result = sym (got ∙ (λ i. spec.ends_of_dims (worth_of c.args.env.now (c.value.ensures.same_values i)) (c.as_slice.ensures i) (c.in_ok-base.base, c.in_ok-base.base))) in
    ends_none c.args.env.now values c.args.lmad.now c.in_ok-base.base c.ends_of_dims.result base all
