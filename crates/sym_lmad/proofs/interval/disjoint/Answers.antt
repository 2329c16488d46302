use Rattle.std.proofs.Common.{◌≡◌, ◌∙◌, FitsSigned, rules, to_z, of_z}
use Rattle.std.specs.Int.{int_max, int_min}
use Rattle.std.proofs.lemmas.Int.{to_z-of_z}
use Rattle.sym_lmad.proofs.Intervals.{disjoint_is}
use Rattle.sym_lmad.proofs.interval.disjoint.Goals as goal
use mir.Syntax.{w64}

pub returns : goal.returns
returns c =
    let high_fits : FitsSigned w64 c.min.result = search rules in
    let low_fits : FitsSigned w64 c.max.result = search rules in
    let a0 : FitsSigned w64 c.args.a.0 = search rules in
    let a1 : FitsSigned w64 c.args.a.1 = search rules in
    let b0 : FitsSigned w64 c.args.b.0 = search rules in
    let b1 : FitsSigned w64 c.args.b.1 = search rules in
    let first : int_max (to_z w64 (of_z w64 c.args.a.0)) (to_z w64 (of_z w64 c.args.b.0)) ≡ int_max c.args.a.0 c.args.b.0 = λ i. int_max (to_z-of_z w64 c.args.a.0 a0 i) (to_z-of_z w64 c.args.b.0 b0 i) in
    let last : int_min (to_z w64 (of_z w64 c.args.a.1)) (to_z w64 (of_z w64 c.args.b.1)) ≡ int_min c.args.a.1 c.args.b.1 = λ i. int_min (to_z-of_z w64 c.args.a.1 a1 i) (to_z-of_z w64 c.args.b.1 b1 i) in
    simp to_z-of_z (disjoint_is c.args.a.0 c.args.a.1 c.args.b.0 c.args.b.1 c.max.result c.min.result (c.max.ensures.value ∙ first) (c.min.ensures.value ∙ last))
