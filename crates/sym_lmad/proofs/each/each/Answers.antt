use Rattle.std.proofs.Common.{◌≡◌, [], Some, None, if◌then◌else◌, FitsSigned, rules, refl, ap, sym, subst, ◌∙◌}
use Rattle.std.proofs.lemmas.Int.{to_z-of_z}
use Rattle.sym_lmad.specs.Members.{extents_by, extents_onto, Placed}
use Rattle.sym_lmad.specs.Worth.{worth_of}
use Rattle.sym_lmad.proofs.MemberLaws.{lacks_counts, placed, all_answers}
use Rattle.sym_lmad.proofs.Near.{near_bounds}
use Rattle.sym_lmad.proofs.NumberLaws.{worth_near}
use Rattle.sym_lmad.proofs.each.each.Goals as goal
use mir.Syntax.{w64}

pub returns-then-not-branch-clause-answer : goal.returns-then-not-branch-clause-answer
returns-then-not-branch-clause-answer g c =
    let values = g.C.Cells.values c.args.cells.now in
    let none : extents_onto [] (extents_by (worth_of c.args.env.now values) c.args.lmad.now.dims) ≡ None =
    (λ i. extents_onto (sym c.new-extents.ensures i) (extents_by (worth_of c.args.env.now (sym c.value.ensures.same_values i)) (sym c.as_slice.ensures i)))
    ∙ c.in_ok-add_extents.ensures.answer ∙ ap (λ b. if b then Some c.add_extents.new.into else None) c.if-not-branch.true in
    (refl, lacks_counts c.args.env.now values c.args.lmad.now none)

pub add_near-requires : goal.add_near-requires
add_near-requires g c =
    let values = g.C.Cells.values c.args.cells.now in
    let base : worth_of c.args.env.now values c.args.lmad.now.base ≡ Some c.in-Some.base = search rules in
    let fits : FitsSigned w64 c.in-Some.base = search rules in
    simp to_z-of_z (near_bounds c.in-Some.base c.in-Some.base (worth_near c.args.env.now values c.args.lmad.now.base c.in-Some.base base))

pub returns-clause-answer : goal.returns-clause-answer
returns-clause-answer g c =
    let values = g.C.Cells.values c.args.cells.now in
    let base : worth_of c.args.env.now values c.args.lmad.now.base ≡ Some c.in-Some.base = search rules in
    let fits : FitsSigned w64 c.in-Some.base = search rules in
    let all : extents_onto [] (extents_by (worth_of c.args.env.now values) c.args.lmad.now.dims) ≡ Some c.add_extents.new.into =
    (λ i. extents_onto (sym c.new-extents.ensures i) (extents_by (worth_of c.args.env.now (sym c.value.ensures.same_values i)) (sym c.as_slice.ensures i)))
    ∙ c.in_ok-add_extents.ensures.answer ∙ ap (λ b. if b then Some c.add_extents.new.into else None) c.if-not-branch.false in
    let place : Placed c.args.env.now values c.args.lmad.now c.in-Some.base c.add_extents.new.into = placed c.args.env.now values c.args.lmad.now c.in-Some.base c.add_extents.new.into base all in
    let place_2 : Placed c.args.env.now values c.args.lmad.now c.in-Some.base c.as_slice-2.result.now = subst (Placed c.args.env.now values c.args.lmad.now c.in-Some.base) (sym c.as_slice-2.ensures) place in
    all_answers c.args.env.now values c.args.lmad.now c.add_near.result c.in-Some.base c.as_slice-2.result.now c.args.into.now c.add_near.new.into place_2 (simp to_z-of_z at c.add_near.ensures.answer)
