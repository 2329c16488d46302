use Rattle.std.proofs.Common.{◌≡◌, [], ◌∷◌, ◌++◌, Some, None, IfOk, if◌then◌else◌, FitsSigned, rules, sym, subst, ◌∙◌}
use Rattle.std.proofs.lemmas.Int.{to_z-of_z}
use Rattle.sym_lmad.specs.Members.{extents_by, extents_onto}
use Rattle.sym_lmad.specs.Worth.{worth_of}
use Rattle.sym_lmad.proofs.MemberLaws.{onto_step}
use Rattle.sym_lmad.proofs.each.+add_extents.Goals as goal
use mir.Syntax.{w64}

pub returns-in_ok-push-in-Some-clause-answer : goal.returns-in_ok-push-in-Some-clause-answer
returns-in_ok-push-in-Some-clause-answer g t c =
    let worth = worth_of c.args.env.now (g.C.Cells.values c.args.cells.now) in
    let d = c.in-Some.dim.now in
    let n = c.in-Some-value.count in
    let split : c.args.dims.now ≡ d ∷ c.in-Some.rest.now = search rules in
    let count : worth d.count ≡ Some n = search rules in
    let stride_fits : FitsSigned w64 d.stride = search rules in
    let count_fits : FitsSigned w64 n = search rules in
    let pushed : c.push.new.self ≡ c.args.into.now ++ record { stride = d.stride; count = n } ∷ [] = simp to_z-of_z at c.in_ok-push-in-Some.ensures.ok in
    let eq : extents_onto c.args.into.now (extents_by worth c.args.dims.now) ≡ extents_onto c.push.new.self (extents_by (worth_of c.args.env.now (g.C.Cells.values c.value.new.cells)) c.in-Some.rest.now) =
    onto_step worth c.args.into.now c.args.dims.now c.in-Some.rest.now d n split count ∙ (λ i. extents_onto (sym pushed i) (extents_by (worth_of c.args.env.now (sym c.value.ensures.same_values i)) c.in-Some.rest.now)) in
    subst (λ x. IfOk c.add_extents.result (λ had. x ≡ (if had then Some c.add_extents.new.into else None))) (sym eq) c.add_extents.ensures.answer
