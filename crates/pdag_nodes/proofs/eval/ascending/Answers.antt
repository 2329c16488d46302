use Rattle.std.proofs.Common.{◌≡◌, pos, Some, slice_set, slice_get, unwrap_or, FitsSigned, rules, ap, sym, ◌∙◌, arith}
use Rattle.std.proofs.lemmas.Int.{to_z-of_z}
use Rattle.sym_lmad.specs.Worth.{worth_of}
use Rattle.pdag_nodes.specs.Nodes.{ascending_by}
use Rattle.pdag_nodes.specs.Steps.{windows_of}
use Rattle.pdag_nodes.specs.Windows.{are_ascending}
use Rattle.pdag_nodes.proofs.EnvLaws.{set_is, place_same, set_back}
use Rattle.pdag_nodes.proofs.eval.ascending.Goals as goal
use mir.Syntax.{w64}

pub set-requires : goal.set-requires
set-requires g c = let same = place_same c.args.index c.args.env.now c.ascend-ascends.new.env c.ascend-ascends.ensures.same_env in let place = c.requires.place in omega (arith, same, place)

pub returns-clause-truth : goal.returns-clause-truth
returns-clause-truth g c =
    let values = g.C.Cells.values c.args.cells.now in
    let windows = windows_of c.args.env.now values c.args.index c.args.low.now c.args.high.now in
    let fits : FitsSigned w64 c.in-Some.count = search rules in
    let count : worth_of c.args.env.now values c.args.count.now ≡ Some c.in-Some.count = search rules in
    let turns = simp to_z-of_z at c.turns.ensures.value in
    c.ascend-ascends.ensures.truth ∙ (λ i. are_ascending c.args.rising (windows_of c.args.env.now (c.value.ensures.same_values i) c.args.index c.args.low.now c.args.high.now) (turns i)) ∙ sym (ap (λ o. ascending_by c.args.rising o windows) count)

pub returns-clause-same_env : goal.returns-clause-same_env
returns-clause-same_env g c =
    let index = c.args.index in
    let env = c.args.env.now in
    let back = unwrap_or (slice_get env.indices index) (pos 0) in
    let fits : FitsSigned w64 c.unwrap_or-before.result = search rules in
    let set : c.set.new.self ≡ slice_set c.ascend-ascends.new.env.indices index c.unwrap_or-before.result = simp to_z-of_z at c.set.ensures in
    let was : c.unwrap_or-before.result ≡ back = search rules in
    set_is c.ascend-ascends.new.env c.set.new.self index c.unwrap_or-before.result back set was ∙ set_back index env c.ascend-ascends.new.env c.ascend-ascends.ensures.same_env
