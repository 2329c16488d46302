use Rattle.std.proofs.Common.{◌≡◌, ◌+◌, ◌<◌, pos, Some, None, is_some, slice_set, FitsSigned, rules, ap, sym, subst, ◌∙◌, arith}
use Rattle.std.proofs.lemmas.Int.{to_z-of_z}
use Rattle.sym_lmad.specs.Bindings.{IsReadable}
use Rattle.sym_lmad.specs.Gain.{at_index}
use Rattle.pdag_nodes.specs.Steps.{windows_of, window_reads, SameButIndex}
use Rattle.pdag_nodes.specs.Windows.{are_ascending, pass}
use Rattle.pdag_nodes.proofs.EnvLaws.{set_is, same_after, place_same, readable_still, window_still}
use Rattle.pdag_nodes.proofs.TurnLaws.{sum_more, sum_within}
use Rattle.pdag_nodes.proofs.WindowLaws.{pass_is, pass_more, not_ascending}
use Rattle.pdag_nodes.proofs.eval.ascend.Goals as goal
use mir.Syntax.{w64}

pub set-requires : goal.set-requires
set-requires g c = let same = place_same c.args.index c.args.env.now c.loop-turn.env c.loop-turn.invariant.kept in let place = c.requires.place in omega (arith, same, place)

pub window-requires : goal.window-requires
window-requires g c =
    let index = c.args.index in
    let env = c.args.env.now in
    let values = g.C.Cells.values c.args.cells.now in
    let turn = c.loop-turn.turn in
    let inv = c.loop-turn.invariant in
    let number_fits : FitsSigned w64 c.ordinal.result = search rules in
    let set : c.set.new.self ≡ slice_set c.loop-turn.env.indices index c.ordinal.result = simp to_z-of_z at c.set.ensures in
    let now = record c.loop-turn.env { indices = c.set.new.self } in
    let is_now : now ≡ at_index c.loop-turn.env index (pos (turn + 1)) = set_is c.loop-turn.env c.set.new.self index c.ordinal.result (pos (turn + 1)) set c.ordinal.ensures in
    subst (λ e. IsReadable e (g.C.Cells.values c.loop-turn.cells) (g.C.Cells.may_get c.loop-turn.cells)) (sym is_now)
    (readable_still index env c.loop-turn.env (pos (turn + 1)) values (g.C.Cells.values c.loop-turn.cells) (g.C.Cells.may_get c.args.cells.now) (g.C.Cells.may_get c.loop-turn.cells) inv.kept inv.values inv.test c.requires.readable)

pub returns-in_default-clause-truth : goal.returns-in_default-clause-truth
returns-in_default-clause-truth g c =
    let index = c.args.index in
    let env = c.args.env.now in
    let values = g.C.Cells.values c.args.cells.now in
    let turn = c.loop-turn.turn in
    let inv = c.loop-turn.invariant in
    let number_fits : FitsSigned w64 c.ordinal.result = search rules in
    let set : c.set.new.self ≡ slice_set c.loop-turn.env.indices index c.ordinal.result = simp to_z-of_z at c.set.ensures in
    let now = record c.loop-turn.env { indices = c.set.new.self } in
    let is_now : now ≡ at_index c.loop-turn.env index (pos (turn + 1)) = set_is c.loop-turn.env c.set.new.self index c.ordinal.result (pos (turn + 1)) set c.ordinal.ensures in
    let windows = windows_of env values index c.args.low.now c.args.high.now in
    let seen : c.window.result ≡ windows (pos (turn + 1)) = c.window.ensures.value ∙ window_still index env c.loop-turn.env now (pos (turn + 1)) values (g.C.Cells.values c.loop-turn.cells) c.args.low.now c.args.high.now is_now inv.kept inv.values in
    let less : turn < c.args.count = omega arith in
    let none : c.window.result ≡ None = search rules in
    sym (not_ascending c.args.rising windows turn c.args.count less (pass_more c.args.rising windows turn ∙ (λ i. pass c.args.rising (inv.last i) ((sym seen ∙ none) i))))

pub returns-in_default-clause-same_env : goal.returns-in_default-clause-same_env
returns-in_default-clause-same_env g c =
    let index = c.args.index in
    let env = c.args.env.now in
    let values = g.C.Cells.values c.args.cells.now in
    let turn = c.loop-turn.turn in
    let inv = c.loop-turn.invariant in
    let number_fits : FitsSigned w64 c.ordinal.result = search rules in
    let set : c.set.new.self ≡ slice_set c.loop-turn.env.indices index c.ordinal.result = simp to_z-of_z at c.set.ensures in
    let now = record c.loop-turn.env { indices = c.set.new.self } in
    let is_now : now ≡ at_index c.loop-turn.env index (pos (turn + 1)) = set_is c.loop-turn.env c.set.new.self index c.ordinal.result (pos (turn + 1)) set c.ordinal.ensures in
    subst (SameButIndex index env) (sym is_now) (same_after index env c.loop-turn.env (pos (turn + 1)) inv.kept)

pub returns-in_default-clause-reads : goal.returns-in_default-clause-reads
returns-in_default-clause-reads g c =
    let index = c.args.index in
    let env = c.args.env.now in
    let values = g.C.Cells.values c.args.cells.now in
    let turn = c.loop-turn.turn in
    let inv = c.loop-turn.invariant in
    let less : turn < c.args.count = omega arith in
    let within = sum_within turn c.args.count (λ _. window_reads c.args.low.now c.args.high.now) less in
    let read = c.window.ensures.reads in
    let before = inv.reads in
    omega (arith, within, read, before)

pub returns-in-None-clause-truth : goal.returns-in-None-clause-truth
returns-in-None-clause-truth g c =
    let index = c.args.index in
    let env = c.args.env.now in
    let values = g.C.Cells.values c.args.cells.now in
    let turn = c.loop-turn.turn in
    let inv = c.loop-turn.invariant in
    let number_fits : FitsSigned w64 c.ordinal.result = search rules in
    let set : c.set.new.self ≡ slice_set c.loop-turn.env.indices index c.ordinal.result = simp to_z-of_z at c.set.ensures in
    let now = record c.loop-turn.env { indices = c.set.new.self } in
    let is_now : now ≡ at_index c.loop-turn.env index (pos (turn + 1)) = set_is c.loop-turn.env c.set.new.self index c.ordinal.result (pos (turn + 1)) set c.ordinal.ensures in
    let windows = windows_of env values index c.args.low.now c.args.high.now in
    let seen : c.window.result ≡ windows (pos (turn + 1)) = c.window.ensures.value ∙ window_still index env c.loop-turn.env now (pos (turn + 1)) values (g.C.Cells.values c.loop-turn.cells) c.args.low.now c.args.high.now is_now inv.kept inv.values in
    let less : turn < c.args.count = omega arith in
    let some : c.window.result ≡ Some c.in-Some.window = search rules in
    let none : c.passed.result ≡ None = search rules in
    sym (not_ascending c.args.rising windows turn c.args.count less (pass_more c.args.rising windows turn ∙ (λ i. pass c.args.rising (inv.last i) ((sym seen ∙ some) i)) ∙ sym c.passed.ensures ∙ none))

pub returns-in-None-clause-same_env : goal.returns-in-None-clause-same_env
returns-in-None-clause-same_env g c =
    let index = c.args.index in
    let env = c.args.env.now in
    let values = g.C.Cells.values c.args.cells.now in
    let turn = c.loop-turn.turn in
    let inv = c.loop-turn.invariant in
    let number_fits : FitsSigned w64 c.ordinal.result = search rules in
    let set : c.set.new.self ≡ slice_set c.loop-turn.env.indices index c.ordinal.result = simp to_z-of_z at c.set.ensures in
    let now = record c.loop-turn.env { indices = c.set.new.self } in
    let is_now : now ≡ at_index c.loop-turn.env index (pos (turn + 1)) = set_is c.loop-turn.env c.set.new.self index c.ordinal.result (pos (turn + 1)) set c.ordinal.ensures in
    subst (SameButIndex index env) (sym is_now) (same_after index env c.loop-turn.env (pos (turn + 1)) inv.kept)

pub returns-in-None-clause-reads : goal.returns-in-None-clause-reads
returns-in-None-clause-reads g c =
    let index = c.args.index in
    let env = c.args.env.now in
    let values = g.C.Cells.values c.args.cells.now in
    let turn = c.loop-turn.turn in
    let inv = c.loop-turn.invariant in
    let less : turn < c.args.count = omega arith in
    let within = sum_within turn c.args.count (λ _. window_reads c.args.low.now c.args.high.now) less in
    let read = c.window.ensures.reads in
    let before = inv.reads in
    omega (arith, within, read, before)

pub loop-turn-preserved : goal.loop-turn-preserved
loop-turn-preserved g c =
    let index = c.args.index in
    let env = c.args.env.now in
    let values = g.C.Cells.values c.args.cells.now in
    let turn = c.loop-turn.turn in
    let inv = c.loop-turn.invariant in
    let number_fits : FitsSigned w64 c.ordinal.result = search rules in
    let set : c.set.new.self ≡ slice_set c.loop-turn.env.indices index c.ordinal.result = simp to_z-of_z at c.set.ensures in
    let now = record c.loop-turn.env { indices = c.set.new.self } in
    let is_now : now ≡ at_index c.loop-turn.env index (pos (turn + 1)) = set_is c.loop-turn.env c.set.new.self index c.ordinal.result (pos (turn + 1)) set c.ordinal.ensures in
    let windows = windows_of env values index c.args.low.now c.args.high.now in
    let seen : c.window.result ≡ windows (pos (turn + 1)) = c.window.ensures.value ∙ window_still index env c.loop-turn.env now (pos (turn + 1)) values (g.C.Cells.values c.loop-turn.cells) c.args.low.now c.args.high.now is_now inv.kept inv.values in
    let some : c.window.result ≡ Some c.in-Some.window = search rules in
    let some_now : c.passed.result ≡ Some c.in-Some-passed.now = search rules in
    let more = sum_more turn (λ _. window_reads c.args.low.now c.args.high.now) in
    let read = c.window.ensures.reads in
    let before = inv.reads in
    record {
      kept = subst (SameButIndex index env) (sym is_now) (same_after index env c.loop-turn.env (pos (turn + 1)) inv.kept);
      values = c.window.ensures.same_values ∙ inv.values;
      test = c.window.ensures.same_test ∙ inv.test;
      reads = omega (arith, more, read, before);
      last = pass_more c.args.rising windows turn ∙ (λ i. pass c.args.rising (inv.last i) ((sym seen ∙ some) i)) ∙ sym c.passed.ensures ∙ some_now;
    }

pub returns-clause-truth : goal.returns-clause-truth
returns-clause-truth g c =
    let index = c.args.index in
    let env = c.args.env.now in
    let values = g.C.Cells.values c.args.cells.now in
    let turn = c.loop-turn.turn in
    let inv = c.loop-turn.invariant in
    let windows = windows_of env values index c.args.low.now c.args.high.now in
    let done : turn ≡ c.args.count = omega arith in
    ap is_some (sym inv.last) ∙ pass_is c.args.rising windows turn ∙ ap (are_ascending c.args.rising windows) done
