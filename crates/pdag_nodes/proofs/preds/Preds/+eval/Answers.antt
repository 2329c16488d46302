use Rattle.std.proofs.Common.{◌≡◌, ◌+◌, ◌<◌, ◌≤◌, ℤ, pos, length, Some, true, false, slice_set, slice_get, unwrap_or, FitsSigned, rules, ap, sym, subst, ◌∙◌, arith}
use Rattle.std.proofs.lemmas.Int.{to_z-of_z}
use Rattle.hyb_base.specs.declared.env.Env.{Env}
use Rattle.sym_lmad.specs.Bindings.{IsReadable}
use Rattle.sym_lmad.specs.Gain.{at_index}
use Rattle.sym_lmad.specs.Worth.{worth_of}
use Rattle.pdag_nodes.specs.Nodes.{HaveIndices, Meaning, meaning_of, truth_of, every_by, reads_by}
use Rattle.pdag_nodes.specs.Steps.{SameButIndex}
use Rattle.pdag_nodes.specs.Turns.{each_to}
use Rattle.pdag_nodes.proofs.EnvLaws.{set_is, same_after, place_same, set_back, readable_still, places_still, meaning_still}
use Rattle.pdag_nodes.proofs.TurnLaws.{sum_more, sum_within, each_more, each_failed}
use Rattle.pdag_nodes.proofs.preds.Preds.+eval.Goals as goal
use mir.Syntax.{w64}

pub eval-returns-clause-truth : goal.eval-returns-clause-truth
eval-returns-clause-truth g t c = c.judge.ensures.truth ∙ sym (ap (λ (m : Meaning). m.holds) (c.node.ensures.meaning (g.C.Cells.values c.args.cells.now) c.args.env.now))

pub eval-returns-clause-reads : goal.eval-returns-clause-reads
eval-returns-clause-reads g t c = subst (λ r. g.C.Cells.reads c.judge.new.cells ≤ g.C.Cells.reads c.args.cells.now + r) (sym (ap (λ (m : Meaning). m.reads) (c.node.ensures.meaning (g.C.Cells.values c.args.cells.now) c.args.env.now))) c.judge.ensures.reads

pub each_turn-set-requires : goal.each_turn-set-requires
each_turn-set-requires g t c = let same = place_same c.args.index c.args.env.now c.loop-turn.env c.loop-turn.invariant.kept in let place = c.requires.place in omega (arith, same, place)

pub each_turn-returns-then-not-eval-clause-truth : goal.each_turn-returns-then-not-eval-clause-truth
each_turn-returns-then-not-eval-clause-truth g t c =
    let index = c.args.index in
    let env = c.args.env.now in
    let nodes = c.args.self.now in
    let values = g.C.Cells.values c.args.cells.now in
    let turn = c.loop-turn.turn in
    let inv = c.loop-turn.invariant in
    let number_fits : FitsSigned w64 c.ordinal.result = search rules in
    let set : c.set.new.self ≡ slice_set c.loop-turn.env.indices index c.ordinal.result = simp to_z-of_z at c.set.ensures in
    let now = record c.loop-turn.env { indices = c.set.new.self } in
    let is_now : now ≡ at_index c.loop-turn.env index (pos (turn + 1)) = set_is c.loop-turn.env c.set.new.self index c.ordinal.result (pos (turn + 1)) set c.ordinal.ensures in
    let meaning = meaning_still nodes c.args.body index env c.loop-turn.env now (pos (turn + 1)) values (g.C.Cells.values c.loop-turn.cells) is_now inv.kept inv.values in
    let test = λ (i : ℤ). truth_of values nodes c.args.body (at_index env index i) in
    let read = λ (i : ℤ). (meaning_of values nodes c.args.body (at_index env index i)).reads in
    let held : c.eval.result ≡ test (pos (turn + 1)) = c.eval.ensures.truth ∙ ap (λ (m : Meaning). m.holds) meaning in
    let less : turn < c.args.count = omega arith in
    let fails : c.eval.result ≡ false = search rules in
    sym (each_failed turn c.args.count test less (sym held ∙ fails))

pub each_turn-returns-then-not-eval-clause-same_env : goal.each_turn-returns-then-not-eval-clause-same_env
each_turn-returns-then-not-eval-clause-same_env g t c =
    let index = c.args.index in
    let env = c.args.env.now in
    let nodes = c.args.self.now in
    let values = g.C.Cells.values c.args.cells.now in
    let turn = c.loop-turn.turn in
    let inv = c.loop-turn.invariant in
    let number_fits : FitsSigned w64 c.ordinal.result = search rules in
    let set : c.set.new.self ≡ slice_set c.loop-turn.env.indices index c.ordinal.result = simp to_z-of_z at c.set.ensures in
    let now = record c.loop-turn.env { indices = c.set.new.self } in
    let is_now : now ≡ at_index c.loop-turn.env index (pos (turn + 1)) = set_is c.loop-turn.env c.set.new.self index c.ordinal.result (pos (turn + 1)) set c.ordinal.ensures in
    subst (SameButIndex index env) (sym (c.eval.ensures.same_env ∙ is_now)) (same_after index env c.loop-turn.env (pos (turn + 1)) inv.kept)

pub each_turn-returns-then-not-eval-clause-reads : goal.each_turn-returns-then-not-eval-clause-reads
each_turn-returns-then-not-eval-clause-reads g t c =
    let index = c.args.index in
    let env = c.args.env.now in
    let nodes = c.args.self.now in
    let values = g.C.Cells.values c.args.cells.now in
    let turn = c.loop-turn.turn in
    let inv = c.loop-turn.invariant in
    let number_fits : FitsSigned w64 c.ordinal.result = search rules in
    let set : c.set.new.self ≡ slice_set c.loop-turn.env.indices index c.ordinal.result = simp to_z-of_z at c.set.ensures in
    let now = record c.loop-turn.env { indices = c.set.new.self } in
    let is_now : now ≡ at_index c.loop-turn.env index (pos (turn + 1)) = set_is c.loop-turn.env c.set.new.self index c.ordinal.result (pos (turn + 1)) set c.ordinal.ensures in
    let meaning = meaning_still nodes c.args.body index env c.loop-turn.env now (pos (turn + 1)) values (g.C.Cells.values c.loop-turn.cells) is_now inv.kept inv.values in
    let test = λ (i : ℤ). truth_of values nodes c.args.body (at_index env index i) in
    let read = λ (i : ℤ). (meaning_of values nodes c.args.body (at_index env index i)).reads in
    let held : c.eval.result ≡ test (pos (turn + 1)) = c.eval.ensures.truth ∙ ap (λ (m : Meaning). m.holds) meaning in
    let less : turn < c.args.count = omega arith in
    let cells_read : g.C.Cells.reads c.eval.new.cells ≤ g.C.Cells.reads c.loop-turn.cells + read (pos (turn + 1)) = subst (λ r. g.C.Cells.reads c.eval.new.cells ≤ g.C.Cells.reads c.loop-turn.cells + r) (ap (λ (m : Meaning). m.reads) meaning) c.eval.ensures.reads in
    let before = inv.reads in
    let within = sum_within turn c.args.count read less in
    omega (arith, within, cells_read, before)

pub each_turn-loop-turn-preserved : goal.each_turn-loop-turn-preserved
each_turn-loop-turn-preserved g t c =
    let index = c.args.index in
    let env = c.args.env.now in
    let nodes = c.args.self.now in
    let values = g.C.Cells.values c.args.cells.now in
    let turn = c.loop-turn.turn in
    let inv = c.loop-turn.invariant in
    let number_fits : FitsSigned w64 c.ordinal.result = search rules in
    let set : c.set.new.self ≡ slice_set c.loop-turn.env.indices index c.ordinal.result = simp to_z-of_z at c.set.ensures in
    let now = record c.loop-turn.env { indices = c.set.new.self } in
    let is_now : now ≡ at_index c.loop-turn.env index (pos (turn + 1)) = set_is c.loop-turn.env c.set.new.self index c.ordinal.result (pos (turn + 1)) set c.ordinal.ensures in
    let meaning = meaning_still nodes c.args.body index env c.loop-turn.env now (pos (turn + 1)) values (g.C.Cells.values c.loop-turn.cells) is_now inv.kept inv.values in
    let test = λ (i : ℤ). truth_of values nodes c.args.body (at_index env index i) in
    let read = λ (i : ℤ). (meaning_of values nodes c.args.body (at_index env index i)).reads in
    let held : c.eval.result ≡ test (pos (turn + 1)) = c.eval.ensures.truth ∙ ap (λ (m : Meaning). m.holds) meaning in
    let cells_read : g.C.Cells.reads c.eval.new.cells ≤ g.C.Cells.reads c.loop-turn.cells + read (pos (turn + 1)) = subst (λ r. g.C.Cells.reads c.eval.new.cells ≤ g.C.Cells.reads c.loop-turn.cells + r) (ap (λ (m : Meaning). m.reads) meaning) c.eval.ensures.reads in
    let before = inv.reads in
    let more = sum_more turn read in
    let holds : c.eval.result ≡ true = search rules in
    record {
      kept = subst (SameButIndex index env) (sym (c.eval.ensures.same_env ∙ is_now)) (same_after index env c.loop-turn.env (pos (turn + 1)) inv.kept);
      values = c.eval.ensures.same_values ∙ inv.values;
      test = c.eval.ensures.same_test ∙ inv.test;
      reads = omega (arith, more, cells_read, before);
      held = each_more turn test inv.held (sym held ∙ holds);
    }

pub each_turn-returns-clause-truth : goal.each_turn-returns-clause-truth
each_turn-returns-clause-truth g t c =
    let index = c.args.index in
    let env = c.args.env.now in
    let nodes = c.args.self.now in
    let values = g.C.Cells.values c.args.cells.now in
    let turn = c.loop-turn.turn in
    let inv = c.loop-turn.invariant in
    let done : turn ≡ c.args.count = omega arith in
    sym inv.held ∙ ap (λ n. each_to n (λ i. truth_of values nodes c.args.body (at_index env index i))) done

pub every-set-requires : goal.every-set-requires
every-set-requires g t c = let same = place_same c.args.index c.args.env.now c.each_turn-holds.new.env c.each_turn-holds.ensures.same_env in let place = c.requires.place in omega (arith, same, place)

pub every-returns-clause-truth : goal.every-returns-clause-truth
every-returns-clause-truth g t c =
    let values = g.C.Cells.values c.args.cells.now in
    let fits : FitsSigned w64 c.in-Some.count = search rules in
    let count : worth_of c.args.env.now values c.args.count.now ≡ Some c.in-Some.count = search rules in
    let turns = simp to_z-of_z at c.turns.ensures.value in
    c.each_turn-holds.ensures.truth ∙ (λ i. each_to (turns i) (λ n. truth_of (c.value.ensures.same_values i) c.args.self.now c.args.body (at_index c.args.env.now c.args.index n)))
    ∙ sym (ap (λ o. every_by o (λ n. truth_of values c.args.self.now c.args.body (at_index c.args.env.now c.args.index n))) count)

pub every-returns-clause-same_env : goal.every-returns-clause-same_env
every-returns-clause-same_env g t c =
    let index = c.args.index in
    let env = c.args.env.now in
    let back = unwrap_or (slice_get env.indices index) (pos 0) in
    let fits : FitsSigned w64 c.unwrap_or-before.result = search rules in
    let set : c.set.new.self ≡ slice_set c.each_turn-holds.new.env.indices index c.unwrap_or-before.result = simp to_z-of_z at c.set.ensures in
    let was : c.unwrap_or-before.result ≡ back = search rules in
    set_is c.each_turn-holds.new.env c.set.new.self index c.unwrap_or-before.result back set was ∙ set_back index env c.each_turn-holds.new.env c.each_turn-holds.ensures.same_env

pub judge-returns-in-Every-clause-reads : goal.judge-returns-in-Every-clause-reads
judge-returns-in-Every-clause-reads g t c =
    let values = g.C.Cells.values c.args.cells.now in
    subst (λ node. g.C.Cells.reads c.every.new.cells ≤ g.C.Cells.reads c.args.cells.now + reads_by values (meaning_of values c.args.self.now) node c.args.env.now) (sym c.in-Every.is) c.every.ensures.reads

pub judge-returns-in-Ascending-clause-reads : goal.judge-returns-in-Ascending-clause-reads
judge-returns-in-Ascending-clause-reads g t c =
    let values = g.C.Cells.values c.args.cells.now in
    subst (λ node. g.C.Cells.reads c.ascending.new.cells ≤ g.C.Cells.reads c.args.cells.now + reads_by values (meaning_of values c.args.self.now) node c.args.env.now) (sym c.in-Ascending.is) c.ascending.ensures.reads

pub each_turn-eval-requires : goal.each_turn-eval-requires
each_turn-eval-requires g t c =
    let index = c.args.index in
    let env = c.args.env.now in
    let nodes = c.args.self.now in
    let values = g.C.Cells.values c.args.cells.now in
    let turn = c.loop-turn.turn in
    let inv = c.loop-turn.invariant in
    let number_fits : FitsSigned w64 c.ordinal.result = search rules in
    let set : c.set.new.self ≡ slice_set c.loop-turn.env.indices index c.ordinal.result = simp to_z-of_z at c.set.ensures in
    let now = record c.loop-turn.env { indices = c.set.new.self } in
    let is_now : now ≡ at_index c.loop-turn.env index (pos (turn + 1)) = set_is c.loop-turn.env c.set.new.self index c.ordinal.result (pos (turn + 1)) set c.ordinal.ensures in
    let readable : IsReadable now (g.C.Cells.values c.loop-turn.cells) (g.C.Cells.may_get c.loop-turn.cells) = subst (λ e. IsReadable e (g.C.Cells.values c.loop-turn.cells) (g.C.Cells.may_get c.loop-turn.cells)) (sym is_now)
    (readable_still index env c.loop-turn.env (pos (turn + 1)) values (g.C.Cells.values c.loop-turn.cells) (g.C.Cells.may_get c.args.cells.now) (g.C.Cells.may_get c.loop-turn.cells) inv.kept inv.values inv.test c.requires.readable) in
    let room : HaveIndices nodes (length now.indices) = subst (λ (e : Env). HaveIndices nodes (length e.indices)) (sym is_now) (places_still nodes index env c.loop-turn.env (pos (turn + 1)) inv.kept c.requires.room) in
    search rules
