use Rattle.std.proofs.Common.{◌≡◌, ◌+◌, ◌<◌, pos, Some, IfOk, FitsSigned, slice_set, slice_get, unwrap_or, rules, refl, ap, sym, subst, ◌∙◌, arith}
use Rattle.std.proofs.lemmas.Int.{to_z-of_z}
use Rattle.hyb_base.specs.declared.env.Env.{Env}
use Rattle.sym_lmad.specs.Bindings.{IsReadable}
use Rattle.sym_lmad.specs.Gain.{at_index}
use Rattle.sym_lmad.specs.Members.{count_of}
use Rattle.sym_lmad.specs.Worth.{worth_of}
use Rattle.usr_graph.specs.Choice.{near_worth}
use Rattle.plain_members.specs.declared.told.Told.TheVariants.{In, Out, Open}
use Rattle.plain_members.specs.Asked.{Answers, AnswersBy, AnswersOver, Looked, opposite_of, turns_before}
use Rattle.plain_members.proofs.Answering.{told_is, either_in, either_open, either_later, both_out, both_open, both_later, first_out, first_open, first_later, gate_open, gate_out, gate_later, site_later, over_later, over_open, below_later, none_yet, none_more, found_at, on_ok, answers_moved, at_moved, opposite-twice, readable_at, set_back}
use Rattle.plain_members.proofs.ask.+ask.Goals as goal
use mir.Syntax.{w64}

pub ask-returns-clause-answer : goal.ask-returns-clause-answer
ask-returns-clause-answer g t c =
    let worth = near_worth c.args.env.now (g.C.Cells.values c.args.cells.now) in
    on_ok c.ask_node.result _ _ (λ r h. told_is worth c.args.graph.now c.args.env.now.indices (pos c.args.address) c.args.id c.node.result.now r c.node.ensures.value c.node.ensures.members h) c.ask_node.ensures.answer

-- ---- the kinds of nodes

pub ask_node-returns-in-Empty-clause-answer : goal.ask_node-returns-in-Empty-clause-answer
ask_node-returns-in-Empty-clause-answer g t c =
    let worth = near_worth c.args.env.now (g.C.Cells.values c.args.cells.now) in
    subst (λ node. AnswersBy worth c.args.graph.now c.args.id node c.args.env.now.indices (pos c.args.address) Out) (sym c.in-Empty.is) (λ choice h. h)

pub ask_node-returns-in-Leaf-clause-answer : goal.ask_node-returns-in-Leaf-clause-answer
ask_node-returns-in-Leaf-clause-answer g t c =
    let worth = near_worth c.args.env.now (g.C.Cells.values c.args.cells.now) in
    subst (λ node. IfOk c.of_leaf.result (AnswersBy worth c.args.graph.now c.args.id node c.args.env.now.indices (pos c.args.address))) (sym c.in-Leaf.is) (c.of_leaf.ensures.answer c.args.graph.now c.args.id)

pub ask_node-returns-in-Union-clause-answer : goal.ask_node-returns-in-Union-clause-answer
ask_node-returns-in-Union-clause-answer g t c =
    let worth = near_worth c.args.env.now (g.C.Cells.values c.args.cells.now) in
    subst (λ node. IfOk c.of_either.result (AnswersBy worth c.args.graph.now c.args.id node c.args.env.now.indices (pos c.args.address))) (sym c.in-Union.is) (c.of_either.ensures.answer c.args.id)

pub ask_node-returns-in-Inter-clause-answer : goal.ask_node-returns-in-Inter-clause-answer
ask_node-returns-in-Inter-clause-answer g t c =
    let worth = near_worth c.args.env.now (g.C.Cells.values c.args.cells.now) in
    subst (λ node. IfOk c.of_both.result (AnswersBy worth c.args.graph.now c.args.id node c.args.env.now.indices (pos c.args.address))) (sym c.in-Inter.is) (c.of_both.ensures.answer c.args.id)

pub ask_node-returns-in-Minus-clause-answer : goal.ask_node-returns-in-Minus-clause-answer
ask_node-returns-in-Minus-clause-answer g t c =
    let worth = near_worth c.args.env.now (g.C.Cells.values c.args.cells.now) in
    subst (λ node. IfOk c.of_first.result (AnswersBy worth c.args.graph.now c.args.id node c.args.env.now.indices (pos c.args.address))) (sym c.in-Minus.is) (c.of_first.ensures.answer c.args.id)

pub ask_node-returns-in-Gate-clause-answer : goal.ask_node-returns-in-Gate-clause-answer
ask_node-returns-in-Gate-clause-answer g t c =
    let worth = near_worth c.args.env.now (g.C.Cells.values c.args.cells.now) in
    subst (λ node. IfOk c.where_holds.result (AnswersBy worth c.args.graph.now c.args.id node c.args.env.now.indices (pos c.args.address))) (sym c.in-Gate.is) (c.where_holds.ensures.answer c.args.id)

pub ask_node-returns-in-Recur-clause-answer : goal.ask_node-returns-in-Recur-clause-answer
ask_node-returns-in-Recur-clause-answer g t c =
    let worth = near_worth c.args.env.now (g.C.Cells.values c.args.cells.now) in
    subst (λ node. IfOk c.over_count.result (AnswersBy worth c.args.graph.now c.args.id node c.args.env.now.indices (pos c.args.address))) (sym c.in-Recur.is) (c.over_count.ensures.answer c.args.id)

pub ask_node-returns-in-Below-clause-answer : goal.ask_node-returns-in-Below-clause-answer
ask_node-returns-in-Below-clause-answer g t c =
    let worth = near_worth c.args.env.now (g.C.Cells.values c.args.cells.now) in
    subst (λ node. IfOk c.below_limit.result (AnswersBy worth c.args.graph.now c.args.id node c.args.env.now.indices (pos c.args.address))) (sym c.in-Below.is) (c.below_limit.ensures.answer c.args.id)

pub ask_node-returns-in-Site-clause-answer : goal.ask_node-returns-in-Site-clause-answer
ask_node-returns-in-Site-clause-answer g t c =
    let worth = near_worth c.args.env.now (g.C.Cells.values c.args.cells.now) in
    subst (λ node. IfOk c.ask.result (AnswersBy worth c.args.graph.now c.args.id node c.args.env.now.indices (pos c.args.address))) (sym c.in-Site.is)
    (on_ok c.ask.result _ _ (λ r h. site_later worth c.args.graph.now c.args.env.now.indices (pos c.args.address) c.args.id c.in-Site.site c.in-Site.body r h) c.ask.ensures.answer)

-- ---- two children

pub of_either-returns-in-In-clause-answer : goal.of_either-returns-in-In-clause-answer
of_either-returns-in-In-clause-answer g t c =
    let worth = near_worth c.args.env.now (g.C.Cells.values c.args.cells.now) in
    λ id. either_in worth c.args.graph.now c.args.env.now.indices (pos c.args.address) id c.args.first c.args.second (subst (λ r. Answers worth c.args.graph.now c.args.first c.args.env.now.indices (pos c.args.address) r) c.in-In.is c.in_ok-known.ensures.answer)

pub of_either-returns-in-Out-clause-answer : goal.of_either-returns-in-Out-clause-answer
of_either-returns-in-Out-clause-answer g t c =
    let worth = near_worth c.args.env.now (g.C.Cells.values c.args.cells.now) in
    let second = answers_moved c.ask-in-Out.result c.args.graph.now c.args.second (pos c.args.address) (λ r. r) c.args.env.now c.ask.new.env (g.C.Cells.values c.args.cells.now) (g.C.Cells.values c.ask.new.cells) c.ask.ensures.same_env c.ask.ensures.same_values c.ask-in-Out.ensures.answer in
    λ id. on_ok c.ask-in-Out.result _ _ (λ r h. either_later worth c.args.graph.now c.args.env.now.indices (pos c.args.address) id c.args.first c.args.second (subst (λ r. Answers worth c.args.graph.now c.args.first c.args.env.now.indices (pos c.args.address) r) c.in-Out.is c.in_ok-known.ensures.answer) r h) second

pub of_either-returns-in-Open-clause-answer : goal.of_either-returns-in-Open-clause-answer
of_either-returns-in-Open-clause-answer g t c =
    let worth = near_worth c.args.env.now (g.C.Cells.values c.args.cells.now) in
    λ id. either_open worth c.args.graph.now c.args.env.now.indices (pos c.args.address) id c.args.first c.args.second (subst (λ r. Answers worth c.args.graph.now c.args.first c.args.env.now.indices (pos c.args.address) r) c.in-Open.is c.in_ok-known.ensures.answer)

pub of_both-returns-in-In-clause-answer : goal.of_both-returns-in-In-clause-answer
of_both-returns-in-In-clause-answer g t c =
    let worth = near_worth c.args.env.now (g.C.Cells.values c.args.cells.now) in
    let second = answers_moved c.ask-in-In.result c.args.graph.now c.args.second (pos c.args.address) (λ r. r) c.args.env.now c.ask.new.env (g.C.Cells.values c.args.cells.now) (g.C.Cells.values c.ask.new.cells) c.ask.ensures.same_env c.ask.ensures.same_values c.ask-in-In.ensures.answer in
    λ id. on_ok c.ask-in-In.result _ _ (λ r h. both_later worth c.args.graph.now c.args.env.now.indices (pos c.args.address) id c.args.first c.args.second (subst (λ r. Answers worth c.args.graph.now c.args.first c.args.env.now.indices (pos c.args.address) r) c.in-In.is c.in_ok-known.ensures.answer) r h) second

pub of_both-returns-in-Out-clause-answer : goal.of_both-returns-in-Out-clause-answer
of_both-returns-in-Out-clause-answer g t c =
    let worth = near_worth c.args.env.now (g.C.Cells.values c.args.cells.now) in
    λ id. both_out worth c.args.graph.now c.args.env.now.indices (pos c.args.address) id c.args.first c.args.second (subst (λ r. Answers worth c.args.graph.now c.args.first c.args.env.now.indices (pos c.args.address) r) c.in-Out.is c.in_ok-known.ensures.answer)

pub of_both-returns-in-Open-clause-answer : goal.of_both-returns-in-Open-clause-answer
of_both-returns-in-Open-clause-answer g t c =
    let worth = near_worth c.args.env.now (g.C.Cells.values c.args.cells.now) in
    λ id. both_open worth c.args.graph.now c.args.env.now.indices (pos c.args.address) id c.args.first c.args.second (subst (λ r. Answers worth c.args.graph.now c.args.first c.args.env.now.indices (pos c.args.address) r) c.in-Open.is c.in_ok-known.ensures.answer)

pub of_first-returns-in-In-clause-answer : goal.of_first-returns-in-In-clause-answer
of_first-returns-in-In-clause-answer g t c =
    let worth = near_worth c.args.env.now (g.C.Cells.values c.args.cells.now) in
    let second = answers_moved c.not_of.result c.args.graph.now c.args.second (pos c.args.address) opposite_of c.args.env.now c.ask.new.env (g.C.Cells.values c.args.cells.now) (g.C.Cells.values c.ask.new.cells) c.ask.ensures.same_env c.ask.ensures.same_values c.not_of.ensures.answer in
    λ id. on_ok c.not_of.result _ _ (λ r h. first_later worth c.args.graph.now c.args.env.now.indices (pos c.args.address) id c.args.first c.args.second (subst (λ r. Answers worth c.args.graph.now c.args.first c.args.env.now.indices (pos c.args.address) r) c.in-In.is c.in_ok-known.ensures.answer) r h) second

pub of_first-returns-in-Out-clause-answer : goal.of_first-returns-in-Out-clause-answer
of_first-returns-in-Out-clause-answer g t c =
    let worth = near_worth c.args.env.now (g.C.Cells.values c.args.cells.now) in
    λ id. first_out worth c.args.graph.now c.args.env.now.indices (pos c.args.address) id c.args.first c.args.second (subst (λ r. Answers worth c.args.graph.now c.args.first c.args.env.now.indices (pos c.args.address) r) c.in-Out.is c.in_ok-known.ensures.answer)

pub of_first-returns-in-Open-clause-answer : goal.of_first-returns-in-Open-clause-answer
of_first-returns-in-Open-clause-answer g t c =
    let worth = near_worth c.args.env.now (g.C.Cells.values c.args.cells.now) in
    λ id. first_open worth c.args.graph.now c.args.env.now.indices (pos c.args.address) id c.args.first c.args.second (subst (λ r. Answers worth c.args.graph.now c.args.first c.args.env.now.indices (pos c.args.address) r) c.in-Open.is c.in_ok-known.ensures.answer)

pub not_of-returns-clause-answer : goal.not_of-returns-clause-answer
not_of-returns-clause-answer g t c =
    let worth = near_worth c.args.env.now (g.C.Cells.values c.args.cells.now) in
    subst (λ r. Answers worth c.args.graph.now c.args.id c.args.env.now.indices (pos c.args.address) r) (sym (ap opposite_of c.opposite.ensures ∙ opposite-twice c.in_ok-known.known)) c.in_ok-known.ensures.answer

-- ---- a condition

pub where_holds-returns-in-In-clause-answer : goal.where_holds-returns-in-In-clause-answer
where_holds-returns-in-In-clause-answer g t c =
    let values = g.C.Cells.values c.args.cells.now in
    let worth = near_worth c.args.env.now values in
    let left : c.value-left.result ≡ worth_of c.args.env.now values c.args.cond.now.left = c.value-left.ensures.value in
    let right : c.value-right.result ≡ worth_of c.args.env.now values c.args.cond.now.right = c.value-right.ensures.value ∙ ap (λ l. worth_of c.args.env.now l c.args.cond.now.right) c.value-left.ensures.same_values in
    let seen : Looked c.value-left.result c.args.cond.now.rel c.value-right.result In = subst (λ r. Looked c.value-left.result c.args.cond.now.rel c.value-right.result r) c.in-In.is c.look-known.ensures in
    let looked : Looked (worth_of c.args.env.now values c.args.cond.now.left) c.args.cond.now.rel (worth_of c.args.env.now values c.args.cond.now.right) In = subst (λ r. Looked (worth_of c.args.env.now values c.args.cond.now.left) c.args.cond.now.rel r In) right (subst (λ l. Looked l c.args.cond.now.rel c.value-right.result In) left seen) in
    let body = answers_moved c.ask.result c.args.graph.now c.args.body (pos c.args.address) (λ r. r) c.args.env.now c.args.env.now values (g.C.Cells.values c.value-right.new.cells) refl (c.value-right.ensures.same_values ∙ c.value-left.ensures.same_values) c.ask.ensures.answer in
    λ id. on_ok c.ask.result _ _ (λ r h. gate_later worth c.args.graph.now c.args.env.now.indices (pos c.args.address) id c.args.cond.now c.args.body looked r h) body

pub where_holds-returns-in-Out-clause-answer : goal.where_holds-returns-in-Out-clause-answer
where_holds-returns-in-Out-clause-answer g t c =
    let values = g.C.Cells.values c.args.cells.now in
    let worth = near_worth c.args.env.now values in
    let left : c.value-left.result ≡ worth_of c.args.env.now values c.args.cond.now.left = c.value-left.ensures.value in
    let right : c.value-right.result ≡ worth_of c.args.env.now values c.args.cond.now.right = c.value-right.ensures.value ∙ ap (λ l. worth_of c.args.env.now l c.args.cond.now.right) c.value-left.ensures.same_values in
    let seen : Looked c.value-left.result c.args.cond.now.rel c.value-right.result Out = subst (λ r. Looked c.value-left.result c.args.cond.now.rel c.value-right.result r) c.in-Out.is c.look-known.ensures in
    let looked : Looked (worth_of c.args.env.now values c.args.cond.now.left) c.args.cond.now.rel (worth_of c.args.env.now values c.args.cond.now.right) Out = subst (λ r. Looked (worth_of c.args.env.now values c.args.cond.now.left) c.args.cond.now.rel r Out) right (subst (λ l. Looked l c.args.cond.now.rel c.value-right.result Out) left seen) in
    λ id. gate_out worth c.args.graph.now c.args.env.now.indices (pos c.args.address) id c.args.cond.now c.args.body looked

pub where_holds-returns-in-Open-clause-answer : goal.where_holds-returns-in-Open-clause-answer
where_holds-returns-in-Open-clause-answer g t c =
    let values = g.C.Cells.values c.args.cells.now in
    let worth = near_worth c.args.env.now values in
    let left : c.value-left.result ≡ worth_of c.args.env.now values c.args.cond.now.left = c.value-left.ensures.value in
    let right : c.value-right.result ≡ worth_of c.args.env.now values c.args.cond.now.right = c.value-right.ensures.value ∙ ap (λ l. worth_of c.args.env.now l c.args.cond.now.right) c.value-left.ensures.same_values in
    let seen : Looked c.value-left.result c.args.cond.now.rel c.value-right.result Open = subst (λ r. Looked c.value-left.result c.args.cond.now.rel c.value-right.result r) c.in-Open.is c.look-known.ensures in
    let looked : Looked (worth_of c.args.env.now values c.args.cond.now.left) c.args.cond.now.rel (worth_of c.args.env.now values c.args.cond.now.right) Open = subst (λ r. Looked (worth_of c.args.env.now values c.args.cond.now.left) c.args.cond.now.rel r Open) right (subst (λ l. Looked l c.args.cond.now.rel c.value-right.result Open) left seen) in
    λ id. gate_open worth c.args.graph.now c.args.env.now.indices (pos c.args.address) id c.args.cond.now c.args.body looked

-- ---- an index

pub over_count-returns-in-None-clause-answer : goal.over_count-returns-in-None-clause-answer
over_count-returns-in-None-clause-answer g t c =
    let values = g.C.Cells.values c.args.cells.now in
    let worth = near_worth c.args.env.now values in
    λ id. over_open worth c.args.graph.now c.args.env.now.indices (pos c.args.address) id c.args.index c.args.count.now c.args.body (sym c.value-number.ensures.value ∙ c.in-None.is)

pub over_count-returns-in-Some-clause-answer : goal.over_count-returns-in-Some-clause-answer
over_count-returns-in-Some-clause-answer g t c =
    let values = g.C.Cells.values c.args.cells.now in
    let worth = near_worth c.args.env.now values in
    let fits : FitsSigned w64 c.in-Some.number = search rules in
    let count : worth_of c.args.env.now values c.args.count.now ≡ Some c.in-Some.number = search rules in
    let turns : c.turns.result ≡ count_of c.in-Some.number = simp to_z-of_z at c.turns.ensures.value in
    let over = subst (λ l. IfOk c.each_turn.result (AnswersOver (near_worth c.args.env.now l) c.args.graph.now c.args.index c.args.body c.args.env.now.indices c.turns.result (pos c.args.address))) c.value-number.ensures.same_values c.each_turn.ensures.answer in
    λ id. on_ok c.each_turn.result _ _ (λ r h. over_later worth c.args.graph.now c.args.env.now.indices (pos c.args.address) id c.args.index c.args.count.now c.args.body c.in-Some.number c.turns.result count turns r h) over

pub below_limit-returns-clause-answer : goal.below_limit-returns-clause-answer
below_limit-returns-clause-answer g t c =
    let values = g.C.Cells.values c.args.cells.now in
    let worth = near_worth c.args.env.now values in
    let fits : FitsSigned w64 c.unwrap_or-limit.result = search rules in
    let was : c.unwrap_or-limit.result ≡ unwrap_or (slice_get c.args.env.now.indices c.args.limit) (pos 0) = search rules in
    let turns : c.turns_below.result ≡ turns_before c.unwrap_or-limit.result = simp to_z-of_z at c.turns_below.ensures.value in
    λ id. on_ok c.each_turn.result _ _ (λ r h. below_later worth c.args.graph.now c.args.env.now.indices (pos c.args.address) id c.args.index c.args.limit c.args.body c.turns_below.result (turns ∙ ap turns_before was) r h) c.each_turn.ensures.answer

pub each_turn-loop-turn-init : goal.each_turn-loop-turn-init
each_turn-loop-turn-init g t c = record { kept = refl; values = refl; test = refl; none = none_yet (near_worth c.args.env.now (g.C.Cells.values c.args.cells.now)) c.args.graph.now c.args.env.now.indices (pos c.args.address) c.args.index c.args.body }

pub each_turn-ask_at-requires : goal.each_turn-ask_at-requires
each_turn-ask_at-requires g t c =
    let inv = c.loop-turn.invariant in
    let readable : IsReadable c.loop-turn.env (g.C.Cells.values c.loop-turn.cells) (g.C.Cells.may_get c.loop-turn.cells) = subst (λ e. IsReadable e (g.C.Cells.values c.loop-turn.cells) (g.C.Cells.may_get c.loop-turn.cells)) (sym inv.kept) (subst (λ m. IsReadable c.args.env.now (g.C.Cells.values c.loop-turn.cells) m) (sym inv.test) (subst (λ l. IsReadable c.args.env.now l (g.C.Cells.may_get c.args.cells.now)) (sym inv.values) c.requires.readable)) in
    search rules

pub each_turn-returns-in-In-clause-answer : goal.each_turn-returns-in-In-clause-answer
each_turn-returns-in-In-clause-answer g t c =
    let inv = c.loop-turn.invariant in
    let worth = near_worth c.args.env.now (g.C.Cells.values c.args.cells.now) in
    let at = at_moved c.args.graph.now c.args.index c.args.body (pos (c.loop-turn.turn + 1)) (pos c.args.address) c.in_ok-known.known c.args.env.now c.loop-turn.env (g.C.Cells.values c.args.cells.now) (g.C.Cells.values c.loop-turn.cells) inv.kept inv.values c.in_ok-known.ensures.answer in
    let less : c.loop-turn.turn < c.args.turns = omega arith in
    found_at worth c.args.graph.now c.args.env.now.indices (pos c.args.address) c.args.index c.args.body c.loop-turn.turn c.args.turns less In (λ e. cc) (subst (λ r. Answers worth c.args.graph.now c.args.body (slice_set c.args.env.now.indices c.args.index (pos (c.loop-turn.turn + 1))) (pos c.args.address) r) c.in-In.is at)

pub each_turn-returns-in-Open-clause-answer : goal.each_turn-returns-in-Open-clause-answer
each_turn-returns-in-Open-clause-answer g t c =
    let inv = c.loop-turn.invariant in
    let worth = near_worth c.args.env.now (g.C.Cells.values c.args.cells.now) in
    let at = at_moved c.args.graph.now c.args.index c.args.body (pos (c.loop-turn.turn + 1)) (pos c.args.address) c.in_ok-known.known c.args.env.now c.loop-turn.env (g.C.Cells.values c.args.cells.now) (g.C.Cells.values c.loop-turn.cells) inv.kept inv.values c.in_ok-known.ensures.answer in
    let less : c.loop-turn.turn < c.args.turns = omega arith in
    found_at worth c.args.graph.now c.args.env.now.indices (pos c.args.address) c.args.index c.args.body c.loop-turn.turn c.args.turns less Open (λ e. cc) (subst (λ r. Answers worth c.args.graph.now c.args.body (slice_set c.args.env.now.indices c.args.index (pos (c.loop-turn.turn + 1))) (pos c.args.address) r) c.in-Open.is at)

pub each_turn-loop-turn-preserved : goal.each_turn-loop-turn-preserved
each_turn-loop-turn-preserved g t c =
    let inv = c.loop-turn.invariant in
    let worth = near_worth c.args.env.now (g.C.Cells.values c.args.cells.now) in
    let at = at_moved c.args.graph.now c.args.index c.args.body (pos (c.loop-turn.turn + 1)) (pos c.args.address) c.in_ok-known.known c.args.env.now c.loop-turn.env (g.C.Cells.values c.args.cells.now) (g.C.Cells.values c.loop-turn.cells) inv.kept inv.values c.in_ok-known.ensures.answer in
    let is_out : c.in_ok-known.known ≡ Out = search rules in
    record {
      kept = c.ask_at.ensures.same_env ∙ inv.kept;
      values = c.ask_at.ensures.same_values ∙ inv.values;
      test = c.ask_at.ensures.same_test ∙ inv.test;
      none = none_more worth c.args.graph.now c.args.env.now.indices (pos c.args.address) c.args.index c.args.body c.loop-turn.turn inv.none (subst (λ r. Answers worth c.args.graph.now c.args.body (slice_set c.args.env.now.indices c.args.index (pos (c.loop-turn.turn + 1))) (pos c.args.address) r) is_out at);
    }

pub each_turn-returns-clause-answer : goal.each_turn-returns-clause-answer
each_turn-returns-clause-answer g t c =
    let worth = near_worth c.args.env.now (g.C.Cells.values c.args.cells.now) in
    let done : c.loop-turn.turn ≡ c.args.turns = omega arith in
    subst (λ m. AnswersOver worth c.args.graph.now c.args.index c.args.body c.args.env.now.indices m (pos c.args.address) Out) done c.loop-turn.invariant.none

pub ask_at-ask-told-requires : goal.ask_at-ask-told-requires
ask_at-ask-told-requires g t c =
    let readable : IsReadable c.set_turn.new.env (g.C.Cells.values c.args.cells.now) (g.C.Cells.may_get c.args.cells.now) = subst (λ e. IsReadable e (g.C.Cells.values c.args.cells.now) (g.C.Cells.may_get c.args.cells.now)) (sym c.set_turn.ensures) (readable_at c.args.env.now c.args.index (pos (c.args.turn + 1)) (g.C.Cells.values c.args.cells.now) (g.C.Cells.may_get c.args.cells.now) c.requires.readable) in
    search rules

pub ask_at-returns-clause-answer : goal.ask_at-returns-clause-answer
ask_at-returns-clause-answer g t c =
    subst (λ (e : Env). IfOk c.ask-told.result (Answers (near_worth e (g.C.Cells.values c.args.cells.now)) c.args.graph.now c.args.body e.indices (pos c.args.address))) c.set_turn.ensures c.ask-told.ensures.answer

pub ask_at-returns-clause-same_env : goal.ask_at-returns-clause-same_env
ask_at-returns-clause-same_env g t c =
    let fits : FitsSigned w64 c.unwrap_or-held.result = search rules in
    let was : c.unwrap_or-held.result ≡ unwrap_or (slice_get c.args.env.now.indices c.args.index) (pos 0) = search rules in
    let set : c.set_index.new.env ≡ at_index c.ask-told.new.env c.args.index c.unwrap_or-held.result = simp to_z-of_z at c.set_index.ensures in
    set ∙ ap (λ e. at_index e c.args.index c.unwrap_or-held.result) (c.ask-told.ensures.same_env ∙ c.set_turn.ensures) ∙ set_back c.args.env.now c.args.index (pos (c.args.turn + 1)) c.unwrap_or-held.result was
