use Rattle.std.proofs.Common.{rules, ◌+◌, length, sym, ap, ◌∙◌, subst}
use Rattle.std.specs.Option.{option_map, IfSome}
use Rattle.std.specs.Int.{w64}
use Rattle.std.proofs.lemmas.Int.{to_z-of_z}
use Rattle.f77_meaning.specs.Assign.{chain_of}
use Rattle.f77_meaning.specs.Demand.{and_then, number_demand}
use Rattle.f77_machine.specs.Evaluated.{Asks}
use Rattle.f77_machine.specs.Chain.{as_operation, held_at, stands_in, with_operand}
use Rattle.f77_machine.specs.Setting.{setting_in}
use Rattle.f77_machine.proofs.Chains.{longer_at, chain_more}
use Rattle.f77_machine.proofs.chain.+chained.Goals as goal

-- one operand more to the right of a chain
pub returns-clause-value : goal.returns-clause-value
returns-clause-value t c =
    let o = c.in_ok-op.field-0 in
    let inner = chain_of (setting_in c.args.program.now c.args.unit) c.args.v.now (stands_in c.args.which) o.left.now in
    let operand = number_demand (setting_in c.args.program.now c.args.unit) o.right.now in
    let value = ap (λ x. option_map (held_at x c.args.answers.now) inner) (to_z-of_z w64 c.args.x c.ranges.x) in
    let more = ap (option_map (λ d. and_then d (with_operand o.op operand))) (c.chained-inner.ensures.value ∙ value) in
    let longer = chain_more (setting_in c.args.program.now c.args.unit) c.args.v.now (stands_in c.args.which) c.args.expr.now (as_operation o) (sym c.in_ok-op.ensures.value) c.in_ok-op.ensures.operators (search rules) (search rules) in
    c.longer.ensures.value ∙ (more ∙ sym (longer_at o.op operand c.args.x c.args.answers.now inner) ∙ ap (option_map (held_at c.args.x c.args.answers.now)) (sym longer))

pub returns-clause-asks : goal.returns-clause-asks
returns-clause-asks t c =
    subst (λ n. IfSome c.longer.result (Asks (length c.args.program.now.layout.first) n (1 + length c.args.answers.now))) (sym c.in_ok-op.ensures.reads) (c.longer.ensures.asks _ _ c.chained-inner.ensures.asks)
