use Rattle.f77_ast.specs.declared.rule.Rule.TheVariants.{StatementOrder}
use Rattle.std.proofs.Common.{◌||◌, ◌&&◌, nat_lt, take, sym, ap, ◌∙◌}
use Rattle.f77_shape.specs.Order.{part_of, follows_part, has_return, is_late, is_out_of_order}
use Rattle.f77_shape.proofs.Firsts.{turned, first_from}
use Rattle.f77_shape.proofs.RuleLemmas.{any_more, below_max}
use Rattle.f77_shape.proofs.order.wrong_order.Goals as goal

pub loop-listed-preserved : goal.loop-listed-preserved
loop-listed-preserved c =
    let unit = c.args.unit.now in
    let place = c.loop-listed.listed-index in
    let listed = c.listed-item.result in
    record {
      first = turned StatementOrder (is_out_of_order unit) unit place listed c.loop-listed.first (first_from StatementOrder (is_out_of_order unit) unit 0) c.refused_if.result c.sooner-first.result c.is_out_of_order-breaks.result c.loop-listed-test.true c.listed-item.is c.sooner-first.ensures c.refused_if.ensures
          (c.is_out_of_order-breaks.ensures ∙ ap (λ b. b || (c.is_main-main.result && has_return listed.stmt)) (sym (c.loop-listed.invariant.latest (follows_part listed.stmt))) ∙ ap (λ m. is_late (take place unit) listed.stmt || (m && has_return listed.stmt)) c.loop-listed.invariant.main)
          c.loop-listed.invariant.first;
      latest = λ part.
          any_more (λ other. nat_lt part (part_of other.stmt)) unit place listed c.loop-listed-test.true c.listed-item.is
          ∙ ap (λ b. b || nat_lt part (part_of listed.stmt)) (c.loop-listed.invariant.latest part)
          ∙ ap (λ n. nat_lt part c.loop-listed.latest || nat_lt part n) (sym c.part_of.ensures)
          ∙ below_max part c.loop-listed.latest c.part_of.result
          ∙ ap (nat_lt part) (sym c.max-latest.ensures);
      main = c.loop-listed.invariant.main;
    }
