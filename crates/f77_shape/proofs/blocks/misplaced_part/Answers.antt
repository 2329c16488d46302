use Rattle.f77_ast.specs.declared.rule.Rule.TheVariants.{IfNesting}
use Rattle.std.proofs.Common.{sym, ap, ◌∙◌}
use Rattle.f77_shape.specs.Blocks.{is_misplaced_part, is_misplaced, opened_by}
use Rattle.f77_shape.proofs.Firsts.{turned, first_from}
use Rattle.f77_shape.proofs.RuleLemmas.{open_more}
use Rattle.f77_shape.proofs.blocks.misplaced_part.Goals as goal

pub loop-listed-preserved : goal.loop-listed-preserved
loop-listed-preserved c =
    let unit = c.args.unit.now in
    let place = c.loop-listed.listed-index in
    let listed = c.listed-item.result in
    record {
      first = turned IfNesting (is_misplaced_part unit) unit place listed c.loop-listed.first (first_from IfNesting (is_misplaced_part unit) unit 0) c.refused_if.result c.sooner-first.result c.is_misplaced-breaks.result c.loop-listed-test.true c.listed-item.is c.sooner-first.ensures c.refused_if.ensures
          (c.is_misplaced-breaks.ensures ∙ ap (λ ifs. is_misplaced ifs listed.stmt) c.loop-listed.invariant.ifs)
          c.loop-listed.invariant.first;
      ifs =
          c.in_ok-go_on.ensures
          ∙ ap (opened_by listed.stmt) c.loop-listed.invariant.ifs
          ∙ sym (open_more unit place listed c.loop-listed-test.true c.listed-item.is);
    }
