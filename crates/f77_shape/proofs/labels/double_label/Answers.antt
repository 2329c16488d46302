use Rattle.f77_ast.specs.declared.rule.Rule.TheVariants.{DoubleLabel}
use Rattle.std.proofs.Common.{◌||◌, nat_eq, take, sym, ap, ◌∙◌}
use Rattle.std.specs.HashSet.{contains}
use Rattle.f77_structure.specs.Labels.{is_label}
use Rattle.f77_shape.specs.Labels.{doubles_label}
use Rattle.f77_shape.proofs.Firsts.{turned, first_from}
use Rattle.f77_shape.proofs.RuleLemmas.{any_more, seen_is_any}
use Rattle.f77_shape.proofs.labels.double_label.Goals as goal

pub loop-listed-preserved : goal.loop-listed-preserved
loop-listed-preserved c =
    let unit = c.args.unit.now in
    let place = c.loop-listed.listed-index in
    let listed = c.listed-item.result in
    record {
      first = turned DoubleLabel (doubles_label unit) unit place listed c.loop-listed.first (first_from DoubleLabel (doubles_label unit) unit 0) c.refused_if.result c.sooner-first.result c.in_ok-breaks.breaks c.loop-listed-test.true c.listed-item.is c.sooner-first.ensures c.refused_if.ensures
          (c.in_ok-breaks.ensures.again ∙ seen_is_any (contains nat_eq c.loop-listed.seen) listed.card.label (take place unit) c.loop-listed.invariant.seen)
          c.loop-listed.invariant.first;
      seen = λ label.
          c.in_ok-breaks.ensures.noted label
          ∙ ap (λ b. b || is_label label listed.card.label) (c.loop-listed.invariant.seen label)
          ∙ sym (any_more (λ other. is_label label other.card.label) unit place listed c.loop-listed-test.true c.listed-item.is);
    }
