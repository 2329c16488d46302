use Rattle.f77_ast.specs.declared.rule.Rule.TheVariants.{LabelMissing}
use Rattle.std.proofs.Common.{ap, ◌∙◌}
use Rattle.std.specs.Option.{is_none}
use Rattle.f77_structure.specs.Labels.{labels_of, target_in}
use Rattle.f77_shape.specs.Labels.{misses_label}
use Rattle.f77_shape.specs.Tables.{lacks}
use Rattle.f77_shape.proofs.Firsts.{turned, first_from}
use Rattle.f77_shape.proofs.RuleLemmas.{any_same}
use Rattle.f77_shape.proofs.labels.missing_label.Goals as goal

pub loop-listed-preserved : goal.loop-listed-preserved
loop-listed-preserved c =
    let unit = c.args.unit.now in
    let listed = c.listed-item.result in
    turned LabelMissing (misses_label unit) unit c.loop-listed.listed-index listed c.loop-listed.first (first_from LabelMissing (misses_label unit) unit 0) c.refused_if.result c.sooner-first.result c.misses_label-breaks.result c.loop-listed-test.true c.listed-item.is c.sooner-first.ensures c.refused_if.ensures
    (c.misses_label-breaks.ensures ∙ any_same (lacks c.args.targets.now) (λ label. is_none (target_in label unit)) (labels_of listed.stmt) (λ label. ap is_none (c.requires.at label)))
    c.loop-listed.invariant
