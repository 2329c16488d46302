use Rattle.f77_ast.specs.declared.rule.Rule.TheVariants.{DoNesting, DoubleLabel, IfNesting, JumpIntoRange, LabelMissing, StatementOrder}
use Rattle.std.proofs.Common.{◌++◌, List, ◌∙◌}
use Rattle.f77_ast.specs.declared.refusal.Refusal.{Refusal}
use Rattle.f77_shape.specs.Blocks.{is_misplaced_part, is_unended}
use Rattle.f77_shape.specs.Breaks.{broken_by}
use Rattle.f77_shape.specs.Jumps.{jumps_in}
use Rattle.f77_shape.specs.Labels.{misses_label, doubles_label}
use Rattle.f77_shape.specs.Order.{is_out_of_order}
use Rattle.f77_shape.specs.Ranges.{breaks_range}
use Rattle.f77_shape.proofs.Firsts.{joined_first}
use Rattle.f77_shape.proofs.shape.unit_break.Goals as goal

pub returns : goal.returns
returns c =
    let unit = c.args.unit.now in
    let missing : List Refusal = broken_by LabelMissing (misses_label unit) 0 unit in
    let double : List Refusal = broken_by DoubleLabel (doubles_label unit) 0 unit in
    let range : List Refusal = broken_by DoNesting (breaks_range unit) 0 unit in
    let part : List Refusal = broken_by IfNesting (is_misplaced_part unit) 0 unit in
    let unended : List Refusal = broken_by IfNesting is_unended 0 unit in
    let jump : List Refusal = broken_by JumpIntoRange (jumps_in unit) 0 unit in
    let order : List Refusal = broken_by StatementOrder (is_out_of_order unit) 0 unit in
    let labels = c.sooner-labels.ensures ∙ joined_first c.missing_label-missing.result c.in_ok-double.double missing double c.missing_label-missing.ensures c.in_ok-double.ensures in
    let ranges = c.sooner-ranges.ensures ∙ joined_first c.sooner-labels.result c.bad_range-range.result (missing ++ double) range labels c.bad_range-range.ensures in
    let parts = c.sooner-parts.ensures ∙ joined_first c.sooner-ranges.result c.in_ok-part.part (missing ++ double ++ range) part ranges c.in_ok-part.ensures in
    let blocks = c.sooner-blocks.ensures ∙ joined_first c.sooner-parts.result c.unended_if-unended.result (missing ++ double ++ range ++ part) unended parts c.unended_if-unended.ensures in
    let jumps = c.sooner-jumps.ensures ∙ joined_first c.sooner-blocks.result c.jump_in-jump.result (missing ++ double ++ range ++ part ++ unended) jump blocks c.jump_in-jump.ensures in
    c.sooner.ensures ∙ joined_first c.sooner-jumps.result c.wrong_order-order.result (missing ++ double ++ range ++ part ++ unended ++ jump) order jumps c.wrong_order-order.ensures
