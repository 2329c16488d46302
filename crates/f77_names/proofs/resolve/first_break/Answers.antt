use Rattle.std.proofs.Common.{◌≡◌, ◌++◌, List, ◌∙◌}
use Rattle.f77_ast.specs.declared.refusal.Refusal.{Refusal}
use Rattle.f77_uses.specs.Breaks as uses
use Rattle.f77_uses.proofs.Turns.{joined_first}
use Rattle.f77_kinds.specs.Breaks as kinds
use Rattle.f77_due.specs.Breaks.{lacking_among}
use Rattle.f77_names.proofs.resolve.first_break.Goals as goal

pub returns : goal.returns
returns c =
    let units = c.args.units.now in
    let first : List Refusal = uses.breaks_among units in
    let second : List Refusal = kinds.breaks_among units in
    let names = c.sooner-names.ensures ∙ joined_first c.in_ok-uses.uses c.in_ok-kinds.kinds first second c.in_ok-uses.ensures c.in_ok-kinds.ensures in
    c.sooner.ensures ∙ joined_first c.sooner-names.result c.in_ok-lacking.lacking (first ++ second) (lacking_among units) names c.in_ok-lacking.ensures
