use Rattle.std.proofs.Common.{◌++◌, List, ap, ◌∙◌}
use Rattle.f77_ast.specs.Refusal.{first_of}
use Rattle.f77_ast.specs.declared.refusal.Refusal.{Refusal}
use Rattle.f77_ast.specs.declared.rule.Rule.TheVariants.{TypeClash, ArgumentCount}
use Rattle.f77_kinds.specs.Breaks.{has_clash, has_miscount, breaks_by}
use Rattle.f77_kinds.specs.Letters.{breaks_letters}
use Rattle.f77_leaves.specs.Declarations.{Declarations}
use Rattle.f77_uses.specs.Refused.{broken_by}
use Rattle.f77_uses.specs.Tables.{told_by}
use Rattle.f77_uses.proofs.Turns.{joined_first}
use Rattle.f77_kinds.proofs.kinds_break.unit_break.Goals as goal

pub returns : goal.returns
returns c =
    let unit = c.args.unit.now in
    let told = told_by c.args.tables.now in
    let found = c.first_breaks-breaks.result in
    let clashes : List Refusal = broken_by TypeClash (has_clash told) 0 unit in
    let letters : List Refusal = broken_by TypeClash (breaks_letters unit) 0 unit in
    let miscounts : List Refusal = broken_by ArgumentCount (has_miscount told) 0 unit in
    let both = c.sooner-clash.ensures ∙ joined_first found.clash c.in_ok-letters.letters clashes letters c.first_breaks-breaks.ensures.clash c.in_ok-letters.ensures in
    c.sooner.ensures
    ∙ joined_first c.sooner-clash.result found.miscount (clashes ++ letters) miscounts both c.first_breaks-breaks.ensures.miscount
    ∙ ap (λ (t : Declarations). first_of (breaks_by t unit)) c.requires
