use Rattle.std.proofs.Common.{◌≡◌, ◌++◌, List, ap, ◌∙◌}
use Rattle.f77_ast.specs.Refusal.{first_of}
use Rattle.f77_ast.specs.declared.refusal.Refusal.{Refusal}
use Rattle.f77_ast.specs.declared.rule.Rule.TheVariants.{RealName, DoubleName, DoVariableAssigned}
use Rattle.f77_leaves.specs.Declarations.{Declarations, declarations_of}
use Rattle.f77_uses.specs.Breaks.{names_real, declares_twice, uses_twice}
use Rattle.f77_uses.specs.Refused.{broken_by}
use Rattle.f77_uses.specs.Running.{assigns_a_running}
use Rattle.f77_uses.specs.Tables.{told_by}
use Rattle.f77_uses.specs.UseTables.{uses_in}
use Rattle.f77_uses.specs.Uses.{NameUses, uses_of}
use Rattle.f77_uses.proofs.Turns.{joined_first}
use Rattle.f77_uses.proofs.names.unit_break.Goals as goal

pub returns : goal.returns
returns c =
    let unit = c.args.unit.now in
    let d = declarations_of unit in
    let told = told_by c.in_ok-declared.declared.tables in
    let tells : told ≡ d = c.in_ok-declared.ensures.tells in
    let used = c.in_ok-uses.ensures in
    let reals : List Refusal = broken_by RealName (names_real d (uses_of unit)) 0 unit in
    let twice : List Refusal = broken_by DoubleName (declares_twice unit) 0 unit in
    let seconds : List Refusal = broken_by DoubleName (uses_twice d (uses_of unit)) 0 unit in
    let running : List Refusal = broken_by DoVariableAssigned (assigns_a_running unit) 0 unit in
    let real : c.in_ok-real.real ≡ first_of reals =
    c.in_ok-real.ensures
    ∙ ap (λ (t : Declarations). first_of (broken_by RealName (names_real t (uses_in c.in_ok-uses.uses)) 0 unit)) tells
    ∙ ap (λ (u : NameUses). first_of (broken_by RealName (names_real d u) 0 unit)) used in
    let second : c.in_ok-second.second ≡ first_of seconds =
    c.in_ok-second.ensures
    ∙ ap (λ (t : Declarations). first_of (broken_by DoubleName (uses_twice t (uses_in c.in_ok-uses.uses)) 0 unit)) tells
    ∙ ap (λ (u : NameUses). first_of (broken_by DoubleName (uses_twice d u) 0 unit)) used in
    let doubles = c.sooner-doubles.ensures ∙ joined_first c.in_ok-real.real c.in_ok-declared.declared.twice reals twice real c.in_ok-declared.ensures.twice in
    let names = c.sooner-names.ensures ∙ joined_first c.sooner-doubles.result c.in_ok-second.second (reals ++ twice) seconds doubles second in
    c.sooner.ensures ∙ joined_first c.sooner-names.result c.in_ok-running.running (reals ++ twice ++ seconds) running names c.in_ok-running.ensures
