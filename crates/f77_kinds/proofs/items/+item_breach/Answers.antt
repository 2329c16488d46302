use Rattle.std.proofs.Common.{List, sym, ap, ◌∙◌}
use Rattle.f77_ast.specs.declared.stmt.Item.{Item}
use Rattle.f77_kinds.specs.Breaches.{either, any_of}
use Rattle.f77_kinds.specs.Statements.{control_breach, item_breach}
use Rattle.f77_kinds.specs.declared.breach.Breach.{Breach}
use Rattle.f77_uses.specs.Tables.{told_by}
use Rattle.f77_kinds.proofs.BreachLemmas.{implied_breach, parts_ended}
use Rattle.f77_kinds.proofs.items.+item_breach.Goals as goal

pub returns-after-loop-inner : goal.returns-after-loop-inner
returns-after-loop-inner t c =
    let unit = told_by c.args.tables.now in
    let look = item_breach unit c.args.way in
    let list = c.as_slice-list.result.now in
    let control = control_breach unit c.in-Implied.control in
    c.either.ensures
    ∙ ap (λ (b : Breach). either b c.control_breach.result) (parts_ended look list c.loop-inner.inner-index c.loop-inner.breach (any_of look list) c.loop-inner-test.false c.loop-inner.invariant)
    ∙ ap (either (any_of look list)) c.control_breach.ensures
    ∙ ap (λ (l : List Item). either (any_of look l) control) c.as_slice-list.ensures
    ∙ sym (implied_breach unit c.args.way c.in-Implied.items c.in-Implied.control)
    ∙ ap look (sym c.in-Implied.is)
