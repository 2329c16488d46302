use Rattle.std.proofs.Common.{ap, map}
use Rattle.f77_kinds.specs.Breaches.{either}
use Rattle.f77_kinds.specs.Found.{expr_found, arguments_breach}
use Rattle.f77_kinds.specs.declared.breach.Breach.{Breach}
use Rattle.f77_uses.specs.Tables.{told_by}
use Rattle.f77_kinds.proofs.BreachLemmas.{argument_turn, listed_is}
use Rattle.f77_kinds.proofs.found.+found.Goals as goal

pub base_found-loop-place-init : goal.base_found-loop-place-init
base_found-loop-place-init t c =
    let rest = arguments_breach c.args.meaning 0 (map (expr_found (told_by c.args.tables.now)) c.as_slice-arg-items.result.now) in
    ap (λ (b : Breach). either b rest) c.no_breach-breach.ensures

pub base_found-loop-place-preserved : goal.base_found-loop-place-preserved
base_found-loop-place-preserved t c =
    let items = c.as_slice-arg-items.result.now in
    let look = expr_found (told_by c.args.tables.now) in
    argument_turn c.args.meaning look items c.loop-place.place c.arg-item.result c.loop-place.breach c.either-breach.result c.argument_breach.result (arguments_breach c.args.meaning 0 (map look items)) c.expr_found-found.result c.loop-place-test.true c.arg-item.is c.expr_found-found.ensures c.argument_breach.ensures c.either-breach.ensures c.loop-place.invariant

pub base_found-returns-after-loop-place : goal.base_found-returns-after-loop-place
base_found-returns-after-loop-place t c =
    listed_is (told_by c.args.tables.now) c.args.name.now c.args.meaning (expr_found (told_by c.args.tables.now)) c.args.args.now c.in-Some.args c.as_slice-arg-items.result.now c.len.result c.loop-place.place c.loop-place.breach c.listed_found.result c.in-Some.is c.as_slice-arg-items.ensures c.len.ensures c.loop-place-test.false c.loop-place.invariant c.listed_found.ensures
