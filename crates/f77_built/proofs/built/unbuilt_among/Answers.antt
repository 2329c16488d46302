use Rattle.std.proofs.Common.{List, ap, ◌∙◌}
use Rattle.f77_ast.specs.Refusal.{first_of}
use Rattle.f77_ast.specs.declared.program.Listed.{Listed}
use Rattle.f77_built.specs.Built.{unbuilt_from, unbuilt_in}
use Rattle.f77_built.proofs.UnitTurns.{units_end, units_turn}
use Rattle.f77_built.proofs.built.unbuilt_among.Goals as goal

pub loop-number-preserved : goal.loop-number-preserved
loop-number-preserved c =
    let units = c.args.units.now in
    let entities = c.args.entities.now in
    let i = c.loop-number.number in
    let x = c.index-units-number.result in
    units_turn units entities i x c.loop-number.first c.unbuilt_in-found.result c.sooner-first.result (first_of (unbuilt_from units entities 0 units)) c.loop-number-test.true c.index-units-number.is c.sooner-first.ensures
    (c.unbuilt_in-found.ensures ∙ ap (λ (l : List Listed). first_of (unbuilt_in units entities i l)) c.as_slice.ensures)
    c.loop-number.invariant

pub returns : goal.returns
returns c =
    let units = c.args.units.now in
    let entities = c.args.entities.now in
    units_end units entities c.loop-number.number c.loop-number.first (first_of (unbuilt_from units entities 0 units)) c.loop-number-test.false c.loop-number.invariant
