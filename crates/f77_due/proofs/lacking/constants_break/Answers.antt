use Rattle.std.proofs.Common.{List, Option, ap, ◌∙◌}
use Rattle.f77_ast.specs.declared.program.Listed.{Listed}
use Rattle.f77_ast.specs.declared.program.Unit.{Unit as ProgramUnit}
use Rattle.f77_ast.specs.declared.refusal.Refusal.{Refusal}
use Rattle.f77_ast.specs.Refusal.{first_of}
use Rattle.f77_uses.proofs.Turns.{parts_turn}
use Rattle.f77_due.specs.Breaks.{lacking_in, lacking_among}
use Rattle.f77_due.proofs.lacking.constants_break.Goals as goal

abbrev each : ProgramUnit → List Refusal
each unit = lacking_in unit.listing

pub loop-unit-preserved : goal.loop-unit-preserved
loop-unit-preserved c =
    let units = c.args.units.now in
    parts_turn each units c.loop-unit.unit-index c.unit-item.result c.loop-unit.first c.in_ok-unit_break.field-0 c.sooner-first.result (first_of (lacking_among units)) c.loop-unit-test.true c.unit-item.is c.sooner-first.ensures
    (c.in_ok-unit_break.ensures ∙ ap (λ (l : List Listed). first_of (lacking_in l)) c.as_slice.ensures)
    c.loop-unit.invariant
