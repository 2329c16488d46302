use Rattle.std.proofs.Common.{List, sym, ap, ◌∙◌}
use Rattle.std.proofs.lemmas.List.{drop_all}
use Rattle.std.specs.List.{flat_map}
use Rattle.f77_ast.specs.declared.program.Listed.{Listed}
use Rattle.f77_ast.specs.declared.program.Unit.{Unit as ProgramUnit}
use Rattle.f77_ast.specs.declared.refusal.Refusal.{Refusal}
use Rattle.f77_ast.specs.Refusal.{first_of, sooner}
use Rattle.f77_ast.proofs.Refusals.{sooner-none}
use Rattle.f77_kinds.specs.Breaks.{breaks_in, breaks_among}
use Rattle.f77_uses.proofs.Turns.{parts_turn}
use Rattle.f77_kinds.proofs.kinds_break.kinds_break.Goals as goal

abbrev each : ProgramUnit → List Refusal
each unit = breaks_in unit.listing

pub loop-unit-preserved : goal.loop-unit-preserved
loop-unit-preserved c =
    let units = c.args.units.now in
    let x = c.unit-item.result in
    parts_turn each units c.loop-unit.unit-index x c.loop-unit.first c.in_ok-unit_break.field-0 c.sooner-first.result (first_of (breaks_among units)) c.loop-unit-test.true c.unit-item.is c.sooner-first.ensures
    (c.in_ok-unit_break.ensures ∙ ap (λ (l : List Listed). first_of (breaks_in l)) c.as_slice-listing.ensures)
    c.loop-unit.invariant

pub returns : goal.returns
returns c =
    let units = c.args.units.now in
    sym (sooner-none c.loop-unit.first)
    ∙ ap (λ (l : List ProgramUnit). sooner c.loop-unit.first (first_of (flat_map each l))) (sym (drop_all c.loop-unit.unit-index units c.loop-unit-test.false))
    ∙ c.loop-unit.invariant
