use Rattle.std.proofs.Common.{List, [], take, sym, ap, ◌∙◌}
use Rattle.std.proofs.lemmas.List.{drop_all}
use Rattle.std.specs.Option.{is_some}
use Rattle.f77_ast.specs.declared.program.Unit.{Unit as ProgramUnit}
use Rattle.f77_ast.specs.Refusal.{first_of, sooner}
use Rattle.f77_ast.proofs.Refusals.{sooner-none}
use Rattle.f77_uses.specs.Breaks.{second_units}
use Rattle.f77_uses.specs.Firsts.{told}
use Rattle.f77_uses.proofs.DoubleLemmas.{names_of, seen_is, seen_more, units_turn}
use Rattle.f77_uses.proofs.doubles.second_unit.Goals as goal

pub loop-unit-preserved : goal.loop-unit-preserved
loop-unit-preserved c =
    let units = c.args.units.now in
    let i = c.loop-unit.unit-index in
    let x = c.unit-item.result in
    let kept = c.loop-unit.invariant in
    record {
      seen = λ other. seen_more units i x other (is_some (told c.loop-unit.seen other)) (is_some (told c.note_again.new.seen other)) c.loop-unit-test.true c.unit-item.is (c.in_ok-again.ensures.noted other) (kept.seen other);
      first = units_turn units i x c.loop-unit.first c.refused_if.result c.sooner-first.result (first_of (second_units [] units)) c.in_ok-again.again c.loop-unit-test.true c.unit-item.is c.sooner-first.ensures c.refused_if.ensures
          (c.in_ok-again.ensures.again ∙ seen_is c.loop-unit.seen x.name (names_of (take i units)) kept.seen)
          kept.first;
    }

pub returns : goal.returns
returns c =
    let units = c.args.units.now in
    let i = c.loop-unit.unit-index in
    sym (sooner-none c.loop-unit.first)
    ∙ ap (λ (l : List ProgramUnit). sooner c.loop-unit.first (first_of (second_units (names_of (take i units)) l))) (sym (drop_all i units c.loop-unit-test.false))
    ∙ c.loop-unit.invariant.first
