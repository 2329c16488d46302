use Rattle.f77_ast.specs.Limits.{most_names}
use Rattle.std.proofs.Common.{◌+◌, ℕ, List, take, min, sym, ap, subst, ◌∙◌}
use Rattle.f77_ast.specs.declared.program.Listed.{Listed}
use Rattle.f77_ast.specs.Refusal.{first_of}
use Rattle.f77_shape.specs.Counts.{IsCounted}
use Rattle.f77_shape.specs.Limits.{name_breaks}
use Rattle.f77_shape.proofs.CountLemmas.{all_counted, all_more, units_turn}
use Rattle.f77_shape.proofs.limits.too_many_names.Goals as goal

pub loop-unit-preserved : goal.loop-unit-preserved
loop-unit-preserved c =
    let units = c.args.units.now in
    let i = c.loop-unit.unit-index in
    let x = c.unit-item.result in
    let all : ℕ = all_counted 0 (take i units) in
    let made : IsCounted all x.listing c.in_ok-counted.counted.over c.in_ok-counted.counted.count =
    subst (λ (l : List Listed). IsCounted all l c.in_ok-counted.counted.over c.in_ok-counted.counted.count) c.as_slice.ensures (c.in_ok-counted.ensures all c.loop-unit.invariant.others) in
    record {
      others = made.counts ∙ ap (λ n. min n (most_names + 1)) (sym (all_more units i x c.loop-unit-test.true c.unit-item.is));
      first = units_turn units i x c.loop-unit.first c.in_ok-counted.counted.over c.sooner-first.result (first_of (name_breaks 0 units)) c.loop-unit-test.true c.unit-item.is c.sooner-first.ensures made.first c.loop-unit.invariant.first;
    }
