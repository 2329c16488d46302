use Rattle.std.proofs.Common.{◌≡◌, ◌+◌, ◌≤◌, ap, sym, subst, ◌∙◌}
use Rattle.std.specs.Prelude.{All}
use Rattle.std.specs.List.{IsDistinct}
use Rattle.slot_rows.specs.Rows.{regions_of, regions_named, AreNamed}
use Rattle.slot_rows.specs.Spans.{has_address, overlap}
use Rattle.red_ops.specs.Partials.{rows_of}
use Rattle.region_rows.specs.Regions.{layout_regions, numbers}
use Rattle.region_rows.proofs.NineRegions.{are_named, are_distinct, are_within, are_held}
use Rattle.region_rows.proofs.partials.PartialsStage.new.Goals as goal

pub reserve-requires-clause-named : goal.reserve-requires-clause-named
reserve-requires-clause-named c =
    subst (λ rs. AreNamed rs c.in_ok-numbers.numbers) (sym c.in_ok-layout.ensures.regions) (subst (AreNamed layout_regions) (sym c.in_ok-numbers.ensures) are_named)

pub reserve-requires-clause-apart : goal.reserve-requires-clause-apart
reserve-requires-clause-apart c =
    let same : regions_named c.in_ok-layout.layout.regions c.in_ok-numbers.numbers ≡ regions_named layout_regions numbers = ap (λ rs. regions_named rs c.in_ok-numbers.numbers) c.in_ok-layout.ensures.regions ∙ ap (regions_named layout_regions) c.in_ok-numbers.ensures in
    subst (IsDistinct overlap) (sym same) are_distinct

pub reserve-requires-clause-within : goal.reserve-requires-clause-within
reserve-requires-clause-within c =
    let same : regions_named c.in_ok-layout.layout.regions c.in_ok-numbers.numbers ≡ regions_named layout_regions numbers = ap (λ rs. regions_named rs c.in_ok-numbers.numbers) c.in_ok-layout.ensures.regions ∙ ap (regions_named layout_regions) c.in_ok-numbers.ensures in
    subst (λ n. All (λ r. r.start + r.len ≤ n) (regions_named c.in_ok-layout.layout.regions c.in_ok-numbers.numbers)) (sym c.in_ok-layout.ensures.total) (subst (All (λ r. r.start + r.len ≤ 1001000)) (sym same) are_within)

pub invariant_of-result : goal.invariant_of-result
invariant_of-result c =
    let same : regions_named c.in_ok-layout.layout.regions c.in_ok-numbers.numbers ≡ regions_named layout_regions numbers = ap (λ rs. regions_named rs c.in_ok-numbers.numbers) c.in_ok-layout.ensures.regions ∙ ap (regions_named layout_regions) c.in_ok-numbers.ensures in
    let whole : regions_of (rows_of c.in_ok-partials.partials) ≡ regions_named layout_regions numbers = c.in_ok-partials.ensures.regions ∙ same in
    record {
      window = c.in_ok-partials.ensures.window;
      size = c.in_ok-cells.ensures;
      held = λ a h. ap (λ rs. has_address rs a) whole ∙ are_held a h;
      within = subst (All (λ r. r.start + r.len ≤ 1001000)) (sym whole) are_within;
    }
