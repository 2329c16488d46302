use Rattle.std.proofs.Common.{◌≡◌, suc, ◌+◌, ◌++◌, drop, sym, ap, ◌∙◌, arith}
use Rattle.std.proofs.lemmas.List.{append_assoc}
use Rattle.f77_layout.specs.Layout as spec
use Rattle.f77_layout.proofs.PlacingLemmas.{regions_next, total_next}
use Rattle.f77_layout.proofs.placing.regions_of.Goals as goal

pub overflow_cast-units : goal.overflow_cast-units
overflow_cast-units c =
    let next = total_next c.args.entities.now c.loop-number.number in
    omega (arith, next, c.units_at-units.ensures, c.loop-number.invariant.fits)

pub overflow_add-address : goal.overflow_add-address
overflow_add-address c =
    let next = total_next c.args.entities.now c.loop-number.number in
    omega (arith, next, c.units_at-units.ensures, c.loop-number.invariant.fits)

-- the region of one entity more
pub loop-number-preserved : goal.loop-number-preserved
loop-number-preserved c =
    let entities = c.args.entities.now in
    let number = c.loop-number.number in
    let address = c.loop-number.address in
    let next = total_next entities number in
    let one : suc number ≡ number + 1 = omega arith in
    let left = ap (λ n. spec.total_units (drop n entities)) one in
    let own = spec.region_if (spec.is_stored_at entities number) address c.units_at-units.result in
    record {
      end = c.loop-number.invariant.end;
      fits = omega (arith, next, left, c.units_at-units.ensures, c.loop-number.invariant.fits);
      rest =
          ap (λ regions. regions ++ spec.regions_from (address + c.units_at-units.result) (drop (number + 1) entities)) c.in_ok-add_region.ensures
          ∙ append_assoc c.loop-number.regions own (spec.regions_from (address + c.units_at-units.result) (drop (number + 1) entities))
          ∙ (λ i. c.loop-number.regions ++ (spec.region_if (spec.is_stored_at entities number) address (c.units_at-units.ensures i) ++ spec.regions_from (address + c.units_at-units.ensures i) (drop (sym one i) entities)))
          ∙ ap (λ regions. c.loop-number.regions ++ regions) (sym (regions_next entities number address))
          ∙ c.loop-number.invariant.rest;
    }
