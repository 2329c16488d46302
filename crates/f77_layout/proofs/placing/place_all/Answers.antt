use Rattle.std.proofs.Common.{◌≡◌, suc, ◌+◌, drop, length, sym, ap, ◌∙◌, arith}
use Rattle.f77_layout.specs.Layout as spec
use Rattle.f77_layout.specs.Placing.{placed_from}
use Rattle.f77_layout.proofs.PlacingLemmas.{all_placed, drop_placed, length_placed, placed_next, total_next}
use Rattle.f77_layout.proofs.placing.place_all.Goals as goal

pub overflow_cast-units : goal.overflow_cast-units
overflow_cast-units c =
    let next = total_next c.loop-number.entities c.loop-number.number in
    omega (arith, next, c.units_at-units.ensures, c.loop-number.invariant.fits)

pub overflow_add-address : goal.overflow_add-address
overflow_add-address c =
    let next = total_next c.loop-number.entities c.loop-number.number in
    omega (arith, next, c.units_at-units.ensures, c.loop-number.invariant.fits)

-- one entity more is placed
pub loop-number-preserved : goal.loop-number-preserved
loop-number-preserved c =
    let entities = c.loop-number.entities in
    let new = c.place_entity.new.entities in
    let number = c.loop-number.number in
    let address = c.loop-number.address in
    let next = total_next entities number in
    let one : suc number ≡ number + 1 = omega arith in
    let left : spec.total_units (drop (number + 1) new) ≡ spec.total_units (drop (suc number) entities) =
    ap (λ n. spec.total_units (drop n new)) (sym one) ∙ ap (λ es. spec.total_units (drop (suc number) es)) c.place_entity.ensures ∙ ap spec.total_units (drop_placed entities number address) in
    record {
      end = c.loop-number.invariant.end ∙ sym (length_placed entities number address) ∙ ap length (sym c.place_entity.ensures);
      fits = omega (arith, next, left, c.units_at-units.ensures, c.loop-number.invariant.fits);
      rest =
          (λ i. placed_from (sym one i) (address + c.units_at-units.ensures i) (c.place_entity.ensures i))
          ∙ sym (placed_next entities number address)
          ∙ c.loop-number.invariant.rest;
    }

-- all are
pub returns : goal.returns
returns c =
    sym (all_placed c.loop-number.entities c.loop-number.number c.loop-number.address (omega (arith, c.loop-number.invariant.end, c.loop-number-test.false)))
    ∙ c.loop-number.invariant.rest
