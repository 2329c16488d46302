use Rattle.std.proofs.Common.{◌≡◌, suc, ◌+◌, drop, sym, ap, arith}
use Rattle.f77_layout.specs.Layout as spec
use Rattle.f77_layout.proofs.PlacingLemmas.{limited_none, limited_some, total_next}
use Rattle.f77_layout.proofs.units.total_units.Goals as goal

-- more than the limit stays more
pub returns-in-None : goal.returns-in-None
returns-in-None c =
    let entities = c.args.entities.now in
    let number = c.loop-number.number in
    let next = total_next entities number in
    sym (limited_none (c.loop-number.total + c.units_at.result) (spec.total_units (drop (suc number) entities)) (spec.total_units entities) (sym c.in-None.ensures) (omega (arith, next, c.units_at.ensures, c.loop-number.invariant.rest)))

pub loop-number-preserved : goal.loop-number-preserved
loop-number-preserved c =
    let entities = c.args.entities.now in
    let number = c.loop-number.number in
    let next = total_next entities number in
    let more = limited_some (c.loop-number.total + c.units_at.result) c.in-Some.more (sym c.in-Some.ensures) in
    let one : suc number ≡ number + 1 = omega arith in
    let rest = ap (λ n. spec.total_units (drop n entities)) one in
    record {
      end = c.loop-number.invariant.end;
      fits = let same = more.0 in let few = more.1 in omega (arith, same, few);
      rest = let same = more.0 in omega (arith, same, next, rest, c.units_at.ensures, c.loop-number.invariant.rest);
    }
