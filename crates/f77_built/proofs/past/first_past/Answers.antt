use Rattle.std.proofs.Common.{◌≡◌, suc, ◌+◌, ◌∷◌, drop, None, Some, sym, ap, ◌∙◌, arith}
use Rattle.f77_built.specs.Built.{first_past}
use Rattle.f77_built.proofs.PastLemmas.{drop_at, past_here, past_more}
use Rattle.f77_layout.proofs.PlacingLemmas.{limited_some}
use Rattle.f77_layout.specs.Layout.{limited}
use Rattle.f77_layout.specs.Layout as layout
use Rattle.f77_built.proofs.past.first_past.Goals as goal

-- an entity that isn't within the limit
pub returns-in-None-more_units : goal.returns-in-None-more_units
returns-in-None-more_units c =
    let entities = c.args.entities.now in
    let number = c.loop-number.number in
    let total = c.loop-number.total in
    let e = c.in-Some.entity.now in
    let at : drop number entities ≡ e ∷ drop (suc number) entities = drop_at entities number e (sym c.in-Some.ensures) in
    let over : limited (total + layout.own_units e) ≡ None = ap (λ n. limited (total + n)) (sym c.own_units.ensures) ∙ sym c.in-None-more_units.ensures in
    sym (past_here total e (drop (suc number) entities) over) ∙ ap (first_past total) (sym at) ∙ c.loop-number.invariant.rest

-- one that is
pub loop-number-preserved : goal.loop-number-preserved
loop-number-preserved c =
    let entities = c.args.entities.now in
    let number = c.loop-number.number in
    let total = c.loop-number.total in
    let more = c.in-Some-more_units.more in
    let e = c.in-Some.entity.now in
    let at : drop number entities ≡ e ∷ drop (suc number) entities = drop_at entities number e (sym c.in-Some.ensures) in
    let under : limited (total + layout.own_units e) ≡ Some more = ap (λ n. limited (total + n)) (sym c.own_units.ensures) ∙ sym c.in-Some-more_units.ensures in
    let sum = limited_some (total + layout.own_units e) more under in
    let one : suc number ≡ number + 1 = omega arith in
    record {
      end = c.loop-number.invariant.end;
      fits = let same = sum.0 in let few = sum.1 in omega (arith, same, few);
      rest = ap (λ n. first_past more (drop n entities)) (sym one) ∙ sym (past_more total e (drop (suc number) entities) more under) ∙ ap (first_past total) (sym at) ∙ c.loop-number.invariant.rest;
    }
