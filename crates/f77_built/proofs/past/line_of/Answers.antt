use Rattle.std.proofs.Common.{◌≡◌, sym, ap, ◌∙◌, subst, arith}
use Rattle.std.specs.Prelude.{IfOk}
use Rattle.f77_built.specs.Built.{first_line}
use Rattle.f77_built.proofs.UnitTurns.{listing_at, listing_none}
use Rattle.f77_built.proofs.past.line_of.Goals as goal

pub returns-in-None : goal.returns-in-None
returns-in-None c =
    let outside = c.in-None.ensures.lookup.0 in
    sym (ap (first_line c.args.entity.now.name) (listing_none c.args.units.now c.args.entity.now.unit (grind (arith, outside))))

pub returns-in-Some : goal.returns-in-Some
returns-in-Some c =
    let inside = c.in-Some.ensures.lookup.0 in
    subst (λ l. IfOk c.first_line.result (λ line. line ≡ first_line c.args.entity.now.name l))
    (c.as_slice.ensures ∙ sym (listing_at c.args.units.now c.args.entity.now.unit c.in-Some.unit.now (grind (arith, inside)) c.in-Some.ensures.lookup.1))
    c.first_line.ensures
