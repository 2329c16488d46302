use Rattle.std.proofs.Common.{sym, ◌∙◌, ap, slice_get}
use Rattle.std.specs.Option.{option_and_then}
use Rattle.f77_structure.proofs.UnitLemmas.{statement_in}
use Rattle.f77_structure.proofs.units.statement_at.Goals as goal

-- the statement is one of the unit
pub returns-clause-listed : goal.returns-clause-listed
returns-clause-listed c = c.statement_of_unit.ensures.listed ∙ ap (λ units. option_and_then (λ unit. slice_get unit.listing c.args.at) (slice_get units c.args.unit)) c.as_slice.ensures ∙ sym (statement_in c.args.program.now.units c.args.unit c.args.at)
