use Rattle.std.proofs.Common.{sym, ap, ◌∙◌}
use Rattle.f77_structure.specs.HasMeaning.{is_kept}
use Rattle.f77_built.proofs.Placed.{still_named, kept_still}
use Rattle.f77_built.proofs.entities.names_kept.Goals as goal

pub returns-in-None : goal.returns-in-None
returns-in-None c = ap is_kept c.in-None.ensures ∙ sym (still_named is_kept kept_still c.args.entities.now c.args.unit c.args.name.now)

pub returns-in-Some : goal.returns-in-Some
returns-in-Some c = c.is_stored.ensures ∙ ap is_kept c.in-Some.ensures ∙ sym (still_named is_kept kept_still c.args.entities.now c.args.unit c.args.name.now)
