use Rattle.std.specs.List.{flat_map}
use Rattle.std.proofs.Common.{ap, ◌∙◌, drop, ◌+◌}
use Rattle.f77_leaves.specs.Leaves.{leaves_of}
use Rattle.f77_uses.specs.UseTables.{uses_in}
use Rattle.f77_uses.specs.Uses.{leaves_in}
use Rattle.f77_due.specs.Starts.{facts_in}
use Rattle.f77_names.specs.Entities.{entity_named}
use Rattle.f77_names.specs.Growing.{with_names}
use Rattle.f77_names.proofs.GrowthLemmas.{part, statement_names}
use Rattle.f77_names.proofs.entities.add_statements.Goals as goal

pub loop-listed-preserved : goal.loop-listed-preserved
loop-listed-preserved c =
    let facts = facts_in c.args.unit.now in
    let uses = uses_in c.args.unit.now.uses in
    let listing = c.args.listing.now in
    let i = c.loop-listed.listed-index in
    let x = c.listed-item.result in
    part facts c.args.number c.loop-listed.entities c.add_leaves.new.entities (with_names facts c.args.number c.args.entities.now (flat_map (entity_named uses) (leaves_in listing))) (flat_map (entity_named uses) (leaves_of x.stmt)) (flat_map (entity_named uses) (leaves_in (drop (i + 1) listing))) (flat_map (entity_named uses) (leaves_in (drop i listing)))
    (c.in_ok-add_leaves.ensures ∙ ap (λ l. with_names facts c.args.number c.loop-listed.entities (flat_map (entity_named uses) l)) (c.as_slice.ensures ∙ c.in_ok-leaves.ensures))
    (statement_names uses listing i x c.loop-listed-test.true c.listed-item.is) c.loop-listed.invariant
