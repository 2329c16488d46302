use Rattle.std.specs.List.{flat_map}
use Rattle.std.proofs.Common.{drop, ◌+◌}
use Rattle.f77_uses.specs.UseTables.{uses_in}
use Rattle.f77_due.specs.Starts.{facts_in}
use Rattle.f77_names.specs.Entities.{entity_named}
use Rattle.f77_names.specs.Growing.{with_names}
use Rattle.f77_names.proofs.GrowthLemmas.{part, leaf_names}
use Rattle.f77_names.proofs.entities.add_leaves.Goals as goal

pub loop-leaf-preserved : goal.loop-leaf-preserved
loop-leaf-preserved c =
    let facts = facts_in c.args.unit.now in
    let uses = uses_in c.args.unit.now.uses in
    let leaves = c.args.leaves.now in
    let i = c.loop-leaf.leaf-index in
    let x = c.leaf-item.result in
    part facts c.args.number c.loop-leaf.entities c.add_leaf.new.entities (with_names facts c.args.number c.args.entities.now (flat_map (entity_named uses) leaves)) (entity_named uses x) (flat_map (entity_named uses) (drop (i + 1) leaves)) (flat_map (entity_named uses) (drop i leaves))
    c.in_ok-add_leaf.ensures (leaf_names uses leaves i x c.loop-leaf-test.true c.leaf-item.is) c.loop-leaf.invariant
