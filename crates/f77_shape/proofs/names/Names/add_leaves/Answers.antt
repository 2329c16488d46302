use Rattle.f77_shape.specs.Names.{names_at}
use Rattle.f77_shape.proofs.AddLemmas.{adds_more, adds_all}
use Rattle.f77_shape.proofs.names.Names.add_leaves.Goals as goal

pub loop-leaf-preserved : goal.loop-leaf-preserved
loop-leaf-preserved c = adds_more names_at c.args.leaves.now c.loop-leaf.leaf-index c.leaf-item.result c.args.self.now c.loop-leaf.self c.add_leaf.new.self c.loop-leaf-test.true c.leaf-item.is c.loop-leaf.invariant c.in_ok-add_leaf.ensures

pub returns : goal.returns
returns c = adds_all names_at c.args.leaves.now c.loop-leaf.leaf-index c.args.self.now c.loop-leaf.self c.loop-leaf-test.false c.loop-leaf.invariant
