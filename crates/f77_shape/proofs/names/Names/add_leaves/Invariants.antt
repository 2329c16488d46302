use Rattle.std.proofs.Common.{take}
use Rattle.std.specs.List.{flat_map}
use Rattle.f77_shape.specs.NameSets.{Adds}
use Rattle.f77_shape.specs.Names.{names_at}
use Rattle.f77_shape.proofs.names.Names.add_leaves.Given as goal

abbrev pub invariant-loop-leaf : goal.invariant-loop-leaf
invariant-loop-leaf l = Adds (flat_map names_at (take l.leaf-index l.leaves)) l.initial.self l.self
