use Rattle.std.proofs.Common.{◌≡◌, take}
use Rattle.f77_trees.proofs.copy.+copy.Given as goal

-- the arguments by now are copied
abbrev pub invariant-copy_args-loop-tree : goal.invariant-copy_args-loop-tree
invariant-copy_args-loop-tree l = l.copies ≡ take l.tree-index l.trees
