use Rattle.std.proofs.Common.{◌≡◌, ◌++◌, drop, map}
use Rattle.f77_leaves.specs.Leaves.{expr_leaves, operands}
use Rattle.f77_leaves.proofs.leaves.+leaves.Given as goal

-- what is in the other arguments is still to be added
abbrev pub invariant-add_args-loop-arg : goal.invariant-add_args-loop-arg
invariant-add_args-loop-arg l = l.into ++ operands (map expr_leaves (drop l.arg-index l.arg-items)) ≡ l.initial.into ++ operands (map expr_leaves l.arg-items)
