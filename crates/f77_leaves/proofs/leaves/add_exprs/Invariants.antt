use Rattle.std.proofs.Common.{◌≡◌, ◌++◌, drop}
use Rattle.std.specs.List.{flat_map}
use Rattle.f77_leaves.specs.Leaves.{operand_leaves}
use Rattle.f77_leaves.proofs.leaves.add_exprs.Given as goal

-- what is in the others is still to be added
abbrev pub invariant-loop-expr : goal.invariant-loop-expr
invariant-loop-expr l = l.into ++ flat_map operand_leaves (drop l.expr-index l.exprs) ≡ l.initial.into ++ flat_map operand_leaves l.exprs
