use Rattle.std.proofs.Common.{◌≡◌, map, drop, length}
use Rattle.f77_trees.specs.Same as spec
use Rattle.f77_trees.proofs.same.+same.Given as goal

-- the lists are of one length, the trees that are left are the same where all are, and the lists are equal where what is
-- left of them is
abbrev pub invariant-same_args-loop-place : goal.invariant-same_args-loop-place
invariant-same_args-loop-place l =
    (length l.these ≡ length l.those)
    × (spec.same_list (map spec.same_expr (drop l.place l.these)) (drop l.place l.those) ≡ spec.same_list (map spec.same_expr l.these) l.those)
    × (drop l.place l.these ≡ drop l.place l.those → l.these ≡ l.those)
