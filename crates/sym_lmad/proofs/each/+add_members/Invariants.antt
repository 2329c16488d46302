use Rattle.std.proofs.Common.{◌≡◌, ◌++◌, length, pos, ◌+ℤ◌, ◌*ℤ◌}
use Rattle.sym_lmad.specs.Members.{in_turn, members_of}
use Rattle.sym_lmad.proofs.each.+add_members.Given as goal

abbrev pub decreases-add_members : goal.decreases-add_members
decreases-add_members l = length l.extents.now

abbrev pub invariant-loop-turn : goal.invariant-loop-turn
invariant-loop-turn l = l.into ≡ l.initial.into ++ in_turn l.turn (λ i. members_of l.rest (l.from +ℤ (l.extent.stride *ℤ pos i)))
