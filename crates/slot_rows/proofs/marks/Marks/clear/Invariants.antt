use Rattle.std.proofs.Common.{◌≡◌, vec_len}
use Rattle.slot_rows.specs.Marks.{words_of}
use Rattle.slot_rows.proofs.marks.Marks.clear.Given as goal

abbrev pub invariant-loop-place : goal.invariant-loop-place
invariant-loop-place l = words_of l.self ≡ words_of l.initial.self

abbrev pub decreases-loop-place : goal.decreases-loop-place
decreases-loop-place l = vec_len l.self.filled
