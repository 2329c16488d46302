use Rattle.std.proofs.Common.{◌≡◌, ◌++◌, length}
use Rattle.f77_code.specs.Statements.{turns_code}
use Rattle.f77_code.proofs.statements.add_turns.Given as goal

-- the ends of the loops before are still to be added
abbrev pub invariant-loop-last : goal.invariant-loop-last
invariant-loop-last l = l.code ++ turns_code l.rest l.number ≡ l.initial.code ++ turns_code l.loops l.number

abbrev pub decreases-loop-last : goal.decreases-loop-last
decreases-loop-last l = length l.rest
