use Rattle.std.proofs.Common.{◌≡◌, ◌≤◌, [], length}
use Rattle.f77_exprs.specs.Reading.{characters}
use Rattle.f77_exprs.proofs.operand.characters.Given as goal

abbrev pub invariant-loop-byte : goal.invariant-loop-byte
invariant-loop-byte l = record {
  rest : characters [] l.fn.reader ≡ characters l.found l.reader;
  within : length l.reader ≤ length l.fn.reader;
}

abbrev pub decreases-loop-byte : goal.decreases-loop-byte
decreases-loop-byte l = length l.reader
