use Rattle.std.proofs.Common.{◌≡◌, ◌≤◌, length, ◌+◌, ◌*◌, Some}
use Rattle.f77_exprs.specs.Climbing.{climbed}
use Rattle.f77_exprs.specs.Operators.{to_left}
use Rattle.f77_exprs.specs.Reading.{expr_within, level, rest_of, arguments, more_arguments, more_operands}
use Rattle.f77_exprs.proofs.Turns.{Turns}
use Rattle.f77_exprs.proofs.grammar.+grammar.Given as goal

abbrev pub decreases-primary : goal.decreases-primary
decreases-primary l = 16 * length l.reader.now + 3

abbrev pub decreases-reference : goal.decreases-reference
decreases-reference l = 16 * length l.reader.now + 2

abbrev pub decreases-power : goal.decreases-power
decreases-power l = 16 * length l.reader.now + 4

abbrev pub decreases-relation : goal.decreases-relation
decreases-relation l = 16 * length l.reader.now + 4

abbrev pub decreases-chain : goal.decreases-chain
decreases-chain l = 16 * length l.reader.now + 4

abbrev pub decreases-rest_of : goal.decreases-rest_of
decreases-rest_of l = 16 * length l.reader.now + 5

abbrev pub decreases-level : goal.decreases-level
decreases-level l = 16 * length l.reader.now + 6

abbrev pub decreases-expr_within : goal.decreases-expr_within
decreases-expr_within l = 16 * length l.reader.now + 7

abbrev pub decreases-bound : goal.decreases-bound
decreases-bound l = 16 * length l.reader.now + 8

abbrev pub decreases-substring : goal.decreases-substring
decreases-substring l = 16 * length l.reader.now + 9

abbrev pub decreases-arguments : goal.decreases-arguments
decreases-arguments l = 16 * length l.reader.now + 9

abbrev pub decreases-with_part : goal.decreases-with_part
decreases-with_part l = 16 * length l.reader.now + 10

abbrev pub decreases-with_low : goal.decreases-with_low
decreases-with_low l = 16 * length l.reader.now + 10

abbrev pub decreases-with_first : goal.decreases-with_first
decreases-with_first l = 16 * length l.reader.now + 11

abbrev pub decreases-opened : goal.decreases-opened
decreases-opened l = 16 * length l.reader.now + 12

abbrev pub invariant-arguments-loop-alloc : goal.invariant-arguments-loop-alloc
invariant-arguments-loop-alloc l = record {
  rest : Turns (arguments (expr_within l.depth) l.fn.first l.fn.reader) (λ n. more_arguments (expr_within l.depth) n l.found l.reader) (length l.reader);
  within : length l.reader ≤ length l.fn.reader;
}

abbrev pub decreases-arguments-loop-alloc : goal.decreases-arguments-loop-alloc
decreases-arguments-loop-alloc l = length l.reader

abbrev pub invariant-chain-loop-operator : goal.invariant-chain-loop-operator
invariant-chain-loop-operator l = record {
  rest : Turns (rest_of to_left (level (expr_within l.depth) l.below) (l.below + 1) l.fn.first l.fn.reader) (λ n. more_operands (level (expr_within l.depth) l.below) (l.below + 1) n l.left l.reader) (length l.reader);
  within : length l.reader ≤ length l.fn.reader;
}

abbrev pub decreases-chain-loop-operator : goal.decreases-chain-loop-operator
decreases-chain-loop-operator l = length l.reader

abbrev pub invariant-level-loop-below : goal.invariant-level-loop-below
invariant-level-loop-below l = record {
  so_far : climbed (expr_within l.depth) l.heads l.below l.initial.left l.initial.reader ≡ Some (l.left, l.reader);
  within : length l.reader ≤ length l.initial.reader;
}
