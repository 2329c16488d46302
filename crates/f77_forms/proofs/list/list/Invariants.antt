use Rattle.std.proofs.Common.{◌≤◌, length}
use Rattle.f77_exprs.proofs.Turns.{Turns}
use Rattle.f77_forms.specs.Form.{list_of, more_of}
use Rattle.f77_forms.proofs.list.list.Given as goal

abbrev pub invariant-loop-alloc : goal.invariant-loop-alloc
invariant-loop-alloc g l = record {
  rest : Turns (list_of (g.P.Production.reading l.depth) l.fn.reader) (λ n. more_of (g.P.Production.reading l.depth) n l.found l.reader) (length l.reader);
  within : length l.reader ≤ length l.fn.reader;
}

abbrev pub decreases-loop-alloc : goal.decreases-loop-alloc
decreases-loop-alloc g l = length l.reader
