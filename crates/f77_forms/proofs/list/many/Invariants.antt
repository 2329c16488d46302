use Rattle.std.proofs.Common.{◌≡◌, ◌≤◌, ◌-◌, [], length}
use Rattle.f77_forms.specs.Form.{many_of}
use Rattle.f77_forms.proofs.list.many.Given as goal

abbrev pub invariant-loop-turn : goal.invariant-loop-turn
invariant-loop-turn g l = record {
  rest : many_of (g.P.Production.reading l.depth) (length l.fn.reader) [] l.fn.reader ≡ many_of (g.P.Production.reading l.depth) (length l.fn.reader - l._turn) l.found l.reader;
  within : length l.reader ≤ length l.fn.reader;
}
