use Rattle.std.proofs.Common.{◌≡◌, ◌≤◌, ◌-◌, length}
use Rattle.f77_forms.specs.Form.{read}
use Rattle.f77_parts.specs.Parts.{common_step, later_groups}
use Rattle.f77_parts.proofs.CommonTurns.{groups_from}
use Rattle.f77_parts.proofs.common.later.Given as goal

abbrev pub invariant-loop-turn : goal.invariant-loop-turn
invariant-loop-turn l = record {
  rest : later_groups l.depth l.fn.first l.fn.reader ≡ groups_from (read l.depth common_step) (length l.fn.reader - l._turn) (l.before, l.last) l.reader;
  within : length l.reader ≤ length l.fn.reader;
}
