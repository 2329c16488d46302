use Rattle.std.proofs.Common.{sym, ◌∙◌}
use Rattle.f77_machine.proofs.Halves.{found_by_halves}
use Rattle.f77_machine.proofs.loops.loop_with_range_from.Goals as goal

pub returns : goal.returns
returns c = c.begins_at.ensures ∙ sym (found_by_halves c.args.number c.first_from.result c.args.loops.now c.requires.sorted c.first_from.ensures)
