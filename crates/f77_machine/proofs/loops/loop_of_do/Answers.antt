use Rattle.std.proofs.Common.{sym, subst, ◌∙◌}
use Rattle.f77_structure.specs.Loops.{StartInOrder}
use Rattle.f77_structure.proofs.Rising.{loops_rise}
use Rattle.f77_machine.proofs.loops.loop_of_do.Goals as goal

-- the loops are those of the file, which rise
pub loop_with_range_from-requires : goal.loop_with_range_from-requires
loop_with_range_from-requires c = record { sorted = subst (StartInOrder 2) (sym (c.as_slice-2.ensures ∙ c.requires.sound.loops)) (loops_rise c.args.program.now.units) }
