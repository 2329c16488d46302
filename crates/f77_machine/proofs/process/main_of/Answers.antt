use Rattle.std.proofs.Common.{arith, ap}
use Rattle.f77_structure.specs.Units.{main_unit}
use Rattle.f77_machine.proofs.Mains.{main_fits}
use Rattle.f77_machine.proofs.process.main_of.Goals as goal

pub overflow_cast-result : goal.overflow_cast-result
overflow_cast-result c = omega (arith, main_fits c.args.program.now c.requires, c.main_unit.ensures, ap main_unit c.as_slice.ensures)
