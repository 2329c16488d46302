use Rattle.std.proofs.Common.{arith, rules}
use Rattle.f77_machine.proofs.Steps.{is_of_first}
use Rattle.f77_machine.proofs.process.Process.new.Goals as goal

-- a process before the first step is at the first executable statement of the main unit, and no loop is active
pub returns-clause-is_of : goal.returns-clause-is_of
returns-clause-is_of c = is_of_first c.args.program.now _ c.requires.sound (search rules) c.source_line.ensures c.in-Some.ensures (omega (arith, c.len-2.ensures))
