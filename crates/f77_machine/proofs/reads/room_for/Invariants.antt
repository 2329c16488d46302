use Rattle.std.proofs.Common.{◌≡◌, ℕ, ◌<◌, get_or}
use Rattle.f77_ast.specs.declared.program.Unit.{Unit as ProgramUnit}
use Rattle.f77_machine.specs.Reads.{AllHaveRoom}
use Rattle.f77_machine.proofs.reads.room_for.Given as goal

-- no statement of the units so far reads more
abbrev pub invariant-loop-unit : goal.invariant-loop-unit
invariant-loop-unit l = record {
  number : l.number ≡ l.unit-index;
  room : (k : ℕ) (d : ProgramUnit) → k < l.unit-index → AllHaveRoom l.program.layout k (get_or l.unit-items k d).listing l.most;
}
