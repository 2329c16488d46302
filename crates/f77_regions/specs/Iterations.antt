-- The iterations of a DO-loop as processes of an abstract machine (ANSI X3.9-1978, section 11.10).
use Rattle.std.specs.Prelude.{ℕ, ℤ, ◌==◌, Bool, false, Option, None, Some, if◌then◌else◌}
use Rattle.hyb_base.specs.Reduction.{apply, identity}
use Rattle.hyb_base.specs.declared.ops.RedOp.{RedOp}
use Rattle.f77_ast.specs.declared.program.Program.{Program}
use Rattle.f77_ast.specs.declared.step.Control.{Control}
use Rattle.f77_ast.specs.declared.step.Control.TheVariants.{Began, Turned}
use Rattle.f77_meaning.specs.Event.{Event, reads, writes, takes, moves, prints, ends, faults}
use Rattle.f77_meaning.specs.Process.{Process}
use Rattle.f77_meaning.specs.Sound.{IsOf, IsSound}
use Rattle.f77_meaning.specs.Step.{event, once_done, resumed}
use Rattle.interleaving.specs.BlockLaws.{LoopBlocksInterleaveOf, LoopBlocksAreWholeOf}
use Rattle.interleaving.specs.Loops.{LoopInterleavesOf, LoopRunsAloneOf, LoopIsWholeOf}
use Rattle.interleaving.specs.Machine.{Machine, IsMachine}
use Rattle.interleaving.specs.Prefixes.{LoopDoPrefixesOf}
use Rattle.interleaving.specs.Machine as machine

-- whether a write is the one with which the loop of this ordinal ends an iteration: its incrementation processing (section 11.10.7)
abbrev pub ends_iteration : (ordinal : ℕ) → Option Control → Bool
ends_iteration ordinal None = false
ends_iteration ordinal (Some (Began other)) = false
ends_iteration ordinal (Some (Turned other)) = other == ordinal

-- an event as a region of that loop knows it: the write that ends an iteration ends it. An iteration of a closed loop reads no input,
-- prints nothing and doesn't end the run; here a printed line is a move, and the others are faults
abbrev pub event_in : (ordinal : ℕ) → Event → machine.Event RedOp ℤ
event_in ordinal (reads a by) = machine.reads a by
event_in ordinal (writes a v by control) = if ends_iteration ordinal control then machine.ends else machine.writes a v by
event_in ordinal (takes a blocked) = machine.faults
event_in ordinal moves = machine.moves
event_in ordinal (prints text) = machine.moves
event_in ordinal ends = machine.faults
event_in ordinal (faults fault) = machine.faults

-- the machine of the processes of a program, as a region of the loop of this ordinal knows them
abbrev pub machine_of : Program → (ordinal : ℕ) → Machine Process RedOp ℤ
machine_of program ordinal = record {
  event = λ p. event_in ordinal (event program p);
  resumed = λ p x. resumed program p x;
  done = λ p. once_done program p;
  apply = apply;
  identity = identity;
}

-- it is a machine, where the program is sound: sound processes are those of the program
abbrev pub LoopsAreMachines : Type 0
LoopsAreMachines = (program : Program) → IsSound program → (ordinal : ℕ) → IsMachine (machine_of program ordinal) (λ p. IsOf program p)

-- what the laws say of the iterations of one loop
pub record HoldOf (program : Program) (m : Machine Process RedOp ℤ) : Type 0 where
  pub interleaving : LoopInterleavesOf m (λ p. IsOf program p)
  pub alone : LoopRunsAloneOf m (λ p. IsOf program p)
  pub whole : LoopIsWholeOf m (λ p. IsOf program p)
  pub prefixes : LoopDoPrefixesOf m (λ p. IsOf program p)
  pub blocks_interleaving : LoopBlocksInterleaveOf m (λ p. IsOf program p)
  pub blocks_whole : LoopBlocksAreWholeOf m (λ p. IsOf program p)

-- they hold of each loop of a sound program
abbrev pub RegionsHold : Type 0
RegionsHold = (program : Program) → IsSound program → (ordinal : ℕ) → HoldOf program (machine_of program ordinal)
