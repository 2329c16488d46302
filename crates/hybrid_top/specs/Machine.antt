-- A machine: a program, the process that runs it, storage, input and line.
use Rattle.std.specs.Prelude.{◌≡◌, ℕ, List, []}
use Rattle.f77_ast.specs.declared.program.Program.{Program}
use Rattle.f77_meaning.specs.Process.{first_process}
use Rattle.f77_meaning.specs.Sound.{IsSound, Fits}
use Rattle.f77_io.specs.Input.{left_of}
use Rattle.f77_io.specs.Line.{text_of}
use Rattle.f77_machine.specs.Process.{process_of, IsProcessOf}
use Rattle.f77_machine.specs.Store.{values_of}
use Rattle.hybrid_top.specs.declared.machine.Machine.{Machine}

-- a machine can take its next step
pub record IsReady (m : Machine) : Type 0 where
  pub sound : IsSound m.program
  pub is_of : IsProcessOf m.program m.process (text_of m.line)
  pub fits : Fits m.program.layout (values_of m.store)

-- a machine of a program and an input before the first step: its process is at the first executable statement, storage is the
-- opening one, and nothing of the input has been read
pub record IsAtStart (program : Program) (input : List ℕ) (m : Machine) : Type 0 where
  pub program_is : m.program ≡ program
  pub process : process_of m.process (text_of m.line) ≡ first_process program
  pub store : values_of m.store ≡ program.layout.first
  pub unread : left_of m.input ≡ input
  pub ready : IsReady m
