-- The addresses of events.
use Rattle.std.specs.Prelude.{ℕ, ◌<◌, length}
use Rattle.f77_ast.specs.declared.program.Program.{Program}
use Rattle.f77_meaning.specs.Event.{Event, reads, writes, takes, moves, prints, ends, faults}
use Rattle.f77_meaning.specs.Process.{Process}
use Rattle.f77_meaning.specs.Sound.{IsOf, IsSound}
use Rattle.f77_meaning.specs.Step.{event}

-- the address of an event, where it has one, is below `total`
abbrev pub LiesBelow : (total : ℕ) → Event → Type 0
LiesBelow total (reads address by) = address < total
LiesBelow total (writes address value by control) = address < total
LiesBelow total (takes address blocked) = address < total
LiesBelow total moves = Unit {0}
LiesBelow total (prints text) = Unit {0}
LiesBelow total ends = Unit {0}
LiesBelow total (faults fault) = Unit {0}

-- each address that a process of a program reads, writes or takes a number for is one of storage
abbrev pub EventsLieInStorage : Type 0
EventsLieInStorage = (program : Program) (p : Process) → IsSound program → IsOf program p → LiesBelow (length program.layout.first) (event program p)
