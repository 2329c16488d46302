-- The region of a row.
use Rattle.std.specs.Prelude.{◌≡◌, [], length}
use Rattle.region_run.specs.declared.running.Running.{Running}
use Rattle.region_run.specs.Running.{pending_of, IsRunning, SameLoop}
use Rattle.turn_rows.specs.declared.mode_rows.ModeRows.{ModeRows}
use Rattle.turn_rows.specs.declared.memory.Memory.{Memory}
use Rattle.turn_rows.specs.declared.script.Script.{Script}
use Rattle.turn_rows.specs.declared.walker.Walker.{Walker}
use Rattle.turn_rows.specs.CellModes.{count_of, mode_at, own_in}
use Rattle.turn_rows.specs.Memory.{values_of}
use Rattle.turn_rows.specs.Walker.{place_of, start_in, HasRoom}

-- a region that can take a step, over 256 cells
pub record CanStep (running : Running Walker ModeRows) (memory : Memory) : Type 0 where
  pub is_running : IsRunning HasRoom place_of count_of own_in running
  pub held : length (values_of memory) ≡ 256

-- the region of one loop, before and after some steps
abbrev pub IsOneLoop : (old new : Running Walker ModeRows) → Type 0
IsOneLoop old new = SameLoop mode_at count_of old new

-- all iterations are committed
abbrev pub IsOver : Script → Running Walker ModeRows → Type 0
IsOver script running = pending_of place_of (λ p. start_in script) own_in running ≡ []

-- a region whose loop begins with a process, and has its variable at address 2
pub record BeginsWith (main : Walker) (running : Running Walker ModeRows) : Type 0 where
  pub room : HasRoom main
  pub same : place_of main ≡ place_of running.entry
  pub variable : running.variable ≡ 2
