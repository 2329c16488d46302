-- What a sink in memory holds.
use Rattle.std.specs.Prelude.{ℕ, ◌+◌, ◌<◌, List, length, Some, ◌⊎◌}
use Rattle.hyb_outside.specs.declared.mem_sink.MemSink.{MemSink}
use Rattle.hyb_outside.specs.Calls.{IsListed}
use Rattle.hyb_outside.specs.SinkSeen.{SinkSeen}

-- the bytes taken; for how many there is room in all; the numbers of the calls that are to fail, how many
-- calls were made, and how many failed
pub record SinkHeld : Type 0 where
  pub taken : List ℕ
  pub room : ℕ
  pub fails : List ℕ
  pub calls : ℕ
  pub faults : ℕ

-- what a sink holds
abbrev pub mem_sink_held : MemSink → SinkHeld
mem_sink_held s = record { taken = s.bytes.items; room = s.room; fails = s.calls.fails; calls = s.calls.calls; faults = s.faults }

-- what is known of it: it tells its bytes
abbrev pub mem_sink_seen : MemSink → SinkSeen
mem_sink_seen s = record { taken = Some s.bytes.items; faults = s.faults }

-- the next call is listed, or the piece is longer than the room left
abbrev pub Refuses : SinkHeld → List ℕ → Type 0
Refuses held piece = IsListed held.fails held.calls ⊎ (held.room < length held.taken + length piece)
