-- What is known of a sink over a writer.
use Rattle.std.specs.Prelude.{None}
use Rattle.hyb_outside.specs.declared.std_sink.StdSink.{StdSink}
use Rattle.hyb_outside.specs.SinkSeen.{SinkSeen}

-- it tells no bytes
abbrev pub std_sink_seen : {W : Type 0} → StdSink W → SinkSeen
std_sink_seen s = record { taken = None; faults = s.faults }

-- the writer that it writes to
abbrev pub writer_of : {W : Type 0} → StdSink W → W
writer_of s = s.writer
