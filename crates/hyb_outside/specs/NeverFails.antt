-- What is known of files and of a sink that never fail.
use Rattle.std.specs.Prelude.{true, [], None, Some, unwrap_or}
use Rattle.hyb_outside.specs.declared.never_fails_files.NeverFailsFiles.{NeverFailsFiles}
use Rattle.hyb_outside.specs.declared.never_fails_sink.NeverFailsSink.{NeverFailsSink}
use Rattle.hyb_outside.specs.FilesSeen.{FilesSeen}
use Rattle.hyb_outside.specs.SinkSeen.{SinkSeen}
use Rattle.hyb_outside.specs.Table.{content_of}

-- the files tell each content, a missing name's as empty, no call has failed, and every name may be asked for
abbrev pub never_fails_files_seen : NeverFailsFiles → FilesSeen
never_fails_files_seen f = record {
  content = λ name. Some (unwrap_or (content_of f.table name) []);
  faults = 0;
  ends = f.ends;
  may_read = λ _. true;
}

-- the sink tells no bytes, and no call has failed
abbrev pub never_fails_sink_seen : NeverFailsSink → SinkSeen
never_fails_sink_seen s = record { taken = None; faults = 0 }
