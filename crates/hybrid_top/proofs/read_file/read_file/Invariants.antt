use Rattle.std.proofs.Common.{◌≡◌, ◌-◌, ◌+◌, ◌<◌, length}
use Rattle.hybrid_top.specs.Reading.{Follows, Keeps, file_limit}
use Rattle.std.proofs.Common.{vec_len}
use Rattle.hybrid_top.proofs.read_file.read_file.Given as goal

-- the bytes so far are the first of the content, and its end wasn't given yet
abbrev pub invariant-loop-files : goal.invariant-loop-files
invariant-loop-files g l = record {
  room : 0 < vec_len l.buffer;
  follows : Follows ((g.F.Files.seen l.initial.files).content l.name) l.bytes;
  keeps : Keeps (g.F.Files.seen l.initial.files) (g.F.Files.seen l.files);
  no_end : (g.F.Files.seen l.files).ends ≡ (g.F.Files.seen l.initial.files).ends;
}

abbrev pub decreases-loop-files : goal.decreases-loop-files
decreases-loop-files g l = (file_limit + 1) - length l.bytes
