use Rattle.std.proofs.Common.{◌≡◌, take}
use Rattle.slot_rows.specs.Spans.{spans_of}
use Rattle.slot_rows.proofs.table.filled_spans.Given as goal

-- the regions before the place were looked at
abbrev pub invariant-loop-place : goal.invariant-loop-place
invariant-loop-place l = l.spans.items ≡ spans_of 0 (take l.place l.regions)
