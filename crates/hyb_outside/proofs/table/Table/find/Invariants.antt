use Rattle.std.proofs.Common.{◌≡◌, drop}
use Rattle.hyb_outside.specs.Table.{content_of}
use Rattle.hyb_outside.proofs.table.Table.find.Given as goal

-- no row before the index has the name
abbrev pub invariant-loop-row : goal.invariant-loop-row
invariant-loop-row l = content_of l.row-items l.name ≡ content_of (drop l.row-index l.row-items) l.name
