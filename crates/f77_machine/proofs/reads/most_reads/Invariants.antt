use Rattle.std.proofs.Common.{◌≡◌, drop}
use Rattle.std.specs.Prelude.{max}
use Rattle.f77_machine.specs.Reads.{most_reads}
use Rattle.f77_machine.proofs.reads.most_reads.Given as goal

-- the most of those before, and of those that are left
abbrev pub invariant-loop-item : goal.invariant-loop-item
invariant-loop-item l = max l.most (most_reads l.layout l.unit (drop l.item-index l.items)) ≡ most_reads l.layout l.unit l.items
