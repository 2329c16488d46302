use Rattle.std.proofs.Common.{◌≡◌, take}
use Rattle.slot_rows.specs.Spans.{addresses_of, befores_of}
use Rattle.slot_rows.proofs.table.laid_out.Given as goal

-- the spans before the index were laid out
abbrev pub invariant-loop-span : goal.invariant-loop-span
invariant-loop-span l = record {
  befores : l.befores.items ≡ befores_of 0 (take l.span-index l.spans);
  addresses : l.addresses.items ≡ addresses_of (take l.span-index l.spans);
}
