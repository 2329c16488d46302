use Rattle.std.proofs.Common.{◌≡◌, ◌<◌, ◌^◌, drop}
use Rattle.f77_cards.specs.Columns.{number_from}
use Rattle.f77_cards.proofs.line.number_of.Given as goal

-- the rest of the field goes on from the number so far, which has no more digits than columns were read
abbrev pub invariant-loop-byte : goal.invariant-loop-byte
invariant-loop-byte l = record {
  rest : number_from l.number (drop l.byte-index l.field) ≡ number_from 0 l.field;
  small : l.number < 10 ^ l.byte-index;
}
