use Rattle.std.proofs.Common.{◌≡◌, ◌+◌, ◌++◌, length, drop}
use Rattle.f77_code.specs.Units.{instrs_from, nexts_from, starts_from}
use Rattle.f77_code.proofs.units.unit_code.Given as goal

-- what comes of the statements that are left is still to be added
abbrev pub invariant-loop-at : goal.invariant-loop-at
invariant-loop-at l = record {
  number : l.number ≡ l.first + l.at;
  instrs : l.instrs ++ instrs_from l.loops l.layout l.unit l.number (drop l.at l.listing) ≡ instrs_from l.loops l.layout l.unit l.first l.listing;
  starts : l.starts ++ starts_from l.loops l.layout l.unit l.number (length l.instrs) (drop l.at l.listing) ≡ starts_from l.loops l.layout l.unit l.first 0 l.listing;
  nexts : l.nexts ++ nexts_from l.listing l.at (drop l.at l.listing) ≡ nexts_from l.listing 0 l.listing;
}
