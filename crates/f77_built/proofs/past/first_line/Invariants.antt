use Rattle.std.proofs.Common.{◌≡◌, drop}
use Rattle.f77_built.specs.Built.{first_line}
use Rattle.f77_built.proofs.past.first_line.Given as goal

-- the name isn't in the statements so far
abbrev pub invariant-loop-listed : goal.invariant-loop-listed
invariant-loop-listed l = first_line l.name (drop l.listed-index l.listing) ≡ first_line l.name l.listing
