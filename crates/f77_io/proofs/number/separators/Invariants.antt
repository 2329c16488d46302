use Rattle.std.proofs.Common.{◌≡◌, ◌+◌, drop}
use Rattle.std.specs.List.{prefix_len}
use Rattle.f77_io.specs.Number.{is_separator}
use Rattle.f77_io.proofs.number.separators.Given as goal

-- what is counted so far, and what is left to count
abbrev pub invariant-loop-i : goal.invariant-loop-i
invariant-loop-i l = prefix_len is_separator l.bytes ≡ l.i + prefix_len is_separator (drop l.i l.bytes)
