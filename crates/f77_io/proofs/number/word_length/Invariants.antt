use Rattle.std.proofs.Common.{◌≡◌, ◌+◌, drop}
use Rattle.std.specs.List.{position_or_len}
use Rattle.f77_io.specs.Number.{is_separator}
use Rattle.f77_io.proofs.number.word_length.Given as goal

-- what is counted so far, and what is left to count
abbrev pub invariant-loop-i : goal.invariant-loop-i
invariant-loop-i l = position_or_len is_separator l.bytes ≡ l.i + position_or_len is_separator (drop l.i l.bytes)
