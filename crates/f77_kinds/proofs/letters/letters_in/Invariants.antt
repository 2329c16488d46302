use Rattle.std.proofs.Common.{◌≡◌, ◌++◌, drop}
use Rattle.std.specs.List.{flat_map}
use Rattle.f77_kinds.specs.Letters.{rule_letters}
use Rattle.f77_kinds.proofs.letters.letters_in.Given as goal

-- the letters of the other rules are still to be added
abbrev pub invariant-loop-rule : goal.invariant-loop-rule
invariant-loop-rule l = l.letters ++ flat_map rule_letters (drop l.rule-index l.rules) ≡ flat_map rule_letters l.rules
