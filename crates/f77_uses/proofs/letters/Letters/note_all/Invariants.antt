use Rattle.std.proofs.Common.{◌≡◌, ℕ, drop}
use Rattle.std.specs.Option.{option_or}
use Rattle.f77_leaves.specs.Declarations.{implied_by}
use Rattle.f77_uses.specs.Letters.{given}
use Rattle.f77_uses.proofs.letters.Letters.note_all.Given as goal

-- with the other rules the letters have what they have with all
abbrev pub invariant-loop-rule : goal.invariant-loop-rule
invariant-loop-rule l = (other : ℕ) → option_or (given l.self other) (implied_by (drop l.rule-index l.rules) other) ≡ option_or (given l.initial.self other) (implied_by l.rules other)
