-- What stands in a text at a depth of parentheses, outside character constants.
use Rattle.std.specs.Prelude.{ℕ, suc, ◌-◌, Bool, true, false, not, ◌&&◌, ◌==◌, nat_le, if◌then◌else◌, [], ◌∷◌}
use Rattle.f77_exprs.specs.Operators.{Text}

-- whether a byte stands at a depth of parentheses, outside character constants, before a closing parenthesis at that depth
abbrev pub has_at_depth : ℕ → ℕ → Bool → ℕ → Text → Bool
has_at_depth b at inside n [] = false
has_at_depth b at true n (c ∷ i) = has_at_depth b at (not (c == 39)) n i
has_at_depth b at false n (c ∷ i) = if c == 39 then has_at_depth b at true n i else (if c == 40 then has_at_depth b at false (suc n) i else (if c == 41 then (if nat_le n at then false else has_at_depth b at false (n - 1) i) else (if (c == b) && (n == at) then true else has_at_depth b at false n i)))
