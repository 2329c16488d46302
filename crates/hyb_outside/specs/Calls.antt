-- The calls that are to fail.
use Rattle.std.specs.Prelude.{ℕ, List, Contains}
use Rattle.hyb_base.specs.Count.{next_count}

-- the numbers of the calls that are to fail, counted from 1, and how many calls were made
pub record CallsMade : Type 0 where
  pub fails : List ℕ
  pub calls : ℕ

-- the next call is to fail (after 2 ^ 64 - 1 calls each counts as that one: no run makes so many)
abbrev pub IsListed : List ℕ → ℕ → Type 0
IsListed fails calls = Contains fails (next_count calls)
