-- The set of the names of a unit.
use Rattle.std.specs.Prelude.{◌≡◌, ℕ, Bool, ◌||◌, List, nat_eq}
use Rattle.std.specs.Cmp.Lexicographic.{pointwise}
use Rattle.std.specs.HashSet.{contains}
use Rattle.std.specs.Set.{is_member}
use Rattle.f77_shape.specs.declared.names.Names.{Names}

-- whether a name is among some
abbrev pub is_among : List (List ℕ) → List ℕ → Bool
is_among names name = is_member (pointwise nat_eq) names name

-- whether a set holds a name
abbrev pub has : Names → List ℕ → Bool
has set name = contains (pointwise nat_eq) set.names name

-- a set holds these names and no others
pub record Holds (names : List (List ℕ)) (set : Names) : Type 0 where
  pub at : (name : List ℕ) → has set name ≡ is_among names name

-- a set holds these names, besides those that it held
pub record Adds (names : List (List ℕ)) (before after : Names) : Type 0 where
  pub at : (name : List ℕ) → has after name ≡ (has before name || is_among names name)
