-- What is told first of each name.
use Rattle.std.specs.Prelude.{ℕ, Bool, false, List, Option, Some, None, nat_eq, if◌then◌else◌}
use Rattle.std.specs.Cmp.Lexicographic.{pointwise}
use Rattle.std.specs.HashMap.{get}
use Rattle.std.specs.Option.{is_some}
use Rattle.f77_leaves.specs.Declarations.{same_name}
use Rattle.f77_uses.specs.declared.firsts.Firsts.{Firsts}

-- what is told of a name
abbrev pub told : {V : Type 0} → Firsts V → (name : List ℕ) → Option V
told firsts name = get (pointwise nat_eq) firsts.map name

-- what is told of one name alone
abbrev pub told_of_one : {V : Type 0} → (name : List ℕ) → V → (other : List ℕ) → Option V
told_of_one name value other = if same_name other name then Some value else None

-- whether something is told of a name that may be there
abbrev pub is_seen : {V : Type 0} → Firsts V → Option (List ℕ) → Bool
is_seen firsts None = false
is_seen firsts (Some name) = is_some (told firsts name)
