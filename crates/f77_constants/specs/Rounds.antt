-- Passes over the names of constants, as the code makes them.
use Rattle.std.specs.Prelude.{◌≡◌, ◌≤◌, ◌⊎◌, ℕ, Bool, true, List, length, Option, None, if◌then◌else◌}
use Rattle.std.specs.List.{list_any}
use Rattle.std.specs.Option.{is_some, option_or}
use Rattle.f77_leaves.specs.Declarations.{Declarations, same_name}
use Rattle.f77_structure.specs.Values.{Value}
use Rattle.f77_constants.specs.Constants.{constant_value}
use Rattle.f77_constants.specs.Laws.{Extends}

-- whether a name is one of these
abbrev pub has_name : List (List ℕ) → (name : List ℕ) → Bool
has_name names name = list_any (same_name name) names

-- the values when a name was given one, where it had none and its expression has one
abbrev pub settled_with : Declarations → (lengths : List ℕ → Option ℕ) → (values : List ℕ → Option Value) → (name other : List ℕ) → Option Value
settled_with unit lengths values name other = option_or (values other) (if same_name other name then constant_value unit lengths values name else None)

-- with these values, each constant has the value that its expression gives, and nothing else has one
pub record IsFixed (unit : Declarations) (lengths : List ℕ → Option ℕ) (values : List ℕ → Option Value) : Type 0 where
  pub gives : (name : List ℕ) → constant_value unit lengths values name ≡ values name

-- after a pass over some names
pub record Round (unit : Declarations) (lengths : List ℕ → Option ℕ) (before after : List ℕ → Option Value) (names left : List (List ℕ)) : Type 0 where
  -- what had a value keeps it
  pub keeps : Extends before after
  -- what has one has it in whatever way constants may have values that those before have too
  pub sound : (all : List ℕ → Option Value) → IsFixed unit lengths all → Extends before all → Extends after all
  -- each of the names has one, or is left
  pub covers : (name : List ℕ) → has_name names name ≡ true → (is_some (after name) ≡ true) ⊎ (has_name left name ≡ true)
  pub fewer : length left ≤ length names
  -- where all are left, nothing has changed, and none of them has a value by its expression
  pub same : length left ≡ length names → (name : List ℕ) → after name ≡ before name
  pub stuck : length left ≡ length names → (name : List ℕ) → has_name names name ≡ true → constant_value unit lengths before name ≡ None
