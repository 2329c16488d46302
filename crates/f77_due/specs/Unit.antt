-- What a unit says of its names.
use Rattle.std.specs.Prelude.{ℕ, Bool, false, ◌&&◌, ◌==◌, List, [], ◌∷◌, Option}
use Rattle.std.specs.List.{list_any}
use Rattle.std.specs.Option.{is_none}
use Rattle.f77_ast.specs.declared.program.Listed.{Listed}
use Rattle.f77_leaves.specs.Declarations.{Declarations, declarations_of}
use Rattle.f77_leaves.specs.declared.leaves.Leaf.{Leaf}
use Rattle.f77_leaves.specs.declared.leaves.Mention.{Mention}
use Rattle.f77_structure.specs.Values.{Value}
use Rattle.f77_uses.specs.Breaks.{is_name}
use Rattle.f77_uses.specs.Uses.{NameUses, is_entity, leaves_in, on_name, uses_of}
use Rattle.f77_constants.specs.Constants.{values_of}

-- whether a mention is of a variable, array, dummy argument, result or constant
abbrev pub names_entity : NameUses → Mention → Bool
names_entity uses mention = is_name mention.role && is_entity uses mention.name

-- whether a name begins with a letter
abbrev pub begins : (letter : ℕ) → (name : List ℕ) → Bool
begins letter [] = false
begins letter (first ∷ rest) = first == letter

-- whether a mention is of an entity that IMPLICIT may give a type, and that is no dummy argument: no type statement has it
abbrev pub is_implied : Declarations → NameUses → Mention → Bool
is_implied unit uses mention = names_entity uses mention && (is_none (unit.known mention.name).typing && is_none (unit.known mention.name).dummy)

abbrev pub is_implied_with : Declarations → NameUses → (letter : ℕ) → Mention → Bool
is_implied_with unit uses letter mention = is_implied unit uses mention && begins letter mention.name

-- whether such an entity begins with a letter
abbrev pub starts_among : Declarations → NameUses → List Leaf → (letter : ℕ) → Bool
starts_among unit uses leaves letter = list_any (on_name (is_implied_with unit uses letter)) leaves

-- what a unit says of its names
pub record UnitFacts : Type 0 where
  -- what it declares
  pub declarations : Declarations
  -- the values of its constants
  pub values : List ℕ → Option Value
  -- whether an entity that is no dummy argument, and has its type by its first letter, begins with a letter
  pub starts : ℕ → Bool

abbrev pub facts_of_unit : List Listed → UnitFacts
facts_of_unit listing = record {
  declarations = declarations_of listing;
  values = values_of listing;
  starts = starts_among (declarations_of listing) (uses_of listing) (leaves_in listing);
}
