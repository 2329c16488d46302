-- That the values of constants are the least ones with which each has what its expression gives.
use Rattle.std.specs.Prelude.{◌≡◌, ℕ, List, Option, Some}
use Rattle.f77_ast.specs.declared.program.Listed.{Listed}
use Rattle.f77_leaves.specs.Declarations.{Declarations, declarations_of}
use Rattle.f77_structure.specs.Values.{Value}
use Rattle.f77_constants.specs.Constants.{constant_value, lengths_of, name_length, values_of, values_with}

-- what has a value in one way has it in another
pub record Extends (values others : List ℕ → Option Value) : Type 0 where
  pub has : (name : List ℕ) (value : Value) → values name ≡ Some value → others name ≡ Some value

-- with these values, each constant has the value that its expression gives
pub record IsClosed (unit : Declarations) (lengths : List ℕ → Option ℕ) (values : List ℕ → Option Value) : Type 0 where
  pub has : (name : List ℕ) (value : Value) → constant_value unit lengths values name ≡ Some value → values name ≡ Some value

-- each constant has what its expression gives, and nothing else has a value that could go without
pub record AreLeast (unit : Declarations) (lengths : List ℕ → Option ℕ) (values : List ℕ → Option Value) : Type 0 where
  pub gives : (name : List ℕ) → constant_value unit lengths values name ≡ values name
  pub least : (others : List ℕ → Option Value) → IsClosed unit lengths others → Extends values others

-- the values of the constants of a unit are these
abbrev pub ValuesAreLeast : Type 0
ValuesAreLeast = (listing : List Listed) (lengths : List ℕ → Option ℕ) → AreLeast (declarations_of listing) lengths (values_with listing lengths)

-- the lengths that texts are fitted to are those that the names have by the values themselves
abbrev pub LengthsAreTheirOwn : Type 0
LengthsAreTheirOwn = (listing : List Listed) (name : List ℕ) → lengths_of listing name ≡ name_length (declarations_of listing) (values_of listing) name
