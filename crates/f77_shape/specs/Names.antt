-- The names in a statement (ANSI X3.9-1978, section 2.2).
use Rattle.std.specs.Prelude.{ℕ, List, [], ◌∷◌}
use Rattle.std.specs.List.{flat_map}
use Rattle.f77_ast.specs.declared.stmt.Stmt.{Stmt}
use Rattle.f77_leaves.specs.Leaves.{leaves_of}
use Rattle.f77_leaves.specs.declared.leaves.Leaf.{Leaf}
use Rattle.f77_leaves.specs.declared.leaves.Leaf.TheVariants.{Literal, Text, Named}

-- the name that one of the literals and names of a statement is
abbrev pub names_at : Leaf → List (List ℕ)
names_at Literal = []
names_at (Text count) = []
names_at (Named mention) = mention.name ∷ []

-- the names in a statement
abbrev pub names_in : Stmt → List (List ℕ)
names_in statement = flat_map names_at (leaves_of statement)
