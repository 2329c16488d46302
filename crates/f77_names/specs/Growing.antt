-- Entities, name by name, as the code adds them.
use Rattle.std.specs.Prelude.{ℕ, List, [], ◌∷◌, ◌++◌, if◌then◌else◌}
use Rattle.std.specs.Option.{is_some}
use Rattle.f77_ast.specs.Entity.{entity_in}
use Rattle.f77_ast.specs.declared.program.Entity.{Entity}
use Rattle.f77_due.specs.Unit.{UnitFacts}
use Rattle.f77_names.specs.Entities.{entity_of}

-- entities with that of a name, where the unit has none of it
abbrev pub with_name : UnitFacts → (unit : ℕ) → List Entity → (name : List ℕ) → List Entity
with_name facts unit entities name = if is_some (entity_in entities unit name) then entities else entities ++ entity_of facts unit name ∷ []

-- the same of names, one after the other
abbrev pub with_names : UnitFacts → (unit : ℕ) → List Entity → (names : List (List ℕ)) → List Entity
with_names facts unit entities [] = entities
with_names facts unit entities (name ∷ names) = with_names facts unit (with_name facts unit entities name) names
