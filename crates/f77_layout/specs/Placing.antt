-- Entities, placed one after the other, as the code does it.
use Rattle.std.specs.Prelude.{ℕ, zero, suc, List, [], ◌∷◌}
use Rattle.f77_ast.specs.declared.program.Entity.{Entity}
use Rattle.f77_layout.specs.Layout.{entities_from, entity_at}

-- entities, of which the one of a number is placed at an address, where it is stored
abbrev pub with_placed : List Entity → (number : ℕ) → (address : ℕ) → List Entity
with_placed [] number address = []
with_placed (entity ∷ entities) zero address = entity_at address entity ∷ entities
with_placed (entity ∷ entities) (suc number) address = entity ∷ with_placed entities number address

-- entities, of which those from a number on are placed from an address on
abbrev pub placed_from : (number : ℕ) → (address : ℕ) → List Entity → List Entity
placed_from zero address entities = entities_from address entities
placed_from (suc number) address [] = []
placed_from (suc number) address (entity ∷ entities) = entity ∷ placed_from number address entities
