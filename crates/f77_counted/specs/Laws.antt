-- Arrays have as many subscripts as dimensions.
use Rattle.std.specs.Prelude.{◌≡◌, ℕ, false, List, [], ◌∷◌, length, Ok, Some, slice_get}
use Rattle.std.specs.List.{flat_map}
use Rattle.f77_ast.specs.Entity.{entity_in}
use Rattle.f77_ast.specs.declared.program.Entity.{Entity}
use Rattle.f77_ast.specs.declared.program.Unit.{Unit as ProgramUnit}
use Rattle.f77_structure.specs.Storage.{is_scalar}
use Rattle.f77_names.specs.Resolve.{resolve_of}
use Rattle.f77_counted.specs.References.{Reference, references_of}

-- where the name of a reference with a list is that of an array of the unit, there are as many subscripts as it has dimensions
abbrev pub HasSubscripts : List Entity → (number : ℕ) → Reference → Type 0
HasSubscripts entities number reference = (entity : Entity) → entity_in entities number reference.name ≡ Some entity → is_scalar entity.bounds ≡ false → reference.count ≡ length entity.bounds

abbrev pub HaveSubscripts : List Entity → (number : ℕ) → List Reference → Type 0
HaveSubscripts entities number [] = Unit {0}
HaveSubscripts entities number (reference ∷ references) = HasSubscripts entities number reference × HaveSubscripts entities number references

-- in a file whose names aren't refused, the references of each unit are so
abbrev pub ElementsHaveSubscripts : Type 0
ElementsHaveSubscripts = (units : List ProgramUnit) (entities : List Entity) → resolve_of units ≡ Ok entities → (number : ℕ) (unit : ProgramUnit) → slice_get units number ≡ Some unit → HaveSubscripts entities number (flat_map (λ listed. references_of listed.stmt) unit.listing)
