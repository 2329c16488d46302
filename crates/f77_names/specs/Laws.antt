-- What is said of the entities of a file, and of what is refused.
use Rattle.std.specs.Prelude.{◌≡◌, ℕ, Bool, true, false, List, [], ◌∷◌, Option, None, Some, Ok, Err, Contains, slice_get, if◌then◌else◌}
use Rattle.std.specs.Option.{is_some}
use Rattle.f77_ast.specs.Entity.{entity_in}
use Rattle.f77_ast.specs.Refusal.{NoneIsEarlier}
use Rattle.f77_ast.specs.declared.program.Entity.{Entity}
use Rattle.f77_ast.specs.declared.program.Unit.{Unit as ProgramUnit}
use Rattle.f77_ast.specs.declared.refusal.Refusal.{Refusal}
use Rattle.f77_leaves.specs.Declarations.{Declarations, declarations_of}
use Rattle.f77_leaves.specs.declared.leaves.Leaf.{Leaf}
use Rattle.f77_leaves.specs.declared.leaves.Leaf.TheVariants.{Literal, Text, Named}
use Rattle.f77_uses.specs.Uses.{leaves_in, use_of}
use Rattle.f77_uses.specs.declared.uses.Use.{Use}
use Rattle.f77_uses.specs.declared.uses.Use.TheVariants as used
use Rattle.f77_constants.specs.Rounds.{has_name}
use Rattle.f77_due.specs.Unit.{facts_of_unit}
use Rattle.f77_names.specs.Entities.{entities_of, entity_names, entity_of}
use Rattle.f77_names.specs.Resolve.{breaks_of, resolve_of}

-- ---- refusals

-- a refused file breaks the rule that refuses it, and of all else that is broken nothing is earlier
abbrev pub RefusedFilesAreBroken : Type 0
RefusedFilesAreBroken = (units : List ProgramUnit) (refusal : Refusal) → resolve_of units ≡ Err refusal → Contains (breaks_of units) refusal × NoneIsEarlier refusal (breaks_of units)

-- in a file that isn't refused nothing is broken
abbrev pub ResolvedFilesKeepAll : Type 0
ResolvedFilesKeepAll = (units : List ProgramUnit) (entities : List Entity) → resolve_of units ≡ Ok entities → (breaks_of units ≡ []) × (entities_of units ≡ entities)

-- ---- which entities there are

-- the entity that a unit, where there is one of this number, has of a name
abbrev pub found_in : (number : ℕ) → (name : List ℕ) → Option ProgramUnit → Option Entity
found_in number name None = None
found_in number name (Some unit) = if has_name (entity_names unit.listing) name then Some (entity_of (facts_of_unit unit.listing) number name) else None

-- by a unit and a name, the entity of that name is found where the unit has one, and nothing else
abbrev pub EntitiesAreFound : Type 0
EntitiesAreFound = (units : List ProgramUnit) (number : ℕ) (name : List ℕ) → entity_in (entities_of units) number name ≡ found_in number name (slice_get units number)

-- no entity has one of its unit and name after it
abbrev pub AreDistinct : List Entity → Type 0
AreDistinct [] = Unit {0}
AreDistinct (entity ∷ entities) = (is_some (entity_in entities entity.unit entity.name) ≡ false) × AreDistinct entities

abbrev pub EntitiesAreDistinct : Type 0
EntitiesAreDistinct = (units : List ProgramUnit) → AreDistinct (entities_of units)

-- ---- what names stand for

-- whether a name is used as a variable, array, dummy argument, result or constant
abbrev pub uses_entity : Option Use → Bool
uses_entity None = false
uses_entity (Some used.Variable) = true
uses_entity (Some used.Constant) = true
uses_entity (Some used.Intrinsic) = false
uses_entity (Some used.Heading) = false

-- a name so used is that of an entity of its unit
abbrev pub HasEntity : Declarations → List Entity → (number : ℕ) → Leaf → Type 0
HasEntity unit entities number Literal = Unit {0}
HasEntity unit entities number (Text len) = Unit {0}
HasEntity unit entities number (Named mention) = uses_entity (use_of unit mention) ≡ true → is_some (entity_in entities number mention.name) ≡ true

abbrev pub HaveEntities : Declarations → List Entity → (number : ℕ) → List Leaf → Type 0
HaveEntities unit entities number [] = Unit {0}
HaveEntities unit entities number (leaf ∷ leaves) = HasEntity unit entities number leaf × HaveEntities unit entities number leaves

-- in a file that isn't refused, each name that a statement uses as a variable or constant is that of an entity of its unit
abbrev pub UsesHaveEntities : Type 0
UsesHaveEntities = (units : List ProgramUnit) (entities : List Entity) → resolve_of units ≡ Ok entities → (number : ℕ) (unit : ProgramUnit) → slice_get units number ≡ Some unit → HaveEntities (declarations_of unit.listing) entities number (leaves_in unit.listing)
