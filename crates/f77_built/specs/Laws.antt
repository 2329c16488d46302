-- What is said of files of which all is built, and of those that are refused.
use Rattle.std.specs.Prelude.{◌≡◌, ℕ, List, All, IsTrue, None, Some, Contains, slice_get}
use Rattle.f77_ast.specs.Refusal.{NoneIsEarlier}
use Rattle.f77_ast.specs.declared.program.Entity.{Entity}
use Rattle.f77_ast.specs.declared.program.Unit.{Unit as ProgramUnit}
use Rattle.f77_ast.specs.declared.refusal.Refusal.{Refusal}
use Rattle.f77_built.specs.Built.{all_unbuilt, unbuilt_of}
use Rattle.f77_layout.specs.Layout.{layout_of, limited_layout}
use Rattle.f77_structure.specs.HasMeaning.{statement_has_meaning}

-- all statements of a file that isn't refused have a meaning in the layout of its entities
abbrev pub StatementsHaveMeaning : Type 0
StatementsHaveMeaning =
    (units : List ProgramUnit) (entities : List Entity) → unbuilt_of units entities ≡ None →
    (u : ℕ) (unit : ProgramUnit) → slice_get units u ≡ Some unit → All (λ listed. IsTrue (statement_has_meaning units (layout_of entities) u listed.stmt)) unit.listing

-- the entities of a file that isn't refused have a layout
abbrev pub BuiltFilesHaveLayouts : Type 0
BuiltFilesHaveLayouts = (units : List ProgramUnit) (entities : List Entity) → unbuilt_of units entities ≡ None → limited_layout entities ≡ Some (layout_of entities)

-- what is refused isn't built, and of what else isn't built nothing is earlier
abbrev pub RefusedFilesAreUnbuilt : Type 0
RefusedFilesAreUnbuilt =
    (units : List ProgramUnit) (entities : List Entity) (refusal : Refusal) → unbuilt_of units entities ≡ Some refusal →
    Contains (all_unbuilt units entities) refusal × NoneIsEarlier refusal (all_unbuilt units entities)
