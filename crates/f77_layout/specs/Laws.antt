-- What is said of layouts.
use Rattle.std.specs.Prelude.{◌≡◌, ℕ, ◌+◌, ◌<◌, ◌≤◌, true, List, Some, slice_get}
use Rattle.f77_ast.specs.declared.program.Entity.{Entity}
use Rattle.f77_ast.specs.declared.program.Layout.{Layout}
use Rattle.f77_structure.specs.Storage.{IsStorage, is_stored, start_of, storage_units_of}
use Rattle.f77_layout.specs.Layout.{layout_of, limited_layout}

-- each layout is storage
abbrev pub LayoutsAreStorage : Type 0
LayoutsAreStorage = (entities : List Entity) (layout : Layout) → limited_layout entities ≡ Some layout → IsStorage layout

-- of two stored entities the second stands behind the end of the first
abbrev pub EntitiesAreApart : Type 0
EntitiesAreApart = (entities : List Entity) (i j : ℕ) (a b : Entity) → i < j → slice_get (layout_of entities).entities i ≡ Some a → slice_get (layout_of entities).entities j ≡ Some b → is_stored a.place ≡ true → is_stored b.place ≡ true → start_of a + storage_units_of a ≤ start_of b
