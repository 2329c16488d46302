-- What every accepted file satisfies.
use Rattle.std.specs.Prelude.{◌≡◌, ◌↔◌, ℕ, ◌+◌, ◌<◌, ◌≤◌, true, List, Ok, Some, slice_get}
use Rattle.f77_ast.specs.declared.program.Entity.{Entity}
use Rattle.f77_ast.specs.declared.program.Program.{Program}
use Rattle.f77_structure.specs.Storage.{is_stored, start_of, storage_units_of}
use Rattle.f77_front.specs.Accepted.{IsAccepted}
use Rattle.f77_front.specs.Front.{front_of}

-- the files that are accepted, with their programs, are those whose texts spell them
abbrev pub AcceptedFilesAreSpelled : Type 0
AcceptedFilesAreSpelled = (bytes : List ℕ) (program : Program) → (front_of bytes ≡ Ok program) ↔ IsAccepted bytes program

-- in every accepted program, of two stored entities the second stands behind the end of the first
abbrev pub AcceptedEntitiesAreApart : Type 0
AcceptedEntitiesAreApart =
    (bytes : List ℕ) (program : Program) → front_of bytes ≡ Ok program →
    (i j : ℕ) (a b : Entity) → i < j → slice_get program.layout.entities i ≡ Some a → slice_get program.layout.entities j ≡ Some b →
    is_stored a.place ≡ true → is_stored b.place ≡ true → start_of a + storage_units_of a ≤ start_of b
