-- An accepted program is sound.
use Rattle.std.proofs.Common.{◌≡◌, ℕ, ◌+◌, ◌<◌, ◌≤◌, ◌^◌, true, List, length, None, Some, Result, Ok, Err, refl, sym, ap, ◌∙◌, subst, arith, slice_get}
use Rattle.std.specs.Prelude.{IfOk}
use Rattle.f77_ast.specs.declared.program.Entity.{Entity}
use Rattle.f77_ast.specs.declared.program.Listed.{Listed}
use Rattle.f77_ast.specs.declared.program.Program.{Program}
use Rattle.f77_ast.specs.declared.program.Unit.{Unit as ProgramUnit}
use Rattle.f77_built.proofs.Files.{built_have_layouts, statements_mean}
use Rattle.f77_built.specs.Built.{unbuilt_of}
use Rattle.f77_front.proofs.Files.{program_made, accepted_of}
use Rattle.f77_front.specs.Front.{program_with, program_of, front_of}
use Rattle.f77_layout.proofs.StorageLemmas.{apart_law, storage_law}
use Rattle.f77_layout.specs.Layout.{layout_of}
use Rattle.f77_structure.specs.Storage.{is_stored, start_of, storage_units_of}
use Rattle.f77_structure.specs.Units.{statement_count}
use Rattle.f77_meaning.specs.Sound.{IsSound}
use Rattle.f77_shape.proofs.Accepted.{ranges_nest, files_are_small}
use Rattle.f77_shape.proofs.AcceptedUnits.{units_end, one_main}
use Rattle.f77_shape.specs.Shape.{shape_of}
use Rattle.f77_structure.proofs.UnitLemmas.{main_is_there}

-- a program of units, all of which is built, is sound: its shape has END, ranges and numbers; that it is built gives meanings and storage
pub program_sound : (statements : List Listed) (units : List ProgramUnit) (entities : List Entity) → shape_of statements ≡ Ok units → unbuilt_of units entities ≡ None → IsSound (program_with units entities)
program_sound statements units entities shape built =
    let small = files_are_small statements units shape in
    let mains = one_main statements units shape in
    record {
      main = main_is_there units mains.place mains.unit mains.stands mains.main;
      ended = units_end statements units shape;
      meaning = statements_mean units entities built;
      storage = storage_law entities (layout_of entities) (built_have_layouts units entities built);
      loops = refl;
      ranges = ranges_nest statements units shape;
      counted = let few = small.few_statements in let count = small.counted in omega arith;
    }

-- the units of a file are few, and so are their statements
pub record AreFew (units : List ProgramUnit) : Type 0 where
  pub few_units : length units < 2 ^ 32
  pub few_statements : statement_count units + 1 < 2 ^ 32

pub are_few : (statements : List Listed) (units : List ProgramUnit) → shape_of statements ≡ Ok units → AreFew units
are_few statements units e =
    let small = files_are_small statements units e in
    let units_few = small.few_units in
    let few = small.few_statements in
    let count = small.counted in
    record { few_units = omega arith; few_statements = omega arith }

-- a program that is made of the units of a file is sound
pub made_sound : {E : Type 0} (statements : List Listed) (units : List ProgramUnit) → shape_of statements ≡ Ok units → (r : Result Program E) → IfOk r (λ program. program_of units ≡ Ok program) → IfOk r IsSound
made_sound statements units e (Err error) h = tt
made_sound statements units e (Ok program) h =
    let made = program_made units program h in
    subst IsSound made.is (program_sound statements units made.entities e made.built)

-- and its stored entities stand one behind the other
pub accepted_apart : (bytes : List ℕ) (program : Program) → front_of bytes ≡ Ok program → (i j : ℕ) (a b : Entity) → i < j → slice_get program.layout.entities i ≡ Some a → slice_get program.layout.entities j ≡ Some b → is_stored a.place ≡ true → is_stored b.place ≡ true → start_of a + storage_units_of a ≤ start_of b
accepted_apart bytes program e i j a b before at_i at_j stored_a stored_b =
    let is = accepted_of bytes program e in
    apart_law is.entities i j a b before (sym (ap (λ layout. slice_get layout.entities i) is.layout) ∙ at_i) (sym (ap (λ layout. slice_get layout.entities j) is.layout) ∙ at_j) stored_a stored_b
