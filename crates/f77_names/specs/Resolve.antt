-- What is broken in the names of a file, and its entities where nothing is.
use Rattle.std.specs.Prelude.{List, ◌++◌, Option, None, Some, Result, Ok, Err}
use Rattle.f77_ast.specs.Refusal.{first_of}
use Rattle.f77_ast.specs.declared.program.Entity.{Entity}
use Rattle.f77_ast.specs.declared.program.Unit.{Unit as ProgramUnit}
use Rattle.f77_ast.specs.declared.refusal.Refusal.{Refusal}
use Rattle.f77_uses.specs.Breaks as uses
use Rattle.f77_kinds.specs.Breaks as kinds
use Rattle.f77_due.specs.Breaks.{lacking_among}
use Rattle.f77_names.specs.Entities.{entities_of}

-- all that is broken: codes 30, 35 and 37, codes 31 and 33, and code 34
abbrev pub breaks_of : List ProgramUnit → List Refusal
breaks_of units = uses.breaks_among units ++ kinds.breaks_among units ++ lacking_among units

abbrev pub unless_refused : Option Refusal → List Entity → Result (List Entity) Refusal
unless_refused None entities = Ok entities
unless_refused (Some refusal) entities = Err refusal

-- the entities of a file, or its first refusal: of the least line, and on that line of the least code
abbrev pub resolve_of : List ProgramUnit → Result (List Entity) Refusal
resolve_of units = unless_refused (first_of (breaks_of units)) (entities_of units)
