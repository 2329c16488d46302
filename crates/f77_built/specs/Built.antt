-- Which files are built so far: those of whose statements all are, and whose entities take no more storage than there may be.
-- All others are refused by code 21, until their statements have a meaning, and storage has codes of its own.
use Rattle.std.specs.Prelude.{ℕ, suc, ◌+◌, Bool, not, ◌&&◌, nat_le, List, [], ◌∷◌, ◌++◌, Option, None, Some, find, if◌then◌else◌}
use Rattle.std.specs.List.{list_any}
use Rattle.f77_ast.specs.Limits.{most_storage_units}
use Rattle.f77_ast.specs.Refusal.{first_of, refusal_by}
use Rattle.f77_ast.specs.declared.program.Entity.{Entity}
use Rattle.f77_ast.specs.declared.program.Listed.{Listed}
use Rattle.f77_ast.specs.declared.program.Unit.{Unit as ProgramUnit}
use Rattle.f77_ast.specs.declared.refusal.Refusal.{Refusal}
use Rattle.f77_ast.specs.declared.rule.Rule.TheVariants.{LeftOut}
use Rattle.f77_ast.specs.declared.stmt.Stmt.{Stmt}
use Rattle.f77_leaves.specs.Declarations.{same_name}
use Rattle.f77_leaves.specs.Leaves.{leaves_of}
use Rattle.f77_leaves.specs.declared.leaves.Mention.{Mention}
use Rattle.f77_structure.specs.HasMeaning.{statement_has_meaning}
use Rattle.f77_structure.specs.Units.{listing_of, source_line}
use Rattle.f77_uses.specs.Refused.{broken_by}
use Rattle.f77_uses.specs.Uses.{on_name}
use Rattle.f77_built.specs.Declared.{declares_built}
use Rattle.f77_layout.specs.Layout.{layout_of, own_units}

-- ---- statements

-- the units of a file, and its entities
module _ (units : List ProgramUnit) (entities : List Entity) where
  -- whether a statement of a unit is built: what it declares is, and it has a meaning in the layout of the entities
  abbrev pub is_built : (unit : ℕ) → Stmt → Bool
  is_built unit stmt = declares_built entities unit stmt && statement_has_meaning units (layout_of entities) unit stmt

  abbrev pub is_unbuilt : (unit : ℕ) → (place : ℕ) → Listed → Bool
  is_unbuilt unit place listed = not (is_built unit listed.stmt)

  -- the refusals of the statements of a unit that aren't built
  abbrev pub unbuilt_in : (unit : ℕ) → List Listed → List Refusal
  unbuilt_in unit listing = broken_by LeftOut (is_unbuilt unit) 0 listing

  -- those of units, the first of which has this number
  abbrev pub unbuilt_from : (unit : ℕ) → List ProgramUnit → List Refusal
  unbuilt_from unit [] = []
  unbuilt_from unit (first ∷ rest) = unbuilt_in unit first.listing ++ unbuilt_from (suc unit) rest

-- ---- storage

-- the first of some entities, before which others take so many storage units, with which they are more than there may be
abbrev pub first_past : (before : ℕ) → List Entity → Option Entity
first_past before [] = None
first_past before (entity ∷ entities) =
    if nat_le (before + own_units entity) most_storage_units then first_past (before + own_units entity) entities else Some entity

-- whether a name is in a statement
abbrev pub is_of_name : (name : List ℕ) → Mention → Bool
is_of_name name mention = same_name name mention.name

abbrev pub names : (name : List ℕ) → Listed → Bool
names name listed = list_any (on_name (is_of_name name)) (leaves_of listed.stmt)

-- the line of the first statement of a unit in which a name is; 0 where it is in none
abbrev pub first_line : (name : List ℕ) → List Listed → ℕ
first_line name listing = source_line (find (names name) listing)

-- storage past its limit is refused at the first statement in which the first entity past it is
abbrev pub past_limit : List ProgramUnit → Option Entity → List Refusal
past_limit units None = []
past_limit units (Some entity) = refusal_by (first_line entity.name (listing_of units entity.unit)) LeftOut ∷ []

-- ---- files

-- all that isn't built in a file
abbrev pub all_unbuilt : List ProgramUnit → List Entity → List Refusal
all_unbuilt units entities = unbuilt_from units entities 0 units ++ past_limit units (first_past 0 entities)

-- the first refusal of what isn't built, by line
abbrev pub unbuilt_of : List ProgramUnit → List Entity → Option Refusal
unbuilt_of units entities = first_of (all_unbuilt units entities)
