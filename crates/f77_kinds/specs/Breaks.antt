-- What is broken in the kinds and numbers of a file: codes 31 and 33.
use Rattle.std.specs.Prelude.{ℕ, Bool, List, ◌++◌}
use Rattle.std.specs.List.{flat_map}
use Rattle.f77_ast.specs.declared.program.Listed.{Listed}
use Rattle.f77_ast.specs.declared.program.Unit.{Unit as ProgramUnit}
use Rattle.f77_ast.specs.declared.refusal.Refusal.{Refusal}
use Rattle.f77_ast.specs.declared.rule.Rule.TheVariants.{TypeClash, ArgumentCount}
use Rattle.f77_leaves.specs.Declarations.{Declarations, declarations_of}
use Rattle.f77_uses.specs.Refused.{broken_by}
use Rattle.f77_kinds.specs.Letters.{breaks_letters}
use Rattle.f77_kinds.specs.Statements.{stmt_breach}

-- TypeClash: a statement with something of a kind or form that its place doesn't take
abbrev pub has_clash : Declarations → (place : ℕ) → Listed → Bool
has_clash unit place listed = (stmt_breach unit listed.stmt).clash

-- ArgumentCount: a statement with a wrong number of subscripts, or of arguments of an intrinsic function, or with more than
-- seven dimensions
abbrev pub has_miscount : Declarations → (place : ℕ) → Listed → Bool
has_miscount unit place listed = (stmt_breach unit listed.stmt).miscount

-- what is broken in the statements of a unit, by its declarations
abbrev pub breaks_by : Declarations → List Listed → List Refusal
breaks_by declared unit =
    broken_by TypeClash (has_clash declared) 0 unit ++ broken_by TypeClash (breaks_letters unit) 0 unit ++ broken_by ArgumentCount (has_miscount declared) 0 unit

abbrev pub breaks_in : List Listed → List Refusal
breaks_in unit = breaks_by (declarations_of unit) unit

-- what is broken in the kinds and numbers of a file
abbrev pub breaks_among : List ProgramUnit → List Refusal
breaks_among units = flat_map (λ unit. breaks_in unit.listing) units
