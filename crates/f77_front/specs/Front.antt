-- From the bytes of a file to a program, or to its first refusal: cards, statements, the shape of the file, its names, the limit
-- on operands, and what is built by now. The first of these groups that refuses gives the refusal.
use Rattle.std.specs.Option.{option_or}
use Rattle.std.specs.Prelude.{ℕ, List, [], ◌∷◌, Option, None, Some, Result, Ok, Err}
use Rattle.f77_ast.specs.declared.program.Card.{Card}
use Rattle.f77_ast.specs.declared.program.Entity.{Entity}
use Rattle.f77_ast.specs.declared.program.Listed.{Listed}
use Rattle.f77_ast.specs.declared.program.Program.{Program}
use Rattle.f77_ast.specs.declared.program.Unit.{Unit as ProgramUnit}
use Rattle.f77_ast.specs.Refusal.{refusal_by}
use Rattle.f77_ast.specs.declared.refusal.Refusal.{Refusal}
use Rattle.f77_ast.specs.declared.stmt.Stmt.{Stmt}
use Rattle.f77_built.specs.Built.{unbuilt_of}
use Rattle.f77_cards.specs.Cards.{cards_of}
use Rattle.f77_layout.specs.Layout.{layout_of}
use Rattle.f77_structure.specs.Loops.{loops_of}
use Rattle.f77_names.specs.Resolve.{resolve_of}
use Rattle.f77_operands.specs.Limit.{operand_refusal}
use Rattle.f77_shape.specs.Shape.{shape_of}
use Rattle.f77_stmts.specs.Cause.{rule_of}
use Rattle.f77_stmts.specs.Statement.{statement_of}

-- goes on with what was made, or stays refused
abbrev pub and_then : {A B : Type 0} → Result A Refusal → (A → Result B Refusal) → Result B Refusal
and_then (Ok made) go = go made
and_then (Err refusal) go = Err refusal

-- a card with the statement that its text spells, or the refusal by the rule that it breaks where it spells none
abbrev pub listed_by : Card → Option Stmt → Result Listed Refusal
listed_by card (Some statement) = Ok (record { card = card; stmt = statement })
listed_by card None = Err (refusal_by card.line (rule_of card.text))

abbrev pub listed_of : Card → Result Listed Refusal
listed_of card = listed_by card (statement_of card.text)

-- the statements of cards, in order, or the refusal of the first card that spells none
abbrev pub listing_of : List Card → Result (List Listed) Refusal
listing_of [] = Ok []
listing_of (card ∷ cards) = and_then (listed_of card) (λ one. and_then (listing_of cards) (λ rest. Ok (one ∷ rest)))

-- what was made, unless there is a refusal
abbrev pub unless_refused : {A : Type 0} → Option Refusal → A → Result A Refusal
unless_refused None made = Ok made
unless_refused (Some refusal) made = Err refusal

-- the refusal of units whose names keep the rules, and give these entities: by the limit on operands, or else of what isn't built
abbrev pub later_refusal : List ProgramUnit → List Entity → Option Refusal
later_refusal units entities = option_or (operand_refusal units) (unbuilt_of units entities)

-- the program of some units with these entities: with its loops and its layout
abbrev pub program_with : List ProgramUnit → List Entity → Program
program_with units entities = record { units = units; layout = layout_of entities; loops = loops_of units }

-- the program of some units, or their first refusal
abbrev pub program_of : List ProgramUnit → Result Program Refusal
program_of units = and_then (resolve_of units) (λ entities. unless_refused (later_refusal units entities) (program_with units entities))

-- the program that the bytes of a file make, or the first refusal
abbrev pub front_of : List ℕ → Result Program Refusal
front_of bytes = and_then (cards_of bytes) (λ cards. and_then (listing_of cards) (λ statements. and_then (shape_of statements) program_of))
