-- Which files are programs.
use Rattle.std.specs.List.{AllZip}
use Rattle.std.specs.Prelude.{◌≡◌, ℕ, List, None, Ok}
use Rattle.f77_ast.specs.declared.program.Card.{Card}
use Rattle.f77_ast.specs.declared.program.Entity.{Entity}
use Rattle.f77_ast.specs.declared.program.Listed.{Listed}
use Rattle.f77_ast.specs.declared.program.Program.{Program}
use Rattle.f77_built.specs.Built.{unbuilt_of}
use Rattle.f77_cards.specs.Cards.{cards_of}
use Rattle.f77_layout.specs.Layout.{layout_of}
use Rattle.f77_structure.specs.Loops.{loops_of}
use Rattle.f77_names.specs.Resolve.{resolve_of}
use Rattle.f77_operands.specs.Limit.{operand_refusal}
use Rattle.f77_shape.specs.Shape.{shape_of}
use Rattle.f77_stmts.specs.Spelling.{SpellsStmt}

-- a card's text spells the statement that is listed with it
pub record IsListed (card : Card) (listed : Listed) : Type 0 where
  pub card_is : listed.card ≡ card
  pub spelled : SpellsStmt listed.stmt card.text

-- the bytes of a file are a program: they are cut into cards, each card's text spells a statement, the statements have the
-- shape of the program's units, these keep the rules on names and the limit on operands, all of them is built by now, the layout is
-- that of their entities, and the loops are theirs
pub record IsAccepted (bytes : List ℕ) (program : Program) : Type 0 where
  pub cards : List Card
  pub statements : List Listed
  pub cut : cards_of bytes ≡ Ok cards
  pub listed : AllZip IsListed cards statements
  pub shape : shape_of statements ≡ Ok program.units
  pub entities : List Entity
  pub names : resolve_of program.units ≡ Ok entities
  pub operands : operand_refusal program.units ≡ None
  pub built : unbuilt_of program.units entities ≡ None
  pub layout : program.layout ≡ layout_of entities
  pub loops : program.loops ≡ loops_of program.units
