-- The code of expressions and references: what `code` makes, an equation for each form. What it does is said in f77_meaning.
use Rattle.std.specs.Prelude.{ℕ, ◌++◌, List, [], ◌∷◌, map, Option, None, Some}
use Rattle.std.specs.Option.{option_map}
use Rattle.f77_ast.specs.Entity.{entity_in, number_in}
use Rattle.f77_ast.specs.declared.code.Instr.{Instr}
use Rattle.f77_ast.specs.declared.code.Instr.TheVariants.{Lit, Truth, Entity, Index, Unary, Binary, Load}
use Rattle.f77_ast.specs.declared.expr.Expr.{Expr, out-Expr}
use Rattle.f77_ast.specs.declared.expr.Expr.TheFolds.{fold-Expr, fold-Ref}
use Rattle.f77_ast.specs.declared.expr.Expr.TheOpen.{Expr-F, Part-F, Ref-F}
use Rattle.f77_ast.specs.declared.expr.Expr.TheOpen as layer
use Rattle.f77_ast.specs.declared.expr.Part.{Part}
use Rattle.f77_ast.specs.declared.expr.Ref.{Ref, out-Ref}
use Rattle.f77_ast.specs.declared.program.Entity.{Entity as NamedEntity}
use Rattle.f77_ast.specs.declared.program.Layout.{Layout}
use Rattle.f77_ast.specs.declared.program.Place.{Place}
use Rattle.f77_ast.specs.declared.program.Place.TheVariants.{Stored, Dummy, Constant}

-- the place of a reference, by the number of its entity and the code of its subscripts: an entity; or one subscript more, which makes it an
-- element. More subscripts, and substrings, have no meaning yet
abbrev pub place_code : Option ℕ → Option (List (List Instr)) → Option (Unit {0}) → List Instr
place_code None args part = []
place_code (Some number) None None = Entity number ∷ []
place_code (Some number) None (Some part) = []
place_code (Some number) (Some []) part = []
place_code (Some number) (Some (subscript ∷ [])) None = Entity number ∷ subscript ++ Index 1 ∷ []
place_code (Some number) (Some (subscript ∷ [])) (Some part) = []
place_code (Some number) (Some (first ∷ second ∷ others)) part = []

-- a literal: its value. A character constant has no meaning yet, and no other expression is a literal
abbrev pub literal_layer_code : Expr-F Expr Part Ref → List Instr
literal_layer_code (layer.Int number) = Lit number ∷ []
literal_layer_code (layer.Truth holds) = Truth holds ∷ []
literal_layer_code (layer.Chars text) = []
literal_layer_code (layer.Ref ref) = []
literal_layer_code (layer.Unary op operand) = []
literal_layer_code (layer.Binary op left right) = []
literal_layer_code (layer.Paren inner) = []

abbrev pub literal_code : Expr → List Instr
literal_code literal = literal_layer_code (out-Expr literal)

-- the literal that a constant is; none of what is stored, and of a dummy
abbrev pub literal_at : Place → Option Expr
literal_at (Stored address) = None
literal_at (Dummy place) = None
literal_at (Constant literal) = Some literal

-- that of an entity that may be there
abbrev pub literal_of : Option NamedEntity → Option Expr
literal_of None = None
literal_of (Some entity) = literal_at entity.place

-- the literal that a name alone stands for; none where subscripts or a substring follow it, or it is no constant's
abbrev pub constant_named : {A : Type 0} → Option NamedEntity → Option A → Option (Unit {0}) → Option Expr
constant_named found None None = literal_of found
constant_named found None (Some part) = None
constant_named found (Some args) part = None

-- the value of a reference: that of a constant, as its literal has it; or what is loaded from its place
abbrev pub read_code : Option Expr → (place : List Instr) → List Instr
read_code None place = place ++ Load ∷ []
read_code (Some literal) place = literal_code literal

-- one level of an expression: its operands from the left, and then what is done with them. A character constant has no meaning yet
abbrev pub code_step : Expr-F (List Instr) (Unit {0}) (List Instr) → List Instr
code_step (layer.Int number) = Lit number ∷ []
code_step (layer.Truth holds) = Truth holds ∷ []
code_step (layer.Chars text) = []
code_step (layer.Ref value) = value
code_step (layer.Unary op operand) = operand ++ Unary op ∷ []
code_step (layer.Binary op left right) = left ++ right ++ Binary op ∷ []
code_step (layer.Paren inner) = inner

abbrev pub code_part : Part-F (List Instr) (Unit {0}) (List Instr) → Unit {0}
code_part part = tt

module _ (layout : Layout) (unit : ℕ) where
  -- one level of a reference that is an expression
  abbrev pub code_ref : Ref-F (List Instr) (Unit {0}) (List Instr) → List Instr
  code_ref ref = read_code (constant_named (entity_in layout.entities unit ref.name) ref.args ref.part) (place_code (number_in layout.entities unit ref.name) ref.args ref.part)

  -- the code of an expression: it leaves its value
  abbrev pub expr_code : Expr → List Instr
  expr_code = fold-Expr (List Instr) (Unit {0}) (List Instr) code_step code_part code_ref

  -- the code of a reference that is an expression: it leaves its value
  abbrev pub value_code : Ref → List Instr
  value_code = fold-Ref (List Instr) (Unit {0}) (List Instr) code_step code_part code_ref

  -- one level of what a reference stands for
  abbrev pub ref_layer_code : Ref-F Expr Part Ref → List Instr
  ref_layer_code ref = place_code (number_in layout.entities unit ref.name) (option_map (map expr_code) ref.args) (option_map (λ part. tt) ref.part)

  -- the code of what a reference stands for: it leaves an entity or a place
  abbrev pub ref_code : Ref → List Instr
  ref_code ref = ref_layer_code (out-Ref ref)
