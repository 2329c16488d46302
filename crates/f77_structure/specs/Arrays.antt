-- An array's name without subscripts (ANSI X3.9-1978, section 5.6).
use Rattle.std.specs.Prelude.{ℕ, List, Option, None, Some, if◌then◌else◌}
use Rattle.f77_ast.specs.Entity.{entity_in}
use Rattle.f77_ast.specs.declared.expr.Expr.{Expr}
use Rattle.f77_ast.specs.declared.expr.Expr.TheFolds.{fold-Expr, fold-Ref}
use Rattle.f77_ast.specs.declared.expr.Expr.TheOpen.{Expr-F, Part-F, Ref-F}
use Rattle.f77_ast.specs.declared.expr.Expr.TheOpen as layer
use Rattle.f77_ast.specs.declared.expr.Ref.{Ref}
use Rattle.f77_ast.specs.declared.program.Entity.{Entity}
use Rattle.f77_ast.specs.declared.program.Layout.{Layout}
use Rattle.f77_structure.specs.Storage.{is_vector}

-- an entity that is an array of one dimension; more dimensions have no meaning yet
abbrev pub if_array : Option Entity → Option Entity
if_array None = None
if_array (Some entity) = if is_vector entity.bounds then Some entity else None

-- what a name stands for, where neither subscripts nor a substring follow it
abbrev pub named_alone : Option Entity → Option (List (Option Entity)) → Option (Unit {0}) → Option Entity
named_alone found None None = if_array found
named_alone found args part = None

abbrev pub array_ref : Layout → (unit : ℕ) → Ref-F (Option Entity) (Unit {0}) (Option Entity) → Option Entity
array_ref layout unit ref = named_alone (entity_in layout.entities unit ref.name) ref.args ref.part

abbrev pub array_part : Part-F (Option Entity) (Unit {0}) (Option Entity) → Unit {0}
array_part part = tt

-- only a reference is a name: one in parentheses, or with an operator, is none
abbrev pub array_step : Expr-F (Option Entity) (Unit {0}) (Option Entity) → Option Entity
array_step (layer.Int number) = None
array_step (layer.Truth value) = None
array_step (layer.Chars text) = None
array_step (layer.Ref ref) = ref
array_step (layer.Unary op operand) = None
array_step (layer.Binary op left right) = None
array_step (layer.Paren inner) = None

-- the array of a unit that an expression names as a whole: its name stands alone
abbrev pub array_named : Layout → (unit : ℕ) → Expr → Option Entity
array_named layout unit = fold-Expr (Option Entity) (Unit {0}) (Option Entity) array_step array_part (array_ref layout unit)

-- the array of a unit that a reference names as a whole
abbrev pub array_of_ref : Layout → (unit : ℕ) → Ref → Option Entity
array_of_ref layout unit = fold-Ref (Option Entity) (Unit {0}) (Option Entity) array_step array_part (array_ref layout unit)
