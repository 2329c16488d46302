-- Literals, and the values of constants, which stand with the entities as literals (ANSI X3.9-1978, sections 4.2 and 8.6).
use Rattle.std.specs.Prelude.{ℤ, Option, None, Some}
use Rattle.f77_ast.specs.declared.expr.Expr.{Expr, out-Expr}
use Rattle.f77_ast.specs.declared.expr.Expr.TheOpen.{Expr-F, Part-F, Ref-F}
use Rattle.f77_ast.specs.declared.expr.Expr.TheOpen as layer
use Rattle.f77_ast.specs.declared.expr.Part.{Part}
use Rattle.f77_ast.specs.declared.expr.Ref.{Ref}
use Rattle.f77_ast.specs.declared.program.Place.{Place}
use Rattle.f77_ast.specs.declared.program.Place.TheVariants.{Stored, Dummy, Constant}
use Rattle.f77_structure.specs.Storage.{bound_number}
use Rattle.f77_structure.specs.Values.{Value, integer, truth, chars}

-- the value of a literal; none of any other expression
abbrev pub literal_layer : Expr-F Expr Part Ref → Option Value
literal_layer (layer.Int number) = Some (integer number)
literal_layer (layer.Truth value) = Some (truth value)
literal_layer (layer.Chars text) = Some (chars text)
literal_layer (layer.Ref ref) = None
literal_layer (layer.Unary op operand) = None
literal_layer (layer.Binary op left right) = None
literal_layer (layer.Paren inner) = None

abbrev pub literal_value : Expr → Option Value
literal_value expr = literal_layer (out-Expr expr)

-- the value of a constant; none of what is stored, and of a dummy
abbrev pub constant_value : Place → Option Value
constant_value (Stored address) = None
constant_value (Dummy place) = None
constant_value (Constant value) = literal_value value

-- the number that a constant is; none of what is stored, of a dummy, and of another constant
abbrev pub constant_number : Place → Option ℤ
constant_number (Stored address) = None
constant_number (Dummy place) = None
constant_number (Constant value) = bound_number (Some value)
