-- Which declarations are built so far (ANSI X3.9-1978, section 8).
use Rattle.std.specs.Prelude.{ℕ, Bool, true, false, ◌&&◌, nat_le, List, [], ◌∷◌, Option, None, Some}
use Rattle.std.specs.List.{list_all}
use Rattle.std.specs.Option.{is_none}
use Rattle.f77_ast.specs.Entity.{entity_in}
use Rattle.f77_ast.specs.declared.program.Entity.{Entity}
use Rattle.f77_ast.specs.declared.specification.Bound.{Bound}
use Rattle.f77_ast.specs.declared.specification.Declarator.{Declarator}
use Rattle.f77_ast.specs.declared.specification.ImplicitRule.{ImplicitRule}
use Rattle.f77_ast.specs.declared.specification.NamedConstant.{NamedConstant}
use Rattle.f77_ast.specs.declared.specification.TypeSpec.{TypeSpec}
use Rattle.f77_ast.specs.declared.specification.TypeSpec.TheVariants as typ
use Rattle.f77_ast.specs.declared.specification.TypedDeclarator.{TypedDeclarator}
use Rattle.f77_ast.specs.declared.stmt.Stmt.{Stmt}
use Rattle.f77_ast.specs.declared.stmt.Stmt as stmt
use Rattle.f77_structure.specs.HasMeaning.{is_integer_constant}
use Rattle.f77_structure.specs.Storage.{storage_units_of}

abbrev pub is_integer_type : TypeSpec → Bool
is_integer_type typ.Integer = true
is_integer_type typ.Logical = false
is_integer_type (typ.Character len) = false

-- whether an entity is there and takes storage: an array without elements takes none
abbrev pub takes_storage : Option Entity → Bool
takes_storage None = false
takes_storage (Some entity) = nat_le 1 (storage_units_of entity)

-- whether a rule of IMPLICIT gives letters the type INTEGER
abbrev pub rule_is_built : ImplicitRule → Bool
rule_is_built rule = is_integer_type rule.typ

-- the entities of a file, and the unit in which something is declared
module _ (entities : List Entity) (unit : ℕ) where
  -- whether the bounds of a name are built: none, or those of one dimension with an element
  abbrev pub bounds_are_built : (name : List ℕ) → List Bound → Bool
  bounds_are_built name [] = true
  bounds_are_built name (bound ∷ []) = takes_storage (entity_in entities unit name)
  bounds_are_built name (first ∷ second ∷ bounds) = false

  abbrev pub declarator_is_built : Declarator → Bool
  declarator_is_built declarator = bounds_are_built declarator.name declarator.bounds

  -- whether a name in a type statement is built: it has no length of its own
  abbrev pub typed_is_built : TypedDeclarator → Bool
  typed_is_built typed = is_none typed.length && declarator_is_built typed.declarator

  -- whether a constant of PARAMETER is one of INTEGER
  abbrev pub constant_is_built : NamedConstant → Bool
  constant_is_built constant = is_integer_constant (entity_in entities unit constant.name)

  -- whether a statement declares nothing, or what is built so far: INTEGER and DIMENSION of variables and of arrays of one
  -- dimension, INTEGER constants, IMPLICIT of INTEGER, and SAVE
  abbrev pub declares_built : Stmt → Bool
  declares_built (stmt.Assign target value) = true
  declares_built (stmt.Do terminal control) = true
  declares_built stmt.Continue = true
  declares_built stmt.Return = true
  declares_built stmt.Else = true
  declares_built stmt.EndIf = true
  declares_built stmt.End = true
  declares_built (stmt.Stop code) = true
  declares_built (stmt.Goto label) = true
  declares_built (stmt.ComputedGoto labels index) = true
  declares_built (stmt.ArithmeticIf value negative zeroth positive) = true
  declares_built (stmt.LogicalIf' condition pointer inner) = true
  declares_built (stmt.BlockIf condition) = true
  declares_built (stmt.ElseIf condition) = true
  declares_built (stmt.Call name args) = true
  declares_built (stmt.Print items) = true
  declares_built (stmt.Read items) = true
  declares_built (stmt.Program name) = true
  declares_built (stmt.Subroutine name dummies) = true
  declares_built (stmt.Function kind name dummies) = true
  declares_built (stmt.Declare declared names) = is_integer_type declared && list_all typed_is_built names
  declares_built (stmt.Dimension arrays) = list_all declarator_is_built arrays
  declares_built (stmt.Common groups) = false
  declares_built (stmt.Equivalence groups) = false
  declares_built (stmt.Parameter constants) = list_all constant_is_built constants
  declares_built (stmt.Implicit rules) = list_all rule_is_built rules
  declares_built (stmt.Save entries) = true
  declares_built (stmt.Init groups) = false
