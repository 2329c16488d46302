-- The array that an expression names lies in storage.
use Rattle.std.proofs.Common.{◌≡◌, ◌&&◌, ◌||◌, List, [], ◌∷◌, Bool, true, false, cond, length, Option, None, Some, refl, sym, subst, ◌∙◌}
use Rattle.std.specs.Option.{is_some}
use Rattle.f77_ast.specs.Entity.{entity_in}
use Rattle.f77_ast.specs.declared.expr.Expr.{Expr}
use Rattle.f77_ast.specs.declared.expr.Expr.TheFolds.{fold-roll-Expr, fold-roll-Ref, ind-Expr, map-Expr, map-Ref}
use Rattle.f77_ast.specs.declared.expr.Expr.TheOpen.{Expr-F, Part-F, Ref-F}
use Rattle.f77_ast.specs.declared.expr.Expr.TheOpen as layer
use Rattle.f77_ast.specs.declared.expr.Expr.TheViews.{roll-Expr, roll-Ref}
use Rattle.f77_ast.specs.declared.expr.Part.{Part}
use Rattle.f77_ast.specs.declared.expr.Ref.{Ref}
use Rattle.f77_ast.specs.declared.program.Entity.{Entity}
use Rattle.f77_structure.specs.Arrays.{array_named, array_of_ref, array_part, array_ref, array_step, if_array, named_alone}
use Rattle.f77_ast.specs.declared.specification.Bound.{Bound}
use Rattle.f77_structure.specs.HasMeaning.{expr_has_meaning, is_integer_constant, is_integer_variable, meaning_part, meaning_ref, meaning_step, ref_has_meaning}
use Rattle.f77_structure.specs.Literals.{constant_number}
use Rattle.f77_structure.specs.Storage.{IsStorage, LiesIn, is_scalar, is_stored, is_vector}
use Rattle.f77_structure.specs.Values.{is_integer_kind}
use Rattle.f77_meaning.specs.Demand.{Setting}
use Rattle.f77_turns.proofs.Cells.{both}
use Rattle.f77_turns.proofs.Expressions.{found_lies}

module _ (s : Setting) (storage : IsStorage s.program.layout) where
  -- an entity, where there is one, lies in storage
  abbrev pub IfLies : Option Entity → Type 0
  IfLies None = Unit {0}
  IfLies (Some entity) = LiesIn (length s.program.layout.first) s.program.layout.regions entity

  array_lies : (found : Option Entity) → ((entity : Entity) → found ≡ Some entity → LiesIn (length s.program.layout.first) s.program.layout.regions entity) → IfLies (if_array found)
  array_lies None lies = tt
  array_lies (Some entity) lies = by (is_vector entity.bounds)
    where
      by : (b : Bool) → IfLies (cond b (Some entity) None)
      by true = lies entity refl
      by false = tt

  alone_lies : (found : Option Entity) (args : Option (List (Option Entity))) (part : Option (Unit {0})) → ((entity : Entity) → found ≡ Some entity → LiesIn (length s.program.layout.first) s.program.layout.regions entity) → IfLies (named_alone found args part)
  alone_lies found None None lies = array_lies found lies
  alone_lies found None (Some part) lies = tt
  alone_lies found (Some args) part lies = tt

  abbrev ExprLies : Expr → Type 0
  ExprLies e = IfLies (array_named s.program.layout s.unit e)

  abbrev PartLies : Part → Type 0
  PartLies part = Unit {0}

  abbrev RefLies : Ref → Type 0
  RefLies r = IfLies (array_of_ref s.program.layout s.unit r)

  abbrev SomeExpr : Type 0
  SomeExpr = (e : Expr) × ExprLies e

  abbrev SomePart : Type 0
  SomePart = (p : Part) × PartLies p

  abbrev SomeRef : Type 0
  SomeRef = (r : Ref) × RefLies r

  of_layer : (z : Expr-F Expr Part Ref) → IfLies (array_step (map-Expr Expr Part Ref (Option Entity) (Unit {0}) (Option Entity) (array_named s.program.layout s.unit) (λ p. tt) (array_of_ref s.program.layout s.unit) z)) → ExprLies (roll-Expr z)
  of_layer z h = subst IfLies (sym (fold-roll-Expr (Option Entity) (Unit {0}) (Option Entity) array_step array_part (array_ref s.program.layout s.unit) z)) h

  abbrev plain_expr : Expr-F SomeExpr SomePart SomeRef → Expr-F Expr Part Ref
  plain_expr = map-Expr SomeExpr SomePart SomeRef Expr Part Ref (λ e. e.0) (λ p. p.0) (λ r. r.0)

  expr_layer : (y : Expr-F SomeExpr SomePart SomeRef) → ExprLies (roll-Expr (plain_expr y))
  expr_layer (layer.Int value) = of_layer (layer.Int value) tt
  expr_layer (layer.Truth value) = of_layer (layer.Truth value) tt
  expr_layer (layer.Chars text) = of_layer (layer.Chars text) tt
  expr_layer (layer.Ref r) = of_layer (layer.Ref r.0) r.1
  expr_layer (layer.Unary op x) = of_layer (layer.Unary op x.0) tt
  expr_layer (layer.Binary op x y) = of_layer (layer.Binary op x.0 y.0) tt
  expr_layer (layer.Paren x) = of_layer (layer.Paren x.0) tt

  ref_layer : (z : Ref-F Expr Part Ref) → RefLies (roll-Ref z)
  ref_layer z =
      let r : Ref-F (Option Entity) (Unit {0}) (Option Entity) = map-Ref Expr Part Ref (Option Entity) (Unit {0}) (Option Entity) (array_named s.program.layout s.unit) (λ p. tt) (array_of_ref s.program.layout s.unit) z in
      subst IfLies (sym (fold-roll-Ref (Option Entity) (Unit {0}) (Option Entity) array_step array_part (array_ref s.program.layout s.unit) z))
      (alone_lies (entity_in s.program.layout.entities s.unit z.name) r.args r.part (found_lies s storage z.name))

  -- the array that an expression names as a whole lies in storage
  pub named_lies : (e : Expr) → ExprLies e
  named_lies = ind-Expr ExprLies PartLies RefLies
      (λ x y is. subst (λ z. ExprLies (roll-Expr z)) is (expr_layer y))
      (λ x y is. tt)
      (λ x y is. ref_layer x)

-- an entity without dimensions is no array
scalar_is_none : (entity : Entity) → is_scalar entity.bounds ≡ true → if_array (Some entity) ≡ None
scalar_is_none entity scalar = by entity.bounds scalar
  where
    by : (bounds : List Bound) → is_scalar bounds ≡ true → cond (is_vector bounds) (Some entity) None ≡ None
    by [] h = refl
    by (bound ∷ bounds) h = absurd (cc)

-- an INTEGER variable is no array
variable_is_none : (found : Option Entity) → is_integer_variable found ≡ true → if_array found ≡ None
variable_is_none None m = absurd (cc)
variable_is_none (Some entity) m = scalar_is_none entity (both (is_stored entity.place) (is_scalar entity.bounds) (both (is_integer_kind entity.kind) (is_stored entity.place && is_scalar entity.bounds) m).1).1

-- an INTEGER constant is no array
constant_is_none : (found : Option Entity) → is_integer_constant found ≡ true → if_array found ≡ None
constant_is_none None m = absurd (cc)
constant_is_none (Some entity) m =
    scalar_is_none entity (both (is_some (constant_number entity.place)) (is_scalar entity.bounds) (both (is_integer_kind entity.kind) (is_some (constant_number entity.place) && is_scalar entity.bounds) m).1).1

-- an INTEGER variable or constant is no array
alone_is_none : (found : Option Entity) → (is_integer_variable found || is_integer_constant found) ≡ true → if_array found ≡ None
alone_is_none found m = by (is_integer_variable found) refl m
  where
    by : (b : Bool) → is_integer_variable found ≡ b → (b || is_integer_constant found) ≡ true → if_array found ≡ None
    by true variable either = variable_is_none found variable
    by false variable either = constant_is_none found either

module _ (s : Setting) where
  -- an expression and a reference name no array as a whole, where they have a meaning
  abbrev ExprNone : Expr → Type 0
  ExprNone e = expr_has_meaning s.program.units s.program.layout s.unit e ≡ true → array_named s.program.layout s.unit e ≡ None

  abbrev PartNone : Part → Type 0
  PartNone part = Unit {0}

  abbrev RefNone : Ref → Type 0
  RefNone r = ref_has_meaning s.program.units s.program.layout s.unit r ≡ true → array_of_ref s.program.layout s.unit r ≡ None

  abbrev AnExpr : Type 0
  AnExpr = (e : Expr) × ExprNone e

  abbrev APart : Type 0
  APart = (p : Part) × PartNone p

  abbrev ARef : Type 0
  ARef = (r : Ref) × RefNone r

  -- the parts of a layer, with their meanings and with the arrays that they name
  abbrev tested : Expr-F Expr Part Ref → Expr-F Bool (Unit {0}) Bool
  tested = map-Expr Expr Part Ref Bool (Unit {0}) Bool (expr_has_meaning s.program.units s.program.layout s.unit) (λ p. tt) (ref_has_meaning s.program.units s.program.layout s.unit)

  abbrev named : Expr-F Expr Part Ref → Expr-F (Option Entity) (Unit {0}) (Option Entity)
  named = map-Expr Expr Part Ref (Option Entity) (Unit {0}) (Option Entity) (array_named s.program.layout s.unit) (λ p. tt) (array_of_ref s.program.layout s.unit)

  abbrev tested_ref : Ref-F Expr Part Ref → Ref-F Bool (Unit {0}) Bool
  tested_ref = map-Ref Expr Part Ref Bool (Unit {0}) Bool (expr_has_meaning s.program.units s.program.layout s.unit) (λ p. tt) (ref_has_meaning s.program.units s.program.layout s.unit)

  abbrev named_ref : Ref-F Expr Part Ref → Ref-F (Option Entity) (Unit {0}) (Option Entity)
  named_ref = map-Ref Expr Part Ref (Option Entity) (Unit {0}) (Option Entity) (array_named s.program.layout s.unit) (λ p. tt) (array_of_ref s.program.layout s.unit)

  none_of_layer : (z : Expr-F Expr Part Ref) → (meaning_step (tested z) ≡ true → array_step (named z) ≡ None) → ExprNone (roll-Expr z)
  none_of_layer z h m =
      fold-roll-Expr (Option Entity) (Unit {0}) (Option Entity) array_step array_part (array_ref s.program.layout s.unit) z
      ∙ h (sym (fold-roll-Expr Bool (Unit {0}) Bool meaning_step meaning_part (meaning_ref s.program.units s.program.layout s.unit) z) ∙ m)

  abbrev without : Expr-F AnExpr APart ARef → Expr-F Expr Part Ref
  without = map-Expr AnExpr APart ARef Expr Part Ref (λ e. e.0) (λ p. p.0) (λ r. r.0)

  none_layer : (y : Expr-F AnExpr APart ARef) → ExprNone (roll-Expr (without y))
  none_layer (layer.Int value) = none_of_layer (layer.Int value) (λ m. refl)
  none_layer (layer.Truth value) = none_of_layer (layer.Truth value) (λ m. refl)
  none_layer (layer.Chars text) = none_of_layer (layer.Chars text) (λ m. refl)
  none_layer (layer.Ref r) = none_of_layer (layer.Ref r.0) r.1
  none_layer (layer.Unary op x) = none_of_layer (layer.Unary op x.0) (λ m. refl)
  none_layer (layer.Binary op x y) = none_of_layer (layer.Binary op x.0 y.0) (λ m. refl)
  none_layer (layer.Paren x) = none_of_layer (layer.Paren x.0) (λ m. refl)

  none_by : (z : Ref-F Expr Part Ref) (args : Option (List Expr)) (part : Option Part) → meaning_ref s.program.units s.program.layout s.unit (tested_ref (record z { args = args; part = part })) ≡ true → array_ref s.program.layout s.unit (named_ref (record z { args = args; part = part })) ≡ None
  none_by z None None m = alone_is_none (entity_in s.program.layout.entities s.unit z.name) m
  none_by z None (Some part) m = refl
  none_by z (Some args) part m = refl

  none_ref : (z : Ref-F Expr Part Ref) → RefNone (roll-Ref z)
  none_ref z m =
      fold-roll-Ref (Option Entity) (Unit {0}) (Option Entity) array_step array_part (array_ref s.program.layout s.unit) z
      ∙ none_by z z.args z.part (sym (fold-roll-Ref Bool (Unit {0}) Bool meaning_step meaning_part (meaning_ref s.program.units s.program.layout s.unit) z) ∙ m)

  -- an expression with a meaning names no array as a whole
  pub names_none : (e : Expr) → ExprNone e
  names_none = ind-Expr ExprNone PartNone RefNone
      (λ x y is. subst (λ z. ExprNone (roll-Expr z)) is (none_layer y))
      (λ x y is. tt)
      (λ x y is. none_ref x)
