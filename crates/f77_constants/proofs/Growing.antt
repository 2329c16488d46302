-- More names with values give more expressions with values.
use Rattle.std.proofs.Common.{◌≡◌, ℕ, List, Option, None, Some, option_and_then, refl, sym, ap, ◌∙◌, subst}
use Rattle.f77_ast.specs.declared.expr.Expr.{Expr}
use Rattle.f77_ast.specs.declared.expr.Expr.TheFolds.{fold-roll-Expr, fold-roll-Ref, ind-Expr, map-Expr, map-Ref}
use Rattle.f77_ast.specs.declared.expr.Expr.TheOpen.{Expr-F, Part-F, Ref-F}
use Rattle.f77_ast.specs.declared.expr.Expr.TheOpen as layer
use Rattle.f77_ast.specs.declared.expr.Expr.TheViews.{roll-Expr, roll-Ref}
use Rattle.f77_ast.specs.declared.expr.Part.{Part}
use Rattle.f77_ast.specs.declared.expr.Ref.{Ref}
use Rattle.f77_leaves.specs.Declarations.{Declarations, name_kind}
use Rattle.f77_structure.specs.Values.{Value, unary_of, binary_of}
use Rattle.f77_constants.specs.Constants.{given_value, alone_value, expr_step, part_step, ref_step, value_of_expr, value_of_ref, value_of_option, taken, constant_value}
use Rattle.f77_constants.specs.Laws.{Extends}

-- where there is a value in one way, there is in another
pub record Grows (a b : Option Value) : Type 0 where
  pub has : (value : Value) → a ≡ Some value → b ≡ Some value

same : (a : Option Value) → Grows a a
same a = record { has = λ value e. e }

none : (b : Option Value) → Grows None b
none b = record { has = λ value e. absurd (cc) }

pub then_grows : (f : Value → Option Value) (a b : Option Value) → Grows a b → Grows (option_and_then f a) (option_and_then f b)
then_grows f None b h = record { has = λ value e. absurd (cc) }
then_grows f (Some x) b h = record { has = λ value e. ap (option_and_then f) (h.has x refl) ∙ e }

both_grow : (f : Value → Value → Option Value) (a b c d : Option Value) → Grows a b → Grows c d → Grows (option_and_then (λ x. option_and_then (f x) c) a) (option_and_then (λ x. option_and_then (f x) d) b)
both_grow f None b c d h k = record { has = λ value e. absurd (cc) }
both_grow f (Some x) b c d h k = record { has = λ value e. ap (option_and_then (λ y. option_and_then (f y) d)) (h.has x refl) ∙ (then_grows (f x) c d k).has value e }

module _ (values others : List ℕ → Option Value) (more : Extends values others) where
  abbrev ExprGrows : Expr → Type 0
  ExprGrows e = Grows (value_of_expr values e) (value_of_expr others e)

  abbrev PartGrows : Part → Type 0
  PartGrows part = Unit {0}

  abbrev RefGrows : Ref → Type 0
  RefGrows r = Grows (value_of_ref values r) (value_of_ref others r)

  abbrev SomeExpr : Type 0
  SomeExpr = (e : Expr) × ExprGrows e

  abbrev SomePart : Type 0
  SomePart = (p : Part) × PartGrows p

  abbrev SomeRef : Type 0
  SomeRef = (r : Ref) × RefGrows r

  abbrev value_layer : (table : List ℕ → Option Value) → Expr-F Expr Part Ref → Option Value
  value_layer table z = expr_step (map-Expr Expr Part Ref (Option Value) (Unit {0}) (Option Value) (value_of_expr table) (λ p. tt) (value_of_ref table) z)

  abbrev ref_value_layer : (table : List ℕ → Option Value) → Ref-F Expr Part Ref → Option Value
  ref_value_layer table z = ref_step table (map-Ref Expr Part Ref (Option Value) (Unit {0}) (Option Value) (value_of_expr table) (λ p. tt) (value_of_ref table) z)

  of_layer : (z : Expr-F Expr Part Ref) → Grows (value_layer values z) (value_layer others z) → ExprGrows (roll-Expr z)
  of_layer z h = record {
    has = λ value e.
        fold-roll-Expr (Option Value) (Unit {0}) (Option Value) expr_step part_step (ref_step others) z
        ∙ h.has value (sym (fold-roll-Expr (Option Value) (Unit {0}) (Option Value) expr_step part_step (ref_step values) z) ∙ e);
  }

  of_ref_layer : (z : Ref-F Expr Part Ref) → Grows (ref_value_layer values z) (ref_value_layer others z) → RefGrows (roll-Ref z)
  of_ref_layer z h = record {
    has = λ value e.
        fold-roll-Ref (Option Value) (Unit {0}) (Option Value) expr_step part_step (ref_step others) z
        ∙ h.has value (sym (fold-roll-Ref (Option Value) (Unit {0}) (Option Value) expr_step part_step (ref_step values) z) ∙ e);
  }

  abbrev plain_expr : Expr-F SomeExpr SomePart SomeRef → Expr-F Expr Part Ref
  plain_expr = map-Expr SomeExpr SomePart SomeRef Expr Part Ref (λ e. e.0) (λ p. p.0) (λ r. r.0)

  abbrev plain_ref : Ref-F SomeExpr SomePart SomeRef → Ref-F Expr Part Ref
  plain_ref = map-Ref SomeExpr SomePart SomeRef Expr Part Ref (λ e. e.0) (λ p. p.0) (λ r. r.0)

  expr_layer : (y : Expr-F SomeExpr SomePart SomeRef) → ExprGrows (roll-Expr (plain_expr y))
  expr_layer (layer.Int number) = of_layer (layer.Int number) (same _)
  expr_layer (layer.Truth holds) = of_layer (layer.Truth holds) (same _)
  expr_layer (layer.Chars text) = of_layer (layer.Chars text) (same _)
  expr_layer (layer.Ref r) = of_layer (layer.Ref r.0) r.1
  expr_layer (layer.Unary op x) = of_layer (layer.Unary op x.0) (then_grows (λ v. given_value (unary_of op v)) (value_of_expr values x.0) (value_of_expr others x.0) x.1)
  expr_layer (layer.Binary op x y) = of_layer (layer.Binary op x.0 y.0) (both_grow (λ v w. given_value (binary_of op v w)) (value_of_expr values x.0) (value_of_expr others x.0) (value_of_expr values y.0) (value_of_expr others y.0) x.1 y.1)
  expr_layer (layer.Paren x) = of_layer (layer.Paren x.0) x.1

  ref_by : (y : Ref-F SomeExpr SomePart SomeRef) (args : Option (List SomeExpr)) (part : Option SomePart) → Grows (ref_value_layer values (plain_ref (record y { args = args; part = part }))) (ref_value_layer others (plain_ref (record y { args = args; part = part })))
  ref_by y None None = record { has = more.has y.name }
  ref_by y None (Some part) = none _
  ref_by y (Some args) part = none _

  ref_layer : (y : Ref-F SomeExpr SomePart SomeRef) → RefGrows (roll-Ref (plain_ref y))
  ref_layer y = of_ref_layer (plain_ref y) (ref_by y y.args y.part)

  -- an expression that has a value keeps it
  pub expr_grows : (e : Expr) → Grows (value_of_expr values e) (value_of_expr others e)
  expr_grows = ind-Expr ExprGrows PartGrows RefGrows
      (λ x y is. subst (λ z. ExprGrows (roll-Expr z)) is (expr_layer y))
      (λ x y is. tt)
      (λ x y is. subst (λ z. RefGrows (roll-Ref z)) is (ref_layer y))

  option_grows : (e : Option Expr) → Grows (value_of_option values e) (value_of_option others e)
  option_grows None = same None
  option_grows (Some e) = expr_grows e

  -- so does a constant
  pub constant_grows : (unit : Declarations) (lengths : List ℕ → Option ℕ) → Extends (constant_value unit lengths values) (constant_value unit lengths others)
  constant_grows unit lengths = record {
    has = λ name value e.
        (then_grows (taken (name_kind unit name) (lengths name)) (value_of_option values (unit.known name).value) (value_of_option others (unit.known name).value) (option_grows (unit.known name).value)).has value e;
  }
