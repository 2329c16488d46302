-- What of values no length has a bearing on: whether there is one, its kind, and the number of an INTEGER.
use Rattle.std.proofs.Common.{◌≡◌, ℕ, zero, suc, ℤ, Bool, true, false, List, [], length, Option, None, Some, option_and_then, refl, sym, ap, ◌∙◌, subst, if◌then◌else◌}
use Rattle.f77_ast.specs.declared.expr.Expr.{Expr}
use Rattle.f77_ast.specs.declared.expr.Expr.TheFolds.{fold-roll-Expr, fold-roll-Ref, ind-Expr, map-Expr, map-Ref}
use Rattle.f77_ast.specs.declared.expr.Expr.TheOpen.{Expr-F, Part-F, Ref-F}
use Rattle.f77_ast.specs.declared.expr.Expr.TheOpen as layer
use Rattle.f77_ast.specs.declared.expr.Expr.TheViews.{roll-Expr, roll-Ref}
use Rattle.f77_ast.specs.declared.expr.Kind.{Kind}
use Rattle.f77_ast.specs.declared.expr.Op.{Op}
use Rattle.f77_ast.specs.declared.expr.Op.TheVariants as op
use Rattle.f77_ast.specs.declared.expr.Part.{Part}
use Rattle.f77_ast.specs.declared.expr.Ref.{Ref}
use Rattle.f77_ast.specs.declared.program.Listed.{Listed}
use Rattle.f77_ast.specs.declared.specification.Length.{Length}
use Rattle.f77_ast.specs.declared.specification.Length.TheVariants as length_of
use Rattle.f77_leaves.specs.Declarations.{Declarations, declarations_of, name_kind, typing_of}
use Rattle.f77_structure.specs.Values.{Value, integer, truth, chars, kind_of, unary_of, binary_of}
use Rattle.f77_constants.specs.Constants.{given_value, expr_step, part_step, ref_step, value_of_expr, value_of_ref, value_of_option, is_kind, kept, taken, constant_value, length_by, length_by_value, length_if, lengths_of, name_length, no_values, values_of, values_with, values_within, written_length, constant_names}
use Rattle.f77_constants.specs.Laws.{LengthsAreTheirOwn}
use Rattle.f77_constants.proofs.Mixed.{number_with_truth, number_with_text, truth_with_number, truth_with_text, text_with_number, text_with_truth}

-- no value, a number, a truth, or a text
data Shape : Type 0 where
  nothing : Shape
  a_number : (number : ℤ) → Shape
  a_truth : Shape
  a_text : Shape

abbrev shape : Option Value → Shape
shape None = nothing
shape (Some (integer number)) = a_number number
shape (Some (truth holds)) = a_truth
shape (Some (chars text)) = a_text

record Alike (a b : Option Value) : Type 0 where
  same : shape a ≡ shape b

-- ---- operators

abbrev unary_shape : Op → Shape → Shape
unary_shape operator nothing = nothing
unary_shape operator (a_number number) = shape (given_value (unary_of operator (integer number)))
unary_shape operator a_truth = shape (given_value (unary_of operator (truth true)))
unary_shape operator a_text = shape (given_value (unary_of operator (chars [])))

abbrev binary_shape : Op → Shape → Shape → Shape
binary_shape operator nothing other = nothing
binary_shape operator (a_number x) nothing = nothing
binary_shape operator (a_number x) (a_number y) = shape (given_value (binary_of operator (integer x) (integer y)))
binary_shape operator (a_number x) a_truth = nothing
binary_shape operator (a_number x) a_text = nothing
binary_shape operator a_truth nothing = nothing
binary_shape operator a_truth (a_number y) = nothing
binary_shape operator a_truth a_truth = shape (given_value (binary_of operator (truth true) (truth true)))
binary_shape operator a_truth a_text = nothing
binary_shape operator a_text nothing = nothing
binary_shape operator a_text (a_number y) = nothing
binary_shape operator a_text a_truth = nothing
binary_shape operator a_text a_text = shape (given_value (binary_of operator (chars []) (chars [])))

of_truth : (operator : Op) (x : Bool) → shape (given_value (unary_of operator (truth x))) ≡ unary_shape operator a_truth
of_truth op.Plus x = refl
of_truth op.Neg x = refl
of_truth op.Not x = refl
of_truth op.Add x = refl
of_truth op.Sub x = refl
of_truth op.Mul x = refl
of_truth op.Div x = refl
of_truth op.Pow x = refl
of_truth op.Cat x = refl
of_truth (op.Rel relation) x = refl
of_truth op.And x = refl
of_truth op.Or x = refl
of_truth op.Eqv x = refl
of_truth op.Neqv x = refl

of_text : (operator : Op) (x : List ℕ) → shape (given_value (unary_of operator (chars x))) ≡ unary_shape operator a_text
of_text op.Plus x = refl
of_text op.Neg x = refl
of_text op.Not x = refl
of_text op.Add x = refl
of_text op.Sub x = refl
of_text op.Mul x = refl
of_text op.Div x = refl
of_text op.Pow x = refl
of_text op.Cat x = refl
of_text (op.Rel relation) x = refl
of_text op.And x = refl
of_text op.Or x = refl
of_text op.Eqv x = refl
of_text op.Neqv x = refl

of_truths : (operator : Op) (x y : Bool) → shape (given_value (binary_of operator (truth x) (truth y))) ≡ binary_shape operator a_truth a_truth
of_truths op.Plus x y = refl
of_truths op.Neg x y = refl
of_truths op.Not x y = refl
of_truths op.Add x y = refl
of_truths op.Sub x y = refl
of_truths op.Mul x y = refl
of_truths op.Div x y = refl
of_truths op.Pow x y = refl
of_truths op.Cat x y = refl
of_truths (op.Rel relation) x y = refl
of_truths op.And x y = refl
of_truths op.Or x y = refl
of_truths op.Eqv x y = refl
of_truths op.Neqv x y = refl

of_texts : (operator : Op) (x y : List ℕ) → shape (given_value (binary_of operator (chars x) (chars y))) ≡ binary_shape operator a_text a_text
of_texts op.Plus x y = refl
of_texts op.Neg x y = refl
of_texts op.Not x y = refl
of_texts op.Add x y = refl
of_texts op.Sub x y = refl
of_texts op.Mul x y = refl
of_texts op.Div x y = refl
of_texts op.Pow x y = refl
of_texts op.Cat x y = refl
of_texts (op.Rel relation) x y = refl
of_texts op.And x y = refl
of_texts op.Or x y = refl
of_texts op.Eqv x y = refl
of_texts op.Neqv x y = refl

unary_is : (operator : Op) (x : Option Value) → shape (option_and_then (λ v. given_value (unary_of operator v)) x) ≡ unary_shape operator (shape x)
unary_is operator None = refl
unary_is operator (Some (integer x)) = refl
unary_is operator (Some (truth x)) = of_truth operator x
unary_is operator (Some (chars x)) = of_text operator x

binary_is : (operator : Op) (x y : Option Value) → shape (option_and_then (λ v. option_and_then (λ w. given_value (binary_of operator v w)) y) x) ≡ binary_shape operator (shape x) (shape y)
binary_is operator None y = refl
binary_is operator (Some (integer x)) None = refl
binary_is operator (Some (integer x)) (Some (integer y)) = refl
binary_is operator (Some (integer x)) (Some (truth y)) = ap shape (number_with_truth operator x y)
binary_is operator (Some (integer x)) (Some (chars y)) = ap shape (number_with_text operator x y)
binary_is operator (Some (truth x)) None = refl
binary_is operator (Some (truth x)) (Some (integer y)) = ap shape (truth_with_number operator x y)
binary_is operator (Some (truth x)) (Some (truth y)) = of_truths operator x y
binary_is operator (Some (truth x)) (Some (chars y)) = ap shape (truth_with_text operator x y)
binary_is operator (Some (chars x)) None = refl
binary_is operator (Some (chars x)) (Some (integer y)) = ap shape (text_with_number operator x y)
binary_is operator (Some (chars x)) (Some (truth y)) = ap shape (text_with_truth operator x y)
binary_is operator (Some (chars x)) (Some (chars y)) = of_texts operator x y

-- ---- expressions

module _ (values others : List ℕ → Option Value) (alike : (name : List ℕ) → Alike (values name) (others name)) where
  abbrev ExprAlike : Expr → Type 0
  ExprAlike e = Alike (value_of_expr values e) (value_of_expr others e)

  abbrev PartAlike : Part → Type 0
  PartAlike part = Unit {0}

  abbrev RefAlike : Ref → Type 0
  RefAlike r = Alike (value_of_ref values r) (value_of_ref others r)

  abbrev SomeExpr : Type 0
  SomeExpr = (e : Expr) × ExprAlike e

  abbrev SomePart : Type 0
  SomePart = (p : Part) × PartAlike p

  abbrev SomeRef : Type 0
  SomeRef = (r : Ref) × RefAlike r

  abbrev value_layer : (table : List ℕ → Option Value) → Expr-F Expr Part Ref → Option Value
  value_layer table z = expr_step (map-Expr Expr Part Ref (Option Value) (Unit {0}) (Option Value) (value_of_expr table) (λ p. tt) (value_of_ref table) z)

  abbrev ref_value_layer : (table : List ℕ → Option Value) → Ref-F Expr Part Ref → Option Value
  ref_value_layer table z = ref_step table (map-Ref Expr Part Ref (Option Value) (Unit {0}) (Option Value) (value_of_expr table) (λ p. tt) (value_of_ref table) z)

  of_layer : (z : Expr-F Expr Part Ref) → shape (value_layer values z) ≡ shape (value_layer others z) → ExprAlike (roll-Expr z)
  of_layer z h = record {
    same =
        ap shape (fold-roll-Expr (Option Value) (Unit {0}) (Option Value) expr_step part_step (ref_step values) z)
        ∙ h
        ∙ ap shape (sym (fold-roll-Expr (Option Value) (Unit {0}) (Option Value) expr_step part_step (ref_step others) z));
  }

  of_ref_layer : (z : Ref-F Expr Part Ref) → shape (ref_value_layer values z) ≡ shape (ref_value_layer others z) → RefAlike (roll-Ref z)
  of_ref_layer z h = record {
    same =
        ap shape (fold-roll-Ref (Option Value) (Unit {0}) (Option Value) expr_step part_step (ref_step values) z)
        ∙ h
        ∙ ap shape (sym (fold-roll-Ref (Option Value) (Unit {0}) (Option Value) expr_step part_step (ref_step others) z));
  }

  abbrev plain_expr : Expr-F SomeExpr SomePart SomeRef → Expr-F Expr Part Ref
  plain_expr = map-Expr SomeExpr SomePart SomeRef Expr Part Ref (λ e. e.0) (λ p. p.0) (λ r. r.0)

  abbrev plain_ref : Ref-F SomeExpr SomePart SomeRef → Ref-F Expr Part Ref
  plain_ref = map-Ref SomeExpr SomePart SomeRef Expr Part Ref (λ e. e.0) (λ p. p.0) (λ r. r.0)

  expr_layer : (y : Expr-F SomeExpr SomePart SomeRef) → ExprAlike (roll-Expr (plain_expr y))
  expr_layer (layer.Int number) = of_layer (layer.Int number) refl
  expr_layer (layer.Truth holds) = of_layer (layer.Truth holds) refl
  expr_layer (layer.Chars text) = of_layer (layer.Chars text) refl
  expr_layer (layer.Ref r) = of_layer (layer.Ref r.0) r.1.same
  expr_layer (layer.Unary op x) = of_layer (layer.Unary op x.0) (unary_is op (value_of_expr values x.0) ∙ ap (unary_shape op) x.1.same ∙ sym (unary_is op (value_of_expr others x.0)))
  expr_layer (layer.Binary op x y) =
      of_layer (layer.Binary op x.0 y.0)
      (binary_is op (value_of_expr values x.0) (value_of_expr values y.0)
      ∙ ap (λ s. binary_shape op s (shape (value_of_expr values y.0))) x.1.same
      ∙ ap (binary_shape op (shape (value_of_expr others x.0))) y.1.same
      ∙ sym (binary_is op (value_of_expr others x.0) (value_of_expr others y.0)))
  expr_layer (layer.Paren x) = of_layer (layer.Paren x.0) x.1.same

  ref_by : (y : Ref-F SomeExpr SomePart SomeRef) (args : Option (List SomeExpr)) (part : Option SomePart) → shape (ref_value_layer values (plain_ref (record y { args = args; part = part }))) ≡ shape (ref_value_layer others (plain_ref (record y { args = args; part = part })))
  ref_by y None None = (alike y.name).same
  ref_by y None (Some part) = refl
  ref_by y (Some args) part = refl

  ref_layer : (y : Ref-F SomeExpr SomePart SomeRef) → RefAlike (roll-Ref (plain_ref y))
  ref_layer y = of_ref_layer (plain_ref y) (ref_by y y.args y.part)

  expr_alike : (e : Expr) → Alike (value_of_expr values e) (value_of_expr others e)
  expr_alike = ind-Expr ExprAlike PartAlike RefAlike
      (λ x y is. subst (λ z. ExprAlike (roll-Expr z)) is (expr_layer y))
      (λ x y is. tt)
      (λ x y is. subst (λ z. RefAlike (roll-Ref z)) is (ref_layer y))

  option_alike : (e : Option Expr) → shape (value_of_option values e) ≡ shape (value_of_option others e)
  option_alike None = refl
  option_alike (Some e) = (expr_alike e).same

  -- ---- lengths

  abbrev length_by_shape : Shape → Option ℕ
  length_by_shape nothing = None
  length_by_shape (a_number number) = length_if number
  length_by_shape a_truth = None
  length_by_shape a_text = None

  by_shape : (o : Option Value) → length_by_value o ≡ length_by_shape (shape o)
  by_shape None = refl
  by_shape (Some (integer number)) = refl
  by_shape (Some (truth holds)) = refl
  by_shape (Some (chars text)) = refl

  length_alike : (len : Option Length) → length_by values len ≡ length_by others len
  length_alike None = refl
  length_alike (Some (length_of.Digits digits)) = refl
  length_alike (Some (length_of.Paren e)) = by_shape (value_of_expr values e) ∙ ap length_by_shape (expr_alike e).same ∙ sym (by_shape (value_of_expr others e))
  length_alike (Some length_of.Asterisk) = refl

  name_length_alike : (unit : Declarations) (name : List ℕ) → name_length unit values name ≡ name_length unit others name
  name_length_alike unit name = length_alike (written_length (typing_of unit name))

-- ---- constants

abbrev taken_shape : Option Kind → Shape → Shape
taken_shape kind nothing = nothing
taken_shape kind (a_number number) = shape (taken kind None (integer number))
taken_shape kind a_truth = shape (taken kind None (truth true))
taken_shape kind a_text = shape (taken kind None (chars []))

taken_by : (b : Bool) (len : Option ℕ) (value : Value) → shape (if b then Some (kept len value) else None) ≡ shape (if b then Some value else None)
taken_by true len (integer number) = refl
taken_by true len (truth holds) = refl
taken_by true len (chars text) = refl
taken_by false len value = refl

same_shape : (b : Bool) (x y : Value) → shape (Some x) ≡ shape (Some y) → shape (if b then Some x else None) ≡ shape (if b then Some y else None)
same_shape true x y e = e
same_shape false x y e = refl

taken_is : (kind : Option Kind) (len : Option ℕ) (o : Option Value) → shape (option_and_then (taken kind len) o) ≡ taken_shape kind (shape o)
taken_is kind len None = refl
taken_is kind len (Some (integer number)) = refl
taken_is kind len (Some (truth holds)) = same_shape (is_kind kind (kind_of (truth holds))) (truth holds) (truth true) refl
taken_is kind len (Some (chars text)) = same_shape (is_kind kind (kind_of (chars text))) (kept len (chars text)) (kept None (chars [])) refl

module _ (unit : Declarations) (lengths others : List ℕ → Option ℕ) where
  within_alike : (depth : ℕ) (name : List ℕ) → Alike (values_within unit lengths depth name) (values_within unit others depth name)
  within_alike zero name = record { same = refl }
  within_alike (suc depth) name = record {
    same =
        taken_is (name_kind unit name) (lengths name) (value_of_option (values_within unit lengths depth) (unit.known name).value)
        ∙ ap (taken_shape (name_kind unit name)) (option_alike (values_within unit lengths depth) (values_within unit others depth) (within_alike depth) (unit.known name).value)
        ∙ sym (taken_is (name_kind unit name) (others name) (value_of_option (values_within unit others depth) (unit.known name).value));
  }

values_alike : (listing : List Listed) (lengths others : List ℕ → Option ℕ) (name : List ℕ) → Alike (values_with listing lengths name) (values_with listing others name)
unfolding values_with
values_alike listing lengths others name = within_alike (declarations_of listing) lengths others (suc (length (constant_names listing))) name

pub lengths_are_own : LengthsAreTheirOwn
lengths_are_own listing name =
    name_length_alike (values_with listing (name_length (declarations_of listing) no_values)) (values_of listing) (values_alike listing (name_length (declarations_of listing) no_values) (lengths_of listing)) (declarations_of listing) name
