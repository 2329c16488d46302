-- What expressions and references with a meaning ask for lies in storage.
use Rattle.std.proofs.Common.{◌≡◌, ℕ, ◌&&◌, ◌||◌, ℤ, Bool, true, false, List, [], ◌∷◌, length, Option, None, Some, IsTrue, refl, sym, subst}
use Rattle.std.specs.Option.{is_some}
use Rattle.f77_ast.specs.Entity.{entity_in}
use Rattle.f77_ast.specs.declared.expr.Expr.{Expr}
use Rattle.f77_ast.specs.declared.expr.Expr.TheFolds.{fold-roll-Expr, fold-roll-Ref, ind-Expr, ind-Ref, map-Expr, map-Ref}
use Rattle.f77_ast.specs.declared.expr.Expr.TheOpen.{Expr-F, Part-F, Ref-F}
use Rattle.f77_ast.specs.declared.expr.Expr.TheOpen as layer
use Rattle.f77_ast.specs.declared.expr.Expr.TheViews.{roll-Expr, roll-Ref}
use Rattle.f77_ast.specs.declared.expr.Part.{Part}
use Rattle.f77_ast.specs.declared.expr.Ref.{Ref}
use Rattle.f77_ast.specs.declared.program.Entity.{Entity}
use Rattle.f77_ast.specs.declared.program.Place.{Place}
use Rattle.f77_ast.specs.declared.program.Place.TheVariants.{Stored, Dummy, Constant}
use Rattle.f77_structure.specs.HasMeaning.{expr_has_meaning, is_integer_constant, is_integer_variable, is_integer_vector, meaning_part, meaning_ref, meaning_step, ref_has_meaning}
use Rattle.f77_structure.specs.Literals.{constant_number, literal_value}
use Rattle.f77_structure.specs.Storage.{IsStorage, LiesIn, address_of_element, is_scalar}
use Rattle.f77_structure.specs.Values.{binary_of, is_arithmetic, is_integer_kind, is_sign, unary_of}
use Rattle.f77_meaning.specs.Demand.{gives, and_then, Bounds, Location, Setting, Term, bounds_of, demand_of, expr_step, located, located_by, location_of, number_demand, number_of, operated, part_step, place_by, ref_step, term_of, value_at}
use Rattle.f77_meaning.proofs.Begins.{entity_lies}
use Rattle.f77_turns.proofs.Cells.{Any, Asks, InStorage, both, constant_asks, element_asks, operator_asks, then_asks, value_asks, variable_asks}

module _ (total : ℕ) (s : Setting) where
  -- the one subscript of a list, where it has a meaning, asks for what lies in storage
  abbrev SubscriptAsks : Option (List Term) → Type 0
  SubscriptAsks None = Unit {0}
  SubscriptAsks (Some []) = Unit {0}
  SubscriptAsks (Some (subscript ∷ [])) = (answers : List ℤ) → Asks total Any (subscript.value answers)
  SubscriptAsks (Some (subscript ∷ second ∷ others)) = Unit {0}

  -- a variable, without subscripts
  pub scalar_asks : (found : Option Entity) → ((entity : Entity) → found ≡ Some entity → LiesIn total s.program.layout.regions entity) → is_integer_variable found ≡ true → (answers : List ℤ) → Asks total (InStorage total) (located s found None answers)
  scalar_asks None lies m answers = absurd (cc)
  scalar_asks (Some entity) lies m answers = by entity.place
    where
      by : (place : Place) → Asks total (InStorage total) (located_by s entity place None answers)
      by (Stored address) = variable_asks total s entity (lies entity refl) m answers
      by (Dummy k) = tt
      by (Constant value) = constant_asks total s entity (literal_value value) None answers

  -- an INTEGER constant, without subscripts
  named_constant_asks : (found : Option Entity) → is_integer_constant found ≡ true → (answers : List ℤ) → Asks total (InStorage total) (located s found None answers)
  named_constant_asks None m answers = absurd (cc)
  named_constant_asks (Some entity) m answers = by entity.place (both (is_some (constant_number entity.place)) (is_scalar entity.bounds) (both (is_integer_kind entity.kind) (is_some (constant_number entity.place) && is_scalar entity.bounds) m).1).0
    where
      by : (place : Place) → is_some (constant_number place) ≡ true → Asks total (InStorage total) (located_by s entity place None answers)
      by (Stored address) there = absurd (cc)
      by (Dummy k) there = tt
      by (Constant value) there = constant_asks total s entity (literal_value value) None answers

  -- a name without subscripts: an INTEGER variable or constant
  alone_asks : (found : Option Entity) → ((entity : Entity) → found ≡ Some entity → LiesIn total s.program.layout.regions entity) → (is_integer_variable found || is_integer_constant found) ≡ true → (answers : List ℤ) → Asks total (InStorage total) (located s found None answers)
  alone_asks found lies m answers = by (is_integer_variable found) refl m
    where
      by : (b : Bool) → is_integer_variable found ≡ b → (b || is_integer_constant found) ≡ true → Asks total (InStorage total) (located s found None answers)
      by true variable either = scalar_asks found lies variable answers
      by false variable either = named_constant_asks found either answers

  -- an element
  subscripted_asks : (found : Option Entity) → ((entity : Entity) → found ≡ Some entity → LiesIn total s.program.layout.regions entity) → is_integer_vector found ≡ true → (subscript : Term) → ((answers : List ℤ) → Asks total Any (subscript.value answers)) → (answers : List ℤ) → Asks total (InStorage total) (located s found (Some (subscript ∷ [])) answers)
  subscripted_asks None lies m subscript h answers = absurd (cc)
  subscripted_asks (Some entity) lies m subscript h answers = by entity.place
    where
      by : (place : Place) → Asks total (InStorage total) (located_by s entity place (Some (subscript ∷ [])) answers)
      by (Stored address) =
          then_asks total Any (InStorage total) (subscript.value answers) (λ n rest. place_by s entity (address_of_element entity (number_of n)) rest) (h answers)
          (λ n rest good. element_asks total s entity (lies entity refl) m (number_of n) rest)
      by (Dummy k) = tt
      by (Constant value) = constant_asks total s entity (literal_value value) (Some (subscript ∷ [])) answers

never : false ≡ true → ⊥
never e = absurd (cc)

module _ (s : Setting) (storage : IsStorage s.program.layout) where
  abbrev total : ℕ
  total = length s.program.layout.first

  -- an expression, and a reference, with the proof that it asks for what lies in storage, where it has a meaning
  abbrev ExprAsks : Expr → Type 0
  ExprAsks e = IsTrue (expr_has_meaning s.program.units s.program.layout s.unit e) → (answers : List ℤ) → Asks total Any (demand_of s e answers)

  abbrev PartAsks : Part → Type 0
  PartAsks part = Unit {0}

  abbrev RefAsks : Ref → Type 0
  RefAsks r = IsTrue (ref_has_meaning s.program.units s.program.layout s.unit r) → (answers : List ℤ) → Asks total (InStorage total) (location_of s r answers)

  abbrev SomeExpr : Type 0
  SomeExpr = (e : Expr) × ExprAsks e

  abbrev SomePart : Type 0
  SomePart = (p : Part) × PartAsks p

  abbrev SomeRef : Type 0
  SomeRef = (r : Ref) × RefAsks r

  -- the parts of a layer, with their evaluations and with their meanings
  abbrev evaluated : Expr-F Expr Part Ref → Expr-F Term Bounds Location
  evaluated = map-Expr Expr Part Ref Term Bounds Location (term_of s) (bounds_of s) (location_of s)

  abbrev tested : Expr-F Expr Part Ref → Expr-F Bool (Unit {0}) Bool
  tested = map-Expr Expr Part Ref Bool (Unit {0}) Bool (expr_has_meaning s.program.units s.program.layout s.unit) (λ p. tt) (ref_has_meaning s.program.units s.program.layout s.unit)

  abbrev evaluated_ref : Ref-F Expr Part Ref → Ref-F Term Bounds Location
  evaluated_ref = map-Ref Expr Part Ref Term Bounds Location (term_of s) (bounds_of s) (location_of s)

  abbrev tested_ref : Ref-F Expr Part Ref → Ref-F Bool (Unit {0}) Bool
  tested_ref = map-Ref Expr Part Ref Bool (Unit {0}) Bool (expr_has_meaning s.program.units s.program.layout s.unit) (λ p. tt) (ref_has_meaning s.program.units s.program.layout s.unit)

  of_layer : (z : Expr-F Expr Part Ref) → (IsTrue (meaning_step (tested z)) → (answers : List ℤ) → Asks total Any ((expr_step s (evaluated z)).value answers)) → ExprAsks (roll-Expr z)
  of_layer z h m answers =
      subst (λ t. Asks total Any (t.value answers)) (sym (fold-roll-Expr Term Bounds Location (expr_step s) (part_step s) (ref_step s) z))
      (h (subst IsTrue (fold-roll-Expr Bool (Unit {0}) Bool meaning_step meaning_part (meaning_ref s.program.units s.program.layout s.unit) z) m) answers)

  of_ref_layer : (z : Ref-F Expr Part Ref) → (IsTrue (meaning_ref s.program.units s.program.layout s.unit (tested_ref z)) → (answers : List ℤ) → Asks total (InStorage total) (ref_step s (evaluated_ref z) answers)) → RefAsks (roll-Ref z)
  of_ref_layer z h m answers =
      subst (λ f. Asks total (InStorage total) (f answers)) (sym (fold-roll-Ref Term Bounds Location (expr_step s) (part_step s) (ref_step s) z))
      (h (subst IsTrue (fold-roll-Ref Bool (Unit {0}) Bool meaning_step meaning_part (meaning_ref s.program.units s.program.layout s.unit) z) m) answers)

  abbrev plain_expr : Expr-F SomeExpr SomePart SomeRef → Expr-F Expr Part Ref
  plain_expr = map-Expr SomeExpr SomePart SomeRef Expr Part Ref (λ e. e.0) (λ p. p.0) (λ r. r.0)

  abbrev plain_ref : Ref-F SomeExpr SomePart SomeRef → Ref-F Expr Part Ref
  plain_ref = map-Ref SomeExpr SomePart SomeRef Expr Part Ref (λ e. e.0) (λ p. p.0) (λ r. r.0)

  expr_layer : (y : Expr-F SomeExpr SomePart SomeRef) → ExprAsks (roll-Expr (plain_expr y))
  expr_layer (layer.Int value) = of_layer (layer.Int value) (λ m answers. tt)
  expr_layer (layer.Truth value) = of_layer (layer.Truth value) (λ m answers. tt)
  expr_layer (layer.Chars text) = of_layer (layer.Chars text) (λ m answers. tt)
  expr_layer (layer.Ref r) =
      of_layer (layer.Ref r.0) (λ m answers. then_asks total (InStorage total) Any (location_of s r.0 answers) (value_at s) (r.1 m answers) (λ place rest good. value_asks total s place good rest))
  expr_layer (layer.Unary op x) =
      of_layer (layer.Unary op x.0)
      (λ m answers. then_asks total Any Any (demand_of s x.0 answers) (λ v rest. operated (unary_of op v) rest) (x.1 (both (is_sign op) (expr_has_meaning s.program.units s.program.layout s.unit x.0) m).1 answers) (λ v rest good. operator_asks total (unary_of op v) rest))
  expr_layer (layer.Binary op x y) =
      of_layer (layer.Binary op x.0 y.0)
      (λ m answers.
      let operands : (expr_has_meaning s.program.units s.program.layout s.unit x.0 ≡ true) × (expr_has_meaning s.program.units s.program.layout s.unit y.0 ≡ true) =
      both (expr_has_meaning s.program.units s.program.layout s.unit x.0) (expr_has_meaning s.program.units s.program.layout s.unit y.0) (both (is_arithmetic op) (expr_has_meaning s.program.units s.program.layout s.unit x.0 && expr_has_meaning s.program.units s.program.layout s.unit y.0) m).1 in
      then_asks total Any Any (demand_of s x.0 answers) (λ v rest. and_then (demand_of s y.0 rest) (λ w more. operated (binary_of op v w) more)) (x.1 operands.0 answers)
      (λ v rest good. then_asks total Any Any (demand_of s y.0 rest) (λ w more. operated (binary_of op v w) more) (y.1 operands.1 rest) (λ w more fine. operator_asks total (binary_of op v w) more)))
  expr_layer (layer.Paren x) = of_layer (layer.Paren x.0) (λ m answers. x.1 m answers)

  -- the entity of a name lies in storage
  pub found_lies : (name : List ℕ) (entity : Entity) → entity_in s.program.layout.entities s.unit name ≡ Some entity → LiesIn total s.program.layout.regions entity
  found_lies name entity e = entity_lies total s.program.layout.regions s.program.layout.entities s.unit name entity storage.lie e

  ref_by : (y : Ref-F SomeExpr SomePart SomeRef) (args : Option (List SomeExpr)) (part : Option SomePart) → IsTrue (meaning_ref s.program.units s.program.layout s.unit (tested_ref (plain_ref (record y { args = args; part = part })))) → (answers : List ℤ) → Asks total (InStorage total) (ref_step s (evaluated_ref (plain_ref (record y { args = args; part = part }))) answers)
  ref_by y None None m answers = alone_asks total s (entity_in s.program.layout.entities s.unit y.name) (found_lies y.name) m answers
  ref_by y (Some []) None m answers = absurd (never m)
  ref_by y (Some (x ∷ [])) None m answers =
      let n : (is_integer_vector (entity_in s.program.layout.entities s.unit y.name) ≡ true) × (expr_has_meaning s.program.units s.program.layout s.unit x.0 ≡ true) =
      both (is_integer_vector (entity_in s.program.layout.entities s.unit y.name)) (expr_has_meaning s.program.units s.program.layout s.unit x.0) m in
      subscripted_asks total s (entity_in s.program.layout.entities s.unit y.name) (found_lies y.name) n.0 (term_of s x.0) (x.1 n.1) answers
  ref_by y (Some (x ∷ z ∷ others)) None m answers = absurd (never m)
  ref_by y args (Some part) m answers = tt

  ref_layer : (y : Ref-F SomeExpr SomePart SomeRef) → RefAsks (roll-Ref (plain_ref y))
  ref_layer y = of_ref_layer (plain_ref y) (ref_by y y.args y.part)

  -- an expression with a meaning asks for what lies in storage
  pub demand_asks : (e : Expr) → ExprAsks e
  demand_asks = ind-Expr ExprAsks PartAsks RefAsks
      (λ x y is. subst (λ z. ExprAsks (roll-Expr z)) is (expr_layer y))
      (λ x y is. tt)
      (λ x y is. subst (λ z. RefAsks (roll-Ref z)) is (ref_layer y))

  -- a reference with a meaning does, and is a place in storage or a constant
  pub location_asks : (r : Ref) → RefAsks r
  location_asks = ind-Ref ExprAsks PartAsks RefAsks
      (λ x y is. subst (λ z. ExprAsks (roll-Expr z)) is (expr_layer y))
      (λ x y is. tt)
      (λ x y is. subst (λ z. RefAsks (roll-Ref z)) is (ref_layer y))

  -- a number with a meaning does
  pub number_asks : (e : Expr) → IsTrue (expr_has_meaning s.program.units s.program.layout s.unit e) → (answers : List ℤ) → Asks total Any (number_demand s e answers)
  number_asks e m answers = then_asks total Any Any (demand_of s e answers) (λ value rest. gives (number_of value) rest) (demand_asks e m answers) (λ value rest good. tt)
