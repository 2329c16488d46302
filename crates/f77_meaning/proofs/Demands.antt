-- Expressions and references ask in turn.
use Rattle.std.proofs.Common.{ℕ, zero, suc, ◌+◌, ℤ, pos, Bool, true, false, cond, List, [], ◌∷◌, Option, None, Some, refl, sym, subst}
use Rattle.f77_ast.specs.Entity.{entity_in}
use Rattle.f77_ast.specs.declared.expr.Expr.{Expr}
use Rattle.f77_ast.specs.declared.expr.Expr.TheFolds.{fold-roll-Expr, fold-roll-Ref, ind-Expr, ind-Ref, map-Expr, map-Ref}
use Rattle.f77_ast.specs.declared.expr.Expr.TheOpen.{Expr-F, Part-F, Ref-F}
use Rattle.f77_ast.specs.declared.expr.Expr.TheOpen as layer
use Rattle.f77_ast.specs.declared.expr.Expr.TheViews.{roll-Expr, roll-Ref}
use Rattle.f77_ast.specs.declared.expr.Part.{Part}
use Rattle.f77_ast.specs.declared.expr.Ref.{Ref}
use Rattle.f77_ast.specs.declared.fault.Fault.TheVariants.{OutsideRegion, Subscript, Substring, ValueDummyAssigned}
use Rattle.f77_ast.specs.declared.program.Entity.{Entity}
use Rattle.f77_ast.specs.declared.program.Place.{Place}
use Rattle.f77_ast.specs.declared.program.Place.TheVariants.{Stored, Dummy, Constant}
use Rattle.f77_structure.specs.Literals.{literal_value}
use Rattle.f77_structure.specs.Storage.{address_of_variable, address_of_element}
use Rattle.f77_structure.specs.Values.{Value, integer, truth, chars, Operated, yields, breaks, means_nothing, unary_of, binary_of, value_of_units}
use Rattle.f77_ast.specs.declared.expr.Kind.{Kind}
use Rattle.f77_meaning.specs.Demand.{fails, gives, and_then, Bounds, Located, Location, Setting, Term, operated, address_written, bounds_of, cell_in, cell_value, cells_from, constant, demand_of, expr_step, is_in_region, is_outside, located, located_by, location_of, number_demand, number_of, part_step, place_by, place_of, ref_step, stored, term_of, value_at, value_of_bound, width, written_at}
use Rattle.f77_meaning.specs.Process.{Binding, placed, valued, unvalued}
use Rattle.f77_meaning.proofs.Evaluations.{AsksInTurn, settles, looks, then_asks}
use Rattle.f77_meaning.proofs.Evaluations as turn

-- a value that is there
pub given : {A : Type 0} (value : A) → AsksInTurn A (λ answers. gives value answers)
given value = settles (λ answers. gives value answers) value (λ answers. refl)

cell_asks : (address : ℕ) → AsksInTurn ℤ (cell_value address)
cell_asks address = looks (cell_value address) address refl (λ x. given x)

-- where it is written
pub address_asks : (bound : Binding) → AsksInTurn ℕ (address_written bound)
address_asks (placed address region length) = given address
address_asks (valued value) = turn.breaks (address_written (valued value)) ValueDummyAssigned (λ answers. refl)
address_asks (unvalued length) = turn.breaks (address_written (unvalued length)) ValueDummyAssigned (λ answers. refl)

module _ (s : Setting) where
  in_region_asks : (address region : ℕ) → AsksInTurn ℤ (cell_in s address region)
  in_region_asks address region = by (is_in_region s address region)
    where
      by : (b : Bool) → AsksInTurn ℤ (λ answers. cond b (cell_value address answers) (fails OutsideRegion))
      by true = cell_asks address
      by false = turn.breaks (λ answers. fails OutsideRegion) OutsideRegion (λ answers. refl)

  cells_ask : (address region count : ℕ) → AsksInTurn (List ℤ) (cells_from s address region count)
  cells_ask address region zero = given []
  cells_ask address region (suc count) =
      then_asks (cell_in s address region) (λ first rest. and_then (cells_from s (address + 1) region count rest) (λ others more. gives (first ∷ others) more)) (in_region_asks address region)
      (λ first. then_asks (cells_from s (address + 1) region count) (λ others more. gives (first ∷ others) more) (cells_ask (address + 1) region count) (λ others. given (first ∷ others)))

  bound_asks : (kind : Kind) (bound : Binding) → AsksInTurn Value (value_of_bound s kind bound)
  bound_asks kind (placed address region length) = then_asks (cells_from s address region (width kind length)) (λ cells rest. gives (value_of_units kind cells) rest) (cells_ask address region (width kind length)) (λ cells. given (value_of_units kind cells))
  bound_asks kind (valued value) = given value
  bound_asks kind (unvalued length) = given (integer (pos 0))

  pub value_asks : (place : Located) → AsksInTurn Value (value_at s place)
  value_asks place = bound_asks place.kind place.bound

  pub written_asks : (bound : Binding) → AsksInTurn ℕ (written_at s bound)
  written_asks bound = by (is_outside s bound)
    where
      by : (b : Bool) → AsksInTurn ℕ (λ rest. cond b (fails OutsideRegion) (address_written bound rest))
      by true = turn.breaks (λ rest. fails OutsideRegion) OutsideRegion (λ answers. refl)
      by false = address_asks bound

operator_asks : (o : Operated) → AsksInTurn Value (operated o)
operator_asks (yields value) = given value
operator_asks (breaks fault) = turn.breaks (operated (breaks fault)) fault (λ answers. refl)
operator_asks means_nothing = given (integer (pos 0))

place_asks : (s : Setting) (entity : Entity) (address : Option ℕ) → AsksInTurn Located (place_by s entity address)
place_asks s entity (Some address) = given (place_of s entity address)
place_asks s entity None = turn.breaks (place_by s entity None) Subscript (λ answers. refl)

-- the one subscript of a list, where there is one, asks in turn
abbrev pub SubscriptAsks : Option (List Term) → Type 0
SubscriptAsks None = Unit {0}
SubscriptAsks (Some []) = Unit {0}
SubscriptAsks (Some (subscript ∷ [])) = AsksInTurn Value subscript.value
SubscriptAsks (Some (subscript ∷ second ∷ others)) = Unit {0}

stored_asks : (s : Setting) (entity : Entity) (args : Option (List Term)) → SubscriptAsks args → AsksInTurn Located (stored s entity args)
stored_asks s entity None all = place_asks s entity (address_of_variable entity)
stored_asks s entity (Some []) all = turn.breaks (stored s entity (Some [])) Subscript (λ answers. refl)
stored_asks s entity (Some (subscript ∷ [])) all =
    then_asks subscript.value (λ value rest. place_by s entity (address_of_element entity (number_of value)) rest) all (λ value. place_asks s entity (address_of_element entity (number_of value)))
stored_asks s entity (Some (subscript ∷ second ∷ others)) all = turn.breaks (stored s entity (Some (subscript ∷ second ∷ others))) Subscript (λ answers. refl)

constant_asks : (s : Setting) (entity : Entity) (value : Option Value) (args : Option (List Term)) → AsksInTurn Located (constant s entity value args)
constant_asks s entity None args = turn.breaks (constant s entity None args) Subscript (λ answers. refl)
constant_asks s entity (Some value) None = given (record { kind = entity.kind; bound = valued value })
constant_asks s entity (Some value) (Some subscripts) = turn.breaks (constant s entity (Some value) (Some subscripts)) Subscript (λ answers. refl)

pub located_asks : (s : Setting) (found : Option Entity) (args : Option (List Term)) → SubscriptAsks args → AsksInTurn Located (located s found args)
located_asks s None args all = turn.breaks (located s None args) Subscript (λ answers. refl)
located_asks s (Some entity) args all = by entity.place
  where
    by : (place : Place) → AsksInTurn Located (located_by s entity place args)
    by (Stored address) = stored_asks s entity args all
    by (Dummy k) = turn.breaks (located_by s entity (Dummy k) args) Subscript (λ answers. refl)
    by (Constant value) = constant_asks s entity (literal_value value) args

module _ (s : Setting) where
  -- an expression, and a reference, with the proof that it asks in turn
  abbrev ExprAsks : Expr → Type 0
  ExprAsks e = AsksInTurn Value (demand_of s e)

  abbrev PartAsks : Part → Type 0
  PartAsks part = Unit {0}

  abbrev RefAsks : Ref → Type 0
  RefAsks r = AsksInTurn Located (location_of s r)

  abbrev SomeExpr : Type 0
  SomeExpr = (e : Expr) × ExprAsks e

  abbrev SomePart : Type 0
  SomePart = (p : Part) × PartAsks p

  abbrev SomeRef : Type 0
  SomeRef = (r : Ref) × RefAsks r

  -- what an evaluation of a layer is, is what it is of the expression
  of_layer : (z : Expr-F Expr Part Ref) → AsksInTurn Value (expr_step s (map-Expr Expr Part Ref Term Bounds Location (term_of s) (bounds_of s) (location_of s) z)).value → ExprAsks (roll-Expr z)
  of_layer z h = subst (λ t. AsksInTurn Value t.value) (sym (fold-roll-Expr Term Bounds Location (expr_step s) (part_step s) (ref_step s) z)) h

  of_ref_layer : (z : Ref-F Expr Part Ref) → AsksInTurn Located (ref_step s (map-Ref Expr Part Ref Term Bounds Location (term_of s) (bounds_of s) (location_of s) z)) → RefAsks (roll-Ref z)
  of_ref_layer z h = subst (AsksInTurn Located) (sym (fold-roll-Ref Term Bounds Location (expr_step s) (part_step s) (ref_step s) z)) h

  abbrev plain_expr : Expr-F SomeExpr SomePart SomeRef → Expr-F Expr Part Ref
  plain_expr = map-Expr SomeExpr SomePart SomeRef Expr Part Ref (λ e. e.0) (λ p. p.0) (λ r. r.0)

  abbrev plain_ref : Ref-F SomeExpr SomePart SomeRef → Ref-F Expr Part Ref
  plain_ref = map-Ref SomeExpr SomePart SomeRef Expr Part Ref (λ e. e.0) (λ p. p.0) (λ r. r.0)

  expr_layer : (y : Expr-F SomeExpr SomePart SomeRef) → ExprAsks (roll-Expr (plain_expr y))
  expr_layer (layer.Int value) = of_layer (layer.Int value) (given (integer value))
  expr_layer (layer.Truth value) = of_layer (layer.Truth value) (given (truth value))
  expr_layer (layer.Chars text) = of_layer (layer.Chars text) (given (chars text))
  expr_layer (layer.Ref r) = of_layer (layer.Ref r.0) (then_asks (location_of s r.0) (value_at s) r.1 (value_asks s))
  expr_layer (layer.Unary op x) = of_layer (layer.Unary op x.0) (then_asks (demand_of s x.0) (λ v rest. operated (unary_of op v) rest) x.1 (λ v. operator_asks (unary_of op v)))
  expr_layer (layer.Binary op x y) =
      of_layer (layer.Binary op x.0 y.0)
      (then_asks (demand_of s x.0) (λ v rest. and_then (demand_of s y.0 rest) (λ w more. operated (binary_of op v w) more)) x.1
      (λ v. then_asks (demand_of s y.0) (λ w more. operated (binary_of op v w) more) y.1 (λ w. operator_asks (binary_of op v w))))
  expr_layer (layer.Paren x) = of_layer (layer.Paren x.0) x.1

  ref_by : (y : Ref-F SomeExpr SomePart SomeRef) (args : Option (List SomeExpr)) (part : Option SomePart) → AsksInTurn Located (ref_step s (map-Ref Expr Part Ref Term Bounds Location (term_of s) (bounds_of s) (location_of s) (plain_ref (record y { args = args; part = part }))))
  ref_by y None None = located_asks s (entity_in s.program.layout.entities s.unit y.name) None tt
  ref_by y (Some []) None = located_asks s (entity_in s.program.layout.entities s.unit y.name) (Some []) tt
  ref_by y (Some (x ∷ [])) None = located_asks s (entity_in s.program.layout.entities s.unit y.name) (Some (term_of s x.0 ∷ [])) x.1
  ref_by y (Some (x ∷ z ∷ others)) None = located_asks s (entity_in s.program.layout.entities s.unit y.name) (Some (term_of s x.0 ∷ term_of s z.0 ∷ _)) tt
  ref_by y args (Some part) = turn.breaks (λ answers. fails Substring) Substring (λ answers. refl)

  ref_layer : (y : Ref-F SomeExpr SomePart SomeRef) → RefAsks (roll-Ref (plain_ref y))
  ref_layer y = of_ref_layer (plain_ref y) (ref_by y y.args y.part)

  -- expressions ask in turn
  pub demand_asks : (e : Expr) → AsksInTurn Value (demand_of s e)
  demand_asks = ind-Expr ExprAsks PartAsks RefAsks
      (λ x y is. subst (λ z. ExprAsks (roll-Expr z)) is (expr_layer y))
      (λ x y is. tt)
      (λ x y is. subst (λ z. RefAsks (roll-Ref z)) is (ref_layer y))

  -- references do
  pub location_asks : (r : Ref) → AsksInTurn Located (location_of s r)
  location_asks = ind-Ref ExprAsks PartAsks RefAsks
      (λ x y is. subst (λ z. ExprAsks (roll-Expr z)) is (expr_layer y))
      (λ x y is. tt)
      (λ x y is. subst (λ z. RefAsks (roll-Ref z)) is (ref_layer y))

  -- numbers do
  pub number_asks : (e : Expr) → AsksInTurn ℤ (number_demand s e)
  number_asks e = then_asks (demand_of s e) (λ value rest. gives (number_of value) rest) (demand_asks e) (λ value. given (number_of value))
