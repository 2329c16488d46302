-- Expressions that have a meaning give numbers.
use Rattle.std.proofs.Common.{◌≡◌, ℕ, ℤ, Bool, true, false, List, [], ◌∷◌, Option, None, Some, IsTrue, refl, sym, ap, subst, ◌∙◌}
use Rattle.std.specs.Prelude.{◌&&◌, ◌||◌}
use Rattle.std.specs.Option.{is_some}
use Rattle.hyb_base.specs.Wrap.{power_of, quotient_of}
use Rattle.f77_ast.specs.Entity.{entity_in}
use Rattle.f77_ast.specs.declared.expr.Expr.{Expr, out-Expr}
use Rattle.f77_ast.specs.declared.expr.Expr.TheFolds.{fold-Part, fold-roll-Expr, fold-roll-Ref, ind-Expr, map-Expr, map-Ref}
use Rattle.f77_ast.specs.declared.expr.Expr.TheOpen.{Expr-F, Part-F, Ref-F}
use Rattle.f77_ast.specs.declared.expr.Expr.TheOpen as layer
use Rattle.f77_ast.specs.declared.expr.Expr.TheViews.{roll-Expr, roll-Ref}
use Rattle.f77_ast.specs.declared.expr.Kind.{Kind}
use Rattle.f77_ast.specs.declared.expr.Kind.TheVariants as kind
use Rattle.f77_ast.specs.declared.expr.Op.{Op}
use Rattle.f77_ast.specs.declared.expr.Op.TheVariants as op
use Rattle.f77_ast.specs.declared.expr.Part.{Part}
use Rattle.f77_ast.specs.declared.expr.Ref.{Ref}
use Rattle.f77_ast.specs.declared.program.Entity.{Entity}
use Rattle.f77_ast.specs.declared.program.Place.{Place}
use Rattle.f77_ast.specs.declared.program.Place.TheVariants.{Stored, Dummy, Constant}
use Rattle.f77_structure.specs.HasMeaning.{expr_has_meaning, is_integer_constant, is_integer_variable, is_integer_vector, meaning_part, meaning_ref, meaning_step, names_integer, ref_has_meaning}
use Rattle.f77_structure.specs.Literals.{constant_number, literal_layer}
use Rattle.f77_structure.specs.Storage.{address_of_element, address_of_variable, is_scalar, is_stored, is_vector, literal_number}
use Rattle.f77_structure.specs.Values.{Value, binary_of, chars, integer, is_arithmetic, is_integer_kind, is_sign, number_or_zero_divisor, truth, unary_of, value_of_units}
use Rattle.f77_meaning.specs.Demand.{Bounds, Demand, Evaluation, Location, Setting, Term, and_then, bounds_of, calls, cells_from, constant, demand_of, expr_step, fails, gives, located, located_by, location_of, number_of, operated, part_step, place_by, ref_step, stored, term_of, value_at, value_of_bound, wants, width}
use Rattle.f77_meaning.specs.Process.{placed}
use Rattle.f77_code.proofs.Expressions.{first_of_two, second_of_two}

-- a value is the number that it is
abbrev as_integer : Value → List ℤ → Demand Value
as_integer x rest = gives (integer (number_of x)) rest

-- what an evaluation gives is a number
pub record GivesNumber (d : Evaluation) : Type 0 where
  pub same : (answers : List ℤ) → and_then (d answers) as_integer ≡ d answers

-- what a location gives is the place of an INTEGER
pub record StandsForInteger (location : Location) : Type 0 where
  pub same : (s : Setting) (answers : List ℤ) → and_then (and_then (location answers) (value_at s)) as_integer ≡ and_then (location answers) (value_at s)

-- one evaluation after another
pub twice : {A B C : Type 0} (d : Demand A) (f : A → List ℤ → Demand B) (g : B → List ℤ → Demand C) → and_then (and_then d f) g ≡ and_then d (λ x rest. and_then (f x rest) g)
twice (gives x rest) f g = refl
twice (wants address by) f g = refl
twice (calls unit bindings) f g = refl
twice (fails fault) f g = refl

sign_gives : (o : Op) (x : Value) (rest : List ℤ) → IsTrue (is_sign o) → and_then (operated (unary_of o x) rest) as_integer ≡ operated (unary_of o x) rest
sign_gives op.Plus (integer n) rest h = refl
sign_gives op.Plus (truth b) rest h = refl
sign_gives op.Plus (chars t) rest h = refl
sign_gives op.Neg (integer n) rest h = refl
sign_gives op.Neg (truth b) rest h = refl
sign_gives op.Neg (chars t) rest h = refl
sign_gives op.Not x rest h = absurd (cc)
sign_gives op.Add x rest h = absurd (cc)
sign_gives op.Sub x rest h = absurd (cc)
sign_gives op.Mul x rest h = absurd (cc)
sign_gives op.Div x rest h = absurd (cc)
sign_gives op.Pow x rest h = absurd (cc)
sign_gives op.Cat x rest h = absurd (cc)
sign_gives (op.Rel r) x rest h = absurd (cc)
sign_gives op.And x rest h = absurd (cc)
sign_gives op.Or x rest h = absurd (cc)
sign_gives op.Eqv x rest h = absurd (cc)
sign_gives op.Neqv x rest h = absurd (cc)

quotient_gives : (o : Option ℤ) (rest : List ℤ) → and_then (operated (number_or_zero_divisor o) rest) as_integer ≡ operated (number_or_zero_divisor o) rest
quotient_gives (Some n) rest = refl
quotient_gives None rest = refl

arithmetic_gives : (o : Op) (x y : Value) (rest : List ℤ) → IsTrue (is_arithmetic o) → and_then (operated (binary_of o x y) rest) as_integer ≡ operated (binary_of o x y) rest
arithmetic_gives op.Add (integer m) (integer n) rest h = refl
arithmetic_gives op.Add (integer m) (truth c) rest h = refl
arithmetic_gives op.Add (integer m) (chars u) rest h = refl
arithmetic_gives op.Add (truth b) y rest h = refl
arithmetic_gives op.Add (chars t) y rest h = refl
arithmetic_gives op.Sub (integer m) (integer n) rest h = refl
arithmetic_gives op.Sub (integer m) (truth c) rest h = refl
arithmetic_gives op.Sub (integer m) (chars u) rest h = refl
arithmetic_gives op.Sub (truth b) y rest h = refl
arithmetic_gives op.Sub (chars t) y rest h = refl
arithmetic_gives op.Mul (integer m) (integer n) rest h = refl
arithmetic_gives op.Mul (integer m) (truth c) rest h = refl
arithmetic_gives op.Mul (integer m) (chars u) rest h = refl
arithmetic_gives op.Mul (truth b) y rest h = refl
arithmetic_gives op.Mul (chars t) y rest h = refl
arithmetic_gives op.Div (integer m) (integer n) rest h = quotient_gives (quotient_of m n) rest
arithmetic_gives op.Div (integer m) (truth c) rest h = refl
arithmetic_gives op.Div (integer m) (chars u) rest h = refl
arithmetic_gives op.Div (truth b) y rest h = refl
arithmetic_gives op.Div (chars t) y rest h = refl
arithmetic_gives op.Pow (integer m) (integer n) rest h = quotient_gives (power_of m n) rest
arithmetic_gives op.Pow (integer m) (truth c) rest h = refl
arithmetic_gives op.Pow (integer m) (chars u) rest h = refl
arithmetic_gives op.Pow (truth b) y rest h = refl
arithmetic_gives op.Pow (chars t) y rest h = refl
arithmetic_gives op.Plus x y rest h = absurd (cc)
arithmetic_gives op.Neg x y rest h = absurd (cc)
arithmetic_gives op.Not x y rest h = absurd (cc)
arithmetic_gives op.Cat x y rest h = absurd (cc)
arithmetic_gives (op.Rel r) x y rest h = absurd (cc)
arithmetic_gives op.And x y rest h = absurd (cc)
arithmetic_gives op.Or x y rest h = absurd (cc)
arithmetic_gives op.Eqv x y rest h = absurd (cc)
arithmetic_gives op.Neqv x y rest h = absurd (cc)

-- the value at the place of an INTEGER
cells_give : (d : Demand (List ℤ)) → and_then (and_then d (λ cells rest. gives (value_of_units kind.Integer cells) rest)) as_integer ≡ and_then d (λ cells rest. gives (value_of_units kind.Integer cells) rest)
cells_give (gives cells rest) = refl
cells_give (wants address by) = refl
cells_give (calls unit bindings) = refl
cells_give (fails fault) = refl

place_gives : (s : Setting) (address region length : ℕ) (k : Kind) (rest : List ℤ) → IsTrue (is_integer_kind k) → and_then (value_of_bound s k (placed address region length) rest) as_integer ≡ value_of_bound s k (placed address region length) rest
place_gives s address region length kind.Integer rest h = cells_give (cells_from s address region (width kind.Integer length) rest)
place_gives s address region length kind.Logical rest h = absurd (cc)
place_gives s address region length kind.Character rest h = absurd (cc)

by_address : (s t : Setting) (e : Entity) (o : Option ℕ) (rest : List ℤ) → IsTrue (is_integer_kind e.kind) → and_then (and_then (place_by s e o rest) (value_at t)) as_integer ≡ and_then (place_by s e o rest) (value_at t)
by_address s t e (Some address) rest h = place_gives t address _ e.len e.kind rest h
by_address s t e None rest h = refl

-- an INTEGER in storage
stored_integer : (s : Setting) (e : Entity) (args : Option (List Term)) → IsTrue (is_integer_kind e.kind) → IsTrue (is_stored e.place) → StandsForInteger (located s (Some e) args)
stored_integer s e args h kept = record { same = λ t answers. by t e.place kept answers args }
  where
    element : (t : Setting) (d : Demand Value) → and_then (and_then (and_then d (λ x rest. place_by s e (address_of_element e (number_of x)) rest)) (value_at t)) as_integer ≡ and_then (and_then d (λ x rest. place_by s e (address_of_element e (number_of x)) rest)) (value_at t)
    element t (gives x rest) = by_address s t e (address_of_element e (number_of x)) rest h
    element t (wants address by) = refl
    element t (calls unit bindings) = refl
    element t (fails fault) = refl

    stored_gives : (t : Setting) (answers : List ℤ) (args : Option (List Term)) → and_then (and_then (stored s e args answers) (value_at t)) as_integer ≡ and_then (stored s e args answers) (value_at t)
    stored_gives t answers None = by_address s t e (address_of_variable e) answers h
    stored_gives t answers (Some []) = refl
    stored_gives t answers (Some (x ∷ [])) = element t (x.value answers)
    stored_gives t answers (Some (x ∷ y ∷ others)) = refl

    by : (t : Setting) (at : Place) → IsTrue (is_stored at) → (answers : List ℤ) (args : Option (List Term)) → and_then (and_then (located_by s e at args answers) (value_at t)) as_integer ≡ and_then (located_by s e at args answers) (value_at t)
    by t (Stored address) k answers args = stored_gives t answers args
    by t (Dummy k) there answers args = absurd (cc)
    by t (Constant literal) there answers args = absurd (cc)

-- a constant that is a number
constant_integer : (s : Setting) (e : Entity) → IsTrue (is_some (constant_number e.place)) → StandsForInteger (located s (Some e) None)
constant_integer s e h = record { same = λ t answers. by t e.place h answers }
  where
    by_layer : (t : Setting) (z : Expr-F Expr Part Ref) → IsTrue (is_some (literal_number z)) → (answers : List ℤ) → and_then (and_then (constant s e (literal_layer z) None answers) (value_at t)) as_integer ≡ and_then (constant s e (literal_layer z) None answers) (value_at t)
    by_layer t (layer.Int number) h answers = refl
    by_layer t (layer.Truth holds) h answers = absurd (cc)
    by_layer t (layer.Chars text) h answers = absurd (cc)
    by_layer t (layer.Ref r) h answers = absurd (cc)
    by_layer t (layer.Unary o x) h answers = absurd (cc)
    by_layer t (layer.Binary o x y) h answers = absurd (cc)
    by_layer t (layer.Paren x) h answers = absurd (cc)

    by : (t : Setting) (at : Place) → IsTrue (is_some (constant_number at)) → (answers : List ℤ) → and_then (and_then (located_by s e at None answers) (value_at t)) as_integer ≡ and_then (located_by s e at None answers) (value_at t)
    by t (Stored address) h answers = absurd (cc)
    by t (Dummy k) h answers = absurd (cc)
    by t (Constant literal) h answers = by_layer t (out-Expr literal) h answers

-- a variable or a constant, and an element
named_integer : (s : Setting) (found : Option Entity) → IsTrue (names_integer found None) → StandsForInteger (located s found None)
named_integer s None m = absurd (cc)
named_integer s (Some e) m = by (is_integer_variable (Some e)) refl m
  where
    by : (b : Bool) → is_integer_variable (Some e) ≡ b → IsTrue (b || is_integer_constant (Some e)) → StandsForInteger (located s (Some e) None)
    by true h m =
        stored_integer s e None (first_of_two (is_integer_kind e.kind) (is_stored e.place && is_scalar e.bounds) h)
        (first_of_two (is_stored e.place) (is_scalar e.bounds) (second_of_two (is_integer_kind e.kind) (is_stored e.place && is_scalar e.bounds) h))
    by false h m = constant_integer s e (first_of_two (is_some (constant_number e.place)) (is_scalar e.bounds) (second_of_two (is_integer_kind e.kind) (is_some (constant_number e.place) && is_scalar e.bounds) m))

element_integer : (s : Setting) (found : Option Entity) (args : Option (List Term)) → IsTrue (is_integer_vector found) → StandsForInteger (located s found args)
element_integer s None args m = absurd (cc)
element_integer s (Some e) args m =
    stored_integer s e args (first_of_two (is_integer_kind e.kind) (is_stored e.place && is_vector e.bounds) m)
    (first_of_two (is_stored e.place) (is_vector e.bounds) (second_of_two (is_integer_kind e.kind) (is_stored e.place && is_vector e.bounds) m))

module _ (s : Setting) where
  abbrev ExprGives : Expr → Type 0
  ExprGives e = IsTrue (expr_has_meaning s.program.units s.program.layout s.unit e) → GivesNumber (demand_of s e)

  abbrev PartGives : Part → Type 0
  PartGives part = Unit {0}

  abbrev RefGives : Ref → Type 0
  RefGives r = IsTrue (ref_has_meaning s.program.units s.program.layout s.unit r) → StandsForInteger (location_of s r)

  abbrev SomeExpr : Type 0
  SomeExpr = (e : Expr) × ExprGives e

  abbrev SomePart : Type 0
  SomePart = (x : Part) × PartGives x

  abbrev SomeRef : Type 0
  SomeRef = (r : Ref) × RefGives r

  abbrev tested : Expr-F Expr Part Ref → Expr-F Bool (Unit {0}) Bool
  tested = map-Expr Expr Part Ref Bool (Unit {0}) Bool (expr_has_meaning s.program.units s.program.layout s.unit) (fold-Part Bool (Unit {0}) Bool meaning_step meaning_part (meaning_ref s.program.units s.program.layout s.unit)) (ref_has_meaning s.program.units s.program.layout s.unit)

  abbrev tested_ref : Ref-F Expr Part Ref → Ref-F Bool (Unit {0}) Bool
  tested_ref = map-Ref Expr Part Ref Bool (Unit {0}) Bool (expr_has_meaning s.program.units s.program.layout s.unit) (fold-Part Bool (Unit {0}) Bool meaning_step meaning_part (meaning_ref s.program.units s.program.layout s.unit)) (ref_has_meaning s.program.units s.program.layout s.unit)

  abbrev termed : Expr-F Expr Part Ref → Expr-F Term Bounds Location
  termed = map-Expr Expr Part Ref Term Bounds Location (term_of s) (bounds_of s) (location_of s)

  abbrev termed_ref : Ref-F Expr Part Ref → Ref-F Term Bounds Location
  termed_ref = map-Ref Expr Part Ref Term Bounds Location (term_of s) (bounds_of s) (location_of s)

  of_layer : (z : Expr-F Expr Part Ref) → (IsTrue (meaning_step (tested z)) → GivesNumber (expr_step s (termed z)).value) → ExprGives (roll-Expr z)
  of_layer z h m =
      subst (λ t. GivesNumber t.value) (sym (fold-roll-Expr Term Bounds Location (expr_step s) (part_step s) (ref_step s) z))
      (h (subst (λ b. IsTrue b) (fold-roll-Expr Bool (Unit {0}) Bool meaning_step meaning_part (meaning_ref s.program.units s.program.layout s.unit) z) m))

  of_ref_layer : (z : Ref-F Expr Part Ref) → (IsTrue (meaning_ref s.program.units s.program.layout s.unit (tested_ref z)) → StandsForInteger (ref_step s (termed_ref z))) → RefGives (roll-Ref z)
  of_ref_layer z h m =
      subst (λ l. StandsForInteger l) (sym (fold-roll-Ref Term Bounds Location (expr_step s) (part_step s) (ref_step s) z))
      (h (subst (λ b. IsTrue b) (fold-roll-Ref Bool (Unit {0}) Bool meaning_step meaning_part (meaning_ref s.program.units s.program.layout s.unit) z) m))

  abbrev plain_expr : Expr-F SomeExpr SomePart SomeRef → Expr-F Expr Part Ref
  plain_expr = map-Expr SomeExpr SomePart SomeRef Expr Part Ref (λ e. e.0) (λ x. x.0) (λ r. r.0)

  abbrev plain_ref : Ref-F SomeExpr SomePart SomeRef → Ref-F Expr Part Ref
  plain_ref = map-Ref SomeExpr SomePart SomeRef Expr Part Ref (λ e. e.0) (λ x. x.0) (λ r. r.0)

  expr_layer : (y : Expr-F SomeExpr SomePart SomeRef) → ExprGives (roll-Expr (plain_expr y))
  expr_layer (layer.Int number) = of_layer (layer.Int number) (λ m. record { same = λ answers. refl })
  expr_layer (layer.Truth holds) = of_layer (layer.Truth holds) (λ m. absurd (cc))
  expr_layer (layer.Chars text) = of_layer (layer.Chars text) (λ m. absurd (cc))
  expr_layer (layer.Ref r) = of_layer (layer.Ref r.0) (λ m. record { same = λ answers. (r.1 m).same s answers })
  expr_layer (layer.Unary o x) = of_layer (layer.Unary o x.0) (λ m.
      let sign = first_of_two (is_sign o) (expr_has_meaning s.program.units s.program.layout s.unit x.0) m in
      record { same = λ answers. twice (demand_of s x.0 answers) (λ v rest. operated (unary_of o v) rest) as_integer ∙ ap (and_then (demand_of s x.0 answers)) (λ i v rest. sign_gives o v rest sign i) })
  expr_layer (layer.Binary o x y) = of_layer (layer.Binary o x.0 y.0) (λ m.
      let arithmetic = first_of_two (is_arithmetic o) (expr_has_meaning s.program.units s.program.layout s.unit x.0 && expr_has_meaning s.program.units s.program.layout s.unit y.0) m in
      record {
        same = λ answers. twice (demand_of s x.0 answers) (λ v rest. and_then (demand_of s y.0 rest) (λ w more. operated (binary_of o v w) more)) as_integer
            ∙ ap (and_then (demand_of s x.0 answers)) (λ i v rest. (twice (demand_of s y.0 rest) (λ w more. operated (binary_of o v w) more) as_integer ∙ ap (and_then (demand_of s y.0 rest)) (λ j w more. arithmetic_gives o v w more arithmetic j)) i);
      })
  expr_layer (layer.Paren x) = of_layer (layer.Paren x.0) (λ m. x.1 m)

  ref_by : (y : Ref-F SomeExpr SomePart SomeRef) (args : Option (List SomeExpr)) (part : Option SomePart) → IsTrue (meaning_ref s.program.units s.program.layout s.unit (tested_ref (plain_ref (record y { args = args; part = part })))) → StandsForInteger (ref_step s (termed_ref (plain_ref (record y { args = args; part = part }))))
  ref_by y None None m = named_integer s (entity_in s.program.layout.entities s.unit y.name) m
  ref_by y (Some []) None m = absurd (cc)
  ref_by y (Some (x ∷ [])) None m =
      element_integer s (entity_in s.program.layout.entities s.unit y.name) (Some (term_of s x.0 ∷ []))
      (first_of_two (is_integer_vector (entity_in s.program.layout.entities s.unit y.name)) (expr_has_meaning s.program.units s.program.layout s.unit x.0) m)
  ref_by y (Some (x ∷ z ∷ others)) None m = absurd (cc)
  ref_by y args (Some part) m = absurd (cc)

  ref_layer : (y : Ref-F SomeExpr SomePart SomeRef) → RefGives (roll-Ref (plain_ref y))
  ref_layer y = of_ref_layer (plain_ref y) (ref_by y y.args y.part)

  -- expressions give numbers
  pub expr_gives : (e : Expr) → ExprGives e
  expr_gives = ind-Expr ExprGives PartGives RefGives
      (λ x y is. subst (λ z. ExprGives (roll-Expr z)) is (expr_layer y))
      (λ x y is. tt)
      (λ x y is. subst (λ z. RefGives (roll-Ref z)) is (ref_layer y))
