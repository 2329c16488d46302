-- The code of an expression leaves its value, and that of a reference its place.
use Rattle.std.proofs.Common.{◌≡◌, ℕ, ℤ, Bool, true, false, cond, List, [], ◌∷◌, ◌++◌, Option, None, Some, IsTrue, refl, sym, ap, subst, ◌∙◌, append_assoc, slice_get}
use Rattle.std.specs.Prelude.{◌&&◌, ◌||◌}
use Rattle.std.specs.Option.{is_some}
use Rattle.f77_ast.specs.Entity.{entity_in, is_named, number_in}
use Rattle.f77_ast.specs.declared.code.Instr.{Instr}
use Rattle.f77_ast.specs.declared.code.Instr.TheVariants as instr
use Rattle.f77_ast.specs.declared.expr.Expr.{Expr, out-Expr}
use Rattle.f77_ast.specs.declared.expr.Expr.TheFolds.{fold-Part, fold-roll-Expr, fold-roll-Ref, ind-Expr, map-Expr, map-Ref}
use Rattle.f77_ast.specs.declared.expr.Expr.TheOpen.{Expr-F, Part-F, Ref-F}
use Rattle.f77_ast.specs.declared.expr.Expr.TheOpen as layer
use Rattle.f77_ast.specs.declared.expr.Expr.TheViews.{roll-Expr, roll-Ref}
use Rattle.f77_ast.specs.declared.expr.Part.{Part}
use Rattle.f77_ast.specs.declared.expr.Ref.{Ref, out-Ref, roll-out-Ref}
use Rattle.f77_ast.specs.declared.program.Entity.{Entity}
use Rattle.f77_ast.specs.declared.program.Place.{Place}
use Rattle.f77_ast.specs.declared.program.Place.TheVariants.{Stored, Dummy, Constant}
use Rattle.f77_ast.specs.declared.program.Program.{Program}
use Rattle.f77_structure.specs.HasMeaning.{expr_has_meaning, is_integer_constant, is_integer_variable, is_integer_vector, is_kept, meaning_part, meaning_ref, meaning_step, names_integer, ref_has_meaning, target_has_meaning}
use Rattle.f77_structure.specs.Literals.{constant_number, literal_layer}
use Rattle.f77_structure.specs.Storage.{address_of_element, address_of_variable, is_scalar, is_stored, is_vector, literal_number, stored_at}
use Rattle.f77_structure.specs.Values.{binary_of, is_arithmetic, is_integer_kind, is_sign, unary_of}
use Rattle.f77_meaning.specs.Demand.{Bounds, Evaluation, Located, Location, Setting, Term, and_then, bounds_of, constant, demand_of, expr_step, gives, located, located_by, location_of, number_of, operated, part_step, place_by, place_of, ref_step, setting_of, stored, term, term_of, value_at}
use Rattle.f77_meaning.specs.Operands.{Stack, entity, place, value}
use Rattle.f77_meaning.specs.Perform.{asked, given, performed, with_found}
use Rattle.f77_meaning.specs.Print.{Printing}
use Rattle.f77_meaning.specs.Process.{Frame}
use Rattle.f77_code.specs.Exprs.{code_part, code_ref, code_step, expr_code, literal_at, literal_layer_code, literal_of, place_code, read_code, ref_code, ref_layer_code, value_code}
use Rattle.f77_code.proofs.Asking.{LeavesPlace, LeavesValue, asked_same, asked_then, asked_where, with_place_there}
use Rattle.f77_code.proofs.Entities.{HasNumber, found_at}

-- tests
pub first_of_two : (a b : Bool) → IsTrue (a && b) → IsTrue a
first_of_two true b h = refl
first_of_two false b h = absurd (cc)

pub second_of_two : (a b : Bool) → IsTrue (a && b) → IsTrue b
second_of_two true b h = h
second_of_two false b h = absurd (cc)

-- an entity in storage is no constant
pub no_literal : (at : Place) → is_stored at ≡ true → literal_at at ≡ None
no_literal (Stored address) h = refl
no_literal (Dummy k) h = refl
no_literal (Constant literal) h = absurd (cc)

-- a variable or a constant that is kept is a variable
kept_variable : (found : Option Entity) → IsTrue (names_integer found None) → IsTrue (is_kept found) → IsTrue (is_integer_variable found)
kept_variable None m kept = absurd (cc)
kept_variable (Some e) m kept = by e.place m kept
  where
    first : (a b : Bool) → IsTrue ((a && b) || (a && false)) → IsTrue (a && b)
    first true true h = refl
    first true false h = absurd (cc)
    first false b h = absurd (cc)

    by : (at : Place) → IsTrue ((is_integer_kind e.kind && (is_stored at && is_scalar e.bounds)) || (is_integer_kind e.kind && (is_some (constant_number at) && is_scalar e.bounds))) → IsTrue (is_stored at) → IsTrue (is_integer_kind e.kind && (is_stored at && is_scalar e.bounds))
    by (Stored address) m kept = first (is_integer_kind e.kind) (is_scalar e.bounds) m
    by (Dummy k) m kept = absurd (cc)
    by (Constant literal) m kept = absurd (cc)

-- what a stored entity with subscripts stands for
located_stored : (s : Setting) (e : Entity) (args : Option (List Term)) (answers : List ℤ) → is_stored e.place ≡ true → located s (Some e) args answers ≡ stored s e args answers
located_stored s e args answers h = by e.place h
  where
    by : (at : Place) → is_stored at ≡ true → located_by s e at args answers ≡ stored s e args answers
    by (Stored address) h = refl
    by (Dummy k) h = absurd (cc)
    by (Constant number) h = absurd (cc)

-- the address of a variable
pub record HasAddress (e : Entity) : Type 0 where
  pub address : ℕ
  pub is : address_of_variable e ≡ Some address

has_address : (e : Entity) → is_stored e.place ≡ true → is_scalar e.bounds ≡ true → HasAddress e
has_address e h scalar = by e.place refl h
  where
    by : (at : Place) → e.place ≡ at → is_stored at ≡ true → HasAddress e
    by (Stored address) same h = record { address = address; is = ap (λ b. cond b (stored_at e.place) None) scalar ∙ ap stored_at same }
    by (Dummy k) same h = absurd (cc)
    by (Constant number) same h = absurd (cc)

module _ (program : Program) (texts : List (List ℕ)) (below : List Frame) (p : Printing) where
  abbrev s : Setting
  s = setting_of program p.frame

  -- the code of an entity
  pub entity_left : (number : ℕ) (e : Entity) (is : List Instr) (stack : Stack) (answers : List ℤ) → slice_get program.layout.entities number ≡ Some e → performed program texts below (instr.Entity number ∷ is) stack answers p ≡ performed program texts below is (entity e ∷ stack) answers p
  entity_left number e is stack answers h = ap (λ o. with_found o (λ x. performed program texts below is (entity x ∷ stack) answers p)) h

  -- a variable
  variable_leaves : (number : ℕ) (e : Entity) → slice_get program.layout.entities number ≡ Some e → is_stored e.place ≡ true → is_scalar e.bounds ≡ true → LeavesPlace program texts below p (instr.Entity number ∷ []) (located s (Some e) None)
  variable_leaves number e h is_there scalar =
      let a : HasAddress e = has_address e is_there scalar in
      let at : Located = place_of s e a.address in
      let gone : (answers : List ℤ) → located s (Some e) None answers ≡ gives at answers = λ answers. located_stored s e None answers is_there ∙ ap (λ o. place_by s e o answers) a.is in
      record {
        operand = λ x. entity e;
        leaves = λ is stack answers. entity_left number e is stack answers h ∙ sym (ap (λ d. asked program texts below d p (λ x rest. performed program texts below is (entity e ∷ stack) rest p)) (gone answers));
        there = λ answers rest x g more. gone more ∙ ap (λ y. gives y more) (let both : gives at answers ≡ gives x rest = sym (gone answers) ∙ g in let same : at ≡ x = cc in same);
      }

  -- an element
  element_leaves : (number : ℕ) (e : Entity) (subscript : Term) (code : List Instr) → slice_get program.layout.entities number ≡ Some e → is_stored e.place ≡ true → LeavesValue program texts below p code subscript.value → LeavesPlace program texts below p (instr.Entity number ∷ code ++ instr.Index 1 ∷ []) (located s (Some e) (Some (subscript ∷ [])))
  element_leaves number e subscript code h is_there sub = record {
    operand = λ at. place at;
    leaves = λ is stack answers.
        ap (λ code. performed program texts below code stack answers p) (append_assoc (instr.Entity number ∷ code) (instr.Index 1 ∷ []) is)
        ∙ entity_left number e (code ++ instr.Index 1 ∷ is) stack answers h
        ∙ sub.leaves (instr.Index 1 ∷ is) (entity e ∷ stack) answers
        ∙ asked_same program texts below p (subscript.value answers)
        (λ x rest. asked program texts below (located s (Some e) (Some (term (given x) ∷ [])) rest) p (λ at more. performed program texts below is (place at ∷ stack) more p))
        (λ x rest. asked program texts below (place_by s e (address_of_element e (number_of x)) rest) p (λ at more. performed program texts below is (place at ∷ stack) more p))
        (λ x rest. ap (λ d. asked program texts below d p (λ at more. performed program texts below is (place at ∷ stack) more p)) (located_stored s e (Some (term (given x) ∷ [])) rest is_there))
        ∙ sym (asked_then program texts below p (subscript.value answers) (λ x rest. place_by s e (address_of_element e (number_of x)) rest) (λ at more. performed program texts below is (place at ∷ stack) more p))
        ∙ sym (ap (λ d. asked program texts below d p (λ at more. performed program texts below is (place at ∷ stack) more p)) (located_stored s e (Some (subscript ∷ [])) answers is_there));
    there = λ answers rest at g. refl;
  }

  -- a place that is loaded
  loaded : (code : List Instr) (location : Location) → LeavesPlace program texts below p code location → LeavesValue program texts below p (code ++ instr.Load ∷ []) (λ answers. and_then (location answers) (value_at s))
  loaded code location l = record {
    leaves = λ is stack answers.
        ap (λ c. performed program texts below c stack answers p) (append_assoc code (instr.Load ∷ []) is)
        ∙ l.leaves (instr.Load ∷ is) stack answers
        ∙ asked_where program texts below p (location answers)
        (λ at rest. performed program texts below (instr.Load ∷ is) (l.operand at ∷ stack) rest p)
        (λ at rest. asked program texts below (value_at s at rest) p (λ x more. performed program texts below is (value x ∷ stack) more p))
        (λ at rest g. with_place_there program texts below p (l.operand at) at stack (λ there left. asked program texts below (and_then (there rest) (value_at s)) p (λ x more. performed program texts below is (value x ∷ left) more p)) (l.there answers rest at g))
        ∙ sym (asked_then program texts below p (location answers) (value_at s) (λ x more. performed program texts below is (value x ∷ stack) more p));
  }

  -- the name of a constant that is a number
  constant_leaves : (e : Entity) (code : List Instr) → IsTrue (is_some (constant_number e.place)) → LeavesValue program texts below p (read_code (literal_at e.place) code) (λ answers. and_then (located s (Some e) None answers) (value_at s))
  constant_leaves e code h = by e.place h
    where
      by_layer : (z : Expr-F Expr Part Ref) → IsTrue (is_some (literal_number z)) → LeavesValue program texts below p (literal_layer_code z) (λ answers. and_then (constant s e (literal_layer z) None answers) (value_at s))
      by_layer (layer.Int number) h = record { leaves = λ is stack answers. refl }
      by_layer (layer.Truth holds) h = absurd (cc)
      by_layer (layer.Chars text) h = absurd (cc)
      by_layer (layer.Ref r) h = absurd (cc)
      by_layer (layer.Unary op x) h = absurd (cc)
      by_layer (layer.Binary op x y) h = absurd (cc)
      by_layer (layer.Paren x) h = absurd (cc)

      by : (at : Place) → IsTrue (is_some (constant_number at)) → LeavesValue program texts below p (read_code (literal_at at) code) (λ answers. and_then (located_by s e at None answers) (value_at s))
      by (Stored address) h = absurd (cc)
      by (Dummy k) h = absurd (cc)
      by (Constant literal) h = by_layer (out-Expr literal) h

  -- one operator on an operand
  unary_leaves : (op : _) (code : List Instr) (d : Evaluation) → LeavesValue program texts below p code d → LeavesValue program texts below p (code ++ instr.Unary op ∷ []) (λ answers. and_then (d answers) (λ x rest. operated (unary_of op x) rest))
  unary_leaves op code d l = record {
    leaves = λ is stack answers.
        ap (λ c. performed program texts below c stack answers p) (append_assoc code (instr.Unary op ∷ []) is)
        ∙ l.leaves (instr.Unary op ∷ is) stack answers
        ∙ sym (asked_then program texts below p (d answers) (λ x rest. operated (unary_of op x) rest) (λ y more. performed program texts below is (value y ∷ stack) more p));
  }

  -- on two, from the left
  binary_leaves : (op : _) (left right : List Instr) (d e : Evaluation) → LeavesValue program texts below p left d → LeavesValue program texts below p right e → LeavesValue program texts below p (left ++ right ++ instr.Binary op ∷ []) (λ answers. and_then (d answers) (λ x rest. and_then (e rest) (λ y more. operated (binary_of op x y) more)))
  binary_leaves op left right d e l r = record {
    leaves = λ is stack answers.
        ap (λ c. performed program texts below c stack answers p) (append_assoc (left ++ right) (instr.Binary op ∷ []) is ∙ append_assoc left right (instr.Binary op ∷ is))
        ∙ l.leaves (right ++ instr.Binary op ∷ is) stack answers
        ∙ asked_same program texts below p (d answers)
        (λ x rest. performed program texts below (right ++ instr.Binary op ∷ is) (value x ∷ stack) rest p)
        (λ x rest. asked program texts below (and_then (e rest) (λ y more. operated (binary_of op x y) more)) p (λ z more. performed program texts below is (value z ∷ stack) more p))
        (λ x rest. r.leaves (instr.Binary op ∷ is) (value x ∷ stack) rest ∙ sym (asked_then program texts below p (e rest) (λ y more. operated (binary_of op x y) more) (λ z more. performed program texts below is (value z ∷ stack) more p)))
        ∙ sym (asked_then program texts below p (d answers) (λ x rest. and_then (e rest) (λ y more. operated (binary_of op x y) more)) (λ z more. performed program texts below is (value z ∷ stack) more p));
  }

  abbrev ExprLeaves : Expr → Type 0
  ExprLeaves e = IsTrue (expr_has_meaning program.units program.layout p.frame.unit e) → LeavesValue program texts below p (expr_code program.layout p.frame.unit e) (demand_of s e)

  abbrev PartLeaves : Part → Type 0
  PartLeaves part = Unit {0}

  abbrev RefLeaves : Ref → Type 0
  RefLeaves r = IsTrue (ref_has_meaning program.units program.layout p.frame.unit r) → LeavesValue program texts below p (value_code program.layout p.frame.unit r) (λ answers. and_then (location_of s r answers) (value_at s))

  abbrev SomeExpr : Type 0
  SomeExpr = (e : Expr) × ExprLeaves e

  abbrev SomePart : Type 0
  SomePart = (x : Part) × PartLeaves x

  abbrev SomeRef : Type 0
  SomeRef = (r : Ref) × RefLeaves r

  abbrev coded : Expr-F Expr Part Ref → Expr-F (List Instr) (Unit {0}) (List Instr)
  coded = map-Expr Expr Part Ref (List Instr) (Unit {0}) (List Instr) (expr_code program.layout p.frame.unit) (fold-Part (List Instr) (Unit {0}) (List Instr) code_step code_part (code_ref program.layout p.frame.unit)) (value_code program.layout p.frame.unit)

  abbrev coded_ref : Ref-F Expr Part Ref → Ref-F (List Instr) (Unit {0}) (List Instr)
  coded_ref = map-Ref Expr Part Ref (List Instr) (Unit {0}) (List Instr) (expr_code program.layout p.frame.unit) (fold-Part (List Instr) (Unit {0}) (List Instr) code_step code_part (code_ref program.layout p.frame.unit)) (value_code program.layout p.frame.unit)

  abbrev tested : Expr-F Expr Part Ref → Expr-F Bool (Unit {0}) Bool
  tested = map-Expr Expr Part Ref Bool (Unit {0}) Bool (expr_has_meaning program.units program.layout p.frame.unit) (fold-Part Bool (Unit {0}) Bool meaning_step meaning_part (meaning_ref program.units program.layout p.frame.unit)) (ref_has_meaning program.units program.layout p.frame.unit)

  abbrev tested_ref : Ref-F Expr Part Ref → Ref-F Bool (Unit {0}) Bool
  tested_ref = map-Ref Expr Part Ref Bool (Unit {0}) Bool (expr_has_meaning program.units program.layout p.frame.unit) (fold-Part Bool (Unit {0}) Bool meaning_step meaning_part (meaning_ref program.units program.layout p.frame.unit)) (ref_has_meaning program.units program.layout p.frame.unit)

  abbrev termed : Expr-F Expr Part Ref → Expr-F Term Bounds Location
  termed = map-Expr Expr Part Ref Term Bounds Location (term_of s) (bounds_of s) (location_of s)

  abbrev termed_ref : Ref-F Expr Part Ref → Ref-F Term Bounds Location
  termed_ref = map-Ref Expr Part Ref Term Bounds Location (term_of s) (bounds_of s) (location_of s)

  -- what holds of a layer holds of the expression
  of_layer : (z : Expr-F Expr Part Ref) → (IsTrue (meaning_step (tested z)) → LeavesValue program texts below p (code_step (coded z)) (expr_step s (termed z)).value) → ExprLeaves (roll-Expr z)
  of_layer z h m =
      subst (λ code. LeavesValue program texts below p code (demand_of s (roll-Expr z))) (sym (fold-roll-Expr (List Instr) (Unit {0}) (List Instr) code_step code_part (code_ref program.layout p.frame.unit) z))
      (subst (λ t. LeavesValue program texts below p (code_step (coded z)) t.value) (sym (fold-roll-Expr Term Bounds Location (expr_step s) (part_step s) (ref_step s) z))
      (h (subst (λ b. IsTrue b) (fold-roll-Expr Bool (Unit {0}) Bool meaning_step meaning_part (meaning_ref program.units program.layout p.frame.unit) z) m)))

  of_ref_layer : (z : Ref-F Expr Part Ref) → (IsTrue (meaning_ref program.units program.layout p.frame.unit (tested_ref z)) → LeavesValue program texts below p (code_ref program.layout p.frame.unit (coded_ref z)) (λ answers. and_then (ref_step s (termed_ref z) answers) (value_at s))) → RefLeaves (roll-Ref z)
  of_ref_layer z h m =
      subst (λ code. LeavesValue program texts below p code (λ answers. and_then (location_of s (roll-Ref z) answers) (value_at s))) (sym (fold-roll-Ref (List Instr) (Unit {0}) (List Instr) code_step code_part (code_ref program.layout p.frame.unit) z))
      (subst (λ l. LeavesValue program texts below p (code_ref program.layout p.frame.unit (coded_ref z)) (λ answers. and_then (l answers) (value_at s))) (sym (fold-roll-Ref Term Bounds Location (expr_step s) (part_step s) (ref_step s) z))
      (h (subst (λ b. IsTrue b) (fold-roll-Ref Bool (Unit {0}) Bool meaning_step meaning_part (meaning_ref program.units program.layout p.frame.unit) z) m)))

  abbrev plain_expr : Expr-F SomeExpr SomePart SomeRef → Expr-F Expr Part Ref
  plain_expr = map-Expr SomeExpr SomePart SomeRef Expr Part Ref (λ e. e.0) (λ x. x.0) (λ r. r.0)

  abbrev plain_ref : Ref-F SomeExpr SomePart SomeRef → Ref-F Expr Part Ref
  plain_ref = map-Ref SomeExpr SomePart SomeRef Expr Part Ref (λ e. e.0) (λ x. x.0) (λ r. r.0)

  expr_layer : (y : Expr-F SomeExpr SomePart SomeRef) → ExprLeaves (roll-Expr (plain_expr y))
  expr_layer (layer.Int number) = of_layer (layer.Int number) (λ m. record { leaves = λ is stack answers. refl })
  expr_layer (layer.Truth holds) = of_layer (layer.Truth holds) (λ m. record { leaves = λ is stack answers. refl })
  expr_layer (layer.Chars text) = of_layer (layer.Chars text) (λ m. absurd (cc))
  expr_layer (layer.Ref r) = of_layer (layer.Ref r.0) (λ m. r.1 m)
  expr_layer (layer.Unary op x) = of_layer (layer.Unary op x.0) (λ m. unary_leaves op (expr_code program.layout p.frame.unit x.0) (demand_of s x.0) (x.1 (second_of_two (is_sign op) (expr_has_meaning program.units program.layout p.frame.unit x.0) m)))
  expr_layer (layer.Binary op x y) =
      of_layer (layer.Binary op x.0 y.0) (λ m.
      let both = second_of_two (is_arithmetic op) (expr_has_meaning program.units program.layout p.frame.unit x.0 && expr_has_meaning program.units program.layout p.frame.unit y.0) m in
      binary_leaves op (expr_code program.layout p.frame.unit x.0) (expr_code program.layout p.frame.unit y.0) (demand_of s x.0) (demand_of s y.0)
      (x.1 (first_of_two (expr_has_meaning program.units program.layout p.frame.unit x.0) (expr_has_meaning program.units program.layout p.frame.unit y.0) both))
      (y.1 (second_of_two (expr_has_meaning program.units program.layout p.frame.unit x.0) (expr_has_meaning program.units program.layout p.frame.unit y.0) both)))
  expr_layer (layer.Paren x) = of_layer (layer.Paren x.0) (λ m. x.1 m)

  -- a variable, by its name
  variable_named : (name : List ℕ) (found : Option Entity) → entity_in program.layout.entities p.frame.unit name ≡ found → IsTrue (is_integer_variable found) → LeavesPlace program texts below p (place_code (number_in program.layout.entities p.frame.unit name) None None) (located s found None)
  variable_named name None e m = absurd (cc)
  variable_named name (Some found) e m =
      let h : HasNumber program.layout.entities (number_in program.layout.entities p.frame.unit name) found = found_at (is_named p.frame.unit name) program.layout.entities found e in
      let both = second_of_two (is_integer_kind found.kind) (is_stored found.place && is_scalar found.bounds) m in
      subst (λ n. LeavesPlace program texts below p (place_code n None None) (located s (Some found) None)) (sym h.is)
      (variable_leaves h.number found h.stands (first_of_two (is_stored found.place) (is_scalar found.bounds) both) (second_of_two (is_stored found.place) (is_scalar found.bounds) both))

  -- an element, by the name of its array
  element_named : (name : List ℕ) (x : SomeExpr) (found : Option Entity) → entity_in program.layout.entities p.frame.unit name ≡ found → IsTrue (is_integer_vector found && expr_has_meaning program.units program.layout p.frame.unit x.0) →
      LeavesPlace program texts below p (place_code (number_in program.layout.entities p.frame.unit name) (Some (expr_code program.layout p.frame.unit x.0 ∷ [])) None) (located s found (Some (term_of s x.0 ∷ [])))
  element_named name x None e m = absurd (cc)
  element_named name x (Some found) e m =
      let h : HasNumber program.layout.entities (number_in program.layout.entities p.frame.unit name) found = found_at (is_named p.frame.unit name) program.layout.entities found e in
      let vector = first_of_two (is_integer_vector (Some found)) (expr_has_meaning program.units program.layout p.frame.unit x.0) m in
      let both = second_of_two (is_integer_kind found.kind) (is_stored found.place && is_vector found.bounds) vector in
      subst (λ n. LeavesPlace program texts below p (place_code n (Some (expr_code program.layout p.frame.unit x.0 ∷ [])) None) (located s (Some found) (Some (term_of s x.0 ∷ [])))) (sym h.is)
      (element_leaves h.number found (term_of s x.0) (expr_code program.layout p.frame.unit x.0) h.stands (first_of_two (is_stored found.place) (is_vector found.bounds) both)
      (x.1 (second_of_two (is_integer_vector (Some found)) (expr_has_meaning program.units program.layout p.frame.unit x.0) m)))

  -- the place of a name alone
  abbrev place_named : List ℕ → List Instr
  place_named name = place_code (number_in program.layout.entities p.frame.unit name) None None

  -- a variable or a constant, by its name
  value_named : (name : List ℕ) (found : Option Entity) → entity_in program.layout.entities p.frame.unit name ≡ found → IsTrue (names_integer found None) →
      LeavesValue program texts below p (read_code (literal_of found) (place_named name)) (λ answers. and_then (located s found None answers) (value_at s))
  value_named name None e m = absurd (cc)
  value_named name (Some found) e m = by (is_integer_variable (Some found)) refl m
    where
      by : (b : Bool) → is_integer_variable (Some found) ≡ b → IsTrue (b || is_integer_constant (Some found)) → LeavesValue program texts below p (read_code (literal_at found.place) (place_named name)) (λ answers. and_then (located s (Some found) None answers) (value_at s))
      by true h m =
          let stored = first_of_two (is_stored found.place) (is_scalar found.bounds) (second_of_two (is_integer_kind found.kind) (is_stored found.place && is_scalar found.bounds) h) in
          subst (λ l. LeavesValue program texts below p (read_code l (place_named name)) (λ answers. and_then (located s (Some found) None answers) (value_at s))) (sym (no_literal found.place stored))
          (loaded (place_named name) (located s (Some found) None) (variable_named name (Some found) e h))
      by false h m = constant_leaves found (place_named name) (first_of_two (is_some (constant_number found.place)) (is_scalar found.bounds) (second_of_two (is_integer_kind found.kind) (is_some (constant_number found.place) && is_scalar found.bounds) m))

  ref_by : (y : Ref-F SomeExpr SomePart SomeRef) (args : Option (List SomeExpr)) (part : Option SomePart) → IsTrue (meaning_ref program.units program.layout p.frame.unit (tested_ref (plain_ref (record y { args = args; part = part })))) →
      LeavesValue program texts below p (code_ref program.layout p.frame.unit (coded_ref (plain_ref (record y { args = args; part = part })))) (λ answers. and_then (ref_step s (termed_ref (plain_ref (record y { args = args; part = part }))) answers) (value_at s))
  ref_by y None None m = value_named y.name (entity_in program.layout.entities p.frame.unit y.name) refl m
  ref_by y (Some []) None m = absurd (cc)
  ref_by y (Some (x ∷ [])) None m =
      loaded (place_code (number_in program.layout.entities p.frame.unit y.name) (Some (expr_code program.layout p.frame.unit x.0 ∷ [])) None) (located s (entity_in program.layout.entities p.frame.unit y.name) (Some (term_of s x.0 ∷ [])))
      (element_named y.name x (entity_in program.layout.entities p.frame.unit y.name) refl m)
  ref_by y (Some (x ∷ z ∷ others)) None m = absurd (cc)
  ref_by y args (Some part) m = absurd (cc)

  ref_layer : (y : Ref-F SomeExpr SomePart SomeRef) → RefLeaves (roll-Ref (plain_ref y))
  ref_layer y = of_ref_layer (plain_ref y) (ref_by y y.args y.part)

  -- expressions leave their values
  pub expr_leaves : (e : Expr) → ExprLeaves e
  expr_leaves = ind-Expr ExprLeaves PartLeaves RefLeaves
      (λ x y is. subst (λ z. ExprLeaves (roll-Expr z)) is (expr_layer y))
      (λ x y is. tt)
      (λ x y is. subst (λ z. RefLeaves (roll-Ref z)) is (ref_layer y))

  -- the left side of an assignment, by its name and its subscripts
  target_by : (z : Ref-F Expr Part Ref) (args : Option (List Expr)) (part : Option Part) → IsTrue (meaning_ref program.units program.layout p.frame.unit (tested_ref (record z { args = args; part = part }))) → IsTrue (is_kept (entity_in program.layout.entities p.frame.unit z.name)) →
      LeavesPlace program texts below p (ref_layer_code program.layout p.frame.unit (record z { args = args; part = part })) (ref_step s (termed_ref (record z { args = args; part = part })))
  target_by z None None m kept = variable_named z.name (entity_in program.layout.entities p.frame.unit z.name) refl (kept_variable (entity_in program.layout.entities p.frame.unit z.name) m kept)
  target_by z (Some []) None m kept = absurd (cc)
  target_by z (Some (x ∷ [])) None m kept = element_named z.name (x, expr_leaves x) (entity_in program.layout.entities p.frame.unit z.name) refl m
  target_by z (Some (x ∷ y ∷ others)) None m kept = absurd (cc)
  target_by z args (Some part) m kept = absurd (cc)

  -- left sides of assignments leave their places
  pub target_leaves : (r : Ref) → IsTrue (target_has_meaning program.units program.layout p.frame.unit r) → LeavesPlace program texts below p (ref_code program.layout p.frame.unit r) (location_of s r)
  target_leaves r m =
      let z : Ref-F Expr Part Ref = out-Ref r in
      let kept : Bool = is_kept (entity_in program.layout.entities p.frame.unit z.name) in
      subst (λ l. LeavesPlace program texts below p (ref_code program.layout p.frame.unit r) l) (sym (fold-roll-Ref Term Bounds Location (expr_step s) (part_step s) (ref_step s) z) ∙ ap (location_of s) (roll-out-Ref r))
      (target_by z z.args z.part
      (subst (λ b. IsTrue b) (ap (ref_has_meaning program.units program.layout p.frame.unit) (sym (roll-out-Ref r)) ∙ fold-roll-Ref Bool (Unit {0}) Bool meaning_step meaning_part (meaning_ref program.units program.layout p.frame.unit) z)
      (first_of_two (ref_has_meaning program.units program.layout p.frame.unit r) kept m))
      (second_of_two (ref_has_meaning program.units program.layout p.frame.unit r) kept m))
