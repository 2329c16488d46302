-- The code of a statement holds no more operands than it needs, and one.
use Rattle.std.proofs.Common.{◌≡◌, ℕ, zero, suc, ◌+◌, ◌-◌, ◌≤◌, ◌∷◌, ◌++◌, Bool, true, false, cond, List, [], Option, None, Some, IsTrue, refl, sym, ap, subst, ◌∙◌, append_assoc, arith}
use Rattle.std.specs.Prelude.{◌&&◌, ◌||◌, sum, sum_by}
use Rattle.std.specs.List.{list_all}
use Rattle.std.proofs.lemmas.List.Sums.{sum_by-cons}
use Rattle.std.specs.Option.{is_some, option_map, option_or}
use Rattle.hyb_base.specs.declared.ops.RedOp.{RedOp}
use Rattle.hyb_base.specs.declared.ops.RedOp.TheVariants as red
use Rattle.f77_ast.specs.Entity.{entity_in, is_named, number_in}
use Rattle.f77_ast.specs.declared.code.Instr.{Instr}
use Rattle.f77_ast.specs.declared.code.Instr.TheVariants as instr
use Rattle.f77_ast.specs.declared.expr.Expr.{Expr, out-Expr, roll-out-Expr}
use Rattle.f77_ast.specs.declared.expr.Expr.TheFolds.{fold-Part, fold-roll-Expr, fold-roll-Ref, ind-Expr, map-Expr, map-Ref}
use Rattle.f77_ast.specs.declared.expr.Expr.TheOpen.{Expr-F, Part-F, Ref-F}
use Rattle.f77_ast.specs.declared.expr.Expr.TheOpen as layer
use Rattle.f77_ast.specs.declared.expr.Expr.TheViews.{roll-Expr, roll-Ref}
use Rattle.f77_ast.specs.declared.expr.Op.{Op}
use Rattle.f77_ast.specs.declared.expr.Op.TheVariants as op_of
use Rattle.f77_ast.specs.declared.expr.Part.{Part}
use Rattle.f77_ast.specs.declared.expr.Ref.{Ref, out-Ref, roll-out-Ref}
use Rattle.f77_ast.specs.declared.program.Entity.{Entity}
use Rattle.f77_ast.specs.declared.program.Loop.{Loop}
use Rattle.f77_ast.specs.declared.program.Place.{Place}
use Rattle.f77_ast.specs.declared.program.Place.TheVariants.{Stored, Dummy, Constant}
use Rattle.f77_ast.specs.declared.program.Program.{Program}
use Rattle.f77_ast.specs.declared.stmt.Item.{Item}
use Rattle.f77_ast.specs.declared.stmt.Item as item
use Rattle.f77_ast.specs.declared.stmt.Item.TheFolds.{fold-roll-Item}
use Rattle.f77_ast.specs.declared.stmt.Item.TheOpen as item_layer
use Rattle.f77_ast.specs.declared.stmt.Item.TheVariants.{rolls-Plain}
use Rattle.f77_ast.specs.declared.stmt.LoopControl.{LoopControl}
use Rattle.f77_ast.specs.declared.stmt.Stmt.{Stmt}
use Rattle.f77_ast.specs.declared.stmt.Stmt as stmt
use Rattle.f77_ast.specs.declared.stmt.Stmt.TheFolds.{fold-roll-Stmt}
use Rattle.f77_ast.specs.declared.stmt.Stmt.TheOpen as stmt_layer
use Rattle.f77_ast.specs.declared.stmt.Stmt.TheVariants.{rolls-Assign, rolls-Do, rolls-Print}
use Rattle.f77_structure.specs.Arrays.{array_named}
use Rattle.f77_structure.specs.HasMeaning.{control_has_meaning, expr_has_meaning, increment_has_meaning, is_integer_constant, is_integer_variable, is_integer_vector, is_kept, item_has_meaning, meaning_part, meaning_ref, meaning_step, names_integer, ref_has_meaning, statement_has_meaning, target_has_meaning}
use Rattle.f77_structure.specs.Literals.{constant_number}
use Rattle.f77_structure.specs.Loops.{loop_with_range_from}
use Rattle.f77_structure.specs.Needs.{control_need, expr_need, expr_step, item_need, item_step, need_of, option_need, part_step, ref_need, ref_step, stmt_step}
use Rattle.f77_structure.specs.Statements.{is_executable}
use Rattle.f77_structure.specs.Storage.{is_scalar, is_stored, literal_number}
use Rattle.f77_structure.specs.Values.{is_arithmetic, is_integer_kind, is_sign}
use Rattle.f77_meaning.specs.Assign.{Operation, exchanged, is_v, layer_operation, operation_of, operators_at_left, stands_in_product, stands_in_sum}
use Rattle.f77_meaning.specs.Height.{HoldsAtMost}
use Rattle.f77_code.specs.Accumulations.{Joining, chain_code, chain_code_by, chain_code_within, first_code, joining_by, joining_code, last_code, last_code_with}
use Rattle.f77_code.specs.Exprs.{code_part, code_ref, code_step, expr_code, literal_at, literal_layer_code, literal_of, place_code, read_code, ref_code, ref_layer_code, value_code}
use Rattle.f77_code.specs.Statements.{assign_code, assigned_code, do_code, increment_code, items_code, layer_place, own_code, parameters_code, plain_code}
use Rattle.f77_code.proofs.Entities.{HasNumber, found_at}
use Rattle.f77_code.proofs.Expressions.{first_of_two, no_literal, second_of_two}
use Rattle.f77_code.proofs.Prints.{IsPlaced, array_placed}

-- code that leaves one operand more, and holds so many more on the way
pub record Fits (code : List Instr) (need : ℕ) : Type 0 where
  pub some : 1 ≤ need
  pub fits : (room held : ℕ) (is : List Instr) → held + need ≤ room → HoldsAtMost room is (held + 1) → HoldsAtMost room (code ++ is) held

regrouped : (room held : ℕ) (a b is : List Instr) → HoldsAtMost room (a ++ (b ++ is)) held → HoldsAtMost room ((a ++ b) ++ is) held
regrouped room held a b is h = subst (λ c. HoldsAtMost room c held) (sym (append_assoc a b is)) h

-- one operand less
fewer : (room held : ℕ) (is : List Instr) → HoldsAtMost room is (held + 1) → HoldsAtMost room is (held + 1 + 1 - 1)
fewer room held is h = subst (λ n. HoldsAtMost room is n) (less held) h
  where
    less : (n : ℕ) → n + 1 ≡ n + 1 + 1 - 1
    less n = omega arith

unary_fits : (op : Op) (code : List Instr) (need : ℕ) → Fits code need → Fits (code ++ instr.Unary op ∷ []) need
unary_fits op code need f = record {
  some = f.some;
  fits = λ room held is h g. regrouped room held code (instr.Unary op ∷ []) is (f.fits room held (instr.Unary op ∷ is) h (omega (arith, h, f.some), g));
}

load_fits : (code : List Instr) (need : ℕ) → Fits code need → Fits (code ++ instr.Load ∷ []) need
load_fits code need f = record {
  some = f.some;
  fits = λ room held is h g. regrouped room held code (instr.Load ∷ []) is (f.fits room held (instr.Load ∷ is) h (omega (arith, h, f.some), g));
}

binary_fits : (op : Op) (left right : List Instr) (m n : ℕ) → Fits left m → Fits right n → Fits (left ++ right ++ instr.Binary op ∷ []) (m + n)
binary_fits op left right m n f k = record {
  some = omega (arith, f.some);
  fits = λ room held is h g.
      regrouped room held (left ++ right) (instr.Binary op ∷ []) is (regrouped room held left right (instr.Binary op ∷ is)
      (f.fits room held (right ++ instr.Binary op ∷ is) (omega (arith, h, k.some))
      (k.fits room (held + 1) (instr.Binary op ∷ is) (omega (arith, h, f.some)) (omega (arith, h, f.some, k.some), fewer room held is g))));
}

module _ (program : Program) (unit : ℕ) where
  abbrev ExprFits : Expr → Type 0
  ExprFits e = IsTrue (expr_has_meaning program.units program.layout unit e) → Fits (expr_code program.layout unit e) (expr_need e)

  abbrev PartFits : Part → Type 0
  PartFits part = Unit {0}

  abbrev RefFits : Ref → Type 0
  RefFits r = IsTrue (ref_has_meaning program.units program.layout unit r) → Fits (value_code program.layout unit r) (ref_need r)

  abbrev SomeExpr : Type 0
  SomeExpr = (e : Expr) × ExprFits e

  abbrev SomePart : Type 0
  SomePart = (x : Part) × PartFits x

  abbrev SomeRef : Type 0
  SomeRef = (r : Ref) × RefFits r

  abbrev coded : Expr-F Expr Part Ref → Expr-F (List Instr) (Unit {0}) (List Instr)
  coded = map-Expr Expr Part Ref (List Instr) (Unit {0}) (List Instr) (expr_code program.layout unit) (fold-Part (List Instr) (Unit {0}) (List Instr) code_step code_part (code_ref program.layout unit)) (value_code program.layout unit)

  abbrev coded_ref : Ref-F Expr Part Ref → Ref-F (List Instr) (Unit {0}) (List Instr)
  coded_ref = map-Ref Expr Part Ref (List Instr) (Unit {0}) (List Instr) (expr_code program.layout unit) (fold-Part (List Instr) (Unit {0}) (List Instr) code_step code_part (code_ref program.layout unit)) (value_code program.layout unit)

  abbrev tested : Expr-F Expr Part Ref → Expr-F Bool (Unit {0}) Bool
  tested = map-Expr Expr Part Ref Bool (Unit {0}) Bool (expr_has_meaning program.units program.layout unit) (fold-Part Bool (Unit {0}) Bool meaning_step meaning_part (meaning_ref program.units program.layout unit)) (ref_has_meaning program.units program.layout unit)

  abbrev tested_ref : Ref-F Expr Part Ref → Ref-F Bool (Unit {0}) Bool
  tested_ref = map-Ref Expr Part Ref Bool (Unit {0}) Bool (expr_has_meaning program.units program.layout unit) (fold-Part Bool (Unit {0}) Bool meaning_step meaning_part (meaning_ref program.units program.layout unit)) (ref_has_meaning program.units program.layout unit)

  abbrev needed : Expr-F Expr Part Ref → Expr-F ℕ ℕ ℕ
  needed = map-Expr Expr Part Ref ℕ ℕ ℕ expr_need (fold-Part ℕ ℕ ℕ expr_step part_step ref_step) ref_need

  abbrev needed_ref : Ref-F Expr Part Ref → Ref-F ℕ ℕ ℕ
  needed_ref = map-Ref Expr Part Ref ℕ ℕ ℕ expr_need (fold-Part ℕ ℕ ℕ expr_step part_step ref_step) ref_need

  of_layer : (z : Expr-F Expr Part Ref) → (IsTrue (meaning_step (tested z)) → Fits (code_step (coded z)) (expr_step (needed z))) → ExprFits (roll-Expr z)
  of_layer z h m =
      subst (λ code. Fits code (expr_need (roll-Expr z))) (sym (fold-roll-Expr (List Instr) (Unit {0}) (List Instr) code_step code_part (code_ref program.layout unit) z))
      (subst (λ n. Fits (code_step (coded z)) n) (sym (fold-roll-Expr ℕ ℕ ℕ expr_step part_step ref_step z))
      (h (subst (λ b. IsTrue b) (fold-roll-Expr Bool (Unit {0}) Bool meaning_step meaning_part (meaning_ref program.units program.layout unit) z) m)))

  of_ref_layer : (z : Ref-F Expr Part Ref) → (IsTrue (meaning_ref program.units program.layout unit (tested_ref z)) → Fits (code_ref program.layout unit (coded_ref z)) (ref_step (needed_ref z))) → RefFits (roll-Ref z)
  of_ref_layer z h m =
      subst (λ code. Fits code (ref_need (roll-Ref z))) (sym (fold-roll-Ref (List Instr) (Unit {0}) (List Instr) code_step code_part (code_ref program.layout unit) z))
      (subst (λ n. Fits (code_ref program.layout unit (coded_ref z)) n) (sym (fold-roll-Ref ℕ ℕ ℕ expr_step part_step ref_step z))
      (h (subst (λ b. IsTrue b) (fold-roll-Ref Bool (Unit {0}) Bool meaning_step meaning_part (meaning_ref program.units program.layout unit) z) m)))

  abbrev plain_expr : Expr-F SomeExpr SomePart SomeRef → Expr-F Expr Part Ref
  plain_expr = map-Expr SomeExpr SomePart SomeRef Expr Part Ref (λ e. e.0) (λ x. x.0) (λ r. r.0)

  abbrev plain_ref : Ref-F SomeExpr SomePart SomeRef → Ref-F Expr Part Ref
  plain_ref = map-Ref SomeExpr SomePart SomeRef Expr Part Ref (λ e. e.0) (λ x. x.0) (λ r. r.0)

  -- one value
  expr_layer : (y : Expr-F SomeExpr SomePart SomeRef) → ExprFits (roll-Expr (plain_expr y))
  expr_layer (layer.Int number) = of_layer (layer.Int number) (λ m. record { some = omega arith; fits = λ room held is h g. (omega (arith, h), g) })
  expr_layer (layer.Truth holds) = of_layer (layer.Truth holds) (λ m. absurd (cc))
  expr_layer (layer.Chars text) = of_layer (layer.Chars text) (λ m. absurd (cc))
  expr_layer (layer.Ref r) = of_layer (layer.Ref r.0) (λ m. r.1 m)
  expr_layer (layer.Unary op x) = of_layer (layer.Unary op x.0) (λ m. unary_fits op (expr_code program.layout unit x.0) (expr_need x.0) (x.1 (second_of_two (is_sign op) (expr_has_meaning program.units program.layout unit x.0) m)))
  expr_layer (layer.Binary op x y) = of_layer (layer.Binary op x.0 y.0) (λ m.
      let both = second_of_two (is_arithmetic op) (expr_has_meaning program.units program.layout unit x.0 && expr_has_meaning program.units program.layout unit y.0) m in
      binary_fits op (expr_code program.layout unit x.0) (expr_code program.layout unit y.0) (expr_need x.0) (expr_need y.0)
      (x.1 (first_of_two (expr_has_meaning program.units program.layout unit x.0) (expr_has_meaning program.units program.layout unit y.0) both))
      (y.1 (second_of_two (expr_has_meaning program.units program.layout unit x.0) (expr_has_meaning program.units program.layout unit y.0) both)))
  expr_layer (layer.Paren x) = of_layer (layer.Paren x.0) (λ m. x.1 m)

  -- a constant that is a number
  constant_fits : (at : Place) (place : List Instr) (need : ℕ) → 1 ≤ need → IsTrue (is_some (constant_number at)) → Fits (read_code (literal_at at) place) need
  constant_fits (Stored address) place need some h = absurd (cc)
  constant_fits (Dummy k) place need some h = absurd (cc)
  constant_fits (Constant literal) place need some h = by (out-Expr literal) h
    where
      by : (z : Expr-F Expr Part Ref) → IsTrue (is_some (literal_number z)) → Fits (literal_layer_code z) need
      by (layer.Int number) h = record { some = some; fits = λ room held is h g. (omega (arith, h, some), g) }
      by (layer.Truth holds) h = absurd (cc)
      by (layer.Chars text) h = absurd (cc)
      by (layer.Ref r) h = absurd (cc)
      by (layer.Unary op x) h = absurd (cc)
      by (layer.Binary op x y) h = absurd (cc)
      by (layer.Paren x) h = absurd (cc)

  -- a variable, and an element
  variable_fits : (n need : ℕ) → 1 ≤ need → Fits (instr.Entity n ∷ []) need
  variable_fits n need some = record { some = some; fits = λ room held is h g. (omega (arith, h), g) }

  element_fits : (n m need : ℕ) (code : List Instr) → 1 + m ≤ need → Fits code m → Fits (instr.Entity n ∷ code ++ instr.Index 1 ∷ []) need
  element_fits n m need code more f = record {
    some = omega (arith, more);
    fits = λ room held is h g.
        regrouped room held (instr.Entity n ∷ code) (instr.Index 1 ∷ []) is
        (omega (arith, h), f.fits room (held + 1) (instr.Index 1 ∷ is) (omega (arith, h, more)) (omega (arith, h, more, f.some), fewer room held is g));
  }

  variable_named : (name : List ℕ) (found : Option Entity) → entity_in program.layout.entities unit name ≡ found → IsTrue (names_integer found None) → Fits (place_code (number_in program.layout.entities unit name) None None) (1 + 0 + 0)
  variable_named name None e m = absurd (cc)
  variable_named name (Some found) e m =
      let h : HasNumber program.layout.entities (number_in program.layout.entities unit name) found = found_at (is_named unit name) program.layout.entities found e in
      subst (λ n. Fits (place_code n None None) (1 + 0 + 0)) (sym h.is) (variable_fits h.number (1 + 0 + 0) (omega arith))

  element_named : (name : List ℕ) (x : SomeExpr) (found : Option Entity) → entity_in program.layout.entities unit name ≡ found → IsTrue (is_integer_vector found && expr_has_meaning program.units program.layout unit x.0) →
      Fits (place_code (number_in program.layout.entities unit name) (Some (expr_code program.layout unit x.0 ∷ [])) None) (1 + sum (expr_need x.0 ∷ []) + 0)
  element_named name x None e m = absurd (cc)
  element_named name x (Some found) e m =
      let h : HasNumber program.layout.entities (number_in program.layout.entities unit name) found = found_at (is_named unit name) program.layout.entities found e in
      subst (λ n. Fits (place_code n (Some (expr_code program.layout unit x.0 ∷ [])) None) (1 + sum (expr_need x.0 ∷ []) + 0)) (sym h.is)
      (element_fits h.number (expr_need x.0) (1 + sum (expr_need x.0 ∷ []) + 0) (expr_code program.layout unit x.0) (omega arith) (x.1 (second_of_two (is_integer_vector (Some found)) (expr_has_meaning program.units program.layout unit x.0) m)))

  -- the place of a name alone
  abbrev place_named : List ℕ → List Instr
  place_named name = place_code (number_in program.layout.entities unit name) None None

  -- a variable or a constant, by its name
  value_named : (name : List ℕ) (found : Option Entity) → entity_in program.layout.entities unit name ≡ found → IsTrue (names_integer found None) → Fits (read_code (literal_of found) (place_named name)) (1 + 0 + 0)
  value_named name None e m = absurd (cc)
  value_named name (Some found) e m = by (is_integer_variable (Some found)) refl m
    where
      by : (b : Bool) → is_integer_variable (Some found) ≡ b → IsTrue (b || is_integer_constant (Some found)) → Fits (read_code (literal_at found.place) (place_named name)) (1 + 0 + 0)
      by true h k =
          let stored = first_of_two (is_stored found.place) (is_scalar found.bounds) (second_of_two (is_integer_kind found.kind) (is_stored found.place && is_scalar found.bounds) h) in
          subst (λ l. Fits (read_code l (place_named name)) (1 + 0 + 0)) (sym (no_literal found.place stored)) (load_fits (place_named name) (1 + 0 + 0) (variable_named name (Some found) e m))
      by false h k =
          constant_fits found.place (place_named name) (1 + 0 + 0) (omega arith) (first_of_two (is_some (constant_number found.place)) (is_scalar found.bounds) (second_of_two (is_integer_kind found.kind) (is_some (constant_number found.place) && is_scalar found.bounds) k))

  ref_by : (y : Ref-F SomeExpr SomePart SomeRef) (args : Option (List SomeExpr)) (part : Option SomePart) → IsTrue (meaning_ref program.units program.layout unit (tested_ref (plain_ref (record y { args = args; part = part })))) →
      Fits (code_ref program.layout unit (coded_ref (plain_ref (record y { args = args; part = part })))) (ref_step (needed_ref (plain_ref (record y { args = args; part = part }))))
  ref_by y None None m = value_named y.name (entity_in program.layout.entities unit y.name) refl m
  ref_by y (Some []) None m = absurd (cc)
  ref_by y (Some (x ∷ [])) None m =
      load_fits (place_code (number_in program.layout.entities unit y.name) (Some (expr_code program.layout unit x.0 ∷ [])) None) (1 + sum (expr_need x.0 ∷ []) + 0)
      (element_named y.name x (entity_in program.layout.entities unit y.name) refl m)
  ref_by y (Some (x ∷ z ∷ others)) None m = absurd (cc)
  ref_by y args (Some part) m = absurd (cc)

  ref_layer : (y : Ref-F SomeExpr SomePart SomeRef) → RefFits (roll-Ref (plain_ref y))
  ref_layer y = of_ref_layer (plain_ref y) (ref_by y y.args y.part)

  expr_fits : (e : Expr) → ExprFits e
  expr_fits = ind-Expr ExprFits PartFits RefFits
      (λ x y is. subst (λ z. ExprFits (roll-Expr z)) is (expr_layer y))
      (λ x y is. tt)
      (λ x y is. subst (λ z. RefFits (roll-Ref z)) is (ref_layer y))

  -- the place of a reference
  place_by : (z : Ref-F Expr Part Ref) (args : Option (List Expr)) (part : Option Part) → IsTrue (meaning_ref program.units program.layout unit (tested_ref (record z { args = args; part = part }))) →
      Fits (ref_layer_code program.layout unit (record z { args = args; part = part })) (ref_step (needed_ref (record z { args = args; part = part })))
  place_by z None None m = variable_named z.name (entity_in program.layout.entities unit z.name) refl m
  place_by z (Some []) None m = absurd (cc)
  place_by z (Some (x ∷ [])) None m = element_named z.name (x, expr_fits x) (entity_in program.layout.entities unit z.name) refl m
  place_by z (Some (x ∷ y ∷ others)) None m = absurd (cc)
  place_by z args (Some part) m = absurd (cc)

  ref_fits : (r : Ref) → IsTrue (ref_has_meaning program.units program.layout unit r) → Fits (ref_code program.layout unit r) (ref_need r)
  ref_fits r m =
      let z : Ref-F Expr Part Ref = out-Ref r in
      subst (λ n. Fits (ref_code program.layout unit r) n) (sym (fold-roll-Ref ℕ ℕ ℕ expr_step part_step ref_step z) ∙ ap ref_need (roll-out-Ref r))
      (place_by z z.args z.part
      (subst (λ b. IsTrue b) (ap (ref_has_meaning program.units program.layout unit) (sym (roll-out-Ref r)) ∙ fold-roll-Ref Bool (Unit {0}) Bool meaning_step meaning_part (meaning_ref program.units program.layout unit) z) m))

  first_fits : (op : Op) (right : List Instr) (n : ℕ) → Fits right n → Fits (first_code op right) n
  first_fits op_of.Plus right n f = f
  first_fits op_of.Neg right n f = f
  first_fits op_of.Not right n f = f
  first_fits op_of.Add right n f = f
  first_fits op_of.Sub right n f = unary_fits op_of.Neg right n f
  first_fits op_of.Mul right n f = f
  first_fits op_of.Div right n f = f
  first_fits op_of.Pow right n f = f
  first_fits op_of.Cat right n f = f
  first_fits (op_of.Rel rel) right n f = f
  first_fits op_of.And right n f = f
  first_fits op_of.Or right n f = f
  first_fits op_of.Eqv right n f = f
  first_fits op_of.Neqv right n f = f

  -- code within the need of an expression
  pub record FitsWithin (code : List Instr) (most : ℕ) : Type 0 where
    pub need : ℕ
    pub within : need ≤ most
    pub fits : Fits code need

  -- the operands of the outermost operator
  record Operands (e : Expr) (o : Operation) : Type 0 where
    left : IsTrue (expr_has_meaning program.units program.layout unit o.left)
    right : IsTrue (expr_has_meaning program.units program.layout unit o.right)
    need : expr_need e ≡ expr_need o.left + expr_need o.right

  abbrev IfOperands : Expr → Option Operation → Type 0
  IfOperands e None = Unit {0}
  IfOperands e (Some o) = Operands e o

  layer_operands : (e : Expr) (z : Expr-F Expr Part Ref) → expr_need e ≡ expr_step (needed z) → IsTrue (meaning_step (tested z)) → IfOperands e (layer_operation z)
  layer_operands e (layer.Int n) h m = tt
  layer_operands e (layer.Truth b) h m = tt
  layer_operands e (layer.Chars text) h m = tt
  layer_operands e (layer.Ref r) h m = tt
  layer_operands e (layer.Unary op x) h m = tt
  layer_operands e (layer.Binary op x y) h m =
      let both = second_of_two (is_arithmetic op) (expr_has_meaning program.units program.layout unit x && expr_has_meaning program.units program.layout unit y) m in
      record {
        left = first_of_two (expr_has_meaning program.units program.layout unit x) (expr_has_meaning program.units program.layout unit y) both;
        right = second_of_two (expr_has_meaning program.units program.layout unit x) (expr_has_meaning program.units program.layout unit y) both;
        need = h;
      }
  layer_operands e (layer.Paren x) h m = tt

  operands : (e : Expr) → IsTrue (expr_has_meaning program.units program.layout unit e) → IfOperands e (operation_of e)
  operands e m =
      layer_operands e (out-Expr e) (ap expr_need (sym (roll-out-Expr e)) ∙ fold-roll-Expr ℕ ℕ ℕ expr_step part_step ref_step (out-Expr e))
      (subst (λ b. IsTrue b) (fold-roll-Expr Bool (Unit {0}) Bool meaning_step meaning_part (meaning_ref program.units program.layout unit) (out-Expr e)) (subst (λ x. IsTrue (expr_has_meaning program.units program.layout unit x)) (sym (roll-out-Expr e)) m))

  abbrev IfFits : Option (List Instr) → ℕ → Type 0
  IfFits None most = Unit {0}
  IfFits (Some code) most = FitsWithin code most

  abbrev IfJoiningFits : Option Joining → ℕ → Type 0
  IfJoiningFits None most = Unit {0}
  IfJoiningFits (Some j) most = FitsWithin j.code most

  module _ (v : Ref) where
    module _ (in_chain : Op → Bool) where
      longer_fits : (e : Expr) (o : Operation) → Operands e o → (inner : Option (List Instr)) → IfFits inner (expr_need o.left) → IfFits (option_map (λ chain. chain ++ expr_code program.layout unit o.right ++ instr.Binary o.op ∷ []) inner) (expr_need e)
      longer_fits e o h None f = tt
      longer_fits e o h (Some code) f = record {
        need = f.need + expr_need o.right;
        within = omega (arith, h.need, f.within);
        fits = binary_fits o.op code (expr_code program.layout unit o.right) f.need (expr_need o.right) f.fits (expr_fits o.right h.right);
      }

      by_operation : (inner : Expr → Option (List Instr)) → ((e : Expr) → IsTrue (expr_has_meaning program.units program.layout unit e) → IfFits (inner e) (expr_need e)) → (e : Expr) (o : Option Operation) → IfOperands e o → IfFits (chain_code_by program.layout unit v in_chain inner o) (expr_need e)
      by_operation inner h e None m = tt
      by_operation inner h e (Some o) m = by (in_chain o.op) (is_v v o.left)
        where
          by : (b here : Bool) → IfFits (cond b (cond here (Some (first_code o.op (expr_code program.layout unit o.right))) (option_map (λ chain. chain ++ expr_code program.layout unit o.right ++ instr.Binary o.op ∷ []) (inner o.left))) None) (expr_need e)
          by true true = record { need = expr_need o.right; within = omega (arith, m.need); fits = first_fits o.op (expr_code program.layout unit o.right) (expr_need o.right) (expr_fits o.right m.right) }
          by true false = longer_fits e o m (inner o.left) (h o.left m.left)
          by false here = tt

      within_fits : (operators : ℕ) (e : Expr) → IsTrue (expr_has_meaning program.units program.layout unit e) → IfFits (chain_code_within program.layout unit v in_chain operators e) (expr_need e)
      within_fits zero e m = tt
      within_fits (suc operators) e m = by_operation (chain_code_within program.layout unit v in_chain operators) (within_fits operators) e (operation_of e) (operands e m)

    named_fits : (op : RedOp) (code : Option (List Instr)) (most : ℕ) → IfFits code most → IfJoiningFits (option_map (joining_by op) code) most
    named_fits op None most h = tt
    named_fits op (Some code) most h = h

    last_fits : (e : Expr) (o : Option Operation) → IfOperands e o → IfJoiningFits (last_code program.layout unit v o) (expr_need e)
    last_fits e None m = tt
    last_fits e (Some o) m = with (exchanged o.op)
      where
        with : (by : Option RedOp) → IfJoiningFits (last_code_with program.layout unit v o by) (expr_need e)
        with None = tt
        with (Some op) = here (is_v v o.right)
          where
            here : (b : Bool) → IfJoiningFits (cond b (Some (joining_by op (expr_code program.layout unit o.left))) None) (expr_need e)
            here true = record { need = expr_need o.left; within = omega (arith, m.need); fits = expr_fits o.left m.left }
            here false = tt

    either : (a b : Option Joining) (most : ℕ) → IfJoiningFits a most → IfJoiningFits b most → IfJoiningFits (option_or a b) most
    either None b most h g = g
    either (Some j) b most h g = h

    joining_fits : (e : Expr) → IsTrue (expr_has_meaning program.units program.layout unit e) → IfJoiningFits (joining_code program.layout unit v e) (expr_need e)
    joining_fits e m =
        either (option_map (joining_by red.Add) (chain_code program.layout unit v stands_in_sum e)) (option_or (option_map (joining_by red.Mul) (chain_code program.layout unit v stands_in_product e)) (last_code program.layout unit v (operation_of e))) (expr_need e)
        (named_fits red.Add (chain_code program.layout unit v stands_in_sum e) (expr_need e) (within_fits stands_in_sum (operators_at_left e) e m))
        (either (option_map (joining_by red.Mul) (chain_code program.layout unit v stands_in_product e)) (last_code program.layout unit v (operation_of e)) (expr_need e)
        (named_fits red.Mul (chain_code program.layout unit v stands_in_product e) (expr_need e) (within_fits stands_in_product (operators_at_left e) e m))
        (last_fits e (operation_of e) (operands e m)))

  -- an assignment
  assigned_room : (room : ℕ) (j : Option Joining) (v : Expr) (is : List Instr) → 1 + expr_need v ≤ room → 2 ≤ room → IfJoiningFits j (expr_need v) → IsTrue (expr_has_meaning program.units program.layout unit v) → HoldsAtMost room (assigned_code program.layout unit j v ++ is) 1
  assigned_room room None v is h two f m = regrouped room 1 (expr_code program.layout unit v) (instr.Store ∷ []) is ((expr_fits v m).fits room 1 (instr.Store ∷ is) h two)
  assigned_room room (Some j) v is h two f m = regrouped room 1 j.code (instr.Accumulate j.op ∷ []) is (f.fits.fits room 1 (instr.Accumulate j.op ∷ is) (omega (arith, h, f.within)) two)

  assign_room : (target : Ref) (v : Expr) (is : List Instr) → IsTrue (ref_has_meaning program.units program.layout unit target) → IsTrue (expr_has_meaning program.units program.layout unit v) → HoldsAtMost (ref_need target + expr_need v + 1) (assign_code program.layout unit target v ++ is) 0
  assign_room target v is t m =
      let r : Fits (ref_code program.layout unit target) (ref_need target) = ref_fits target t in
      let e : Fits (expr_code program.layout unit v) (expr_need v) = expr_fits v m in
      let j = joining_code program.layout unit target v in
      regrouped (ref_need target + expr_need v + 1) 0 (ref_code program.layout unit target) (assigned_code program.layout unit j v) is
      (r.fits (ref_need target + expr_need v + 1) 0 (assigned_code program.layout unit j v ++ is) (omega arith)
      (assigned_room (ref_need target + expr_need v + 1) j v is (omega (arith, r.some)) (omega (arith, r.some, e.some)) (joining_fits target v m) m))

  -- a DO
  increment_room : (room : ℕ) (o : Option Expr) (is : List Instr) → 3 + option_need expr_need o ≤ room → 4 ≤ room → IsTrue (increment_has_meaning program.units program.layout unit o) → HoldsAtMost room is 4 → HoldsAtMost room (increment_code program.layout unit o ++ is) 3
  increment_room room None is h four m g = (omega (arith, h), g)
  increment_room room (Some e) is h four m g = (expr_fits e m).fits room 3 is h g

  parameters_room : (room : ℕ) (control : LoopControl) (is : List Instr) → control_need control + 1 ≤ room → IsTrue (expr_has_meaning program.units program.layout unit control.first) → IsTrue (expr_has_meaning program.units program.layout unit control.last) → IsTrue (increment_has_meaning program.units program.layout unit control.increment) → (4 ≤ room → HoldsAtMost room is 4) → HoldsAtMost room (parameters_code program.layout unit control ++ is) 1
  parameters_room room control is h f l i g =
      let first : Fits (expr_code program.layout unit control.first) (expr_need control.first) = expr_fits control.first f in
      let last : Fits (expr_code program.layout unit control.last) (expr_need control.last) = expr_fits control.last l in
      let four : 4 ≤ room = omega (arith, h, first.some, last.some) in
      regrouped room 1 (expr_code program.layout unit control.first ++ expr_code program.layout unit control.last) (increment_code program.layout unit control.increment) is
      (regrouped room 1 (expr_code program.layout unit control.first) (expr_code program.layout unit control.last) (increment_code program.layout unit control.increment ++ is)
      (first.fits room 1 (expr_code program.layout unit control.last ++ (increment_code program.layout unit control.increment ++ is)) (omega (arith, h))
      (last.fits room 2 (increment_code program.layout unit control.increment ++ is) (omega (arith, h, first.some))
      (increment_room room control.increment is (omega (arith, h, first.some, last.some)) four i (g four)))))

  do_room : (control : LoopControl) (number : Option ℕ) (loop : Option Loop) (is : List Instr) → IsTrue (control_has_meaning program.units program.layout unit control) → HoldsAtMost (control_need control + 1) (do_code program.layout unit control number loop ++ is) 0
  do_room control None loop is m = omega arith
  do_room control (Some n) None is m = omega arith
  do_room control (Some n) (Some loop) is m =
      let mf : Bool = expr_has_meaning program.units program.layout unit control.first in
      let ml : Bool = expr_has_meaning program.units program.layout unit control.last in
      let mi : Bool = increment_has_meaning program.units program.layout unit control.increment in
      let rest = second_of_two (is_integer_variable (entity_in program.layout.entities unit control.variable)) (mf && (ml && mi)) m in
      let both = second_of_two mf (ml && mi) rest in
      regrouped (control_need control + 1) 0 (instr.Entity n ∷ parameters_code program.layout unit control) (instr.Count loop.ordinal ∷ []) is
      (omega arith, parameters_room (control_need control + 1) control (instr.Count loop.ordinal ∷ is) (omega arith) (first_of_two mf (ml && mi) rest) (first_of_two ml mi both) (second_of_two ml mi both) (λ four. four))

  -- a PRINT
  plain_need : (e : Expr) → item_need (item.Plain e) ≡ expr_need e
  plain_need e = ap item_need (sym (rolls-Plain e)) ∙ fold-roll-Item ℕ item_step (item_layer.Plain e)

  first_only : (a : Bool) → IsTrue (a || false) → IsTrue a
  first_only true h = refl
  first_only false h = absurd (cc)

  plain_room : (room : ℕ) (e : Expr) (is : List Instr) → (found : Option Entity) → array_named program.layout unit e ≡ found → IsTrue (expr_has_meaning program.units program.layout unit e || is_integer_vector found) → expr_need e + 1 ≤ room → HoldsAtMost room is 0 →
      HoldsAtMost room (cond (is_some found) (layer_place program.layout unit (out-Expr e) ++ instr.EmitArray ∷ []) (expr_code program.layout unit e ++ instr.Emit ∷ []) ++ is) 0
  plain_room room e is None h m fits g =
      regrouped room 0 (expr_code program.layout unit e) (instr.Emit ∷ []) is
      ((expr_fits e (first_only (expr_has_meaning program.units program.layout unit e) m)).fits room 0 (instr.Emit ∷ is) (omega (arith, fits)) (omega (arith, fits), g))
  plain_room room e is (Some array) h m fits g =
      let at : IsPlaced program.layout.entities (layer_place program.layout unit (out-Expr e)) array = array_placed program unit e array h in
      subst (λ c. HoldsAtMost room ((c ++ instr.EmitArray ∷ []) ++ is) 0) (sym at.is) (omega arith, (omega (arith, fits), g))

  items_room : (room : ℕ) (items : List Item) (is : List Instr) → sum_by item_need items + 1 ≤ room → IsTrue (list_all (item_has_meaning program.units program.layout unit) items) → HoldsAtMost room is 0 → HoldsAtMost room (items_code program.layout unit items ++ is) 0
  items_room room [] is h m g = g
  items_room room (item.Plain e ∷ items) is h m g =
      let more : sum_by item_need (item.Plain e ∷ items) ≡ item_need (item.Plain e) + sum_by item_need items = sum_by-cons item_need (item.Plain e) items in
      let here = first_of_two (item_has_meaning program.units program.layout unit (item.Plain e)) (list_all (item_has_meaning program.units program.layout unit) items) m in
      let others = second_of_two (item_has_meaning program.units program.layout unit (item.Plain e)) (list_all (item_has_meaning program.units program.layout unit) items) m in
      regrouped room 0 (plain_code program.layout unit e) (items_code program.layout unit items) is
      (plain_room room e (items_code program.layout unit items ++ is) (array_named program.layout unit e) refl here (omega (arith, h, more, plain_need e))
      (items_room room items is (omega (arith, h, more)) others g))
  items_room room (item.Implied' list pointer control ∷ items) is h m g = absurd (cc)

  print_room : (items : List Item) (is : List Instr) → IsTrue (list_all (item_has_meaning program.units program.layout unit) items) → HoldsAtMost (sum_by item_need items + 1) ((items_code program.layout unit items ++ instr.Print ∷ []) ++ is) 0
  print_room items is m =
      regrouped (sum_by item_need items + 1) 0 (items_code program.layout unit items) (instr.Print ∷ []) is
      (items_room (sum_by item_need items + 1) items (instr.Print ∷ is) (omega arith) m (omega arith))

  -- the code of a statement
  pub own_room : (number : ℕ) (s : Stmt) (is : List Instr) → IsTrue (is_executable s) → IsTrue (statement_has_meaning program.units program.layout unit s) → HoldsAtMost (need_of s + 1) (own_code program.loops program.layout unit number s ++ is) 0
  own_room number (stmt.Assign target v) is runs m =
      subst (λ n. HoldsAtMost (n + 1) (assign_code program.layout unit target v ++ is) 0) (sym (ap need_of (sym (rolls-Assign target v)) ∙ fold-roll-Stmt ℕ stmt_step (stmt_layer.Assign target v)))
      (assign_room target v is
      (first_of_two (ref_has_meaning program.units program.layout unit target) (is_kept (entity_in program.layout.entities unit (out-Ref target).name))
      (first_of_two (target_has_meaning program.units program.layout unit target) (expr_has_meaning program.units program.layout unit v) m))
      (second_of_two (target_has_meaning program.units program.layout unit target) (expr_has_meaning program.units program.layout unit v) m))
  own_room number (stmt.Do terminal control) is runs m =
      subst (λ n. HoldsAtMost (n + 1) (do_code program.layout unit control (number_in program.layout.entities unit control.variable) (loop_with_range_from program.loops (number + 1)) ++ is) 0) (sym (ap need_of (sym (rolls-Do terminal control)) ∙ fold-roll-Stmt ℕ stmt_step (stmt_layer.Do terminal control)))
      (do_room control (number_in program.layout.entities unit control.variable) (loop_with_range_from program.loops (number + 1)) is m)
  own_room number stmt.Continue is runs m = omega arith
  own_room number stmt.End is runs m = omega arith
  own_room number (stmt.Print items) is runs m =
      subst (λ n. HoldsAtMost (n + 1) ((items_code program.layout unit items ++ instr.Print ∷ []) ++ is) 0) (sym (ap need_of (sym (rolls-Print items)) ∙ fold-roll-Stmt ℕ stmt_step (stmt_layer.Print items)))
      (print_room items is m)
  own_room number _ is runs m = absurd (cc)
