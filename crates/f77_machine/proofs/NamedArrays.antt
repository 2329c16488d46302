-- An item that is an array's name: as an expression it has no meaning, so it is an array that may be printed.
use Rattle.std.proofs.Common.{◌≡◌, ℕ, ◌&&◌, ◌||◌, Bool, true, false, cond, List, [], ◌∷◌, Option, None, Some, IsTrue, refl, sym, subst, ap, ◌∙◌}
use Rattle.std.specs.Option.{is_some}
use Rattle.f77_ast.specs.Entity.{entity_in}
use Rattle.f77_ast.specs.declared.expr.Expr.{Expr, out-Expr, roll-out-Expr}
use Rattle.f77_ast.specs.declared.expr.Expr.TheFolds.{fold-Part, fold-roll-Expr, fold-roll-Ref, map-Expr, map-Ref}
use Rattle.f77_ast.specs.declared.expr.Expr.TheOpen.{Expr-F, Part-F, Ref-F}
use Rattle.f77_ast.specs.declared.expr.Expr.TheOpen as layer
use Rattle.f77_ast.specs.declared.expr.Part.{Part}
use Rattle.f77_ast.specs.declared.expr.Ref.{Ref, out-Ref, roll-out-Ref}
use Rattle.f77_ast.specs.declared.program.Entity.{Entity}
use Rattle.f77_ast.specs.declared.program.Layout.{Layout}
use Rattle.f77_ast.specs.declared.program.Unit.{Unit as ProgramUnit}
use Rattle.f77_ast.specs.declared.specification.Bound.{Bound}
use Rattle.f77_structure.specs.Arrays.{array_named, array_of_ref, array_part, array_ref, array_step, if_array}
use Rattle.f77_structure.specs.HasMeaning.{expr_has_meaning, is_integer_vector, meaning_part, meaning_ref, meaning_step, names_integer, ref_has_meaning}
use Rattle.f77_structure.specs.Literals.{constant_number}
use Rattle.f77_structure.specs.Storage.{is_scalar, is_stored, is_vector}
use Rattle.f77_structure.specs.Values.{is_integer_kind}

-- a variable or a constant has no dimension
no_dimension : (kind stored constant scalar : Bool) → IsTrue ((kind && (stored && scalar)) || (kind && (constant && scalar))) → IsTrue scalar
no_dimension true true constant true h = h
no_dimension true false true true h = h
no_dimension true false false true h = absurd (cc)
no_dimension true true true false h = absurd (cc)
no_dimension true true false false h = absurd (cc)
no_dimension true false true false h = absurd (cc)
no_dimension true false false false h = absurd (cc)
no_dimension false stored constant scalar h = absurd (cc)

-- what has no dimension is no array
not_both : (bounds : List Bound) (entity array : Entity) → IsTrue (is_scalar bounds) → cond (is_vector bounds) (Some entity) None ≡ Some array → ⊥
not_both [] entity array h e = cc
not_both (bound ∷ bounds) entity array h e = cc

module _ (units : List ProgramUnit) (layout : Layout) (unit : ℕ) where
  abbrev array_in_part : Part → Unit {0}
  array_in_part = fold-Part (Option Entity) (Unit {0}) (Option Entity) array_step array_part (array_ref layout unit)

  abbrev meaning_in_part : Part → Unit {0}
  meaning_in_part = fold-Part Bool (Unit {0}) Bool meaning_step meaning_part (meaning_ref units layout unit)

  abbrev arrays_of : Expr-F Expr Part Ref → Expr-F (Option Entity) (Unit {0}) (Option Entity)
  arrays_of = map-Expr Expr Part Ref (Option Entity) (Unit {0}) (Option Entity) (array_named layout unit) array_in_part (array_of_ref layout unit)

  abbrev meanings_of : Expr-F Expr Part Ref → Expr-F Bool (Unit {0}) Bool
  meanings_of = map-Expr Expr Part Ref Bool (Unit {0}) Bool (expr_has_meaning units layout unit) meaning_in_part (ref_has_meaning units layout unit)

  abbrev arrays_in : Ref-F Expr Part Ref → Ref-F (Option Entity) (Unit {0}) (Option Entity)
  arrays_in = map-Ref Expr Part Ref (Option Entity) (Unit {0}) (Option Entity) (array_named layout unit) array_in_part (array_of_ref layout unit)

  abbrev meanings_in : Ref-F Expr Part Ref → Ref-F Bool (Unit {0}) Bool
  meanings_in = map-Ref Expr Part Ref Bool (Unit {0}) Bool (expr_has_meaning units layout unit) meaning_in_part (ref_has_meaning units layout unit)

  -- an array's name alone has no meaning as a reference
  name_by : (z : Ref-F Expr Part Ref) (args : Option (List Expr)) (part : Option Part) (found : Option Entity) (array : Entity) → entity_in layout.entities unit z.name ≡ found →
      array_ref layout unit (arrays_in (record z { args = args; part = part })) ≡ Some array → IsTrue (meaning_ref units layout unit (meanings_in (record z { args = args; part = part }))) → ⊥
  name_by z None None found array f e h =
      by found (subst (λ o. if_array o ≡ Some array) f e) (subst (λ o. IsTrue (names_integer o None)) f h)
    where
      by : (o : Option Entity) → if_array o ≡ Some array → IsTrue (names_integer o None) → ⊥
      by None e h = cc
      by (Some entity) e h =
          not_both entity.bounds entity array (no_dimension (is_integer_kind entity.kind) (is_stored entity.place) (is_some (constant_number entity.place)) (is_scalar entity.bounds) h) e
  name_by z (Some args) part found array f e h = cc
  name_by z None (Some part) found array f e h = cc

  ref_by : (r : Ref) (array : Entity) → array_of_ref layout unit r ≡ Some array → IsTrue (ref_has_meaning units layout unit r) → ⊥
  ref_by r array e h =
      let z : Ref-F Expr Part Ref = out-Ref r in
      name_by z z.args z.part (entity_in layout.entities unit z.name) array refl
      (sym (fold-roll-Ref (Option Entity) (Unit {0}) (Option Entity) array_step array_part (array_ref layout unit) z) ∙ ap (array_of_ref layout unit) (roll-out-Ref r) ∙ e)
      (subst (λ b. IsTrue b) (sym (ap (ref_has_meaning units layout unit) (roll-out-Ref r)) ∙ fold-roll-Ref Bool (Unit {0}) Bool meaning_step meaning_part (meaning_ref units layout unit) z) h)

  layer_by : (z : Expr-F Expr Part Ref) (array : Entity) → array_step (arrays_of z) ≡ Some array → IsTrue (meaning_step (meanings_of z)) → ⊥
  layer_by (layer.Int number) array e h = cc
  layer_by (layer.Truth holds) array e h = cc
  layer_by (layer.Chars text) array e h = cc
  layer_by (layer.Ref r) array e h = ref_by r array e h
  layer_by (layer.Unary op x) array e h = cc
  layer_by (layer.Binary op x y) array e h = cc
  layer_by (layer.Paren x) array e h = cc

  -- an expression that is an array's name has no meaning
  array_means : (expr : Expr) (array : Entity) → array_named layout unit expr ≡ Some array → IsTrue (expr_has_meaning units layout unit expr) → ⊥
  array_means expr array e h =
      layer_by (out-Expr expr) array
      (sym (fold-roll-Expr (Option Entity) (Unit {0}) (Option Entity) array_step array_part (array_ref layout unit) (out-Expr expr)) ∙ ap (array_named layout unit) (roll-out-Expr expr) ∙ e)
      (subst (λ b. IsTrue b) (sym (ap (expr_has_meaning units layout unit) (roll-out-Expr expr)) ∙ fold-roll-Expr Bool (Unit {0}) Bool meaning_step meaning_part (meaning_ref units layout unit) (out-Expr expr)) h)

  -- so an item of PRINT that is one is an INTEGER array of one dimension
  pub item_array : (expr : Expr) (array : Entity) → Some array ≡ array_named layout unit expr → IsTrue (expr_has_meaning units layout unit expr || is_integer_vector (array_named layout unit expr)) → IsTrue (is_integer_vector (Some array))
  item_array expr array e h = subst (λ o. IsTrue (is_integer_vector o)) (sym e) (by (expr_has_meaning units layout unit expr) (is_integer_vector (array_named layout unit expr)) (array_means expr array (sym e)) h)
    where
      by : (means vector : Bool) → (IsTrue means → ⊥) → IsTrue (means || vector) → IsTrue vector
      by true vector never h = absurd (never h)
      by false vector never h = h
