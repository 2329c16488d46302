-- References in expressions without a miscount have as many subscripts as their arrays have dimensions.
use Rattle.std.proofs.Common.{◌≡◌, ℕ, suc, Bool, true, false, not, ◌&&◌, ◌||◌, ◌==◌, List, [], ◌∷◌, ◌++◌, length, map, Option, None, Some, refl, sym, ap, ◌∙◌, subst, if◌then◌else◌}
use Rattle.std.specs.List.{list_all}
use Rattle.std.specs.Option.{is_some, option_map}
use Rattle.f77_ast.specs.declared.expr.Expr.{Expr}
use Rattle.f77_ast.specs.declared.expr.Expr.TheFolds.{fold-roll-Expr, fold-roll-Part, fold-roll-Ref, ind-Expr, ind-Part, ind-Ref, map-Expr, map-Part, map-Ref}
use Rattle.f77_ast.specs.declared.expr.Expr.TheOpen.{Expr-F, Part-F, Ref-F}
use Rattle.f77_ast.specs.declared.expr.Expr.TheOpen as layer
use Rattle.f77_ast.specs.declared.expr.Expr.TheViews.{roll-Expr, roll-Part, roll-Ref}
use Rattle.f77_ast.specs.declared.expr.Part.{Part}
use Rattle.f77_ast.specs.declared.expr.Ref.{Ref, out-Ref}
use Rattle.f77_ast.specs.declared.specification.Bound.{Bound}
use Rattle.f77_leaves.specs.Declarations.{Declarations}
use Rattle.f77_leaves.specs.Intrinsics.{intrinsic_named}
use Rattle.f77_leaves.specs.Meant.{meant_by, meant_of, unless_declared}
use Rattle.f77_leaves.specs.declared.declarations.Known.{Known}
use Rattle.f77_leaves.specs.declared.meant.Meant.{Meant}
use Rattle.f77_leaves.specs.declared.meant.Meant.TheVariants as meant
use Rattle.f77_kinds.specs.Found.{argument_breach, arguments_breach, base_found, dimensions_of, expr_found, expr_step, is_miscounted, member_found, member_meant, part_breach, part_step, ref_found, ref_step, with_part}
use Rattle.f77_kinds.specs.declared.breach.Breach.{Breach}
use Rattle.f77_kinds.specs.declared.found.Found.{Found}
use Rattle.f77_counted.specs.References.{Reference, expr_references, if_some, in_all, in_list, listed_name, member_references, part_references, ref_by, ref_references}
use Rattle.f77_counted.specs.References as refs

-- whether a reference has as many subscripts as its name has bounds, where it has some
abbrev pub fits_count : Option (List Bound) → ℕ → Bool
fits_count None count = true
fits_count (Some bounds) count = count == length bounds

abbrev pub is_counted : Declarations → Reference → Bool
is_counted unit reference = fits_count (unit.known reference.name).bounds reference.count

-- where nothing is miscounted, all references are counted
pub record Clean (unit : Declarations) (miscount : Bool) (references : List Reference) : Type 0 where
  pub holds : miscount ≡ false → list_all (is_counted unit) references ≡ true

first_false : (a b : Bool) → (a || b) ≡ false → a ≡ false
first_false true b e = absurd (cc)
first_false false b e = refl

rest_false : (a b : Bool) → (a || b) ≡ false → b ≡ false
rest_false true b e = absurd (cc)
rest_false false b e = e

all_append : (test : Reference → Bool) (xs ys : List Reference) → list_all test xs ≡ true → list_all test ys ≡ true → list_all test (xs ++ ys) ≡ true
all_append test [] ys e f = f
all_append test (x ∷ xs) ys e f = by (test x) (list_all test xs) e (λ g. all_append test xs ys g f)
  where
    by : (a b : Bool) → (a && b) ≡ true → (b ≡ true → list_all test (xs ++ ys) ≡ true) → (a && list_all test (xs ++ ys)) ≡ true
    by true b g h = h g
    by false b g h = absurd (cc)

module _ (unit : Declarations) where
  pub none : (m : Bool) → Clean unit m []
  none m = record { holds = λ e. refl }

  pub both : (m n : Bool) (xs ys : List Reference) → Clean unit m xs → Clean unit n ys → Clean unit (m || n) (xs ++ ys)
  both m n xs ys h k = record { holds = λ e. all_append (is_counted unit) xs ys (h.holds (first_false m n e)) (k.holds (rest_false m n e)) }

  pub left : (m b : Bool) (xs : List Reference) → Clean unit m xs → Clean unit (m || b) xs
  left m b xs h = record { holds = λ e. h.holds (first_false m b e) }

  pub padded : (m : Bool) (xs : List Reference) → Clean unit m xs → Clean unit m (xs ++ [])
  padded m xs h = record { holds = λ e. all_append (is_counted unit) xs [] (h.holds e) refl }

  -- ---- one reference

  named_by : (bounds : Option (List Bound)) (known : Known) (meaning : Meant) (count : ℕ) → known.bounds ≡ bounds → (is_some bounds ≡ true → meaning ≡ meant.Element) → is_miscounted known meaning count ≡ false → fits_count bounds count ≡ true
  named_by None known meaning count e h g = refl
  named_by (Some bounds) known meaning count e h g = by (count == length bounds) (ap (λ (o : Option (List Bound)). not (count == dimensions_of o)) (sym e) ∙ ap (λ (m : Meant). is_miscounted known m count) (sym (h refl)) ∙ g)
    where
      by : (b : Bool) → not b ≡ false → b ≡ true
      by true f = refl
      by false f = absurd (cc)

  counted_one : (name : List ℕ) (meaning : Meant) (count : ℕ) → (is_some (unit.known name).bounds ≡ true → meaning ≡ meant.Element) → Clean unit (is_miscounted (unit.known name) meaning count) (record { name = name; count = count } ∷ [])
  counted_one name meaning count h = record { holds = λ e. ap (λ b. b && true) (named_by (unit.known name).bounds (unit.known name) meaning count refl h e) }

  meant_element : (known : Known) (name : List ℕ) → is_some known.bounds ≡ true → meant_by known name ≡ meant.Element
  meant_element known name e = ap (λ b. if b then meant.Element else unless_declared known (intrinsic_named name)) e

  member_element : (known : Known) → is_some known.bounds ≡ true → member_meant known ≡ meant.Element
  member_element known e = ap (λ b. if b then meant.Element else meant.Call) e

  -- ---- trees

  abbrev ExprClean : Expr → Type 0
  ExprClean e = Clean unit (expr_found unit e).breach.miscount (expr_references e)

  abbrev PartClean : Part → Type 0
  PartClean p = Clean unit (part_breach unit p).miscount (part_references p)

  abbrev RefClean : Ref → Type 0
  RefClean r = Clean unit (ref_found unit r).breach.miscount (ref_references r)

  abbrev SomeExpr : Type 0
  SomeExpr = (e : Expr) × ExprClean e

  abbrev SomePart : Type 0
  SomePart = (p : Part) × PartClean p

  abbrev SomeRef : Type 0
  SomeRef = (r : Ref) × RefClean r

  argument_clean : (meaning : Meant) (place : ℕ) (found : Found) (xs : List Reference) → Clean unit found.breach.miscount xs → Clean unit (argument_breach meaning place found).miscount xs
  argument_clean meant.Element place found xs h = left found.breach.miscount false xs h
  argument_clean (meant.Function intrinsic) place found xs h = left found.breach.miscount false xs h
  argument_clean meant.Call place found xs h = h

  abbrev exprs : List SomeExpr → List Expr
  exprs xs = map (λ x. x.0) xs

  arguments_clean : (meaning : Meant) (place : ℕ) (xs : List SomeExpr) → Clean unit (arguments_breach meaning place (map (expr_found unit) (exprs xs))).miscount (in_all (map expr_references (exprs xs)))
  arguments_clean meaning place [] = none false
  arguments_clean meaning place (x ∷ xs) =
      both (argument_breach meaning place (expr_found unit x.0)).miscount (arguments_breach meaning (suc place) (map (expr_found unit) (exprs xs))).miscount (expr_references x.0) (in_all (map expr_references (exprs xs)))
      (argument_clean meaning place (expr_found unit x.0) (expr_references x.0) x.1) (arguments_clean meaning (suc place) xs)

  same_count : (xs : List Expr) → length (map (expr_found unit) xs) ≡ length (map expr_references xs)
  same_count [] = refl
  same_count (x ∷ xs) = ap suc (same_count xs)

  abbrev base : (name : List ℕ) → Meant → Option (List SomeExpr) → Found
  base name meaning args = base_found unit name meaning (option_map (λ xs. map (expr_found unit) (exprs xs)) args)

  abbrev base_references : (name : List ℕ) → Option (List SomeExpr) → List Reference
  base_references name args = in_list (option_map (λ xs. map expr_references (exprs xs)) args) ++ listed_name name (option_map (λ xs. map expr_references (exprs xs)) args)

  base_clean : (name : List ℕ) (meaning : Meant) (args : Option (List SomeExpr)) → (is_some (unit.known name).bounds ≡ true → meaning ≡ meant.Element) → Clean unit (base name meaning args).breach.miscount (base_references name args)
  base_clean name meaning None h = none false
  base_clean name meaning (Some xs) h =
      both (arguments_breach meaning 0 (map (expr_found unit) (exprs xs))).miscount (is_miscounted (unit.known name) meaning (length (map (expr_found unit) (exprs xs)))) (in_all (map expr_references (exprs xs))) (record { name = name; count = length (map expr_references (exprs xs)) } ∷ [])
      (arguments_clean meaning 0 xs)
      (subst (λ n. Clean unit (is_miscounted (unit.known name) meaning (length (map (expr_found unit) (exprs xs)))) (record { name = name; count = n } ∷ [])) (same_count (exprs xs)) (counted_one name meaning (length (map (expr_found unit) (exprs xs))) h))

  with_clean : (found : Found) (xs : List Reference) (part : Option SomePart) → Clean unit found.breach.miscount xs → Clean unit (with_part found (option_map (λ p. part_breach unit p.0) part)).breach.miscount (xs ++ if_some (option_map (λ p. part_references p.0) part))
  with_clean found xs None h = padded found.breach.miscount xs h
  with_clean found xs (Some p) h = both found.breach.miscount ((part_breach unit p.0).miscount || false) xs (part_references p.0) h (left (part_breach unit p.0).miscount false (part_references p.0) p.1)

  abbrev found_layer : Expr-F Expr Part Ref → Found
  found_layer z = expr_step (map-Expr Expr Part Ref Found Breach Found (expr_found unit) (part_breach unit) (ref_found unit) z)

  abbrev references_layer : Expr-F Expr Part Ref → List Reference
  references_layer z = refs.expr_step (map-Expr Expr Part Ref (List Reference) (List Reference) (List Reference) expr_references part_references ref_references z)

  of_layer : (z : Expr-F Expr Part Ref) → Clean unit (found_layer z).breach.miscount (references_layer z) → ExprClean (roll-Expr z)
  of_layer z h =
      subst (λ (f : Found). Clean unit f.breach.miscount (expr_references (roll-Expr z))) (sym (fold-roll-Expr Found Breach Found expr_step part_step (ref_step unit) z))
      (subst (λ (l : List Reference). Clean unit (found_layer z).breach.miscount l) (sym (fold-roll-Expr (List Reference) (List Reference) (List Reference) refs.expr_step refs.part_step refs.ref_step z)) h)

  abbrev plain_expr : Expr-F SomeExpr SomePart SomeRef → Expr-F Expr Part Ref
  plain_expr = map-Expr SomeExpr SomePart SomeRef Expr Part Ref (λ e. e.0) (λ p. p.0) (λ r. r.0)

  expr_layer : (y : Expr-F SomeExpr SomePart SomeRef) → ExprClean (roll-Expr (plain_expr y))
  expr_layer (layer.Int number) = of_layer (layer.Int number) (none false)
  expr_layer (layer.Truth holds) = of_layer (layer.Truth holds) (none false)
  expr_layer (layer.Chars text) = of_layer (layer.Chars text) (none false)
  expr_layer (layer.Ref r) = of_layer (layer.Ref r.0) r.1
  expr_layer (layer.Unary op x) = of_layer (layer.Unary op x.0) (left (expr_found unit x.0).breach.miscount false (expr_references x.0) x.1)
  expr_layer (layer.Binary op x y) =
      of_layer (layer.Binary op x.0 y.0)
      (both ((expr_found unit x.0).breach.miscount || false) (((expr_found unit y.0).breach.miscount || false) || false) (expr_references x.0) (expr_references y.0)
      (left (expr_found unit x.0).breach.miscount false (expr_references x.0) x.1)
      (left ((expr_found unit y.0).breach.miscount || false) false (expr_references y.0) (left (expr_found unit y.0).breach.miscount false (expr_references y.0) y.1)))
  expr_layer (layer.Paren x) = of_layer (layer.Paren x.0) (left (expr_found unit x.0).breach.miscount false (expr_references x.0) x.1)

  abbrev part_found_layer : Part-F Expr Part Ref → Breach
  part_found_layer z = part_step (map-Part Expr Part Ref Found Breach Found (expr_found unit) (part_breach unit) (ref_found unit) z)

  abbrev part_references_layer : Part-F Expr Part Ref → List Reference
  part_references_layer z = refs.part_step (map-Part Expr Part Ref (List Reference) (List Reference) (List Reference) expr_references part_references ref_references z)

  of_part_layer : (z : Part-F Expr Part Ref) → Clean unit (part_found_layer z).miscount (part_references_layer z) → PartClean (roll-Part z)
  of_part_layer z h =
      subst (λ (f : Breach). Clean unit f.miscount (part_references (roll-Part z))) (sym (fold-roll-Part Found Breach Found expr_step part_step (ref_step unit) z))
      (subst (λ (l : List Reference). Clean unit (part_found_layer z).miscount l) (sym (fold-roll-Part (List Reference) (List Reference) (List Reference) refs.expr_step refs.part_step refs.ref_step z)) h)

  abbrev plain_part : Part-F SomeExpr SomePart SomeRef → Part-F Expr Part Ref
  plain_part = map-Part SomeExpr SomePart SomeRef Expr Part Ref (λ e. e.0) (λ p. p.0) (λ r. r.0)

  part_by : (y : Part-F SomeExpr SomePart SomeRef) (low high : Option SomeExpr) → Clean unit (part_found_layer (plain_part (record y { low = low; high = high }))).miscount (part_references_layer (plain_part (record y { low = low; high = high })))
  part_by y None None = none false
  part_by y None (Some b) = left (expr_found unit b.0).breach.miscount false (expr_references b.0) b.1
  part_by y (Some a) None = padded (((expr_found unit a.0).breach.miscount || false) || false) (expr_references a.0) (left ((expr_found unit a.0).breach.miscount || false) false (expr_references a.0) (left (expr_found unit a.0).breach.miscount false (expr_references a.0) a.1))
  part_by y (Some a) (Some b) =
      both ((expr_found unit a.0).breach.miscount || false) ((expr_found unit b.0).breach.miscount || false) (expr_references a.0) (expr_references b.0)
      (left (expr_found unit a.0).breach.miscount false (expr_references a.0) a.1) (left (expr_found unit b.0).breach.miscount false (expr_references b.0) b.1)

  part_layer : (y : Part-F SomeExpr SomePart SomeRef) → PartClean (roll-Part (plain_part y))
  part_layer y = of_part_layer (plain_part y) (part_by y y.low y.high)

  abbrev ref_found_layer : Ref-F Expr Part Ref → Found
  ref_found_layer z = ref_step unit (map-Ref Expr Part Ref Found Breach Found (expr_found unit) (part_breach unit) (ref_found unit) z)

  abbrev ref_references_layer : Ref-F Expr Part Ref → List Reference
  ref_references_layer z = refs.ref_step (map-Ref Expr Part Ref (List Reference) (List Reference) (List Reference) expr_references part_references ref_references z)

  of_ref_layer : (z : Ref-F Expr Part Ref) → Clean unit (ref_found_layer z).breach.miscount (ref_references_layer z) → RefClean (roll-Ref z)
  of_ref_layer z h =
      subst (λ (f : Found). Clean unit f.breach.miscount (ref_references (roll-Ref z))) (sym (fold-roll-Ref Found Breach Found expr_step part_step (ref_step unit) z))
      (subst (λ (l : List Reference). Clean unit (ref_found_layer z).breach.miscount l) (sym (fold-roll-Ref (List Reference) (List Reference) (List Reference) refs.expr_step refs.part_step refs.ref_step z)) h)

  abbrev plain_ref : Ref-F SomeExpr SomePart SomeRef → Ref-F Expr Part Ref
  plain_ref = map-Ref SomeExpr SomePart SomeRef Expr Part Ref (λ e. e.0) (λ p. p.0) (λ r. r.0)

  reference_by : (y : Ref-F SomeExpr SomePart SomeRef) (args : Option (List SomeExpr)) (part : Option SomePart) → Clean unit (ref_found_layer (plain_ref (record y { args = args; part = part }))).breach.miscount (ref_references_layer (plain_ref (record y { args = args; part = part })))
  reference_by y None None = with_clean (base y.name (meant_of unit y.name) None) (base_references y.name None) None (base_clean y.name (meant_of unit y.name) None (meant_element (unit.known y.name) y.name))
  reference_by y None (Some p) = with_clean (base y.name (meant_of unit y.name) None) (base_references y.name None) (Some p) (base_clean y.name (meant_of unit y.name) None (meant_element (unit.known y.name) y.name))
  reference_by y (Some xs) None = with_clean (base y.name (meant_of unit y.name) (Some xs)) (base_references y.name (Some xs)) None (base_clean y.name (meant_of unit y.name) (Some xs) (meant_element (unit.known y.name) y.name))
  reference_by y (Some xs) (Some p) = with_clean (base y.name (meant_of unit y.name) (Some xs)) (base_references y.name (Some xs)) (Some p) (base_clean y.name (meant_of unit y.name) (Some xs) (meant_element (unit.known y.name) y.name))

  ref_layer : (y : Ref-F SomeExpr SomePart SomeRef) → RefClean (roll-Ref (plain_ref y))
  ref_layer y = of_ref_layer (plain_ref y) (reference_by y y.args y.part)

  pub expr_clean : (e : Expr) → ExprClean e
  expr_clean = ind-Expr ExprClean PartClean RefClean
      (λ x y is. subst (λ z. ExprClean (roll-Expr z)) is (expr_layer y))
      (λ x y is. subst (λ z. PartClean (roll-Part z)) is (part_layer y))
      (λ x y is. subst (λ z. RefClean (roll-Ref z)) is (ref_layer y))

  pub part_clean : (p : Part) → PartClean p
  part_clean = ind-Part ExprClean PartClean RefClean
      (λ x y is. subst (λ z. ExprClean (roll-Expr z)) is (expr_layer y))
      (λ x y is. subst (λ z. PartClean (roll-Part z)) is (part_layer y))
      (λ x y is. subst (λ z. RefClean (roll-Ref z)) is (ref_layer y))

  pub ref_clean : (r : Ref) → RefClean r
  ref_clean = ind-Ref ExprClean PartClean RefClean
      (λ x y is. subst (λ z. ExprClean (roll-Expr z)) is (expr_layer y))
      (λ x y is. subst (λ z. PartClean (roll-Part z)) is (part_layer y))
      (λ x y is. subst (λ z. RefClean (roll-Ref z)) is (ref_layer y))

  -- ---- members of EQUIVALENCE and DATA

  arguments_of : (meaning : Meant) (place : ℕ) (xs : List Expr) → Clean unit (arguments_breach meaning place (map (expr_found unit) xs)).miscount (in_all (map expr_references xs))
  arguments_of meaning place [] = none false
  arguments_of meaning place (x ∷ xs) =
      both (argument_breach meaning place (expr_found unit x)).miscount (arguments_breach meaning (suc place) (map (expr_found unit) xs)).miscount (expr_references x) (in_all (map expr_references xs))
      (argument_clean meaning place (expr_found unit x) (expr_references x) (expr_clean x)) (arguments_of meaning (suc place) xs)

  member_base : (name : List ℕ) (meaning : Meant) (args : Option (List Expr)) → (is_some (unit.known name).bounds ≡ true → meaning ≡ meant.Element) → Clean unit (base_found unit name meaning (option_map (map (expr_found unit)) args)).breach.miscount (in_list (option_map (map expr_references) args) ++ listed_name name (option_map (map expr_references) args))
  member_base name meaning None h = none false
  member_base name meaning (Some xs) h =
      both (arguments_breach meaning 0 (map (expr_found unit) xs)).miscount (is_miscounted (unit.known name) meaning (length (map (expr_found unit) xs))) (in_all (map expr_references xs)) (record { name = name; count = length (map expr_references xs) } ∷ [])
      (arguments_of meaning 0 xs)
      (subst (λ n. Clean unit (is_miscounted (unit.known name) meaning (length (map (expr_found unit) xs))) (record { name = name; count = n } ∷ [])) (same_count xs) (counted_one name meaning (length (map (expr_found unit) xs)) h))

  member_with : (found : Found) (xs : List Reference) (part : Option Part) → Clean unit found.breach.miscount xs → Clean unit (with_part found (option_map (part_breach unit) part)).breach.miscount (xs ++ if_some (option_map part_references part))
  member_with found xs None h = padded found.breach.miscount xs h
  member_with found xs (Some p) h = both found.breach.miscount ((part_breach unit p).miscount || false) xs (part_references p) h (left (part_breach unit p).miscount false (part_references p) (part_clean p))

  pub member_clean : (r : Ref) → Clean unit (member_found unit r).breach.miscount (member_references r)
  member_clean r =
      let name = (out-Ref r).name in
      let meaning = member_meant (unit.known name) in
      member_with (base_found unit name meaning (option_map (map (expr_found unit)) (out-Ref r).args)) (in_list (option_map (map expr_references) (out-Ref r).args) ++ listed_name name (option_map (map expr_references) (out-Ref r).args)) (out-Ref r).part
      (member_base name meaning (out-Ref r).args (member_element (unit.known name)))
