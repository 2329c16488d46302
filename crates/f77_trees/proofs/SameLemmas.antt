-- Lists of trees, one after another.
use Rattle.std.proofs.Common.{◌≡◌, ◌≢◌, ℕ, zero, suc, ◌+◌, ◌<◌, ◌≤◌, Bool, true, false, ◌&&◌, List, [], ◌∷◌, length, map, drop, refl, ap, get_or, subst, arith}
use Rattle.f77_ast.specs.declared.expr.Expr.{Expr}
use Rattle.f77_trees.specs.Same.{same_list, same_expr}

-- lists of unequal lengths aren't the same
pub unequal_lengths : (xs ys : List Expr) → length xs ≢ length ys → same_list (map same_expr xs) ys ≡ false
unequal_lengths [] [] n = absurd (n refl)
unequal_lengths [] (y ∷ ys) n = refl
unequal_lengths (x ∷ xs) [] n = refl
unequal_lengths (x ∷ xs) (y ∷ ys) n = by (same_expr x y) (unequal_lengths xs ys (λ e. n (ap suc e)))
  where
    by : (b : Bool) → same_list (map same_expr xs) ys ≡ false → (b && same_list (map same_expr xs) ys) ≡ false
    by true e = e
    by false e = refl

-- the trees from a place on: those at the place, and those after it
pub same_list-step : (xs ys : List Expr) (place : ℕ) (d e : Expr) → place < length xs → place < length ys → same_list (map same_expr (drop place xs)) (drop place ys) ≡ (same_expr (get_or xs place d) (get_or ys place e) && same_list (map same_expr (drop (place + 1) xs)) (drop (place + 1) ys))
same_list-step [] ys place d e h k = absurd (omega (arith, h))
same_list-step (a ∷ xs) [] place d e h k = absurd (omega (arith, k))
same_list-step (a ∷ xs) (b ∷ ys) zero d e h k = refl
same_list-step (a ∷ xs) (b ∷ ys) (suc place) d e h k =
    let next : suc (place + 1) ≡ suc place + 1 = omega arith in
    subst (λ n. same_list (map same_expr (drop place xs)) (drop place ys) ≡ (same_expr (get_or xs place d) (get_or ys place e) && same_list (map same_expr (drop n (a ∷ xs))) (drop n (b ∷ ys)))) next
    (same_list-step xs ys place d e (omega (arith, h)) (omega (arith, k)))

-- nothing is left past the end
drop-past : {A : Type 0} (xs : List A) (place : ℕ) → length xs ≤ place → drop place xs ≡ []
drop-past [] zero h = refl
drop-past [] (suc place) h = refl
drop-past (x ∷ xs) zero h = absurd (omega (arith, h))
drop-past (x ∷ xs) (suc place) h = drop-past xs place (omega (arith, h))

-- no trees are left
pub same_list-end : (xs ys : List Expr) (place : ℕ) → length xs ≤ place → length ys ≤ place → same_list (map same_expr (drop place xs)) (drop place ys) ≡ true
same_list-end xs ys place h k = rw (drop-past xs place h) (rw (drop-past ys place k) refl)
