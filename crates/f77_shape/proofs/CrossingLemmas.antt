-- Ranges that cross, and ranges that leave a block, by what a stretch holds.
use Rattle.std.proofs.Common.{◌≡◌, ℕ, suc, ◌+◌, ◌<◌, Bool, true, false, not, ◌&&◌, ◌||◌, nat_lt, List, [], ◌∷◌, refl, ap, ◌∙◌, arith}
use Rattle.std.proofs.lemmas.Bool.Decides.{nat_tests}
use Rattle.std.specs.List.{list_any}
use Rattle.f77_structure.specs.declared.stretches.Stretch.{Stretch}
use Rattle.f77_shape.specs.Jumps.{is_entered}
use Rattle.f77_shape.specs.Ranges.{crosses, is_one_of}
use Rattle.f77_structure.specs.Stretches.{holds}

shuffle : (a b c d : Bool) → ((a || b) || (c || d)) ≡ ((a || c) || (b || d))
shuffle true b c d = refl
shuffle false true true d = refl
shuffle false true false d = refl
shuffle false false c d = refl

-- two tests, where a third says the same as both
pub any_either : (test one other : Stretch → Bool) (xs : List Stretch) → ((s : Stretch) → test s ≡ (one s || other s)) → list_any test xs ≡ (list_any one xs || list_any other xs)
any_either test one other [] h = refl
any_either test one other (x ∷ xs) h =
    ap (λ b. b || list_any test xs) (h x)
    ∙ ap (λ b. (one x || other x) || b) (any_either test one other xs h)
    ∙ shuffle (one x) (other x) (list_any one xs) (list_any other xs)

or_swap : (a b : Bool) → (a || b) ≡ (b || a)
or_swap true true = refl
or_swap true false = refl
or_swap false true = refl
or_swap false false = refl

inner_crosses : (d t o l : ℕ) → d < t → ((nat_lt o d && nat_lt d (suc l)) && nat_lt l t) ≡ ((nat_lt o d && nat_lt d (suc l)) && not (nat_lt o t && nat_lt t (suc l)))
inner_crosses d t o l h = grind (arith, nat_tests)

outer_crosses : (d t o l : ℕ) → d < t → ((nat_lt d o && nat_lt o (suc t)) && nat_lt t l) ≡ ((nat_lt o (t + 1) && nat_lt (t + 1) (suc l)) && not (nat_lt o (d + 1) && nat_lt (d + 1) (suc l)))
outer_crosses d t o l h = grind (arith, nat_tests)

pub any_crosses : (d t : ℕ) (ranges : List Stretch) → d < t → list_any (λ other. crosses (record { opens = d; last = t }) other || crosses other (record { opens = d; last = t })) ranges ≡ (list_any (is_entered t d) ranges || list_any (is_entered (d + 1) (t + 1)) ranges)
any_crosses d t ranges h =
    any_either (λ other. crosses (record { opens = d; last = t }) other || crosses other (record { opens = d; last = t })) (is_entered t d) (is_entered (d + 1) (t + 1)) ranges
    (λ s. or_swap (crosses (record { opens = d; last = t }) s) (crosses s (record { opens = d; last = t }))
    ∙ ap (λ b. b || crosses (record { opens = d; last = t }) s) (inner_crosses d t s.opens s.last h)
    ∙ ap (λ b. is_entered t d s || b) (outer_crosses d t s.opens s.last h))

one_of : (a b : Bool) → is_one_of a b ≡ ((a && not b) || (b && not a))
one_of true true = refl
one_of true false = refl
one_of false true = refl
one_of false false = refl

pub any_leaves : (d t : ℕ) (blocks : List Stretch) → list_any (λ block. is_one_of (holds block d) (holds block t)) blocks ≡ (list_any (is_entered t d) blocks || list_any (is_entered d t) blocks)
any_leaves d t blocks = any_either (λ block. is_one_of (holds block d) (holds block t)) (is_entered t d) (is_entered d t) blocks (λ s. one_of (holds s d) (holds s t))
