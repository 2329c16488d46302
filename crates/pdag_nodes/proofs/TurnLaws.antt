-- Numbers from 1 to a count.
use Rattle.std.proofs.Common.{◌≡◌, ℕ, zero, suc, ◌+◌, ◌<◌, ◌≤◌, ◌⊎◌, inl, inr, ℤ, pos, Bool, true, false, ◌&&◌, refl, ap, sym, subst, ◌∙◌, arith, add-one}
use Rattle.pdag_nodes.specs.Turns.{each_to, sum_to}

pub cut : (i n : ℕ) → i < suc n → (i < n) ⊎ (i ≡ n)
cut zero zero h = inr refl
cut zero (suc n) h = inl (omega arith)
cut (suc i) zero h = absurd (omega arith)
cut (suc i) (suc n) h = go (cut i n (omega arith))
  where
    go : (i < n) ⊎ (i ≡ n) → (suc i < suc n) ⊎ (suc i ≡ suc n)
    go (inl k) = inl (omega arith)
    go (inr k) = inr (ap suc k)

and_true : (a b : Bool) → a ≡ true → b ≡ true → (a && b) ≡ true
and_true a b h k = λ i. h i && k i

and_false_left : (a b : Bool) → a ≡ false → (a && b) ≡ false
and_false_left a b h = λ i. h i && b

and_false_right : (a b : Bool) → b ≡ false → (a && b) ≡ false
and_false_right true b h = h
and_false_right false b h = refl

pub each_true : (n : ℕ) (test : ℤ → Bool) → ((k : ℕ) → k < n → test (pos (suc k)) ≡ true) → each_to n test ≡ true
each_true zero test h = refl
each_true (suc n) test h = and_true (each_to n test) (test (pos (suc n))) (each_true n test (λ k less. h k (omega (arith, less)))) (h n (omega arith))

pub each_false : (n : ℕ) (test : ℤ → Bool) (k : ℕ) → k < n → test (pos (suc k)) ≡ false → each_to n test ≡ false
each_false zero test k h e = absurd (omega arith)
each_false (suc n) test k h e = go (cut k n h) (λ less. each_false n test k less e)
  where
    go : (k < n) ⊎ (k ≡ n) → (k < n → each_to n test ≡ false) → (each_to n test && test (pos (suc n))) ≡ false
    go (inl less) before = and_false_left (each_to n test) (test (pos (suc n))) (before less)
    go (inr same) before = and_false_right (each_to n test) (test (pos (suc n))) (subst (λ m. test (pos (suc m)) ≡ false) same e)

pub each_more : (n : ℕ) (test : ℤ → Bool) → each_to n test ≡ true → test (pos (n + 1)) ≡ true → each_to (n + 1) test ≡ true
each_more n test h k = ap (λ m. each_to m test) (add-one n) ∙ and_true (each_to n test) (test (pos (suc n))) h (ap (λ m. test (pos m)) (sym (add-one n)) ∙ k)

pub sum_more : (n : ℕ) (f : ℤ → ℕ) → sum_to (n + 1) f ≡ sum_to n f + f (pos (n + 1))
sum_more n f = ap (λ m. sum_to m f) (add-one n) ∙ ap (λ m. sum_to n f + f (pos m)) (sym (add-one n))

pub sum_grows : (k n : ℕ) (f : ℤ → ℕ) → k ≤ n → sum_to k f ≤ sum_to n f
sum_grows k zero f h = let e : k ≡ 0 = omega arith in subst (λ m. sum_to m f ≤ 0) (sym e) (omega arith)
sum_grows k (suc n) f h = go (cut k (suc n) (omega arith)) (λ less. sum_grows k n f less)
  where
    go : (k < suc n) ⊎ (k ≡ suc n) → (k ≤ n → sum_to k f ≤ sum_to n f) → sum_to k f ≤ (sum_to n f + f (pos (suc n)))
    go (inl less) before = let b = before (omega (arith, less)) in omega (arith, b)
    go (inr same) before = subst (λ m. sum_to m f ≤ (sum_to n f + f (pos (suc n)))) (sym same) (omega arith)

-- one turn more than k, of n in all
pub sum_within : (k n : ℕ) (f : ℤ → ℕ) → k < n → (sum_to k f + f (pos (k + 1))) ≤ sum_to n f
sum_within k n f h = let e = sum_more k f in let g = sum_grows (k + 1) n f (omega arith) in omega (arith, e, g)

pub each_failed : (k n : ℕ) (test : ℤ → Bool) → k < n → test (pos (k + 1)) ≡ false → each_to n test ≡ false
each_failed k n test h e = each_false n test k h (ap (λ m. test (pos m)) (sym (add-one k)) ∙ e)
