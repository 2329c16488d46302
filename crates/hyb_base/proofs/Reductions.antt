-- The laws of the operators of accumulations.
use Rattle.std.proofs.Common.{◌≡◌, ℕ, zero, suc, ◌-◌, ◌^◌, ℤ, pos, negsuc, ◌+ℤ◌, ◌*ℤ◌, refl, sym, ◌∙◌, ap, arith, w64, FitsSigned, Bool, true, false}
use Rattle.std.specs.Prelude.{neg_ℤ, not, ◌&&◌, ◌||◌}
use Rattle.std.specs.Int.{int_max, int_min}
use Rattle.std.proofs.Math.IntN.{+ℤ_assoc, +ℤ_comm, +ℤ_idl, *ℤ_comm, *ℤ-zero, *ℤ-negsuc, neg_ℤ-neg_ℤ}
use Rattle.std.proofs.Math.Nat.{mul_assoc}
use Rattle.std.proofs.lemmas.Int.{ints, SFits-int_wrap, int_wrap_fits, int_wrap-add_left, int_wrap-add_right, int_wrap-mul_left, int_wrap-mul_right}
use Rattle.hyb_base.specs.Wrap.{wrapped}
use Rattle.hyb_base.specs.Reduction.{truth_of, number_of, agree, apply, identity, ReducesAsOne, OperatorsReduce}
use Rattle.hyb_base.specs.declared.ops.RedOp.TheVariants.{Add, Mul, Max, Min, And, Or, Eqv, Neqv}

-- products of integers
times-neg : (m k : ℤ) → m *ℤ neg_ℤ k ≡ neg_ℤ (m *ℤ k)
times-neg m (pos zero) = *ℤ-zero m ∙ sym (ap neg_ℤ (*ℤ-zero m))
times-neg m (pos (suc n)) = *ℤ-negsuc m n
times-neg m (negsuc n) = sym (neg_ℤ-neg_ℤ _) ∙ sym (ap neg_ℤ (*ℤ-negsuc m n))

neg-times : (m k : ℤ) → neg_ℤ m *ℤ k ≡ neg_ℤ (m *ℤ k)
neg-times m k = *ℤ_comm (neg_ℤ m) k ∙ times-neg k m ∙ ap neg_ℤ (*ℤ_comm k m)

abbrev Groups : ℤ → ℤ → ℤ → Type 0
Groups a b c = (a *ℤ b) *ℤ c ≡ a *ℤ (b *ℤ c)

last-negative : (a b c : ℤ) → Groups a b c → Groups a b (neg_ℤ c)
last-negative a b c h = times-neg (a *ℤ b) c ∙ ap neg_ℤ h ∙ sym (times-neg a (b *ℤ c)) ∙ ap (λ z. a *ℤ z) (sym (times-neg b c))

second-negative : (a b c : ℤ) → Groups a b c → Groups a (neg_ℤ b) c
second-negative a b c h =
    ap (λ z. z *ℤ c) (times-neg a b) ∙ neg-times (a *ℤ b) c ∙ ap neg_ℤ h ∙ sym (times-neg a (b *ℤ c)) ∙ ap (λ z. a *ℤ z) (sym (neg-times b c))

first-negative : (a b c : ℤ) → Groups a b c → Groups (neg_ℤ a) b c
first-negative a b c h = ap (λ z. z *ℤ c) (neg-times a b) ∙ neg-times (a *ℤ b) c ∙ ap neg_ℤ h ∙ sym (neg-times a (b *ℤ c))

all-natural : (a b c : ℕ) → Groups (pos a) (pos b) (pos c)
all-natural a b c = ap pos (mul_assoc a b c)

last-any : (a b : ℕ) (c : ℤ) → Groups (pos a) (pos b) c
last-any a b (pos c) = all-natural a b c
last-any a b (negsuc n) = last-negative (pos a) (pos b) (pos (suc n)) (all-natural a b (suc n))

second-any : (a : ℕ) (b c : ℤ) → Groups (pos a) b c
second-any a (pos b) c = last-any a b c
second-any a (negsuc n) c = second-negative (pos a) (pos (suc n)) c (last-any a (suc n) c)

times_assoc : (a b c : ℤ) → Groups a b c
times_assoc (pos a) b c = second-any a b c
times_assoc (negsuc n) b c = first-negative (pos (suc n)) b c (second-any (suc n) b c)

-- sums
add : ReducesAsOne Add
add = record {
  fits = λ x y. SFits-int_wrap w64 (x +ℤ y);
  groups = λ x y z. int_wrap-add_left w64 (x +ℤ y) z ∙ ap wrapped (+ℤ_assoc x y z) ∙ sym (int_wrap-add_right w64 x (y +ℤ z));
  commutes = λ x y. ap wrapped (+ℤ_comm x y);
  starts = λ x y. int_wrap-add_right w64 x (pos 0 +ℤ y) ∙ ap (λ z. wrapped (x +ℤ z)) (+ℤ_idl y);
}

one-times : (y : ℤ) → pos 1 *ℤ y ≡ y
one-times (pos n) = omega (arith, ints)
one-times (negsuc n) = omega (arith, ints)

-- products
mul : ReducesAsOne Mul
mul = record {
  fits = λ x y. SFits-int_wrap w64 (x *ℤ y);
  groups = λ x y z. int_wrap-mul_left w64 (x *ℤ y) z ∙ ap wrapped (times_assoc x y z) ∙ sym (int_wrap-mul_right w64 x (y *ℤ z));
  commutes = λ x y. ap wrapped (*ℤ_comm x y);
  starts = λ x y. int_wrap-mul_right w64 x (pos 1 *ℤ y) ∙ ap (λ z. wrapped (x *ℤ z)) (one-times y);
}

-- the greater and the lesser of two that fit
max_fits : (x y : ℤ) → FitsSigned w64 x → FitsSigned w64 y → FitsSigned w64 (int_max x y)
max_fits x y f g = grind (arith, ints)

min_fits : (x y : ℤ) → FitsSigned w64 x → FitsSigned w64 y → FitsSigned w64 (int_min x y)
min_fits x y f g = grind (arith, ints)

max_assoc : (x y z : ℤ) → int_max (int_max x y) z ≡ int_max x (int_max y z)
max_assoc x y z = grind (arith, ints)

min_assoc : (x y z : ℤ) → int_min (int_min x y) z ≡ int_min x (int_min y z)
min_assoc x y z = grind (arith, ints)

max_comm : (x y : ℤ) → int_max x y ≡ int_max y x
max_comm x y = grind (arith, ints)

min_comm : (x y : ℤ) → int_min x y ≡ int_min y x
min_comm x y = grind (arith, ints)

least : (y : ℤ) → FitsSigned w64 y → int_max (negsuc (2 ^ 63 - 1)) y ≡ y
least y f = grind (arith, ints)

greatest : (y : ℤ) → FitsSigned w64 y → int_min (pos (2 ^ 63 - 1)) y ≡ y
greatest y f = grind (arith, ints)

-- MAX and MIN
max : ReducesAsOne Max
max = record {
  fits = λ x y. max_fits (wrapped x) (wrapped y) (SFits-int_wrap w64 x) (SFits-int_wrap w64 y);
  groups = λ x y z. ap (λ m. int_max m (wrapped z)) (kept x y) ∙ max_assoc (wrapped x) (wrapped y) (wrapped z) ∙ sym (ap (int_max (wrapped x)) (kept y z));
  commutes = λ x y. max_comm (wrapped x) (wrapped y);
  starts = λ x y. ap (int_max (wrapped x)) (kept (identity Max) y ∙ ap (λ m. int_max m (wrapped y)) least_stays ∙ least (wrapped y) (SFits-int_wrap w64 y));
}
  where
    kept : (x y : ℤ) → wrapped (apply Max x y) ≡ apply Max x y
    kept x y = int_wrap_fits w64 _ (max_fits (wrapped x) (wrapped y) (SFits-int_wrap w64 x) (SFits-int_wrap w64 y))

    least_stays : wrapped (negsuc (2 ^ 63 - 1)) ≡ negsuc (2 ^ 63 - 1)
    least_stays = int_wrap_fits w64 _ (omega (arith, ints))

min : ReducesAsOne Min
min = record {
  fits = λ x y. min_fits (wrapped x) (wrapped y) (SFits-int_wrap w64 x) (SFits-int_wrap w64 y);
  groups = λ x y z. ap (λ m. int_min m (wrapped z)) (kept x y) ∙ min_assoc (wrapped x) (wrapped y) (wrapped z) ∙ sym (ap (int_min (wrapped x)) (kept y z));
  commutes = λ x y. min_comm (wrapped x) (wrapped y);
  starts = λ x y. ap (int_min (wrapped x)) (kept (identity Min) y ∙ ap (λ m. int_min m (wrapped y)) greatest_stays ∙ greatest (wrapped y) (SFits-int_wrap w64 y));
}
  where
    kept : (x y : ℤ) → wrapped (apply Min x y) ≡ apply Min x y
    kept x y = int_wrap_fits w64 _ (min_fits (wrapped x) (wrapped y) (SFits-int_wrap w64 x) (SFits-int_wrap w64 y))

    greatest_stays : wrapped (pos (2 ^ 63 - 1)) ≡ pos (2 ^ 63 - 1)
    greatest_stays = int_wrap_fits w64 _ (omega (arith, ints))

-- a truth that is written as a number is read back
truth_is_kept : (b : Bool) → truth_of (number_of b) ≡ b
truth_is_kept true = refl
truth_is_kept false = refl

truth_fits : (b : Bool) → FitsSigned w64 (number_of b)
truth_fits true = omega (arith, ints)
truth_fits false = omega (arith, ints)

-- an operator on truths, with the truth that it starts with
record OnTruth (f : Bool → Bool → Bool) (start : Bool) : Type 0 where
  groups : (a b c : Bool) → f (f a b) c ≡ f a (f b c)
  commutes : (a b : Bool) → f a b ≡ f b a
  starts : (a b : Bool) → f a (f start b) ≡ f a b

-- it gives the same of numbers
abbrev of_truths : (Bool → Bool → Bool) → ℤ → ℤ → ℤ
of_truths f x y = number_of (f (truth_of x) (truth_of y))

record OnNumbers (f : Bool → Bool → Bool) (start : ℤ) : Type 0 where
  fits : (x y : ℤ) → FitsSigned w64 (of_truths f x y)
  groups : (x y z : ℤ) → of_truths f (of_truths f x y) z ≡ of_truths f x (of_truths f y z)
  commutes : (x y : ℤ) → of_truths f x y ≡ of_truths f y x
  starts : (x y : ℤ) → of_truths f x (of_truths f start y) ≡ of_truths f x y

on_numbers : (f : Bool → Bool → Bool) (start : ℤ) → OnTruth f (truth_of start) → OnNumbers f start
on_numbers f start h = record {
  fits = λ x y. truth_fits (f (truth_of x) (truth_of y));
  groups = λ x y z. ap (λ b. number_of (f b (truth_of z))) (truth_is_kept _) ∙ ap number_of (h.groups (truth_of x) (truth_of y) (truth_of z)) ∙ sym (ap (λ b. number_of (f (truth_of x) b)) (truth_is_kept _));
  commutes = λ x y. ap number_of (h.commutes (truth_of x) (truth_of y));
  starts = λ x y. ap (λ b. number_of (f (truth_of x) b)) (truth_is_kept _) ∙ ap number_of (h.starts (truth_of x) (truth_of y));
}

and : OnTruth (λ a b. a && b) true
and = record { groups = g; commutes = c; starts = λ a b. refl }
  where
    g : (a b c : Bool) → (a && b) && c ≡ a && (b && c)
    g true b c = refl
    g false b c = refl

    c : (a b : Bool) → a && b ≡ b && a
    c true true = refl
    c true false = refl
    c false true = refl
    c false false = refl

or : OnTruth (λ a b. a || b) false
or = record { groups = g; commutes = c; starts = λ a b. refl }
  where
    g : (a b c : Bool) → (a || b) || c ≡ a || (b || c)
    g true b c = refl
    g false b c = refl

    c : (a b : Bool) → a || b ≡ b || a
    c true true = refl
    c true false = refl
    c false true = refl
    c false false = refl

eqv : OnTruth agree true
eqv = record { groups = g; commutes = c; starts = λ a b. refl }
  where
    g : (a b c : Bool) → agree (agree a b) c ≡ agree a (agree b c)
    g true b c = refl
    g false true c = refl
    g false false true = refl
    g false false false = refl

    c : (a b : Bool) → agree a b ≡ agree b a
    c true true = refl
    c true false = refl
    c false true = refl
    c false false = refl

neqv : OnTruth (λ a b. not (agree a b)) false
neqv = record { groups = g; commutes = c; starts = s }
  where
    g : (a b c : Bool) → not (agree (not (agree a b)) c) ≡ not (agree a (not (agree b c)))
    g true true true = refl
    g true true false = refl
    g true false true = refl
    g true false false = refl
    g false true true = refl
    g false true false = refl
    g false false true = refl
    g false false false = refl

    c : (a b : Bool) → not (agree a b) ≡ not (agree b a)
    c true true = refl
    c true false = refl
    c false true = refl
    c false false = refl

    s : (a b : Bool) → not (agree a (not (agree false b))) ≡ not (agree a b)
    s a true = refl
    s a false = refl

pub operators_reduce : OperatorsReduce
operators_reduce Add = add
operators_reduce Mul = mul
operators_reduce Max = max
operators_reduce Min = min
operators_reduce And = let h = on_numbers _ (pos 1) and in record { fits = h.fits; groups = h.groups; commutes = h.commutes; starts = h.starts }
operators_reduce Or = let h = on_numbers _ (pos 0) or in record { fits = h.fits; groups = h.groups; commutes = h.commutes; starts = h.starts }
operators_reduce Eqv = let h = on_numbers _ (pos 1) eqv in record { fits = h.fits; groups = h.groups; commutes = h.commutes; starts = h.starts }
operators_reduce Neqv = let h = on_numbers _ (pos 0) neqv in record { fits = h.fits; groups = h.groups; commutes = h.commutes; starts = h.starts }
