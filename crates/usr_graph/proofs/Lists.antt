-- Sets of numbers that a list gives.
use Rattle.std.proofs.Common.{ℕ, zero, suc, ◌≡◌, ◌⊎◌, inl, inr, ℤ, pos, negsuc, true, false, int_eq, List, [], ◌∷◌, ◌++◌, Contains, refl, sym, subst, arith, rules}
use Rattle.std.proofs.lemmas.List.Elements.{Contains-append_left, Contains-append_right, Contains-append_cases}
use Rattle.std.proofs.lemmas.Bool.Decides.{Decides-int_eq}
use Rattle.std.proofs.lemmas.Int.{ints, by_lt_z}
use Rattle.uses.specs.Over.{Over}

-- a list has the numbers of a set
pub record Lists (P : ℤ → Type 0) : Type 0 where
  pub numbers : List ℤ
  pub has : (a : ℤ) → Contains numbers a → P a
  pub all : (a : ℤ) → P a → Contains numbers a

-- a fact holds or doesn't
abbrev pub Decided : Type 0 → Type 0
Decided P = P ⊎ (P → ⊥)

pub same_int : (x y : ℤ) → Decided (x ≡ y)
same_int x y = let d = Decides-int_eq x y in (elim (int_eq x y) as (λ t. int_eq x y ≡ t → (x ≡ y) ⊎ (x ≡ y → ⊥)) [ true ↦ λ e. inl (d.0 e) | false ↦ λ e. inr (λ h. let k = d.1 h in cc) ]) refl

no_item : (a : ℤ) → Contains [] a → ⊥
no_item a h = omega (arith, h.1)

first_item : (x : ℤ) (xs : List ℤ) → Contains (x ∷ xs) x
first_item x xs = search rules

later_item : (x a : ℤ) (xs : List ℤ) → Contains xs a → Contains (x ∷ xs) a
later_item x a xs h = Contains-append_right (x ∷ []) xs a h

item_cases : (x a : ℤ) (xs : List ℤ) → Contains (x ∷ xs) a → (x ≡ a) ⊎ Contains xs a
item_cases x a xs h = elim (Contains-append_cases (x ∷ []) xs a h) as (λ _. (x ≡ a) ⊎ Contains xs a) [ inl k ↦ inl (one x a k) | inr k ↦ inr k ]
  where
    one : (x a : ℤ) → Contains (x ∷ []) a → x ≡ a
    one x a h = search rules

pub lists_none : (P : ℤ → Type 0) → ((a : ℤ) → P a → ⊥) → Lists P
lists_none P never = record { numbers = []; has = λ a h. absurd (no_item a h); all = λ a h. absurd (never a h) }

pub lists_of : (xs : List ℤ) → Lists (λ a. Contains xs a)
lists_of xs = record { numbers = xs; has = λ a h. h; all = λ a h. h }

pub lists_as : (P Q : ℤ → Type 0) → Lists P → ((a : ℤ) → P a → Q a) → ((a : ℤ) → Q a → P a) → Lists Q
lists_as P Q l f g = record { numbers = l.numbers; has = λ a h. f a (l.has a h); all = λ a h. l.all a (g a h) }

pub lists_or : (P Q : ℤ → Type 0) → Lists P → Lists Q → Lists (λ a. P a ⊎ Q a)
lists_or P Q p q = record {
  numbers = p.numbers ++ q.numbers;
  has = λ a h. elim (Contains-append_cases p.numbers q.numbers a h) as (λ _. P a ⊎ Q a) [ inl k ↦ inl (p.has a k) | inr k ↦ inr (q.has a k) ];
  all = λ a h. elim h as (λ _. Contains (p.numbers ++ q.numbers) a) [ inl k ↦ Contains-append_left p.numbers q.numbers a (p.all a k) | inr k ↦ Contains-append_right p.numbers q.numbers a (q.all a k) ];
}

-- whether a number is in a list
in_list : (xs : List ℤ) (a : ℤ) → Decided (Contains xs a)
in_list [] a = inr (no_item a)
in_list (x ∷ xs) a = elim (same_int x a) as (λ _. Contains (x ∷ xs) a ⊎ (Contains (x ∷ xs) a → ⊥)) [
  | inl e ↦ inl (subst (λ b. Contains (x ∷ xs) b) e (first_item x xs))
  | inr n ↦ (elim (in_list xs a) as (λ _. Contains (x ∷ xs) a ⊎ (Contains (x ∷ xs) a → ⊥)) [
    | inl k ↦ inl (later_item x a xs k)
    | inr m ↦ inr (λ h. elim (item_cases x a xs h) as (λ _. ⊥) [ inl e ↦ n e | inr k ↦ m k ])
  ])
]

pub is_listed : (P : ℤ → Type 0) → Lists P → (a : ℤ) → Decided (P a)
is_listed P l a = elim (in_list l.numbers a) as (λ _. P a ⊎ (P a → ⊥)) [ inl k ↦ inl (l.has a k) | inr n ↦ inr (λ h. n (l.all a h)) ]

pub negated : (P : Type 0) → Decided P → Decided (P → ⊥)
negated P (inl p) = inr (λ n. n p)
negated P (inr n) = inl n

-- those of a list of which something holds
sifted : (Q : ℤ → Type 0) → ((a : ℤ) → Decided (Q a)) → (xs : List ℤ) → Lists (λ a. Contains xs a × Q a)
sifted Q d [] = lists_none _ (λ a h. no_item a h.0)
sifted Q d (x ∷ xs) = elim (d x) as (λ _. Lists (λ a. Contains (x ∷ xs) a × Q a)) [
  | inl q ↦ record {
    numbers = x ∷ (sifted Q d xs).numbers;
    has = λ a h. elim (item_cases x a (sifted Q d xs).numbers h) as (λ _. Contains (x ∷ xs) a × Q a) [ inl e ↦ subst (λ b. Contains (x ∷ xs) b × Q b) e (first_item x xs, q) | inr k ↦ (later_item x a xs ((sifted Q d xs).has a k).0, ((sifted Q d xs).has a k).1) ];
    all = λ a h. elim (item_cases x a xs h.0) as (λ _. Contains (x ∷ (sifted Q d xs).numbers) a) [ inl e ↦ subst (λ b. Contains (x ∷ (sifted Q d xs).numbers) b) e (first_item x (sifted Q d xs).numbers) | inr k ↦ later_item x a (sifted Q d xs).numbers ((sifted Q d xs).all a (k, h.1)) ];
  }
  | inr n ↦ record {
    numbers = (sifted Q d xs).numbers;
    has = λ a h. (later_item x a xs ((sifted Q d xs).has a h).0, ((sifted Q d xs).has a h).1);
    all = λ a h. elim (item_cases x a xs h.0) as (λ _. Contains (sifted Q d xs).numbers a) [ inl e ↦ absurd (n (subst Q (sym e) h.1)) | inr k ↦ (sifted Q d xs).all a (k, h.1) ];
  }
]

pub lists_where : (P Q : ℤ → Type 0) → Lists P → ((a : ℤ) → Decided (Q a)) → Lists (λ a. P a × Q a)
lists_where P Q l d = lists_as (λ a. Contains l.numbers a × Q a) (λ a. P a × Q a) (sifted Q d l.numbers) (λ a h. (l.has a h.0, h.1)) (λ a h. (l.all a h.0, h.1))

pub lists_if : (C : Type 0) (P : ℤ → Type 0) → Decided C → Lists P → Lists (λ a. C × P a)
lists_if C P (inl c) l = lists_as P (λ a. C × P a) l (λ a h. (c, h)) (λ a h. h.1)
lists_if C P (inr n) l = lists_none _ (λ a h. n h.0)

-- ---- at a number from 1 to another

more : (n : ℕ) (at : ℤ → Type 0) → Over (pos n) at → Over (pos (suc n)) at
more n at h = record { index = h.index; from_one = h.from_one; in_count = (let k = h.in_count in omega (arith, ints, k)); holds = h.holds }

last : (n : ℕ) (at : ℤ → Type 0) → at (pos (suc n)) → Over (pos (suc n)) at
last n at h = record { index = pos (suc n); from_one = omega (arith, ints); in_count = omega (arith, ints); holds = h }

split : (n : ℕ) (at : ℤ → Type 0) → Over (pos (suc n)) at → Over (pos n) at ⊎ at (pos (suc n))
split n at h = by_lt_z h.index (pos (suc n))
    (λ l. inl (record { index = h.index; from_one = h.from_one; in_count = omega (arith, ints, l); holds = h.holds }))
    (λ g. inr (let e : h.index ≡ pos (suc n) = (let k = h.in_count in omega (arith, ints, g, k)) in subst at e h.holds))

lists_upto : (n : ℕ) (P : ℤ → ℤ → Type 0) → ((i : ℤ) → Lists (P i)) → Lists (λ a. Over (pos n) (λ i. P i a))
lists_upto zero P l = lists_none _ (λ a h. let x = h.from_one in let y = h.in_count in omega (arith, ints, x, y))
lists_upto (suc n) P l = lists_as (λ a. Over (pos n) (λ i. P i a) ⊎ P (pos (suc n)) a) (λ a. Over (pos (suc n)) (λ i. P i a)) (lists_or _ _ (lists_upto n P l) (l (pos (suc n))))
    (λ a h. elim h as (λ _. Over (pos (suc n)) (λ i. P i a)) [ inl k ↦ more n (λ i. P i a) k | inr k ↦ last n (λ i. P i a) k ])
    (λ a h. split n (λ i. P i a) h)

pub lists_over : (n : ℤ) (P : ℤ → ℤ → Type 0) → ((i : ℤ) → Lists (P i)) → Lists (λ a. Over n (λ i. P i a))
lists_over (pos n) P l = lists_upto n P l
lists_over (negsuc n) P l = lists_none _ (λ a h. let x = h.from_one in let y = h.in_count in omega (arith, ints, x, y))
