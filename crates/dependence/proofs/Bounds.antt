-- Searches among the numbers below a limit, and among the iterations of an execution.
use Rattle.std.proofs.Common.{ℕ, zero, suc, ◌≡◌, ◌<◌, ◌≤◌, ◌⊎◌, inl, inr, Bool, true, false, List, [], ◌∷◌, ◌++◌, length, nat_lt, refl, sym, ap, ◌∙◌, subst, arith, true≢false, ltb-true, ltb-false}
use Rattle.dependence.specs.Conflicts.{IsFirst, IsLast}
use Rattle.dependence.specs.Executions.{Trace, trace_of}

pub by_test : (b : Bool) → (b ≡ false) ⊎ (b ≡ true)
by_test true = inr refl
by_test false = inl refl

pub lt_or_le : (m n : ℕ) → (m < n) ⊎ (n ≤ m)
lt_or_le m n = (elim (nat_lt m n) as (λ w. nat_lt m n ≡ w → (m < n) ⊎ (n ≤ m)) [ true ↦ λ e. inl (ltb-true m n e) | false ↦ λ e. inr (ltb-false m n e) ]) refl

pub lt_or_eq : (m n : ℕ) → m < suc n → (m < n) ⊎ (m ≡ n)
lt_or_eq m n h = elim (lt_or_le m n) [ inl l ↦ inl l | inr l ↦ inr (omega (arith, l, h)) ]

-- how two numbers stand
pub data Order (m n : ℕ) : Type 0 where
  less : m < n → Order m n
  same : m ≡ n → Order m n
  more : n < m → Order m n

pub order_of : (m n : ℕ) → Order m n
order_of m n = elim (lt_or_le m n) [ inl l ↦ less l | inr l ↦ elim (lt_or_le n m) [ inl g ↦ more g | inr g ↦ same (omega (arith, l, g)) ] ]

module _ (P Q : ℕ → Type 0) (decide : (n : ℕ) → P n ⊎ Q n) where
  -- all are P, or one is Q
  pub all_or : (limit : ℕ) → ((n : ℕ) → n < limit → P n) ⊎ ((n : ℕ) × ((n < limit) × Q n))
  all_or zero = inl (λ n h. absurd (omega (arith, h)))
  all_or (suc limit) = elim (all_or limit) [
    | inl all ↦ elim (decide limit) [
      | inl p ↦ inl (λ n h. elim (lt_or_eq n limit h) [ inl l ↦ all n l | inr e ↦ subst P (sym e) p ])
      | inr q ↦ inr (limit, (omega arith, q))
    ]
    | inr one ↦ inr (one.0, (omega (arith, one.1.0), one.1.1))
  ]

  -- all are P, or one is the first that is Q
  pub first_or : (limit : ℕ) → ((n : ℕ) → n < limit → P n) ⊎ ((n : ℕ) × (Q n × ((k : ℕ) → k < n → P k)))
  first_or zero = inl (λ n h. absurd (omega (arith, h)))
  first_or (suc limit) = elim (first_or limit) [
    | inl all ↦ elim (decide limit) [
      | inl p ↦ inl (λ n h. elim (lt_or_eq n limit h) [ inl l ↦ all n l | inr e ↦ subst P (sym e) p ])
      | inr q ↦ inr (limit, (q, all))
    ]
    | inr one ↦ inr one
  ]

  -- all are P, or one is the last that is Q
  pub last_or : (limit : ℕ) → ((n : ℕ) → n < limit → P n) ⊎ ((n : ℕ) × (Q n × ((k : ℕ) → n < k → k < limit → P k)))
  last_or zero = inl (λ n h. absurd (omega (arith, h)))
  last_or (suc limit) = elim (decide limit) [
    | inl p ↦ elim (last_or limit) [
      | inl all ↦ inl (λ n h. elim (lt_or_eq n limit h) [ inl l ↦ all n l | inr e ↦ subst P (sym e) p ])
      | inr one ↦ inr (one.0, (one.1.0, λ k above h. elim (lt_or_eq k limit h) [ inl l ↦ one.1.1 k above l | inr e ↦ subst P (sym e) p ]))
    ]
    | inr q ↦ inr (limit, (q, λ k above h. absurd (omega (arith, above, h))))
  ]

-- no iteration follows the last
pub beyond : (traces : List Trace) (k : ℕ) → length traces < k → trace_of traces k ≡ []
beyond [] k h = refl
beyond (trace ∷ traces) zero h = absurd (omega (arith, h))
beyond (trace ∷ traces) (suc zero) h = absurd (omega (arith, h))
beyond (trace ∷ traces) (suc (suc k)) h = beyond traces (suc k) (omega (arith, h))

-- a last trace without accesses is like none
pub last_empty : (traces : List Trace) (k : ℕ) → trace_of (traces ++ [] ∷ []) k ≡ trace_of traces k
last_empty [] zero = refl
last_empty [] (suc zero) = refl
last_empty [] (suc (suc k)) = refl
last_empty (trace ∷ traces) zero = refl
last_empty (trace ∷ traces) (suc zero) = refl
last_empty (trace ∷ traces) (suc (suc k)) = last_empty traces (suc k)

module _ (traces : List Trace) (f : Trace → Bool) (none : f [] ≡ false) where
  at_end : (k : ℕ) → length traces < k → f (trace_of traces k) ≡ false
  at_end k h = ap f (beyond traces k h) ∙ none

  within : ((n : ℕ) → n < suc (length traces) → f (trace_of traces n) ≡ false) → (k : ℕ) → f (trace_of traces k) ≡ false
  within all k = elim (lt_or_le k (suc (length traces))) [ inl l ↦ all k l | inr g ↦ at_end k (omega (arith, g)) ]

  -- no iteration passes a test, or one is the first that does; and the last
  pub first_test : ((k : ℕ) → f (trace_of traces k) ≡ false) ⊎ ((n : ℕ) × IsFirst (λ k. f (trace_of traces k)) n)
  first_test = elim (first_or (λ n. f (trace_of traces n) ≡ false) (λ n. f (trace_of traces n) ≡ true) (λ n. by_test (f (trace_of traces n))) (suc (length traces))) [
    | inl all ↦ inl (within all)
    | inr one ↦ inr (one.0, record { passes = one.1.0; least = λ k e. elim (lt_or_le k one.0) [ inl l ↦ absurd (true≢false (sym e ∙ one.1.1 k l)) | inr g ↦ g ] })
  ]

  pub last_test : ((k : ℕ) → f (trace_of traces k) ≡ false) ⊎ ((n : ℕ) × IsLast (λ k. f (trace_of traces k)) n)
  last_test = elim (last_or (λ n. f (trace_of traces n) ≡ false) (λ n. f (trace_of traces n) ≡ true) (λ n. by_test (f (trace_of traces n))) (suc (length traces))) [
    | inl all ↦ inl (within all)
    | inr one ↦ inr (
      one.0,
      record {
        passes = one.1.0;
        greatest = λ k e. elim (lt_or_le one.0 k) [
          | inl above ↦ elim (lt_or_le k (suc (length traces))) [ inl l ↦ absurd (true≢false (sym e ∙ one.1.1 k above l)) | inr g ↦ absurd (true≢false (sym e ∙ at_end k (omega (arith, g)))) ]
          | inr g ↦ g
        ];
      },
    )
  ]
