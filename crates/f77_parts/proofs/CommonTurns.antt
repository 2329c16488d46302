-- The turns of the loop that reads the groups of COMMON.
use Rattle.std.proofs.Common.{◌≡◌, ℕ, zero, suc, ◌+◌, ◌-◌, ◌≤◌, ◌<◌, Bool, [], ◌∷◌, ◌++◌, List, true, false, if◌then◌else◌, Some, None, refl, sym, ap, ◌∙◌, arith}
use Rattle.std.proofs.lemmas.List.{append_assoc, append-nil}
use Rattle.f77_ast.specs.declared.specification.CommonGroup.{CommonGroup}
use Rattle.f77_exprs.specs.Operators.{Text}
use Rattle.f77_exprs.specs.Reading.{Outcome, Parser, and_then, pure, is_empty}
use Rattle.f77_parts.specs.declared.common.CommonStep.{CommonStep}
use Rattle.f77_forms.specs.Form.{many_of}
use Rattle.f77_parts.specs.Parts.{Groups, advanced, groups_of}

module _ (p : Parser CommonStep) where
  -- the groups, after some that were read
  unfoldable pub groups_from : ℕ → Groups → Parser (List CommonGroup)
  groups_from zero g = pure (groups_of g [])
  groups_from (suc n) g = λ i. if is_empty i then Some (groups_of g [], i) else and_then (p i) (λ one. groups_from n (advanced g one))

  gathered : (first : Groups) (n : ℕ) (found : List CommonStep) (g : Groups) (i : Text) → ((rest : List CommonStep) → groups_of first (found ++ rest) ≡ groups_of g rest) → and_then (many_of p n found i) (λ all. pure (groups_of first all)) ≡ groups_from n g i
  unfolding many_of groups_from
  gathered first zero found g i same = ap (λ x. Some (x, i)) (ap (groups_of first) (sym (append-nil found)) ∙ same [])
  gathered first (suc n) found g i same = by (is_empty i) (p i) (λ one j. gathered first n (found ++ one ∷ []) (advanced g one) j (λ rest. ap (groups_of first) (append_assoc found (one ∷ []) rest) ∙ same (one ∷ rest)))
    where
      by : (t : Bool) (o : Outcome CommonStep) → ((one : CommonStep) (j : Text) → and_then (many_of p n (found ++ one ∷ []) j) (λ all. pure (groups_of first all)) ≡ groups_from n (advanced g one) j)
          → and_then (if◌then◌else◌ {A = Outcome (List CommonStep)} t (Some (found, i)) (and_then o (λ a. many_of p n (found ++ a ∷ [])))) (λ all. pure (groups_of first all)) ≡ (if◌then◌else◌ {A = Outcome (List CommonGroup)} t (Some (groups_of g [], i)) (and_then o (λ one. groups_from n (advanced g one))))
      by true o h = ap (λ x. Some (x, i)) (ap (groups_of first) (sym (append-nil found)) ∙ same [])
      by false None h = refl
      by false (Some q) h = h q.0 q.1

  pub starts : (n : ℕ) (first : CommonGroup) (i : Text) → and_then (many_of p n [] i) (λ all. pure (groups_of ([], first) all)) ≡ groups_from n ([], first) i
  starts n first i = gathered ([], first) n [] ([], first) i (λ rest. refl)

  pub ended : (n : ℕ) (g : Groups) (i : Text) → is_empty i ≡ true → groups_from n g i ≡ Some (groups_of g [], i)
  unfolding groups_from
  ended zero g i e = refl
  ended (suc n) g i e = rw e refl

  pub spent : (whole : Outcome (List CommonGroup)) (n t : ℕ) (g : Groups) (i : Text) → whole ≡ groups_from (n - t) g i → n ≤ t → whole ≡ Some (groups_of g [], i)
  unfolding groups_from
  spent whole n t g i e le = let z : n - t ≡ 0 = omega arith in e ∙ ap (λ k. groups_from k g i) z

  turned : (whole : Outcome (List CommonGroup)) (n t : ℕ) (g : Groups) (i : Text) → whole ≡ groups_from (n - t) g i → t < n → is_empty i ≡ false → whole ≡ and_then (p i) (λ one. groups_from (n - (t + 1)) (advanced g one))
  unfolding groups_from
  turned whole n t g i e lt some =
      let z : n - t ≡ suc (n - (t + 1)) = omega arith in
      e ∙ ap (λ k. groups_from k g i) z ∙ (rw some refl)

  pub fails : (whole : Outcome (List CommonGroup)) (n t : ℕ) (g : Groups) (i : Text) → whole ≡ groups_from (n - t) g i → t < n → is_empty i ≡ false → p i ≡ None → whole ≡ None
  fails whole n t g i e lt some none = turned whole n t g i e lt some ∙ ap (λ o. and_then o (λ one. groups_from (n - (t + 1)) (advanced g one))) none

  pub goes : (whole : Outcome (List CommonGroup)) (n t : ℕ) (g more : Groups) (one : CommonStep) (i r : Text) → more ≡ advanced g one → whole ≡ groups_from (n - t) g i → t < n → is_empty i ≡ false → p i ≡ Some (one, r) → whole ≡ groups_from (n - (t + 1)) more r
  goes whole n t g more one i r is e lt some got = turned whole n t g i e lt some ∙ ap (λ o. and_then o (λ one. groups_from (n - (t + 1)) (advanced g one))) got ∙ ap (λ x. groups_from (n - (t + 1)) x r) (sym is)
