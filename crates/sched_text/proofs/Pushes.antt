-- Lemmas on picks that are added one by one.
use Rattle.std.proofs.Common.{◌≡◌, ℕ, ℤ, suc, List, [], ◌∷◌, ◌++◌, length, map, Option, Some, None, refl, sym, ap, append_assoc}
use Rattle.std.specs.Int.{w64, cast_signed}
use Rattle.sched_text.specs.Form.{before_others, pushed}

-- the bytes that are left, and one more where there are any left to look at
abbrev pub left_over : Option (List ℕ) → ℕ
left_over None = 0
left_over (Some text) = suc (length text)

pub one_pushed : (n : ℕ) (others : Option (List ℕ)) (picks : List ℤ) → pushed (before_others (Some n) others) picks ≡ pushed others (picks ++ cast_signed w64 n ∷ [])
one_pushed n None picks = refl
one_pushed n (Some ns) picks = ap (λ z. Some z) (sym (append_assoc picks (cast_signed w64 n ∷ []) (map (cast_signed w64) ns)))
