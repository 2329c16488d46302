-- Texts of a length.
use Rattle.std.proofs.Common.{◌≡◌, ℕ, ◌-◌, ◌≤◌, Bool, true, false, nat_le, List, [], ◌++◌, length, take, replicate, refl, sym, ap, ◌∙◌, append-nil, arith}
use Rattle.std.proofs.lemmas.Bool.Decides.{nat_tests}
use Rattle.std.proofs.lemmas.List.{take-append-le, take_all, length-append, length-replicate}
use Rattle.f77_structure.specs.Values.{of_length}

long : (len : ℕ) (text : List ℕ) → len ≤ length text → take len text ++ replicate (len - length text) 32 ≡ of_length len text
long len text h =
    let none : len - length text ≡ 0 = omega arith in
    ap (λ n. take len text ++ replicate n 32) none
    ∙ append-nil (take len text)
    ∙ sym (take-append-le len text (replicate (len - length text) 32) h)

short : (len : ℕ) (text : List ℕ) → length text ≤ len → take len text ++ replicate (len - length text) 32 ≡ of_length len text
short len text h =
    ap (λ t. t ++ replicate (len - length text) 32) (take_all len text h)
    ∙ sym (take_all len (text ++ replicate (len - length text) 32) (omega (arith, length-append text (replicate (len - length text) 32), length-replicate {A = ℕ} (len - length text) 32)))

-- what is kept of a text, and blanks behind it
pub filled : (len : ℕ) (text : List ℕ) → take len text ++ replicate (len - length text) 32 ≡ of_length len text
filled len text = by (nat_le len (length text)) refl
  where
    by : (b : Bool) → nat_le len (length text) ≡ b → take len text ++ replicate (len - length text) 32 ≡ of_length len text
    by true e = long len text (grind (arith, nat_tests))
    by false e = short len text (grind (arith, nat_tests))
