-- Lemmas on the columns of a line.
use Rattle.std.proofs.Common.{◌≡◌, ℕ, ◌+◌, ◌-◌, ◌≤◌, min, Bool, true, false, nat_le, List, ◌++◌, length, take, drop, replicate, refl, sym, ap, ◌∙◌, arith, append-nil}
use Rattle.std.proofs.lemmas.Bool.Decides.{nat_tests}
use Rattle.std.proofs.lemmas.List.{take-append-le, take-replicate, drop-replicate, length-take-le}
use Rattle.std.proofs.Math.Seq.{take-append-add, take-length}
use Rattle.f77_cards.specs.Columns.{filled}

-- a line of at most 72 bytes is filled with blanks
filled_short : (line : List ℕ) → length line ≤ 72 → line ++ drop (length line) (replicate 72 32) ≡ filled line
unfolding filled
filled_short line h =
    let m : ℕ = 72 - length line in
    let e : 72 ≡ length line + m = omega arith in
    ap (λ z. line ++ z) (drop-replicate (length line) 72 32)
    ∙ ap (λ z. line ++ z) (sym (take-replicate m 72 32 (omega arith)))
    ∙ sym (take-append-add line (replicate 72 32) m)
    ∙ ap (λ n. take n (line ++ replicate 72 32)) (sym e)

-- a longer line is cut
filled_long : (line : List ℕ) → 72 ≤ length line → take 72 line ++ drop 72 (replicate 72 32) ≡ filled line
unfolding filled
filled_long line h = append-nil (take 72 line) ∙ sym (take-append-le 72 line (replicate 72 32) h)

pub filled_by : (line front columns : List ℕ) (n : ℕ) → n ≡ min (length line) 72 → front ≡ take n line → columns ≡ front ++ drop (length front) (replicate 72 32) → columns ≡ filled line
filled_by line front columns n e f c = c ∙ by (nat_le (length line) 72) refl
  where
    by : (t : Bool) → nat_le (length line) 72 ≡ t → front ++ drop (length front) (replicate 72 32) ≡ filled line
    by true h =
        let small : length line ≤ 72 = grind (arith, nat_tests) in
        let k : n ≡ length line = omega arith in
        let all : front ≡ line = f ∙ ap (λ m. take m line) k ∙ take-length line in
        ap (λ z. z ++ drop (length z) (replicate 72 32)) all ∙ filled_short line small
    by false h =
        let big : 72 ≤ length line = grind (arith, nat_tests) in
        let k : n ≡ 72 = omega arith in
        let part : front ≡ take 72 line = f ∙ ap (λ m. take m line) k in
        ap (λ z. z ++ drop (length z) (replicate 72 32)) part
        ∙ ap (λ m. take 72 line ++ drop m (replicate 72 32)) (length-take-le 72 line big)
        ∙ filled_long line big
