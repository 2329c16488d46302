-- A word at the front of a line.
use Rattle.std.proofs.Common.{◌≡◌, ℕ, ◌+◌, true, false, List, length, take, drop, Option, Some, None, if◌then◌else◌, sym, ap, ◌∙◌, Bor}
use Rattle.std.specs.Prelude.{nat_eq}
use Rattle.std.specs.Option.{option_copied, MatchOption}
use Rattle.std.specs.Cmp.Lexicographic.{pointwise}
use Rattle.sched_text.specs.Form.{after_word}

-- what `strip_prefix` gives
pub stripped : (o : Option (Bor (List ℕ))) (word line : List ℕ) → MatchOption o (pointwise nat_eq (take (length word) line) word ≡ false) (λ x. (pointwise nat_eq (take (length word) line) word ≡ true) × (x.now ≡ drop (length word) line) × (length x.now + length word ≡ length line)) → option_copied o ≡ after_word word line
unfolding after_word
stripped None word line h = sym (ap (λ t. if t then Some (drop (length word) line) else None) h)
stripped (Some x) word line h = ap (λ z. Some z) h.1 ∙ sym (ap (λ t. if t then Some (drop (length word) line) else None) h.0)
