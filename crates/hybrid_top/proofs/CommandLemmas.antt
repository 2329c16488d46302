-- Lemmas on the words of a command.
use Rattle.std.proofs.Common.{◌≡◌, ℕ, List, [], ◌∷◌, length, Some, arith}
use Rattle.std.specs.Prelude.{slice_get}
use Rattle.hybrid_top.specs.Command.{command_by, command_of}

-- the command of five words
pub command_five : (words : List (List ℕ)) (a b c d e : List ℕ) → length words ≡ 5 → Some a ≡ slice_get words 0 → Some b ≡ slice_get words 1 → Some c ≡ slice_get words 2 → Some d ≡ slice_get words 3 → Some e ≡ slice_get words 4 → command_by a b c d e ≡ command_of words
command_five [] a b c d e five p q r s t = absurd (omega arith)
command_five (_ ∷ []) a b c d e five p q r s t = absurd (omega arith)
command_five (_ ∷ _ ∷ []) a b c d e five p q r s t = absurd (omega arith)
command_five (_ ∷ _ ∷ _ ∷ []) a b c d e five p q r s t = absurd (omega arith)
command_five (_ ∷ _ ∷ _ ∷ _ ∷ []) a b c d e five p q r s t = absurd (omega arith)
command_five (_ ∷ _ ∷ _ ∷ _ ∷ _ ∷ []) a b c d e five p q r s t = cc
command_five (_ ∷ _ ∷ _ ∷ _ ∷ _ ∷ _ ∷ words) a b c d e five p q r s t = absurd (omega arith)
