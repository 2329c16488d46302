-- What a unit says of its names, as tables tell it.
use Rattle.std.proofs.Common.{◌≡◌, ℕ, Bool, List, Option}
use Rattle.f77_leaves.specs.Declarations.{Declarations}
use Rattle.f77_structure.specs.Values.{Value}
use Rattle.f77_uses.proofs.KnownLemmas.{same_functions}
use Rattle.f77_due.specs.Unit.{UnitFacts}

abbrev pub facts_with : Declarations → (List ℕ → Option Value) → (ℕ → Bool) → UnitFacts
facts_with declarations values starts = record { declarations = declarations; values = values; starts = starts }

-- facts that agree everywhere
pub facts_are : (a b : Declarations) (v w : List ℕ → Option Value) (s t : ℕ → Bool) → a ≡ b → ((name : List ℕ) → v name ≡ w name) → ((letter : ℕ) → s letter ≡ t letter) → facts_with a v s ≡ facts_with b w t
facts_are a b v w s t e f g =
    let k = same_functions v w f in
    let r = same_functions s t g in
    λ i. facts_with (e i) (k i) (r i)
