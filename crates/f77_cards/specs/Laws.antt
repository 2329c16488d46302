-- What the definition of cards gives.
use Rattle.std.specs.Prelude.{◌≡◌, ℕ, ◌+◌, ◌≤◌, List, [], ◌∷◌, Ok, All, IfSome}
use Rattle.f77_ast.specs.declared.program.Card.{Card}
use Rattle.f77_cards.specs.Cards.{cards_of}

-- the lines of cards rise: the first is n or a later line, and each is a later one than those before it
abbrev pub Rise : ℕ → List Card → Type 0
Rise n [] = Unit {0}
Rise n (card ∷ cards) = (n ≤ card.line) × Rise (card.line + 1) cards

-- the lines of a file's cards rise, from line 1 on
abbrev pub LinesOfCardsRise : Type 0
LinesOfCardsRise = (bytes : List ℕ) (cards : List Card) → cards_of bytes ≡ Ok cards → Rise 1 cards

-- the labels of a file's cards are from 1 to 99,999
abbrev pub LabelsAreInRange : Type 0
LabelsAreInRange = (bytes : List ℕ) (cards : List Card) → cards_of bytes ≡ Ok cards → All (λ card. IfSome card.label (λ label. (1 ≤ label) × (label ≤ 99999))) cards
