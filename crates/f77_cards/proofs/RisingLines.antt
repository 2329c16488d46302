-- The lines of cards rise.
use Rattle.std.proofs.Common.{◌≡◌, ℕ, ◌+◌, ◌≤◌, List, [], ◌∷◌, map, length, Option, None, Some, Ok, subst, arith}
use Rattle.f77_ast.specs.declared.program.Card.{Card}
use Rattle.f77_ast.specs.declared.refusal.Refusal.{Refusal}
use Rattle.f77_ast.specs.Refusal.{first_of}
use Rattle.f77_cards.specs.Cards.{Statement, Grouped, grouped, statement_lines, card_of, breaks_of, unless_refused}
use Rattle.f77_cards.specs.Laws.{Rise, LinesOfCardsRise}
use Rattle.f77_cards.specs.Lines.{lines_of}
use Rattle.f77_cards.proofs.Order.{InOrder, GroupsRise, file_rises, rising_le}

rise_lower : (m n : ℕ) (cards : List Card) → n ≤ m → Rise m cards → Rise n cards
rise_lower m n [] a h = tt
rise_lower m n (card ∷ cards) a h = (omega (arith, h.0), h.1)

cards_rise : (statements : List Statement) (low high : ℕ) → InOrder low high statements → Rise low (map card_of statements)
cards_rise [] low high h = tt
cards_rise (s ∷ statements) low high h =
    (h.1.0, rise_lower h.0 (s.initial.number + 1) (map card_of statements) (rising_le (s.initial.number + 1) h.0 s.continuations h.1.1) (cards_rise statements h.0 high h.2))

cards_are : (o : Option Refusal) (all cards : List Card) → unless_refused o all ≡ Ok cards → all ≡ cards
cards_are None all cards e = cc
cards_are (Some r) all cards e = cc

pub lines_rise : LinesOfCardsRise
lines_rise bytes cards e =
    let g : Grouped = grouped (statement_lines bytes) in
    let h : GroupsRise 1 (1 + length (lines_of bytes)) g = file_rises bytes in
    let lead : 1 ≤ h.mid = rising_le 1 h.mid g.leading h.leading in
    subst (Rise 1) (cards_are (first_of (breaks_of g)) (map card_of g.statements) cards e) (rise_lower h.mid 1 (map card_of g.statements) lead (cards_rise g.statements h.mid (1 + length (lines_of bytes)) h.statements))
