-- The statements of cards.
use Rattle.std.proofs.Common.{◌≡◌, ℕ, List, [], ◌∷◌, ◌++◌, Option, None, Some, Result, Ok, Err, refl, sym, ap, ◌∙◌, append-nil}
use Rattle.std.proofs.lemmas.List.{append_assoc}
use Rattle.std.specs.List.{AllZip}
use Rattle.f77_ast.specs.declared.program.Card.{Card}
use Rattle.f77_ast.specs.declared.program.Listed.{Listed}
use Rattle.f77_ast.specs.declared.refusal.FrontError.TheVariants.{Refused}
use Rattle.f77_ast.specs.declared.refusal.Refusal.{Refusal}
use Rattle.f77_ast.specs.declared.stmt.Stmt.{Stmt}
use Rattle.f77_front.specs.Accepted.{IsListed}
use Rattle.f77_front.specs.Front.{and_then, listed_by, listed_of, listing_of}
use Rattle.f77_stmts.proofs.Induction.{read_is_spelled, spelled_is_read}
use Rattle.f77_stmts.specs.Answer.{Answers, SpellsNone}
use Rattle.f77_stmts.specs.Statement.{statement_of}

-- ---- one card

-- a text that spells no statement is read as none
reads_none : (text : List ℕ) (o : Option Stmt) → statement_of text ≡ o → SpellsNone text → o ≡ None
reads_none text None e none = refl
reads_none text (Some s) e none = absurd (none s (read_is_spelled text s e))

-- what is answered for a card is what is listed with it
pub answered_listed : (card : Card) (s : Stmt) → Answers card.line card.text (Ok s) → listed_of card ≡ Ok (record { card = card; stmt = s })
answered_listed card s answers = ap (listed_by card) (spelled_is_read card.text s answers.0)

pub answered_refused : (card : Card) (refusal : Refusal) → Answers card.line card.text (Err (Refused refusal)) → listed_of card ≡ Err refusal
answered_refused card refusal answers = ap (listed_by card) (reads_none card.text (statement_of card.text) refl answers.0) ∙ ap Err (sym answers.1)

-- a listed card's text spells its statement
listed_spelled : (card : Card) (o : Option Stmt) (one : Listed) → statement_of card.text ≡ o → listed_by card o ≡ Ok one → IsListed card one
listed_spelled card None one e h = absurd cc
listed_spelled card (Some s) one e h =
    let same : record { card = card; stmt = s } ≡ one = cc in
    rw (sym same) (record { card_is = refl; spelled = read_is_spelled card.text s e })

spelled_listed : (card : Card) (one : Listed) → IsListed card one → listed_of card ≡ Ok one
spelled_listed card one is =
    ap (listed_by card) (spelled_is_read card.text one.stmt is.spelled) ∙ ap (λ c. Ok (record { card = c; stmt = one.stmt })) (sym is.card_is)

-- ---- all cards, the first of them first

-- some statements before those of other cards
abbrev pub joined : List Listed → Result (List Listed) Refusal → Result (List Listed) Refusal
joined before rest = and_then rest (λ all. Ok (before ++ all))

pub joined_start : (rest : Result (List Listed) Refusal) → joined [] rest ≡ rest
joined_start (Ok all) = refl
joined_start (Err refusal) = refl

joined_one : (before : List Listed) (one : Listed) (rest : Result (List Listed) Refusal) → joined before (and_then rest (λ all. Ok (one ∷ all))) ≡ joined (before ++ one ∷ []) rest
joined_one before one (Ok all) = ap Ok (sym (append_assoc before (one ∷ []) all))
joined_one before one (Err refusal) = refl

-- one card more is listed
pub joined_listed : (before : List Listed) (card : Card) (cards : List Card) (one : Listed) → listed_of card ≡ Ok one → joined before (listing_of (card ∷ cards)) ≡ joined (before ++ one ∷ []) (listing_of cards)
joined_listed before card cards one e =
    ap (λ r. joined before (and_then r (λ first. and_then (listing_of cards) (λ rest. Ok (first ∷ rest))))) e ∙ joined_one before one (listing_of cards)

-- a card is refused
pub joined_refused : (before : List Listed) (card : Card) (cards : List Card) (refusal : Refusal) → listed_of card ≡ Err refusal → joined before (listing_of (card ∷ cards)) ≡ Err refusal
joined_refused before card cards refusal e =
    ap (λ r. joined before (and_then r (λ first. and_then (listing_of cards) (λ rest. Ok (first ∷ rest))))) e

-- no card is left
pub joined_end : (before : List Listed) → joined before (listing_of []) ≡ Ok before
joined_end before = ap Ok (append-nil before)

-- ---- cards that spell their statements

all_by : (card : Card) (cards : List Card) (r : Result Listed Refusal) (q : Result (List Listed) Refusal) (all : List Listed) → listed_of card ≡ r → listing_of cards ≡ q → and_then r (λ one. and_then q (λ rest. Ok (one ∷ rest))) ≡ Ok all → ((rest : List Listed) → listing_of cards ≡ Ok rest → AllZip IsListed cards rest) → AllZip IsListed (card ∷ cards) all
all_by card cards (Err refusal) q all e f h go = absurd cc
all_by card cards (Ok one) (Err refusal) all e f h go = absurd cc
all_by card cards (Ok one) (Ok rest) all e f h go =
    let same : one ∷ rest ≡ all = cc in
    rw (sym same) (listed_spelled card (statement_of card.text) one refl e, go rest f)

-- the statements that are listed are spelled by their cards
pub listing_spelled : (cards : List Card) (all : List Listed) → listing_of cards ≡ Ok all → AllZip IsListed cards all
listing_spelled [] [] e = tt
listing_spelled [] (one ∷ all) e = absurd cc
listing_spelled (card ∷ cards) all e = all_by card cards (listed_of card) (listing_of cards) all refl refl e (listing_spelled cards)

-- and statements that are spelled by their cards are listed
pub spelled_listing : (cards : List Card) (all : List Listed) → AllZip IsListed cards all → listing_of cards ≡ Ok all
spelled_listing [] [] z = refl
spelled_listing [] (one ∷ all) z = absurd z
spelled_listing (card ∷ cards) [] z = absurd z
spelled_listing (card ∷ cards) (one ∷ all) z =
    ap (λ r. and_then r (λ first. and_then (listing_of cards) (λ rest. Ok (first ∷ rest)))) (spelled_listed card one z.0)
    ∙ ap (λ r. and_then r (λ rest. Ok (one ∷ rest))) (spelled_listing cards all z.1)
