-- One pass over the lines makes what the definition over all lines says.
use Rattle.std.proofs.Common.{◌≡◌, ℕ, Bool, true, false, not, List, [], ◌∷◌, ◌++◌, map, filter, Option, None, Some, Result, Ok, Err, if◌then◌else◌, refl, sym, ap, ◌∙◌, append_assoc, append-nil}
use Rattle.std.specs.List.{flat_map}
use Rattle.std.specs.Option.{option_or}
use Rattle.f77_ast.specs.declared.program.Card.{Card}
use Rattle.f77_ast.specs.declared.refusal.Refusal.{Refusal}
use Rattle.f77_ast.specs.declared.rule.Rule.{Rule}
use Rattle.f77_cards.specs.declared.draft.Draft.{Draft}
use Rattle.f77_cards.specs.declared.line.Line.{Line}
use Rattle.f77_cards.specs.declared.reader.Reader.{Reader}
use Rattle.f77_cards.specs.Columns.{numbered, is_comment, is_initial}
use Rattle.f77_cards.specs.Lines.{lines_of}
use Rattle.f77_cards.specs.Cards.{Statement, Grouped, grouped, statement_lines, card_of, at, statement_breaks, leading_breaks, unless_refused, cards_of}
use Rattle.f77_cards.specs.Reading.{and_then, begun, continued, ended, ended_by, with_ended, begin_by, begin_after, first_rule, leading_rule, continue_by, step}
use Rattle.f77_cards.proofs.Breaks.{head_of, all_continued, statement_result, begin_result, statement_is, head_append, leading_head}
use Rattle.f77_cards.proofs.Order.{first_is_head}
use Rattle.f77_cards.proofs.Grouping.{with_by}

-- what lines make of what was read
abbrev pub scan : Reader → List Line → Result (List Card) Refusal
scan r [] = with_ended r.cards r.draft
scan r (line ∷ lines) = and_then (step r line) (λ next. scan next lines)

-- ---- comments

-- what a line that is no comment makes of what was read
abbrev step_by : Bool → Reader → Line → Result Reader Refusal
step_by first r line = if first then begin_after r line else continue_by r.cards r.draft line

-- likewise of lines that are no comments
abbrev pass : Reader → List Line → Result (List Card) Refusal
pass r [] = with_ended r.cards r.draft
pass r (line ∷ lines) = and_then (step_by (is_initial line) r line) (λ next. pass next lines)

same_then : {A B : Type 0} (x : Result A Refusal) (f g : A → Result B Refusal) → ((a : A) → f a ≡ g a) → and_then x f ≡ and_then x g
same_then (Ok a) f g h = h a
same_then (Err e) f g h = refl

without_comments : (lines : List Line) (r : Reader) → scan r lines ≡ pass r (filter (λ line. not (is_comment line)) lines)
without_comments [] r = refl
without_comments (line ∷ lines) r = by (without_comments lines) (is_comment line)
  where
    by : ((r : Reader) → scan r lines ≡ pass r (filter (λ line. not (is_comment line)) lines)) → (t : Bool) → and_then (if t then Ok r else step_by (is_initial line) r line) (λ next. scan next lines) ≡ pass r (if not t then line ∷ filter (λ line. not (is_comment line)) lines else filter (λ line. not (is_comment line)) lines)
    by rest true = rest r
    by rest false = same_then (step_by (is_initial line) r line) (λ next. scan next lines) (λ next. pass next (filter (λ line. not (is_comment line)) lines)) rest

-- ---- statements

-- the cards of statements, after others
abbrev after : List Card → List Statement → Result (List Card) Refusal
after cards [] = Ok cards
after cards (s ∷ statements) = and_then (statement_result s) (λ card. after (cards ++ card ∷ []) statements)

-- continuation lines before any initial line are refused
abbrev leading_result : List Line → Result (List Card) Refusal → Result (List Card) Refusal
leading_result [] rest = rest
leading_result (line ∷ lines) rest = Err (at line (leading_rule (first_rule false line)))

-- what lines make of a statement that is being read
abbrev Goes : List Line → Type 0
Goes lines = (cards : List Card) (d : Draft) → pass (record { cards = cards; draft = Some d }) lines ≡ and_then (ended (all_continued d (grouped lines).leading)) (λ card. after (cards ++ card ∷ []) (grouped lines).statements)

begins : (lines : List Line) → Goes lines → (cards : List Card) (line : Line) (o : Option Rule) → and_then (begin_by o cards line) (λ next. pass next lines) ≡ and_then (begin_result o (record { initial = line; continuations = (grouped lines).leading })) (λ card. after (cards ++ card ∷ []) (grouped lines).statements)
begins lines goes cards line None = goes cards (begun line)
begins lines goes cards line (Some broken) = refl

goes_on : (lines : List Line) → Goes lines
goes_on [] cards d = refl
goes_on (line ∷ lines) cards d = by (goes_on lines) (is_initial line)
  where
    first_by : Goes lines → (x : Result Card Refusal) → and_then (and_then (and_then x (λ card. Ok (cards ++ card ∷ []))) (λ more. begin_by (first_rule false line) more line)) (λ next. pass next lines) ≡ and_then x (λ card. and_then (begin_result (first_rule false line) (record { initial = line; continuations = (grouped lines).leading })) (λ next. after ((cards ++ card ∷ []) ++ next ∷ []) (grouped lines).statements))
    first_by goes (Ok card) = begins lines goes (cards ++ card ∷ []) line (first_rule false line)
    first_by goes (Err e) = refl

    by : Goes lines → (t : Bool) → and_then (step_by t (record { cards = cards; draft = Some d }) line) (λ next. pass next lines) ≡ and_then (ended (all_continued d (with_by t line (grouped lines)).leading)) (λ card. after (cards ++ card ∷ []) (with_by t line (grouped lines)).statements)
    by goes true = first_by goes (ended d)
    by goes false = goes cards (continued d line)

starts : (lines : List Line) (cards : List Card) → pass (record { cards = cards; draft = None }) lines ≡ leading_result (grouped lines).leading (after cards (grouped lines).statements)
starts [] cards = refl
starts (line ∷ lines) cards = by (is_initial line)
  where
    by : (t : Bool) → and_then (step_by t (record { cards = cards; draft = None }) line) (λ next. pass next lines) ≡ leading_result (with_by t line (grouped lines)).leading (after cards (with_by t line (grouped lines)).statements)
    by true = begins lines (goes_on lines) cards line (first_rule false line)
    by false = refl

-- ---- refusals

after_is : (statements : List Statement) (cards : List Card) → after cards statements ≡ unless_refused (head_of (flat_map statement_breaks statements)) (cards ++ map card_of statements)
after_is [] cards = ap Ok (sym (append-nil cards))
after_is (s ∷ statements) cards =
    ap (λ x. and_then x (λ card. after (cards ++ card ∷ []) statements)) (statement_is s)
    ∙ by (after_is statements (cards ++ card_of s ∷ [])) (head_of (statement_breaks s))
    ∙ ap (λ o. unless_refused o (cards ++ map card_of (s ∷ statements))) (sym (head_append (statement_breaks s) (flat_map statement_breaks statements)))
  where
    by : after (cards ++ card_of s ∷ []) statements ≡ unless_refused (head_of (flat_map statement_breaks statements)) ((cards ++ card_of s ∷ []) ++ map card_of statements) → (o : Option Refusal) → and_then (ended_by o (card_of s)) (λ card. after (cards ++ card ∷ []) statements) ≡ unless_refused (option_or o (head_of (flat_map statement_breaks statements))) (cards ++ map card_of (s ∷ statements))
    by rest None = rest ∙ ap (unless_refused (head_of (flat_map statement_breaks statements))) (append_assoc cards (card_of s ∷ []) (map card_of statements))
    by rest (Some r) = refl

leading_is : (leading : List Line) (rest : List Refusal) (cards : List Card) → leading_result leading (unless_refused (head_of rest) cards) ≡ unless_refused (head_of (leading_breaks false leading ++ rest)) cards
leading_is [] rest cards = refl
leading_is (line ∷ lines) rest cards = ap (λ o. unless_refused o cards) (sym (leading_head line lines rest))

pub scanned : (bytes : List ℕ) → cards_of bytes ≡ scan (record { cards = []; draft = None }) (numbered 1 (lines_of bytes))
scanned bytes =
    let g : Grouped = grouped (statement_lines bytes) in
    ap (λ o. unless_refused o (map card_of g.statements)) (first_is_head bytes)
    ∙ sym (leading_is g.leading (flat_map statement_breaks g.statements) (map card_of g.statements))
    ∙ ap (leading_result g.leading) (sym (after_is g.statements []))
    ∙ sym (starts (statement_lines bytes) [])
    ∙ sym (without_comments (numbered 1 (lines_of bytes)) (record { cards = []; draft = None }))
