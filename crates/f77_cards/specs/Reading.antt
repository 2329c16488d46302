-- How cards are read line by line: a definition for each function of the code. What they make of a file is what `cards_of`
-- says.
use Rattle.std.specs.Prelude.{◌≡◌, ℕ, ◌+◌, ◌^◌, ◌-◌, min, Bool, false, List, [], ◌∷◌, ◌++◌, Option, Some, None, Result, Ok, Err, IsErrOf, if◌then◌else◌}
use Rattle.std.specs.Option.{option_or}
use Rattle.f77_ast.specs.declared.program.Card.{Card}
use Rattle.f77_ast.specs.declared.refusal.FrontError.{FrontError}
use Rattle.f77_ast.specs.declared.refusal.FrontError.TheVariants as error
use Rattle.f77_ast.specs.Refusal.{refusal_by}
use Rattle.f77_ast.specs.declared.refusal.Refusal.{Refusal}
use Rattle.f77_ast.specs.declared.rule.Rule.{Rule}
use Rattle.f77_ast.specs.declared.rule.Rule.TheVariants as rule
use Rattle.f77_cards.specs.declared.draft.Draft.{Draft}
use Rattle.f77_cards.specs.declared.line.Line.{Line}
use Rattle.f77_cards.specs.declared.reader.Reader.{Reader}
use Rattle.f77_cards.specs.Columns.{is_comment, is_initial, text_field, label_of}
use Rattle.f77_cards.specs.Cards.{at}
use Rattle.f77_cards.specs.Rules.{has_tab, has_bad_character, has_bad_label, is_one_too_many}
use Rattle.f77_cards.specs.Text.{text_from, ends_inside}

-- goes on with what was read
abbrev pub and_then : {A B : Type 0} → Result A Refusal → (A → Result B Refusal) → Result B Refusal
and_then (Ok a) go = go a
and_then (Err refusal) go = Err refusal

-- a refusal of a line by a rule, where one is broken
abbrev pub refused_at : Line → Option Rule → Option Refusal
refused_at line None = None
refused_at line (Some broken) = Some (at line broken)

-- the first rule that a line breaks by its own columns, codes 1 to 3
abbrev pub first_rule : Bool → Line → Option Rule
first_rule inside line = if has_tab line then Some rule.Tab else (if has_bad_character inside (text_field line) then Some rule.BadCharacter else (if has_bad_label line then Some rule.BadLabel else None))

-- the first rule that the k-th continuation line of a statement breaks, codes 1 to 4
abbrev pub continuation_rule : ℕ → Bool → Line → Option Rule
continuation_rule k inside line = option_or (first_rule inside line) (if is_one_too_many k then Some rule.TooManyContinuations else None)

-- the number of continuation lines after one more; it stays at 2^32 - 1
abbrev pub one_more : ℕ → ℕ
one_more k = min (k + 1) (2 ^ 32 - 1)

-- a statement after its initial line
abbrev pub begun : Line → Draft
begun line = record {
  card = record { label = label_of line; line = line.number; text = text_from false (text_field line) };
  inside = ends_inside false (text_field line);
  continuations = 0;
  broken = None;
}

-- a statement after one more continuation line
abbrev pub continued : Draft → Line → Draft
continued d line = record {
  card = record { label = d.card.label; line = d.card.line; text = d.card.text ++ text_from d.inside (text_field line) };
  inside = ends_inside d.inside (text_field line);
  continuations = one_more d.continuations;
  broken = option_or d.broken (refused_at line (continuation_rule (one_more d.continuations) d.inside line));
}

-- what a statement's end makes of it: code 5 of its initial line, the first refusal of a continuation line, or its card
abbrev pub ended_by : Option Refusal → Card → Result Card Refusal
ended_by None card = Ok card
ended_by (Some refusal) card = Err refusal

abbrev pub ended : Draft → Result Card Refusal
ended d = if d.inside then Err (refusal_by d.card.line rule.OpenConstant) else ended_by d.broken d.card

-- the cards after a statement's end
abbrev pub with_ended : List Card → Option Draft → Result (List Card) Refusal
with_ended cards None = Ok cards
with_ended cards (Some d) = and_then (ended d) (λ card. Ok (cards ++ card ∷ []))

-- what an initial line makes of cards, with no statement begun
abbrev pub begin_by : Option Rule → List Card → Line → Result Reader Refusal
begin_by None cards line = Ok (record { cards = cards; draft = Some (begun line) })
begin_by (Some broken) cards line = Err (at line broken)

-- the first rule that a continuation line before any initial line breaks, by the first that it breaks by its own columns
abbrev pub leading_rule : Option Rule → Rule
leading_rule None = rule.LeadingContinuation
leading_rule (Some broken) = broken

-- what a continuation line makes of a statement
abbrev pub continue_by : List Card → Option Draft → Line → Result Reader Refusal
continue_by cards None line = Err (at line (leading_rule (first_rule false line)))
continue_by cards (Some d) line = Ok (record { cards = cards; draft = Some (continued d line) })

-- what an initial line makes of what was read
abbrev pub begin_after : Reader → Line → Result Reader Refusal
begin_after r line = and_then (with_ended r.cards r.draft) (λ cards. begin_by (first_rule false line) cards line)

-- what a line makes of what was read
abbrev pub step : Reader → Line → Result Reader Refusal
step r line = if is_comment line then Ok r else (if is_initial line then begin_after r line else continue_by r.cards r.draft line)

-- where a call is refused, so is what it stands for, likewise
abbrev pub RefusedAs : {A B : Type 0} → Result A FrontError → Result B Refusal → Type 0
RefusedAs result meant = (refusal : Refusal) → IsErrOf result (error.Refused refusal) → meant ≡ Err refusal
