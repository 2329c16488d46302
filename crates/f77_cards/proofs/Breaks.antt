-- What is broken in a statement, and what its lines make one after the other.
use Rattle.std.proofs.Common.{◌≡◌, ℕ, ◌+◌, ◌^◌, ◌-◌, min, Bool, true, false, ◌==◌, List, [], ◌∷◌, ◌++◌, Option, None, Some, Result, Err, if◌then◌else◌, refl, sym, ap, ◌∙◌, arith, append_assoc, append-nil}
use Rattle.std.specs.List.{flat_map}
use Rattle.std.specs.Option.{option_or}
use Rattle.std.proofs.lemmas.Bool.Decides.{nat_tests}
use Rattle.f77_ast.specs.declared.program.Card.{Card}
use Rattle.f77_ast.specs.declared.refusal.Refusal.{Refusal}
use Rattle.f77_ast.specs.Refusal.{when, refusal_by}
use Rattle.f77_ast.specs.declared.rule.Rule.{Rule}
use Rattle.f77_ast.specs.declared.rule.Rule.TheVariants as rule
use Rattle.f77_cards.specs.declared.draft.Draft.{Draft}
use Rattle.f77_cards.specs.declared.line.Line.{Line}
use Rattle.f77_cards.specs.Columns.{text_field, label_of}
use Rattle.f77_cards.specs.Rules.{has_tab, has_bad_character, has_bad_label}
use Rattle.f77_cards.specs.Text.{switched, kept, text_from, ends_inside}
use Rattle.f77_cards.specs.Cards.{Statement, joined, card_of, at, line_breaks, continuation_breaks, is_open, statement_breaks, leading_breaks}
use Rattle.f77_cards.specs.Reading.{refused_at, first_rule, continuation_rule, one_more, begun, continued, ended, ended_by, leading_rule}

-- the refusal that stands first in a list
abbrev pub head_of : List Refusal → Option Refusal
head_of [] = None
head_of (r ∷ rs) = Some r

pub head_append : (xs ys : List Refusal) → head_of (xs ++ ys) ≡ option_or (head_of xs) (head_of ys)
head_append [] ys = refl
head_append (x ∷ xs) ys = refl

or_assoc : {A : Type 0} (a b c : Option A) → option_or (option_or a b) c ≡ option_or a (option_or b c)
or_assoc None b c = refl
or_assoc (Some x) b c = refl

-- ---- one line

head_three : (line : Line) (a b c : Bool) → head_of (when a (at line rule.Tab) ++ when b (at line rule.BadCharacter) ++ when c (at line rule.BadLabel)) ≡ refused_at line (if a then Some rule.Tab else (if b then Some rule.BadCharacter else (if c then Some rule.BadLabel else None)))
head_three line true b c = refl
head_three line false true c = refl
head_three line false false true = refl
head_three line false false false = refl

pub line_head : (inside : Bool) (line : Line) → head_of (line_breaks inside line) ≡ refused_at line (first_rule inside line)
line_head inside line = head_three line (has_tab line) (has_bad_character inside (text_field line)) (has_bad_label line)

pub leading_head : (line : Line) (lines : List Line) (rest : List Refusal) → head_of (leading_breaks false (line ∷ lines) ++ rest) ≡ Some (at line (leading_rule (first_rule false line)))
leading_head line lines rest =
    head_append (line_breaks false line ++ (at line rule.LeadingContinuation ∷ []) ++ leading_breaks (ends_inside false (text_field line)) lines) rest
    ∙ ap (λ o. option_or o (head_of rest)) (head_append (line_breaks false line ++ (at line rule.LeadingContinuation ∷ [])) (leading_breaks (ends_inside false (text_field line)) lines) ∙ ap (λ o. option_or o (head_of (leading_breaks (ends_inside false (text_field line)) lines))) (head_append (line_breaks false line) (at line rule.LeadingContinuation ∷ []) ∙ ap (λ o. option_or o (Some (at line rule.LeadingContinuation))) (line_head false line)))
    ∙ by (first_rule false line)
  where
    by : (o : Option Rule) → option_or (option_or (option_or (refused_at line o) (Some (at line rule.LeadingContinuation))) (head_of (leading_breaks (ends_inside false (text_field line)) lines))) (head_of rest) ≡ Some (at line (leading_rule o))
    by None = refl
    by (Some code) = refl

-- ---- the text

pub text_append : (inside : Bool) (a b : List ℕ) → text_from inside (a ++ b) ≡ text_from inside a ++ text_from (ends_inside inside a) b
text_append inside [] b = refl
text_append inside (x ∷ a) b =
    ap (λ z. kept inside x ++ z) (text_append (switched inside x) a b)
    ∙ sym (append_assoc (kept inside x) (text_from (switched inside x) a) (text_from (ends_inside (switched inside x) a) b))

pub inside_append : (inside : Bool) (a b : List ℕ) → ends_inside inside (a ++ b) ≡ ends_inside (ends_inside inside a) b
inside_append inside [] b = refl
inside_append inside (x ∷ a) b = inside_append (switched inside x) a b

-- ---- continuation lines

-- a statement after continuation lines
abbrev pub all_continued : Draft → List Line → Draft
all_continued d [] = d
all_continued d (line ∷ lines) = all_continued (continued d line) lines

label_stays : (lines : List Line) (d : Draft) → (all_continued d lines).card.label ≡ d.card.label
label_stays [] d = refl
label_stays (line ∷ lines) d = label_stays lines (continued d line)

line_stays : (lines : List Line) (d : Draft) → (all_continued d lines).card.line ≡ d.card.line
line_stays [] d = refl
line_stays (line ∷ lines) d = line_stays lines (continued d line)

text_grows : (lines : List Line) (d : Draft) → (all_continued d lines).card.text ≡ d.card.text ++ text_from d.inside (flat_map text_field lines)
text_grows [] d = sym (append-nil d.card.text)
text_grows (line ∷ lines) d =
    text_grows lines (continued d line)
    ∙ append_assoc d.card.text (text_from d.inside (text_field line)) (text_from (ends_inside d.inside (text_field line)) (flat_map text_field lines))
    ∙ ap (λ z. d.card.text ++ z) (sym (text_append d.inside (text_field line) (flat_map text_field lines)))

inside_goes : (lines : List Line) (d : Draft) → (all_continued d lines).inside ≡ ends_inside d.inside (flat_map text_field lines)
inside_goes [] d = refl
inside_goes (line ∷ lines) d = inside_goes lines (continued d line) ∙ sym (inside_append d.inside (text_field line) (flat_map text_field lines))

refused_or : (line : Line) (a b : Option Rule) → refused_at line (option_or a b) ≡ option_or (refused_at line a) (refused_at line b)
refused_or line None b = refl
refused_or line (Some code) b = refl

head_when : (line : Line) (t : Bool) (broken : Rule) → head_of (when t (at line broken)) ≡ refused_at line (if t then Some broken else None)
head_when line true broken = refl
head_when line false broken = refl

twentieth : (k : ℕ) → (min k (2 ^ 32 - 1) == 20) ≡ (k == 20)
twentieth k = grind (arith, nat_tests)

continuation_head : (line : Line) (k c : ℕ) (inside : Bool) (rest : List Refusal) → c ≡ min k (2 ^ 32 - 1) → option_or (refused_at line (continuation_rule c inside line)) (head_of rest) ≡ head_of (line_breaks inside line ++ when (k == 20) (at line rule.TooManyContinuations) ++ rest)
continuation_head line k c inside rest e =
    ap (λ o. option_or o (head_of rest)) (refused_or line (first_rule inside line) (if c == 20 then Some rule.TooManyContinuations else None))
    ∙ ap (λ o. option_or o (head_of rest)) (ap (λ t. option_or (refused_at line (first_rule inside line)) (refused_at line (if t then Some rule.TooManyContinuations else None))) (ap (λ n. n == 20) e ∙ twentieth k))
    ∙ ap (λ o. option_or (option_or o (refused_at line (if k == 20 then Some rule.TooManyContinuations else None))) (head_of rest)) (sym (line_head inside line))
    ∙ ap (λ o. option_or (option_or (head_of (line_breaks inside line)) o) (head_of rest)) (sym (head_when line (k == 20) rule.TooManyContinuations))
    ∙ ap (λ o. option_or o (head_of rest)) (sym (head_append (line_breaks inside line) (when (k == 20) (at line rule.TooManyContinuations))))
    ∙ sym (head_append (line_breaks inside line ++ when (k == 20) (at line rule.TooManyContinuations)) rest)

next_count : (c k : ℕ) → one_more c ≡ min k (2 ^ 32 - 1) → one_more (one_more c) ≡ min (k + 1) (2 ^ 32 - 1)
next_count c k e = omega arith

broken_is : (lines : List Line) (d : Draft) (k : ℕ) → one_more d.continuations ≡ min k (2 ^ 32 - 1) → (all_continued d lines).broken ≡ option_or d.broken (head_of (continuation_breaks k d.inside lines))
broken_is [] d k e = by d.broken
  where
    by : (o : Option Refusal) → o ≡ option_or o None
    by None = refl
    by (Some r) = refl
broken_is (line ∷ lines) d k e =
    broken_is lines (continued d line) (k + 1) (next_count d.continuations k e)
    ∙ or_assoc d.broken (refused_at line (continuation_rule (one_more d.continuations) d.inside line)) (head_of (continuation_breaks (k + 1) (ends_inside d.inside (text_field line)) lines))
    ∙ ap (option_or d.broken) (continuation_head line k (one_more d.continuations) d.inside (continuation_breaks (k + 1) (ends_inside d.inside (text_field line)) lines) e)

-- ---- a statement

-- what the lines of a statement make, by the first code of its initial line
abbrev pub begin_result : Option Rule → Statement → Result Card Refusal
begin_result None s = ended (all_continued (begun s.initial) s.continuations)
begin_result (Some broken) s = Err (at s.initial broken)

abbrev pub statement_result : Statement → Result Card Refusal
statement_result s = begin_result (first_rule false s.initial) s

abbrev card : Option ℕ → ℕ → List ℕ → Card
card label line text = record { label = label; line = line; text = text }

card_is : (s : Statement) → (all_continued (begun s.initial) s.continuations).card ≡ card_of s
card_is s =
    let d : Draft = all_continued (begun s.initial) s.continuations in
    let text : d.card.text ≡ text_from false (joined s) = text_grows s.continuations (begun s.initial) ∙ sym (text_append false (text_field s.initial) (flat_map text_field s.continuations)) in
    ap (λ l. card l d.card.line d.card.text) (label_stays s.continuations (begun s.initial))
    ∙ ap (λ n. card (label_of s.initial) n d.card.text) (line_stays s.continuations (begun s.initial))
    ∙ ap (card (label_of s.initial) s.initial.number) text

ended_is : (s : Statement) → ended (all_continued (begun s.initial) s.continuations) ≡ ended_by (option_or (head_of (when (is_open s) (at s.initial rule.OpenConstant))) (head_of (continuation_breaks 1 (ends_inside false (text_field s.initial)) s.continuations))) (card_of s)
ended_is s =
    ap (λ t. if t then Err (refusal_by ((all_continued (begun s.initial) s.continuations).card.line) rule.OpenConstant) else ended_by (all_continued (begun s.initial) s.continuations).broken (all_continued (begun s.initial) s.continuations).card) (inside_goes s.continuations (begun s.initial) ∙ sym (inside_append false (text_field s.initial) (flat_map text_field s.continuations)))
    ∙ by (is_open s)
  where
    by : (t : Bool) → (if t then Err (refusal_by ((all_continued (begun s.initial) s.continuations).card.line) rule.OpenConstant) else ended_by (all_continued (begun s.initial) s.continuations).broken (all_continued (begun s.initial) s.continuations).card) ≡ ended_by (option_or (head_of (when t (at s.initial rule.OpenConstant))) (head_of (continuation_breaks 1 (ends_inside false (text_field s.initial)) s.continuations))) (card_of s)
    by true = ap (λ n. Err (refusal_by n rule.OpenConstant)) (line_stays s.continuations (begun s.initial))
    by false = ap (λ o. ended_by o (all_continued (begun s.initial) s.continuations).card) (broken_is s.continuations (begun s.initial) 1 refl) ∙ ap (ended_by (head_of (continuation_breaks 1 (ends_inside false (text_field s.initial)) s.continuations))) (card_is s)

pub statement_is : (s : Statement) → statement_result s ≡ ended_by (head_of (statement_breaks s)) (card_of s)
statement_is s =
    by (first_rule false s.initial)
    ∙ ap (λ o. ended_by o (card_of s)) (ap (λ o. option_or (option_or o (head_of (when (is_open s) (at s.initial rule.OpenConstant)))) (head_of (continuation_breaks 1 (ends_inside false (text_field s.initial)) s.continuations))) (sym (line_head false s.initial)) ∙ ap (λ o. option_or o (head_of (continuation_breaks 1 (ends_inside false (text_field s.initial)) s.continuations))) (sym (head_append (line_breaks false s.initial) (when (is_open s) (at s.initial rule.OpenConstant)))) ∙ sym (head_append (line_breaks false s.initial ++ when (is_open s) (at s.initial rule.OpenConstant)) (continuation_breaks 1 (ends_inside false (text_field s.initial)) s.continuations)))
  where
    by : (o : Option Rule) → begin_result o s ≡ ended_by (option_or (option_or (refused_at s.initial o) (head_of (when (is_open s) (at s.initial rule.OpenConstant)))) (head_of (continuation_breaks 1 (ends_inside false (text_field s.initial)) s.continuations))) (card_of s)
    by None = ended_is s
    by (Some code) = refl
