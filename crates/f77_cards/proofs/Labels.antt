-- The labels of a file's cards are from 1 to 99,999.
use Rattle.std.proofs.Common.{◌≡◌, ℕ, zero, suc, ◌+◌, ◌-◌, ◌*◌, ◌^◌, ◌<◌, ◌≤◌, Bool, true, false, not, ◌&&◌, ◌||◌, List, [], ◌∷◌, ◌++◌, map, length, Option, None, Some, Ok, if◌then◌else◌, refl, sym, subst, ap, ◌∙◌, arith, length-take, pow-suc}
use Rattle.std.specs.Prelude.{All, IfSome}
use Rattle.std.specs.Char.{is_ascii_digit}
use Rattle.std.specs.List.{list_all, list_any, flat_map}
use Rattle.std.proofs.lemmas.Bool.Decides.{nat_tests}
use Rattle.std.proofs.lemmas.List.Elements.{All-cons}
use Rattle.f77_ast.specs.declared.program.Card.{Card}
use Rattle.f77_ast.specs.declared.refusal.Refusal.{Refusal}
use Rattle.f77_ast.specs.Refusal.{when, first_of}
use Rattle.f77_ast.specs.declared.rule.Rule.TheVariants as rule
use Rattle.f77_cards.specs.declared.line.Line.{Line}
use Rattle.f77_cards.specs.Cards.{Statement, Grouped, grouped, statement_lines, card_of, at, line_breaks, statement_breaks, continuation_breaks, leading_breaks, is_open, breaks_of, unless_refused}
use Rattle.f77_cards.specs.Columns.{is_blank, is_initial, label_field, text_field, number_from, label_of}
use Rattle.f77_cards.specs.Laws.{LabelsAreInRange}
use Rattle.f77_cards.specs.Rules.{has_tab, has_bad_character, has_bad_label, is_bad_label, is_digit_or_blank, is_zero_or_blank}
use Rattle.f77_cards.specs.Text.{ends_inside}
use Rattle.f77_cards.proofs.Grouping.{with_by}

-- ---- numbers

number_by : (low : ℕ) (n m : ℕ) (bytes : List ℕ) (t : Bool) → low ≤ number_from m bytes → low ≤ number_from n bytes → low ≤ (if t then number_from m bytes else number_from n bytes)
number_by low n m bytes true a b = a
number_by low n m bytes false a b = b

-- the digits that follow make a number no less
no_less : (bytes : List ℕ) (low n : ℕ) → low ≤ n → low ≤ number_from n bytes
no_less [] low n h = h
no_less (b ∷ bytes) low n h =
    number_by low n (n * 10 + (b - 48)) bytes (is_ascii_digit b) (no_less bytes low (n * 10 + (b - 48)) (omega arith)) (no_less bytes low n h)

-- what is a digit or a blank, and neither zero nor a blank, is a digit from 1 to 9
not_zero : (b : ℕ) → is_digit_or_blank b ≡ true → is_zero_or_blank b ≡ false → (is_ascii_digit b ≡ true) × (1 ≤ b - 48)
not_zero b d z = (grind (arith, nat_tests), grind (arith, nat_tests))

and_left : (a b : Bool) → (a && b) ≡ true → a ≡ true
and_left true b e = refl
and_left false b e = cc

and_right : (a b : Bool) → (a && b) ≡ true → b ≡ true
and_right true b e = e
and_right false b e = cc

-- the number of digits of which one is from 1 to 9 is 1 or more
positive : (bytes : List ℕ) (n : ℕ) → list_all is_digit_or_blank bytes ≡ true → list_all is_zero_or_blank bytes ≡ false → 1 ≤ number_from n bytes
positive [] n d z = absurd (cc)
positive (b ∷ bytes) n d z =
    by (is_zero_or_blank b) refl z (λ m e. positive bytes m (and_right (is_digit_or_blank b) (list_all is_digit_or_blank bytes) d) e)
  where
    by : (t : Bool) → is_zero_or_blank b ≡ t → (t && list_all is_zero_or_blank bytes) ≡ false → ((m : ℕ) → list_all is_zero_or_blank bytes ≡ false → 1 ≤ number_from m bytes) → 1 ≤ number_from n (b ∷ bytes)
    by true e z rest = number_by 1 n (n * 10 + (b - 48)) bytes (is_ascii_digit b) (rest (n * 10 + (b - 48)) z) (rest n z)
    by false e z rest =
        let here = not_zero b (and_left (is_digit_or_blank b) (list_all is_digit_or_blank bytes) d) e in
        let one : 1 ≤ n * 10 + (b - 48) = omega (arith, here.1) in
        rw (here.0) (no_less bytes 1 (n * 10 + (b - 48)) one)

digit_small : (b : ℕ) → is_ascii_digit b ≡ true → b - 48 < 10
digit_small b e = grind (arith, nat_tests)

-- a number of so many digits, with so many columns after it
small : (bytes : List ℕ) (n i : ℕ) → n < 10 ^ i → i + length bytes ≤ 5 → number_from n bytes < 10 ^ 5
small [] n i h l = below i h (omega arith)
  where
    below : (i : ℕ) → n < 10 ^ i → i ≤ 5 → n < 10 ^ 5
    below zero h l = omega arith
    below (suc zero) h l = omega arith
    below (suc (suc zero)) h l = omega arith
    below (suc (suc (suc zero))) h l = omega arith
    below (suc (suc (suc (suc zero)))) h l = omega arith
    below (suc (suc (suc (suc (suc zero))))) h l = omega arith
    below (suc (suc (suc (suc (suc (suc i)))))) h l = absurd (omega arith)
small (b ∷ bytes) n i h l = by (is_ascii_digit b) refl (small bytes n i h (omega arith)) (λ m k. small bytes m (suc i) k (omega arith))
  where
    next : (p : ℕ) → n < p → b - 48 < 10 → n * 10 + (b - 48) < p * 10
    next p h d = omega arith

    by : (t : Bool) → is_ascii_digit b ≡ t → number_from n bytes < 10 ^ 5 → ((m : ℕ) → m < 10 ^ suc i → number_from m bytes < 10 ^ 5) → (if t then number_from (n * 10 + (b - 48)) bytes else number_from n bytes) < 10 ^ 5
    by true e same more = more (n * 10 + (b - 48)) (rw (pow-suc) (next (10 ^ i) h (digit_small b e)))
    by false e same more = same

-- ---- one label

bad_by : (a b c : Bool) → (not a || (b && c)) ≡ false → b ≡ true → (a ≡ true) × (c ≡ false)
bad_by true true true e f = cc
bad_by true true false e f = (refl, refl)
bad_by true false c e f = cc
bad_by false b c e f = cc

abbrev InRange : Option ℕ → Type 0
InRange o = IfSome o (λ label. (1 ≤ label) × (label ≤ 99999))

label_in_range : (line : Line) → is_bad_label (label_field line) ≡ false → InRange (label_of line)
label_in_range line good = by (list_any is_ascii_digit (label_field line)) refl
  where
    by : (t : Bool) → list_any is_ascii_digit (label_field line) ≡ t → InRange (if t then Some (number_from 0 (label_field line)) else None)
    by true e =
        let parts = bad_by (list_all is_digit_or_blank (label_field line)) (list_any is_ascii_digit (label_field line)) (list_all is_zero_or_blank (label_field line)) good e in
        let few : length (label_field line) ≤ 5 = omega (arith, length-take 5 line.columns) in
        let top : number_from 0 (label_field line) < 10 ^ 5 = small (label_field line) 0 0 (omega arith) (omega arith) in
        (positive (label_field line) 0 parts.0 parts.1, omega arith)
    by false e = tt

-- ---- all labels

left_nil : {A : Type 0} (xs ys : List A) → xs ++ ys ≡ [] → xs ≡ []
left_nil [] ys e = refl
left_nil (x ∷ xs) ys e = cc

right_nil : {A : Type 0} (xs ys : List A) → xs ++ ys ≡ [] → ys ≡ []
right_nil [] ys e = e
right_nil (x ∷ xs) ys e = cc

not_when : (t : Bool) (r : Refusal) → when t r ≡ [] → t ≡ false
not_when true r e = cc
not_when false r e = refl

no_bad_label : (s : Statement) → statement_breaks s ≡ [] → has_bad_label s.initial ≡ false
no_bad_label s e =
    let line = s.initial in
    let front = left_nil (line_breaks false line ++ when (is_open s) (at line rule.OpenConstant)) (continuation_breaks 1 (ends_inside false (text_field line)) s.continuations) e in
    let own = left_nil (line_breaks false line) (when (is_open s) (at line rule.OpenConstant)) front in
    not_when (has_bad_label line) (at line rule.BadLabel) (right_nil (when (has_tab line) (at line rule.Tab) ++ when (has_bad_character false (text_field line)) (at line rule.BadCharacter)) (when (has_bad_label line) (at line rule.BadLabel)) own)

-- each statement begins with an initial line
abbrev Begin : List Statement → Type 0
Begin [] = Unit {0}
Begin (s ∷ statements) = (is_initial s.initial ≡ true) × Begin statements

begin_initially : (lines : List Line) → Begin (grouped lines).statements
begin_initially [] = tt
begin_initially (line ∷ lines) = by (is_initial line) refl (begin_initially lines)
  where
    by : (t : Bool) → is_initial line ≡ t → Begin (grouped lines).statements → Begin (with_by t line (grouped lines)).statements
    by true e rest = (e, rest)
    by false e rest = rest

card_in_range : (s : Statement) → is_initial s.initial ≡ true → statement_breaks s ≡ [] → InRange (card_of s).label
card_in_range s i e =
    label_in_range s.initial (sym (ap (λ t. if t then is_bad_label (label_field s.initial) else not (list_all is_blank (label_field s.initial))) i) ∙ no_bad_label s e)

cards_in_range : (statements : List Statement) → Begin statements → flat_map statement_breaks statements ≡ [] → All (λ card. InRange card.label) (map card_of statements)
cards_in_range [] b e = λ k d l. absurd (omega arith)
cards_in_range (s ∷ statements) b e =
    All-cons (λ card. InRange card.label) (card_of s) (map card_of statements) (card_in_range s b.0 (left_nil (statement_breaks s) (flat_map statement_breaks statements) e)) (cards_in_range statements b.1 (right_nil (statement_breaks s) (flat_map statement_breaks statements) e))

nothing_first : (rs : List Refusal) (all cards : List Card) → unless_refused (first_of rs) all ≡ Ok cards → (rs ≡ []) × (all ≡ cards)
nothing_first [] all cards e = (refl, cc)
nothing_first (r ∷ rs) all cards e = cc

pub labels_in_range : LabelsAreInRange
labels_in_range bytes cards e =
    let g : Grouped = grouped (statement_lines bytes) in
    let none = nothing_first (breaks_of g) (map card_of g.statements) cards e in
    subst (All (λ card. InRange card.label)) none.1 (cards_in_range g.statements (begin_initially (statement_lines bytes)) (right_nil (leading_breaks false g.leading) (flat_map statement_breaks g.statements) none.0))
