-- What is broken in a file stands in order, so the first refusal stands first.
use Rattle.std.proofs.Common.{◌≡◌, ℕ, ◌+◌, ◌*◌, ◌<◌, ◌≤◌, Bool, true, false, not, ◌==◌, List, [], ◌∷◌, ◌++◌, length, filter, Option, None, Some, if◌then◌else◌, refl, sym, ap, ◌∙◌, arith}
use Rattle.std.specs.List.{flat_map}
use Rattle.std.specs.Option.{option_or}
use Rattle.std.proofs.lemmas.Bool.Decides.{nat_tests}
use Rattle.f77_ast.specs.declared.refusal.Refusal.{Refusal}
use Rattle.f77_ast.specs.Refusal.{code_of, when, is_earlier, earlier_of, first_of}
use Rattle.f77_ast.specs.declared.rule.Rule.{Rule}
use Rattle.f77_ast.specs.declared.rule.Rule.TheVariants as rule
use Rattle.f77_cards.specs.declared.line.Line.{Line}
use Rattle.f77_cards.specs.Columns.{numbered, filled, is_comment, is_initial, text_field}
use Rattle.f77_cards.specs.Lines.{lines_of}
use Rattle.f77_cards.specs.Rules.{has_tab, has_bad_character, has_bad_label}
use Rattle.f77_cards.specs.Text.{ends_inside}
use Rattle.f77_cards.specs.Cards.{Statement, Grouped, grouped, statement_lines, at, line_breaks, continuation_breaks, is_open, statement_breaks, leading_breaks, breaks_of}
use Rattle.f77_cards.proofs.Breaks.{head_of, head_append}
use Rattle.f77_cards.proofs.Grouping.{with_by}

-- ---- refusals in order

-- a refusal's place: by line, and on a line by code
abbrev place : Refusal → ℕ
place r = 8 * r.line + r.code

-- the places of refusals lie from low to below high, and codes are below 8
abbrev Within : ℕ → ℕ → List Refusal → Type 0
Within low high [] = Unit {0}
Within low high (r ∷ rs) = (low ≤ place r) × (place r < high) × (r.code < 8) × Within low high rs

-- the places of refusals lie there, and the first refusal stands first
record Sorted (low high : ℕ) (rs : List Refusal) : Type 0 where
  within : Within low high rs
  first : first_of rs ≡ head_of rs

-- a refusal that may be there has a place from low on
abbrev From : ℕ → Option Refusal → Type 0
From low None = Unit {0}
From low (Some r) = (low ≤ place r) × (r.code < 8)

from_if : (low : ℕ) (t : Bool) (r s : Refusal) → From low (Some r) → From low (Some s) → From low (Some (if t then s else r))
from_if low true r s a b = b
from_if low false r s a b = a

first_from : (low high : ℕ) (rs : List Refusal) → Within low high rs → From low (first_of rs)
first_from low high [] h = tt
first_from low high (r ∷ rs) h = by (first_of rs) (first_from low high rs h.3)
  where
    by : (o : Option Refusal) → From low o → From low (Some (earlier_of r o))
    by None f = (h.0, h.2)
    by (Some s) f = from_if low (is_earlier s r) r s (h.0, h.2) f

not_earlier : (a b c d : ℕ) → b < 8 → d < 8 → 8 * a + b < 8 * c + d → is_earlier (record { line = c; code = d }) (record { line = a; code = b }) ≡ false
not_earlier a b c d p q h = grind (arith, nat_tests)

stays : (high : ℕ) (r : Refusal) (o : Option Refusal) → place r < high → r.code < 8 → From high o → earlier_of r o ≡ r
stays high r None h c f = refl
stays high r (Some s) h c f =
    ap (λ t. if t then s else r) (not_earlier r.line r.code s.line s.code c f.1 (omega arith))

first_append : (low mid high : ℕ) (xs ys : List Refusal) → Within low mid xs → Within mid high ys → first_of (xs ++ ys) ≡ option_or (first_of xs) (first_of ys)
first_append low mid high [] ys h k = refl
first_append low mid high (x ∷ xs) ys h k =
    ap (λ o. Some (earlier_of x o)) (first_append low mid high xs ys h.3 k) ∙ by (first_of xs)
  where
    by : (o : Option Refusal) → Some (earlier_of x (option_or o (first_of ys))) ≡ Some (earlier_of x o)
    by None = ap Some (stays mid x (first_of ys) h.1 h.2 (first_from mid high ys k))
    by (Some s) = refl

within_wide : (low high l m : ℕ) (rs : List Refusal) → l ≤ low → high ≤ m → Within low high rs → Within l m rs
within_wide low high l m [] a b h = tt
within_wide low high l m (r ∷ rs) a b h = (omega arith, omega arith, h.2, within_wide low high l m rs a b h.3)

within_append : (low high : ℕ) (xs ys : List Refusal) → Within low high xs → Within low high ys → Within low high (xs ++ ys)
within_append low high [] ys h k = k
within_append low high (x ∷ xs) ys h k = (h.0, h.1, h.2, within_append low high xs ys h.3 k)

-- refusals in order, and others after them
joins : (low mid high : ℕ) (xs ys : List Refusal) → low ≤ mid → mid ≤ high → Sorted low mid xs → Sorted mid high ys → Sorted low high (xs ++ ys)
joins low mid high xs ys a b h k = record {
  within = within_append low high xs ys (within_wide low mid low high xs (omega arith) b h.within) (within_wide mid high low high ys a (omega arith) k.within);
  first = first_append low mid high xs ys h.within k.within ∙ ap (λ o. option_or o (first_of ys)) h.first ∙ ap (option_or (head_of xs)) k.first ∙ sym (head_append xs ys);
}

wider : (low high l m : ℕ) (rs : List Refusal) → l ≤ low → high ≤ m → Sorted low high rs → Sorted l m rs
wider low high l m rs a b h = record { within = within_wide low high l m rs a b h.within; first = h.first }

nothing : (low high : ℕ) → Sorted low high []
nothing low high = record { within = tt; first = refl }

-- ---- one line

one_code : (t : Bool) (line : Line) (broken : Rule) → code_of broken < 8 → Sorted (8 * line.number + code_of broken) (8 * line.number + (code_of broken + 1)) (when t (at line broken))
one_code true line broken h = record { within = (omega arith, omega arith, h, tt); first = refl }
one_code false line broken h = nothing (8 * line.number + code_of broken) (8 * line.number + (code_of broken + 1))

line_sorted : (inside : Bool) (line : Line) → Sorted (8 * line.number) (8 * line.number + 4) (line_breaks inside line)
line_sorted inside line =
    let n : ℕ = 8 * line.number in
    let tab = when (has_tab line) (at line rule.Tab) in
    let bad = when (has_bad_character inside (text_field line)) (at line rule.BadCharacter) in
    let label = when (has_bad_label line) (at line rule.BadLabel) in
    wider (n + 1) (n + 4) n (n + 4) (tab ++ bad ++ label) (omega arith) (omega arith)
    (joins (n + 1) (n + 3) (n + 4) (tab ++ bad) label (omega arith) (omega arith)
    (joins (n + 1) (n + 2) (n + 3) tab bad (omega arith) (omega arith) (one_code (has_tab line) line rule.Tab (omega arith)) (one_code (has_bad_character inside (text_field line)) line rule.BadCharacter (omega arith)))
    (one_code (has_bad_label line) line rule.BadLabel (omega arith)))

-- a line with one more code
more_sorted : (inside : Bool) (line : Line) (t : Bool) (broken : Rule) → 4 ≤ code_of broken → code_of broken < 8 → Sorted (8 * line.number) (8 * (line.number + 1)) (line_breaks inside line ++ when t (at line broken))
more_sorted inside line t broken a b =
    let n : ℕ = 8 * line.number in
    let code : ℕ = code_of broken in
    let one = when t (at line broken) in
    joins n (n + code) (8 * (line.number + 1)) (line_breaks inside line) one (omega arith) (omega arith)
    (wider n (n + 4) n (n + code) (line_breaks inside line) (omega arith) (omega arith) (line_sorted inside line))
    (wider (n + code) (n + (code + 1)) (n + code) (8 * (line.number + 1)) one (omega arith) (omega arith) (one_code t line broken b))

-- ---- lines in order

-- the numbers of lines rise, from low to below high
abbrev pub Rising : ℕ → ℕ → List Line → Type 0
Rising low high [] = low ≤ high
Rising low high (line ∷ lines) = (low ≤ line.number) × Rising (line.number + 1) high lines

pub rising_le : (low high : ℕ) (lines : List Line) → Rising low high lines → low ≤ high
rising_le low high [] h = h
rising_le low high (line ∷ lines) h =
    let k = rising_le (line.number + 1) high lines h.1 in omega (arith, h.0)

rising_lower : (low high l : ℕ) (lines : List Line) → l ≤ low → Rising low high lines → Rising l high lines
rising_lower low high l [] a h = omega arith
rising_lower low high l (line ∷ lines) a h = (omega (arith, h.0), h.1)

numbers_rise : (lines : List (List ℕ)) (n top : ℕ) → n + length lines ≤ top → Rising n top (filter (λ line. not (is_comment line)) (numbered n lines))
numbers_rise [] n top h = omega arith
numbers_rise (line ∷ lines) n top h =
    by (is_comment (record { number = n; columns = filled line })) (numbers_rise lines (n + 1) top (omega arith))
  where
    by : (t : Bool) → Rising (n + 1) top (filter (λ line. not (is_comment line)) (numbered (n + 1) lines)) → Rising n top (if not t then record { number = n; columns = filled line } ∷ filter (λ line. not (is_comment line)) (numbered (n + 1) lines) else filter (λ line. not (is_comment line)) (numbered (n + 1) lines))
    by true rest = rising_lower (n + 1) top n (filter (λ line. not (is_comment line)) (numbered (n + 1) lines)) (omega arith) rest
    by false rest = (omega arith, rest)

continuations_sorted : (lines : List Line) (k : ℕ) (inside : Bool) (low high : ℕ) → Rising low high lines → Sorted (8 * low) (8 * high) (continuation_breaks k inside lines)
continuations_sorted [] k inside low high h = nothing (8 * low) (8 * high)
continuations_sorted (line ∷ lines) k inside low high h =
    let n : ℕ = line.number in
    let l : n + 1 ≤ high = rising_le (n + 1) high lines h.1 in
    let here = line_breaks inside line ++ when (k == 20) (at line rule.TooManyContinuations) in
    let below : low ≤ n = h.0 in
    joins (8 * low) (8 * (n + 1)) (8 * high) here (continuation_breaks (k + 1) (ends_inside inside (text_field line)) lines) (omega arith) (omega arith)
    (wider (8 * n) (8 * (n + 1)) (8 * low) (8 * (n + 1)) here (omega arith) (omega arith) (more_sorted inside line (k == 20) rule.TooManyContinuations (omega arith) (omega arith)))
    (continuations_sorted lines (k + 1) (ends_inside inside (text_field line)) (n + 1) high h.1)

leading_sorted : (lines : List Line) (inside : Bool) (low high : ℕ) → Rising low high lines → Sorted (8 * low) (8 * high) (leading_breaks inside lines)
leading_sorted [] inside low high h = nothing (8 * low) (8 * high)
leading_sorted (line ∷ lines) inside low high h =
    let n : ℕ = line.number in
    let l : n + 1 ≤ high = rising_le (n + 1) high lines h.1 in
    let here = line_breaks inside line ++ when true (at line rule.LeadingContinuation) in
    let below : low ≤ n = h.0 in
    joins (8 * low) (8 * (n + 1)) (8 * high) here (leading_breaks (ends_inside inside (text_field line)) lines) (omega arith) (omega arith)
    (wider (8 * n) (8 * (n + 1)) (8 * low) (8 * (n + 1)) here (omega arith) (omega arith) (more_sorted inside line true rule.LeadingContinuation (omega arith) (omega arith)))
    (leading_sorted lines (ends_inside inside (text_field line)) (n + 1) high h.1)

statement_sorted : (s : Statement) (low high : ℕ) → Rising low high (s.initial ∷ s.continuations) → Sorted (8 * low) (8 * high) (statement_breaks s)
statement_sorted s low high h =
    let n : ℕ = s.initial.number in
    let l : n + 1 ≤ high = rising_le (n + 1) high s.continuations h.1 in
    let here = line_breaks false s.initial ++ when (is_open s) (at s.initial rule.OpenConstant) in
    let inside = ends_inside false (text_field s.initial) in
    let below : low ≤ n = h.0 in
    joins (8 * low) (8 * (n + 1)) (8 * high) here (continuation_breaks 1 inside s.continuations) (omega arith) (omega arith)
    (wider (8 * n) (8 * (n + 1)) (8 * low) (8 * (n + 1)) here (omega arith) (omega arith) (more_sorted false s.initial (is_open s) rule.OpenConstant (omega arith) (omega arith)))
    (continuations_sorted s.continuations 1 inside (n + 1) high h.1)

-- ---- grouped lines in order

-- the lines of statements rise
abbrev pub InOrder : ℕ → ℕ → List Statement → Type 0
InOrder low high [] = low ≤ high
InOrder low high (s ∷ statements) = (mid : ℕ) × Rising low mid (s.initial ∷ s.continuations) × InOrder mid high statements

order_le : (low high : ℕ) (statements : List Statement) → InOrder low high statements → low ≤ high
order_le low high [] h = h
order_le low high (s ∷ statements) h =
    let a : low ≤ h.0 = rising_le low h.0 (s.initial ∷ s.continuations) h.1 in
    let b : h.0 ≤ high = order_le h.0 high statements h.2 in
    omega arith

-- the lines of a file rise
pub record GroupsRise (low high : ℕ) (g : Grouped) : Type 0 where
  pub mid : ℕ
  pub leading : Rising low mid g.leading
  pub statements : InOrder mid high g.statements

groups_rise : (lines : List Line) (low high : ℕ) → Rising low high lines → GroupsRise low high (grouped lines)
groups_rise [] low high h = record { mid = low; leading = omega arith; statements = h }
groups_rise (line ∷ lines) low high h = by (is_initial line) (groups_rise lines (line.number + 1) high h.1)
  where
    by : (t : Bool) → GroupsRise (line.number + 1) high (grouped lines) → GroupsRise low high (with_by t line (grouped lines))
    by true o = record { mid = low; leading = omega arith; statements = (o.mid, (h.0, o.leading), o.statements) }
    by false o = record { mid = o.mid; leading = (h.0, o.leading); statements = o.statements }

statements_sorted : (statements : List Statement) (low high : ℕ) → InOrder low high statements → Sorted (8 * low) (8 * high) (flat_map statement_breaks statements)
statements_sorted [] low high h = nothing (8 * low) (8 * high)
statements_sorted (s ∷ statements) low high h =
    let a : low ≤ h.0 = rising_le low h.0 (s.initial ∷ s.continuations) h.1 in
    let b : h.0 ≤ high = order_le h.0 high statements h.2 in
    joins (8 * low) (8 * h.0) (8 * high) (statement_breaks s) (flat_map statement_breaks statements) (omega arith) (omega arith) (statement_sorted s low h.0 h.1) (statements_sorted statements h.0 high h.2)

breaks_sorted : (g : Grouped) (low high : ℕ) → GroupsRise low high g → Sorted (8 * low) (8 * high) (breaks_of g)
breaks_sorted g low high h =
    let a : low ≤ h.mid = rising_le low h.mid g.leading h.leading in
    let b : h.mid ≤ high = order_le h.mid high g.statements h.statements in
    joins (8 * low) (8 * h.mid) (8 * high) (leading_breaks false g.leading) (flat_map statement_breaks g.statements) (omega arith) (omega arith) (leading_sorted g.leading false low h.mid h.leading) (statements_sorted g.statements h.mid high h.statements)

pub file_rises : (bytes : List ℕ) → GroupsRise 1 (1 + length (lines_of bytes)) (grouped (statement_lines bytes))
file_rises bytes =
    groups_rise (statement_lines bytes) 1 (1 + length (lines_of bytes)) (numbers_rise (lines_of bytes) 1 (1 + length (lines_of bytes)) (omega arith))

-- the first refusal of a file is what stands first of all that is broken
pub first_is_head : (bytes : List ℕ) → first_of (breaks_of (grouped (statement_lines bytes))) ≡ head_of (breaks_of (grouped (statement_lines bytes)))
first_is_head bytes =
    (breaks_sorted (grouped (statement_lines bytes)) 1 (1 + length (lines_of bytes)) (file_rises bytes)).first
