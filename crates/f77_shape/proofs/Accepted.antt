-- What every accepted file satisfies.
use Rattle.f77_ast.specs.declared.rule.Rule.{Rule}
use Rattle.f77_ast.specs.declared.rule.Rule.TheVariants.{DoNesting, DoubleLabel, IfNesting, JumpIntoRange, LabelMissing, SizeLimit, StatementOrder}
use Rattle.std.proofs.Common.{◌≡◌, ◌≢◌, ℕ, zero, suc, ◌+◌, ◌<◌, ◌≤◌, Bool, true, false, not, ◌&&◌, ◌||◌, nat_lt, List, [], ◌∷◌, ◌++◌, map, length, drop, Option, None, Some, Ok, if◌then◌else◌, refl, sym, ap, ◌∙◌, subst, arith, slice_get, length-append}
use Rattle.std.proofs.lemmas.Bool.Decides.{nat_tests}
use Rattle.std.proofs.lemmas.List.Elements.{All-cons}
use Rattle.std.specs.Prelude.{All}
use Rattle.std.specs.List.{flat_map, list_any}
use Rattle.std.specs.Option.{option_to_list, option_and_then}
use Rattle.f77_ast.specs.Limits.{most_statements, most_units}
use Rattle.f77_ast.specs.declared.program.Listed.{Listed}
use Rattle.f77_ast.specs.declared.program.Unit.{Unit as ProgramUnit}
use Rattle.f77_ast.specs.declared.refusal.Refusal.{Refusal}
use Rattle.f77_ast.specs.Refusal.{when, first_of}
use Rattle.f77_structure.specs.Labels.{has_label, distance_to, target_from, target_in}
use Rattle.f77_structure.specs.Statements.{terminal_label, is_end}
use Rattle.f77_structure.specs.Units.{statement_count, onto_first, cut, unit_of, units_of}
use Rattle.f77_structure.specs.Ranges.{IsDo, terminal_at, HasRange, RangesNest}
use Rattle.f77_structure.specs.declared.stretches.Stretch.{Stretch}
use Rattle.f77_shape.specs.Blocks.{is_misplaced_part, is_unended}
use Rattle.f77_shape.specs.Breaks.{at, broken_by}
use Rattle.f77_shape.specs.Jumps.{jumps_in}
use Rattle.f77_shape.specs.Labels.{misses_label, doubles_label}
use Rattle.f77_shape.specs.Laws.{AcceptedRangesNest, AcceptedFilesAreSmall}
use Rattle.f77_shape.specs.Limits.{statement_breaks, unit_breaks, name_breaks, statement_over, unit_over}
use Rattle.f77_shape.specs.Order.{is_out_of_order}
use Rattle.f77_shape.specs.Program.{main_breaks, end_breaks, first_refused}
use Rattle.f77_shape.specs.Ranges.{may_end, crosses, crosses_a_range, leaves_a_block, breaks_to, breaks_with, breaks_range}
use Rattle.f77_shape.specs.Shape.{breaks_in, breaks_among, breaks_of, unless_refused, shape_of}
use Rattle.f77_structure.specs.Stretches.{range_to, range_at, ranges_from}

-- ---- nothing is broken

none_broken : (rs : List Refusal) → first_of rs ≡ None → rs ≡ []
none_broken [] e = refl
none_broken (r ∷ rs) e = absurd cc

pub left_none : {A : Type 0} (xs ys : List A) → xs ++ ys ≡ [] → xs ≡ []
left_none [] ys e = refl
left_none (x ∷ xs) ys e = absurd cc

pub right_none : {A : Type 0} (xs ys : List A) → xs ++ ys ≡ [] → ys ≡ []
right_none [] ys e = e
right_none (x ∷ xs) ys e = absurd cc

-- an accepted file has nothing that is broken, and its units
pub record Nothing (statements : List Listed) (units : List ProgramUnit) : Type 0 where
  pub none : breaks_of statements ≡ []
  pub made : units_of statements ≡ units

accepted_by : (o : Option Refusal) (all units : List ProgramUnit) → unless_refused o all ≡ Ok units → (o ≡ None) × (all ≡ units)
accepted_by None all units e = (refl, cc)
accepted_by (Some r) all units e = absurd cc

pub nothing_broken : (statements : List Listed) (units : List ProgramUnit) → shape_of statements ≡ Ok units → Nothing statements units
nothing_broken statements units e =
    let both = accepted_by (first_of (breaks_of statements)) (units_of statements) units e in
    record { none = none_broken (breaks_of statements) both.0; made = both.1 }

-- ---- a rule that no statement breaks

pub kept_when : (b : Bool) (r : Refusal) → when b r ≡ [] → b ≡ false
kept_when true r e = absurd cc
kept_when false r e = refl

pub kept : (rule : Rule) (breaking : ℕ → Listed → List Listed → Bool) (place : ℕ) (unit : List Listed) → broken_by rule breaking place unit ≡ [] → (k : ℕ) (x : Listed) → slice_get unit k ≡ Some x → breaking (place + k) x (drop (suc k) unit) ≡ false
kept rule breaking place [] e k x h = absurd cc
kept rule breaking place (y ∷ unit) e zero x h =
    let same : y ≡ x = cc in
    let here : breaking place y unit ≡ false = kept_when (breaking place y unit) (at y rule) (left_none (when (breaking place y unit) (at y rule)) (broken_by rule breaking (suc place) unit) e) in
    let n : place + 0 ≡ place = omega arith in
    ap (λ m. breaking m x unit) n ∙ ap (λ z. breaking place z unit) (sym same) ∙ here
kept rule breaking place (y ∷ unit) e (suc k) x h =
    let rest = kept rule breaking (suc place) unit (right_none (when (breaking place y unit) (at y rule)) (broken_by rule breaking (suc place) unit) e) k x h in
    let n : place + suc k ≡ suc place + k = omega arith in
    ap (λ m. breaking m x (drop (suc k) unit)) n ∙ rest

-- ---- labels

-- the target of a label is so far away
target_distance : (listing : List Listed) (place label target : ℕ) → target_from place label listing ≡ Some target → target ≡ place + distance_to label listing
target_distance [] place label target e = absurd cc
target_distance (x ∷ listing) place label target e = by (has_label label x) e (target_distance listing (suc place) label target)
  where
    by : (b : Bool) → (if b then Some place else target_from (suc place) label listing) ≡ Some target → (target_from (suc place) label listing ≡ Some target → target ≡ suc place + distance_to label listing) → target ≡ place + (if not b then 1 + distance_to label listing else 0)
    by true e rest = let same : place ≡ target = cc in omega (arith, same)
    by false e rest = omega (arith, rest e)

-- the target of a label among the statements from one before it on
target_drop : (listing : List Listed) (place label target k : ℕ) → target_from place label listing ≡ Some target → place + k ≤ target → target_from (place + k) label (drop k listing) ≡ Some target
target_drop listing place label target zero e h = let n : place + 0 ≡ place = omega arith in ap (λ m. target_from m label listing) n ∙ e
target_drop [] place label target (suc k) e h = absurd cc
target_drop (x ∷ listing) place label target (suc k) e h = by (has_label label x) e (λ f. target_drop listing (suc place) label target k f (omega arith))
  where
    by : (b : Bool) → (if b then Some place else target_from (suc place) label listing) ≡ Some target → (target_from (suc place) label listing ≡ Some target → target_from (suc place + k) label (drop k listing) ≡ Some target) → target_from (place + suc k) label (drop k listing) ≡ Some target
    by true e rest = let same : place ≡ target = cc in absurd (omega (arith, same))
    by false e rest = let n : place + suc k ≡ suc place + k = omega arith in ap (λ m. target_from m label (drop k listing)) n ∙ rest e

-- the terminal statement of a DO statement is the target of its label, where that stands behind it
terminal_is : (unit : List Listed) (place label target : ℕ) → target_in label unit ≡ Some target → place < target → terminal_at unit place label ≡ target
terminal_is unit place label target e h =
    let from : target_from (0 + (place + 1)) label (drop (place + 1) unit) ≡ Some target = target_drop unit 0 label target (place + 1) e (omega arith) in
    let d = target_distance (drop (place + 1) unit) (0 + (place + 1)) label target from in
    omega (arith, d)

-- ---- ranges

and_true : (a b : Bool) → not (a && b) ≡ false → (a ≡ true) × (b ≡ true)
and_true true true e = (refl, refl)
and_true true false e = absurd cc
and_true false b e = absurd cc

three_false : (a b d : Bool) → (a || b || d) ≡ false → (a ≡ false) × (b ≡ false) × (d ≡ false)
three_false true b d e = absurd cc
three_false false true d e = absurd cc
three_false false false d e = (refl, refl, e)

-- a DO statement that breaks no rule: its target
record Kept (unit : List Listed) (place label : ℕ) : Type 0 where
  target : ℕ
  found : target_in label unit ≡ Some target
  behind : place < target
  may : may_end (slice_get unit target) ≡ true
  apart : crosses_a_range unit (record { opens = place; last = target }) ≡ false

kept_by : (unit : List Listed) (place label : ℕ) (o : Option ℕ) → target_in label unit ≡ o → breaks_to unit place o ≡ false → Kept unit place label
kept_by unit place label None e f = absurd cc
kept_by unit place label (Some target) e f =
    let parts = three_false (not (nat_lt place target && may_end (slice_get unit target))) (crosses_a_range unit (record { opens = place; last = target })) (leaves_a_block unit (record { opens = place; last = target })) f in
    let both = and_true (nat_lt place target) (may_end (slice_get unit target)) parts.0 in
    let test : nat_lt place target ≡ true = both.0 in
    record { target = target; found = e; behind = grind (arith, nat_tests); may = both.1; apart = parts.1 }

do_kept : (unit : List Listed) (place label : ℕ) → broken_by DoNesting (breaks_range unit) 0 unit ≡ [] → IsDo unit place label → Kept unit place label
do_kept unit place label none d =
    let n : 0 + place ≡ place = omega arith in
    let false_here : breaks_range unit place d.listed (drop (suc place) unit) ≡ false = ap (λ m. breaks_range unit m d.listed (drop (suc place) unit)) (sym n) ∙ kept DoNesting (breaks_range unit) 0 unit none place d.listed d.stands in
    kept_by unit place label (target_in label unit) refl (ap (breaks_with unit place) (sym d.names) ∙ false_here)

range_by : (unit : List Listed) (place label : ℕ) (o : Option Listed) → slice_get unit (terminal_at unit place label) ≡ o → may_end o ≡ true → HasRange unit place label
range_by unit place label None e m = absurd cc
range_by unit place label (Some terminal) e m = record { terminal = terminal; stands = e; ends = m }

has_range : (unit : List Listed) (place label : ℕ) → Kept unit place label → HasRange unit place label
has_range unit place label k =
    let there : terminal_at unit place label ≡ k.target = terminal_is unit place label k.target k.found k.behind in
    range_by unit place label (slice_get unit (terminal_at unit place label)) refl (ap (λ n. may_end (slice_get unit n)) there ∙ k.may)

-- ---- the ranges of a unit

any_left : (test : Stretch → Bool) (xs ys : List Stretch) → list_any test (xs ++ ys) ≡ false → list_any test xs ≡ false
any_left test [] ys e = refl
any_left test (x ∷ xs) ys e = by (test x) e (any_left test xs ys)
  where
    by : (b : Bool) → (b || list_any test (xs ++ ys)) ≡ false → (list_any test (xs ++ ys) ≡ false → list_any test xs ≡ false) → (b || list_any test xs) ≡ false
    by true e rest = e
    by false e rest = rest e

any_right : (test : Stretch → Bool) (xs ys : List Stretch) → list_any test (xs ++ ys) ≡ false → list_any test ys ≡ false
any_right test [] ys e = e
any_right test (x ∷ xs) ys e = by (test x) e (any_right test xs ys)
  where
    by : (b : Bool) → (b || list_any test (xs ++ ys)) ≡ false → (list_any test (xs ++ ys) ≡ false → list_any test ys ≡ false) → list_any test ys ≡ false
    by true e rest = absurd cc
    by false e rest = rest e

or_left : (a b : Bool) → (a || b) ≡ false → a ≡ false
or_left true b e = e
or_left false b e = refl

-- a test that no range of a unit passes, at the range of one of its statements
no_range : (test : Stretch → Bool) (unit : List Listed) (place : ℕ) (listing : List Listed) → list_any test (ranges_from unit place listing) ≡ false → (k : ℕ) (x : Listed) (s : Stretch) → slice_get listing k ≡ Some x → range_at unit (place + k) x ≡ Some s → test s ≡ false
no_range test unit place [] e k x s h r = absurd cc
no_range test unit place (y ∷ listing) e zero x s h r =
    let same : y ≡ x = cc in
    let n : place + 0 ≡ place = omega arith in
    let here : range_at unit place y ≡ Some s = ap (range_at unit place) same ∙ ap (λ m. range_at unit m x) (sym n) ∙ r in
    let first : list_any test (option_to_list (Some s)) ≡ false = ap (λ o. list_any test (option_to_list o)) (sym here) ∙ any_left test (option_to_list (range_at unit place y)) (ranges_from unit (suc place) listing) e in
    or_left (test s) false first
no_range test unit place (y ∷ listing) e (suc k) x s h r =
    let n : suc place + k ≡ place + suc k = omega arith in
    no_range test unit (suc place) listing (any_right test (option_to_list (range_at unit place y)) (ranges_from unit (suc place) listing) e) k x s h (ap (λ m. range_at unit m x) n ∙ r)

range_here : (unit : List Listed) (place label target : ℕ) (x : Listed) → terminal_label x.stmt ≡ Some label → target_in label unit ≡ Some target → place < target → range_at unit place x ≡ Some (record { opens = place; last = target })
range_here unit place label target x names found behind =
    let test : nat_lt place target ≡ true = grind (arith, nat_tests) in
    ap (λ o. range_to place (option_and_then (λ l. target_in l unit) o)) names
    ∙ ap (range_to place) found
    ∙ ap (λ b. if b then Some (record { opens = place; last = target }) else None) test

not_crossing : (outer inner first last : ℕ) → crosses (record { opens = outer; last = first }) (record { opens = inner; last = last }) ≡ false → outer < inner → inner ≤ first → last ≤ first
not_crossing outer inner first last e h k = grind (arith, nat_tests)

nested_ranges : (unit : List Listed) → broken_by DoNesting (breaks_range unit) 0 unit ≡ [] → (outer inner named label : ℕ) → IsDo unit outer named → IsDo unit inner label → outer < inner → inner ≤ terminal_at unit outer named → terminal_at unit inner label ≤ terminal_at unit outer named
nested_ranges unit none outer inner named label o i less within =
    let ko : Kept unit outer named = do_kept unit outer named none o in
    let ki : Kept unit inner label = do_kept unit inner label none i in
    let to : terminal_at unit outer named ≡ ko.target = terminal_is unit outer named ko.target ko.found ko.behind in
    let ti : terminal_at unit inner label ≡ ki.target = terminal_is unit inner label ki.target ki.found ki.behind in
    let s : Stretch = record { opens = outer; last = ko.target } in
    let t : Stretch = record { opens = inner; last = ki.target } in
    let n : 0 + inner ≡ inner = omega arith in
    let here : range_at unit (0 + inner) i.listed ≡ Some t = ap (λ m. range_at unit m i.listed) n ∙ range_here unit inner label ki.target i.listed i.names ki.found ki.behind in
    let apart : (crosses s t || crosses t s) ≡ false = no_range (λ other. crosses s other || crosses other s) unit 0 unit ko.apart inner i.listed t i.stands here in
    let last : ki.target ≤ ko.target = not_crossing outer inner ko.target ki.target (or_left (crosses s t) (crosses t s) apart) less (omega (arith, to)) in
    omega (arith, to, ti)

unit_nests : (unit : List Listed) → breaks_in unit ≡ [] → RangesNest unit
unit_nests unit none =
    let a = broken_by LabelMissing (misses_label unit) 0 unit in
    let b = broken_by DoubleLabel (doubles_label unit) 0 unit in
    let d = broken_by DoNesting (breaks_range unit) 0 unit in
    let e = broken_by IfNesting (is_misplaced_part unit) 0 unit in
    let f = broken_by IfNesting is_unended 0 unit in
    let g = broken_by JumpIntoRange (jumps_in unit) 0 unit in
    let h = broken_by StatementOrder (is_out_of_order unit) 0 unit in
    let six : a ++ b ++ d ++ e ++ f ++ g ≡ [] = left_none (a ++ b ++ d ++ e ++ f ++ g) h none in
    let five : a ++ b ++ d ++ e ++ f ≡ [] = left_none (a ++ b ++ d ++ e ++ f) g six in
    let four : a ++ b ++ d ++ e ≡ [] = left_none (a ++ b ++ d ++ e) f five in
    let three : a ++ b ++ d ≡ [] = left_none (a ++ b ++ d) e four in
    let ranges : d ≡ [] = right_none (a ++ b) d three in
    record {
      ended = λ place label is. has_range unit place label (do_kept unit place label ranges is);
      nested = nested_ranges unit ranges;
    }

-- what each unit without a break keeps, each unit of an accepted file keeps
module _ (P : List Listed → Type 0) (keeps : (unit : List Listed) → breaks_in unit ≡ [] → P unit) where
  all_keep : (units : List ProgramUnit) → flat_map (λ unit. breaks_in unit.listing) units ≡ [] → All (λ unit. P unit.listing) units
  all_keep [] e = λ k d h. absurd (omega arith)
  all_keep (unit ∷ units) e =
      All-cons (λ unit. P unit.listing) unit units
      (keeps unit.listing (left_none (breaks_in unit.listing) (flat_map (λ unit. breaks_in unit.listing) units) e))
      (all_keep units (right_none (breaks_in unit.listing) (flat_map (λ unit. breaks_in unit.listing) units) e))

  pub units_keep : (statements : List Listed) (units : List ProgramUnit) → shape_of statements ≡ Ok units → All (λ unit. P unit.listing) units
  units_keep statements units e =
      let n : Nothing statements units = nothing_broken statements units e in
      let us = units_of statements in
      let among : breaks_among us ≡ [] = right_none (end_breaks statements ++ statement_breaks statements) (breaks_among us) n.none in
      subst (λ (l : List ProgramUnit). All (λ unit. P unit.listing) l) n.made
      (all_keep us (right_none (main_breaks us ++ unit_breaks us ++ name_breaks 0 us) (flat_map (λ unit. breaks_in unit.listing) us) among))

pub ranges_nest : AcceptedRangesNest
ranges_nest = units_keep RangesNest unit_nests

-- ---- small files

joined_first_unit : (x : Listed) (units : List (List Listed)) → flat_map (λ unit. unit.listing) (map unit_of (onto_first x units)) ≡ x ∷ flat_map (λ unit. unit.listing) (map unit_of units)
joined_first_unit x [] = refl
joined_first_unit x (unit ∷ units) = refl

joined : (statements : List Listed) → flat_map (λ unit. unit.listing) (units_of statements) ≡ statements
joined [] = refl
joined (x ∷ statements) = by (is_end x.stmt) (joined statements)
  where
    by : (b : Bool) → flat_map (λ unit. unit.listing) (map unit_of (cut statements)) ≡ statements → flat_map (λ unit. unit.listing) (map unit_of (if b then (x ∷ []) ∷ cut statements else onto_first x (cut statements))) ≡ x ∷ statements
    by true e = ap (λ l. x ∷ l) e
    by false e = joined_first_unit x (cut statements) ∙ ap (λ l. x ∷ l) e

-- nothing stands at a place of a list
past_end : {A : Type 0} (xs : List A) (k : ℕ) → slice_get xs k ≡ None → length xs ≤ k
past_end [] k e = omega arith
past_end (x ∷ xs) zero e = absurd cc
past_end (x ∷ xs) (suc k) e = let rest = past_end xs k e in omega (arith, rest)

no_statement : (o : Option Listed) → statement_over o ≡ [] → o ≡ None
no_statement None e = refl
no_statement (Some x) e = absurd cc

-- a unit of a file has a statement
abbrev pub HasStatement : ProgramUnit → Type 0
HasStatement unit = unit.listing ≢ []

no_unit : (o : Option ProgramUnit) → unit_over o ≡ [] → ((u : ProgramUnit) → o ≡ Some u → HasStatement u) → o ≡ None
no_unit None e h = refl
no_unit (Some u) e h = by u.listing e (h u refl)
  where
    by : (l : List Listed) → first_refused SizeLimit l ≡ [] → (l ≡ [] → ⊥) → Some u ≡ None
    by [] e k = absurd (k refl)
    by (x ∷ l) e k = absurd cc

pub have_statements : (statements : List Listed) (k : ℕ) (u : List Listed) → slice_get (cut statements) k ≡ Some u → u ≢ []
have_statements [] k u e = absurd cc
have_statements (x ∷ statements) k u e = by (is_end x.stmt) (cut statements) k e (have_statements statements)
  where
    nonempty : (first : Listed) (l : List Listed) → Some (first ∷ l) ≡ Some u → u ≢ []
    nonempty first l same empty = absurd cc

    by : (b : Bool) (units : List (List Listed)) (k : ℕ) → slice_get (if b then (x ∷ []) ∷ units else onto_first x units) k ≡ Some u → ((k : ℕ) (u : List Listed) → slice_get units k ≡ Some u → u ≢ []) → u ≢ []
    by true units zero e rest = nonempty x [] e
    by true units (suc k) e rest = rest k u e
    by false [] zero e rest = nonempty x [] e
    by false [] (suc k) e rest = absurd cc
    by false (unit ∷ units) zero e rest = nonempty x unit e
    by false (unit ∷ units) (suc k) e rest = rest (suc k) u e

pub mapped : (units : List (List Listed)) (k : ℕ) (u : ProgramUnit) → slice_get (map unit_of units) k ≡ Some u → (l : List Listed) × (slice_get units k ≡ Some l) × (u ≡ unit_of l)
mapped [] k u e = absurd cc
mapped (l ∷ units) zero u e = (l, refl, cc)
mapped (l ∷ units) (suc k) u e = mapped units k u e

-- the statements of some units, counted
counted_in : (units : List ProgramUnit) → statement_count units ≡ length (flat_map (λ unit. unit.listing) units)
counted_in [] = refl
counted_in (unit ∷ units) =
    let rest = counted_in units in
    let both = length-append unit.listing (flat_map (λ unit. unit.listing) units) in
    omega (arith, rest, both)

pub files_are_small : AcceptedFilesAreSmall
files_are_small statements units e =
    let n : Nothing statements units = nothing_broken statements units e in
    let us = units_of statements in
    let front : end_breaks statements ++ statement_breaks statements ≡ [] = left_none (end_breaks statements ++ statement_breaks statements) (breaks_among us) n.none in
    let among : breaks_among us ≡ [] = right_none (end_breaks statements ++ statement_breaks statements) (breaks_among us) n.none in
    let three : main_breaks us ++ unit_breaks us ++ name_breaks 0 us ≡ [] = left_none (main_breaks us ++ unit_breaks us ++ name_breaks 0 us) (flat_map (λ unit. breaks_in unit.listing) us) among in
    let two : main_breaks us ++ unit_breaks us ≡ [] = left_none (main_breaks us ++ unit_breaks us) (name_breaks 0 us) three in
    let of_units : unit_breaks us ≡ [] = right_none (main_breaks us) (unit_breaks us) two in
    let few : length us ≤ most_units = past_end us most_units (no_unit (slice_get us most_units) of_units (λ u f. let m = mapped (cut statements) most_units u f in λ none. have_statements statements most_units m.0 m.1 (ap (λ (w : ProgramUnit). w.listing) (sym m.2) ∙ none))) in
    let all : flat_map (λ unit. unit.listing) units ≡ statements = ap (λ (l : List ProgramUnit). flat_map (λ unit. unit.listing) l) (sym n.made) ∙ joined statements in
    record {
      all = all;
      counted = counted_in units ∙ ap length all;
      few_statements = past_end statements most_statements (no_statement (slice_get statements most_statements) (right_none (end_breaks statements) (statement_breaks statements) front));
      few_units = subst (λ (l : List ProgramUnit). length l ≤ most_units) n.made few;
    }
