-- Names, counted statement by statement and unit by unit.
use Rattle.f77_ast.specs.Limits.{most_names}
use Rattle.f77_ast.specs.declared.rule.Rule.TheVariants.{SizeLimit}
use Rattle.std.proofs.Common.{◌≡◌, ℕ, ◌+◌, ◌<◌, min, Bool, not, ◌&&◌, ◌||◌, List, [], ◌∷◌, ◌++◌, length, get_or, take, drop, Option, None, Some, if◌then◌else◌, refl, sym, ap, ◌∙◌, arith, append-nil, nat_eq}
use Rattle.std.proofs.lemmas.Bool.Decides.{nat_tests}
use Rattle.std.proofs.lemmas.List.{take_more, drop_more}
use Rattle.std.proofs.lemmas.List.Folds.{list_any-append}
use Rattle.std.specs.Cmp.Lexicographic.{pointwise}
use Rattle.f77_ast.specs.declared.program.Listed.{Listed}
use Rattle.f77_ast.specs.declared.program.Unit.{Unit as ProgramUnit}
use Rattle.f77_ast.specs.declared.refusal.Refusal.{Refusal}
use Rattle.f77_ast.specs.Refusal.{first_of, sooner}
use Rattle.f77_shape.specs.declared.names.Names.{Names}
use Rattle.f77_shape.specs.Breaks.{at}
use Rattle.f77_shape.specs.Limits.{name_count, names_of, names_pass, name_breaks, is_past, passes}
use Rattle.f77_shape.specs.Names.{names_in}
use Rattle.f77_shape.specs.NameSets.{is_among, Holds, Adds}
use Rattle.f77_shape.proofs.AddLemmas.{flat_map_append}
use Rattle.f77_ast.proofs.Refusals.{sooner-assoc, first_of-append, first_of-when}

-- the names of some units, added up
abbrev pub all_counted : (others : ℕ) → List ProgramUnit → ℕ
all_counted others [] = others
all_counted others (unit ∷ units) = all_counted (others + name_count (names_of unit.listing)) units

-- ---- one statement more

pub names_more : (unit : List Listed) (i : ℕ) (x : Listed) → i < length unit → x ≡ get_or unit i x → names_of (take (i + 1) unit) ≡ names_of (take i unit) ++ names_in x.stmt
names_more unit i x within stands =
    ap names_of (take_more unit i x within ∙ ap (λ y. take i unit ++ y ∷ []) (sym stands))
    ∙ flat_map_append (λ listed. names_in listed.stmt) (take i unit) (x ∷ [])
    ∙ ap (λ l. names_of (take i unit) ++ l) (append-nil (names_in x.stmt))

pub holds_more : (names more : List (List ℕ)) (before after : Names) → Holds names before → Adds more before after → Holds (names ++ more) after
holds_more names more before after held added = record {
  at = λ name. added.at name ∙ ap (λ b. b || is_among more name) (held.at name) ∙ sym (list_any-append (pointwise nat_eq name) names more);
}

past_capped : (a n : ℕ) → is_past (min (min a (most_names + 1) + n) (most_names + 1)) ≡ is_past (a + n)
past_capped a n = grind (arith, nat_tests)

-- whether the limit is passed, by numbers that are capped
pub passes_capped : (others all n m before after : ℕ) → others ≡ min all (most_names + 1) → before ≡ min (others + n) (most_names + 1) → after ≡ min (others + m) (most_names + 1) → passes before after ≡ passes (all + n) (all + m)
passes_capped others all n m before after e b a =
    ap (λ k. not (is_past k) && is_past after) (b ∙ ap (λ o. min (o + n) (most_names + 1)) e)
    ∙ ap (λ k. not (is_past (min (min all (most_names + 1) + n) (most_names + 1))) && is_past k) (a ∙ ap (λ o. min (o + m) (most_names + 1)) e)
    ∙ ap (λ t. not t && is_past (min (min all (most_names + 1) + m) (most_names + 1))) (past_capped all n)
    ∙ ap (λ t. not (is_past (all + n)) && t) (past_capped all m)

-- one turn of the loop over a unit
pub pass_turn : (all : ℕ) (unit : List Listed) (i : ℕ) (x : Listed) (over found next total : Option Refusal) (breaks : Bool) → i < length unit → x ≡ get_or unit i x → next ≡ sooner over found → found ≡ (if breaks then Some (at x SizeLimit) else None) → breaks ≡ passes (all + name_count (names_of (take i unit))) (all + name_count (names_of (take (i + 1) unit))) → sooner over (first_of (names_pass all (names_of (take i unit)) (drop i unit))) ≡ total → sooner next (first_of (names_pass all (names_of (take (i + 1) unit)) (drop (i + 1) unit))) ≡ total
pass_turn all unit i x over found next total breaks within stands e f same so_far =
    ap (λ o. sooner o rest) (e ∙ ap (sooner over) f)
    ∙ sooner-assoc over (if breaks then Some (at x SizeLimit) else None) rest
    ∙ ap (λ b. sooner over (sooner (if b then Some (at x SizeLimit) else None) rest)) (same ∙ ap (λ l. passes (all + name_count (names_of (take i unit))) (all + name_count l)) more)
    ∙ ap (λ l. sooner over (sooner (if here then Some (at x SizeLimit) else None) (first_of (names_pass all l (drop (i + 1) unit))))) more
    ∙ ap (sooner over) (sym (first_of-when here (at x SizeLimit) (names_pass all (names_of (take i unit) ++ names_in x.stmt) (drop (i + 1) unit))))
    ∙ ap (λ l. sooner over (first_of (names_pass all (names_of (take i unit)) l))) (sym (drop_more unit i x within ∙ ap (λ y. y ∷ drop (i + 1) unit) (sym stands)))
    ∙ so_far
  where
    rest : Option Refusal
    rest = first_of (names_pass all (names_of (take (i + 1) unit)) (drop (i + 1) unit))

    more : names_of (take (i + 1) unit) ≡ names_of (take i unit) ++ names_in x.stmt
    more = names_more unit i x within stands

    here : Bool
    here = passes (all + name_count (names_of (take i unit))) (all + name_count (names_of (take i unit) ++ names_in x.stmt))

-- ---- one unit more

all_append : (others : ℕ) (xs ys : List ProgramUnit) → all_counted others (xs ++ ys) ≡ all_counted (all_counted others xs) ys
all_append others [] ys = refl
all_append others (x ∷ xs) ys = all_append (others + name_count (names_of x.listing)) xs ys

pub all_more : (units : List ProgramUnit) (i : ℕ) (x : ProgramUnit) → i < length units → x ≡ get_or units i x → all_counted 0 (take (i + 1) units) ≡ all_counted 0 (take i units) + name_count (names_of x.listing)
all_more units i x within stands =
    ap (all_counted 0) (take_more units i x within ∙ ap (λ y. take i units ++ y ∷ []) (sym stands))
    ∙ all_append 0 (take i units) (x ∷ [])

pub units_turn : (units : List ProgramUnit) (i : ℕ) (x : ProgramUnit) (first over next total : Option Refusal) → i < length units → x ≡ get_or units i x → next ≡ sooner first over → over ≡ first_of (names_pass (all_counted 0 (take i units)) [] x.listing) → sooner first (first_of (name_breaks (all_counted 0 (take i units)) (drop i units))) ≡ total → sooner next (first_of (name_breaks (all_counted 0 (take (i + 1) units)) (drop (i + 1) units))) ≡ total
units_turn units i x first over next total within stands e f so_far =
    ap (λ o. sooner o (first_of (name_breaks (all_counted 0 (take (i + 1) units)) (drop (i + 1) units)))) (e ∙ ap (sooner first) f)
    ∙ sooner-assoc first (first_of pass) (first_of (name_breaks (all_counted 0 (take (i + 1) units)) (drop (i + 1) units)))
    ∙ ap (λ n. sooner first (sooner (first_of pass) (first_of (name_breaks n (drop (i + 1) units))))) (all_more units i x within stands)
    ∙ ap (sooner first) (sym (first_of-append pass (name_breaks (all_counted 0 (take i units) + name_count (names_of x.listing)) (drop (i + 1) units))))
    ∙ ap (λ l. sooner first (first_of (name_breaks (all_counted 0 (take i units)) l))) (sym (drop_more units i x within ∙ ap (λ y. y ∷ drop (i + 1) units) (sym stands)))
    ∙ so_far
  where
    pass : List Refusal
    pass = names_pass (all_counted 0 (take i units)) [] x.listing
