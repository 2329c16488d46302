-- The first refusal of units with one name, unit by unit.
use Rattle.std.proofs.Common.{◌≡◌, ℕ, ◌+◌, ◌<◌, Bool, true, false, ◌||◌, List, [], ◌∷◌, ◌++◌, length, get_or, take, drop, map, Option, None, Some, if◌then◌else◌, refl, sym, ap, ◌∙◌}
use Rattle.std.proofs.lemmas.List.{take_more, drop_more}
use Rattle.std.proofs.lemmas.List.Folds.{list_any-append}
use Rattle.std.specs.List.{list_any}
use Rattle.std.specs.Option.{is_some}
use Rattle.f77_ast.specs.declared.program.Unit.{Unit as ProgramUnit}
use Rattle.f77_ast.specs.declared.refusal.Refusal.{Refusal}
use Rattle.f77_ast.specs.declared.rule.Rule.TheVariants.{DoubleName}
use Rattle.f77_ast.specs.Refusal.{first_of, sooner}
use Rattle.f77_ast.proofs.Refusals.{sooner-assoc, first_of-append}
use Rattle.f77_uses.specs.Breaks.{same_unit, second_unit, second_units}
use Rattle.f77_uses.specs.Firsts.{told, is_seen}
use Rattle.f77_uses.specs.Refused.{first_refused}
use Rattle.f77_uses.specs.declared.firsts.Firsts.{Firsts}

-- the names of some units
abbrev pub names_of : List ProgramUnit → List (Option (List ℕ))
names_of units = map (λ unit. unit.name) units

names_append : (xs ys : List ProgramUnit) → names_of (xs ++ ys) ≡ names_of xs ++ names_of ys
names_append [] ys = refl
names_append (x ∷ xs) ys = ap (λ l. x.name ∷ l) (names_append xs ys)

pub names_more : (units : List ProgramUnit) (i : ℕ) (x : ProgramUnit) → i < length units → x ≡ get_or units i x → names_of (take (i + 1) units) ≡ names_of (take i units) ++ x.name ∷ []
names_more units i x within stands =
    ap names_of (take_more units i x within ∙ ap (λ y. take i units ++ y ∷ []) (sym stands)) ∙ names_append (take i units) (x ∷ [])

none_same : (earlier : List (Option (List ℕ))) → list_any (same_unit None) earlier ≡ false
none_same [] = refl
none_same (name ∷ rest) = none_same rest

-- a name that was seen is that of an earlier unit
pub seen_is : (seen : Firsts (Unit {0})) (name : Option (List ℕ)) (earlier : List (Option (List ℕ))) → ((other : List ℕ) → is_some (told seen other) ≡ list_any (same_unit (Some other)) earlier) → is_seen seen name ≡ list_any (same_unit name) earlier
seen_is seen None earlier h = sym (none_same earlier)
seen_is seen (Some name) earlier h = h name

-- the names that were seen, with one unit more
pub seen_more : (units : List ProgramUnit) (i : ℕ) (x : ProgramUnit) (other : List ℕ) (before after : Bool) → i < length units → x ≡ get_or units i x → after ≡ (before || same_unit (Some other) x.name) → before ≡ list_any (same_unit (Some other)) (names_of (take i units)) → after ≡ list_any (same_unit (Some other)) (names_of (take (i + 1) units))
seen_more units i x other before after within stands e f =
    e
    ∙ ap (λ b. b || same_unit (Some other) x.name) f
    ∙ ap (λ b. list_any (same_unit (Some other)) (names_of (take i units)) || b) (alone (same_unit (Some other) x.name))
    ∙ sym (list_any-append (same_unit (Some other)) (names_of (take i units)) (x.name ∷ []))
    ∙ ap (list_any (same_unit (Some other))) (sym (names_more units i x within stands))
  where
    alone : (b : Bool) → b ≡ (b || false)
    alone true = refl
    alone false = refl

-- one turn of the loop over the units
pub units_turn : (units : List ProgramUnit) (i : ℕ) (x : ProgramUnit) (first found next all : Option Refusal) (again : Bool) → i < length units → x ≡ get_or units i x → next ≡ sooner first found → found ≡ first_of (if again then first_refused DoubleName x.listing else []) → again ≡ list_any (same_unit x.name) (names_of (take i units)) → sooner first (first_of (second_units (names_of (take i units)) (drop i units))) ≡ all → sooner next (first_of (second_units (names_of (take (i + 1) units)) (drop (i + 1) units))) ≡ all
units_turn units i x first found next all again within stands e f g so_far =
    ap (λ o. sooner o (first_of (second_units (names_of (take (i + 1) units)) (drop (i + 1) units)))) (e ∙ ap (sooner first) (f ∙ ap (λ b. first_of (if b then first_refused DoubleName x.listing else [])) g))
    ∙ ap (λ l. sooner (sooner first (first_of here)) (first_of (second_units l (drop (i + 1) units)))) (names_more units i x within stands)
    ∙ sooner-assoc first (first_of here) (first_of (second_units (names_of (take i units) ++ x.name ∷ []) (drop (i + 1) units)))
    ∙ ap (sooner first) (sym (first_of-append here (second_units (names_of (take i units) ++ x.name ∷ []) (drop (i + 1) units))))
    ∙ ap (λ l. sooner first (first_of (second_units (names_of (take i units)) l))) (sym (drop_more units i x within ∙ ap (λ y. y ∷ drop (i + 1) units) (sym stands)))
    ∙ so_far
  where
    here : List Refusal
    here = second_unit (names_of (take i units)) x
