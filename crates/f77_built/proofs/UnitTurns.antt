-- What isn't built, unit by unit.
use Rattle.std.proofs.Common.{◌≡◌, ℕ, zero, suc, ◌+◌, ◌<◌, ◌≤◌, List, [], ◌∷◌, ◌++◌, length, get_or, drop, Option, refl, arith, sym, ap, ◌∙◌, add-one}
use Rattle.f77_structure.specs.Units.{listing_of}
use Rattle.std.proofs.lemmas.List.{drop_more, drop_all}
use Rattle.f77_ast.specs.declared.program.Entity.{Entity}
use Rattle.f77_ast.specs.declared.program.Unit.{Unit as ProgramUnit}
use Rattle.f77_ast.specs.declared.refusal.Refusal.{Refusal}
use Rattle.f77_ast.specs.Refusal.{first_of, sooner}
use Rattle.f77_ast.proofs.Refusals.{sooner-none, sooner-assoc, first_of-append}
use Rattle.f77_built.specs.Built.{unbuilt_from, unbuilt_in}

-- one unit more
pub units_turn : (units : List ProgramUnit) (entities : List Entity) (i : ℕ) (x : ProgramUnit) (first found next all : Option Refusal) → i < length units → x ≡ get_or units i x → next ≡ sooner first found → found ≡ first_of (unbuilt_in units entities i x.listing) → sooner first (first_of (unbuilt_from units entities i (drop i units))) ≡ all → sooner next (first_of (unbuilt_from units entities (i + 1) (drop (i + 1) units))) ≡ all
units_turn units entities i x first found next all within stands e made so_far =
    ap (λ o. sooner o (first_of (unbuilt_from units entities (i + 1) (drop (i + 1) units)))) (e ∙ ap (sooner first) made)
    ∙ sooner-assoc first (first_of (unbuilt_in units entities i x.listing)) (first_of (unbuilt_from units entities (i + 1) (drop (i + 1) units)))
    ∙ ap (sooner first) (sym (first_of-append (unbuilt_in units entities i x.listing) (unbuilt_from units entities (i + 1) (drop (i + 1) units))))
    ∙ ap (λ n. sooner first (first_of (unbuilt_in units entities i x.listing ++ unbuilt_from units entities n (drop (i + 1) units)))) (add-one i)
    ∙ ap (λ l. sooner first (first_of (unbuilt_from units entities i l))) (sym (drop_more units i x within ∙ ap (λ y. y ∷ drop (i + 1) units) (sym stands)))
    ∙ so_far

-- no unit is left
pub units_end : (units : List ProgramUnit) (entities : List Entity) (i : ℕ) (first all : Option Refusal) → length units ≤ i → sooner first (first_of (unbuilt_from units entities i (drop i units))) ≡ all → first ≡ all
units_end units entities i first all past so_far =
    sym (sooner-none first)
    ∙ ap (λ l. sooner first (first_of (unbuilt_from units entities i l))) (sym (drop_all i units past))
    ∙ so_far

-- the statements of a unit that is there
pub listing_at : (units : List ProgramUnit) (u : ℕ) (unit : ProgramUnit) → u < length units → unit ≡ get_or units u unit → listing_of units u ≡ unit.listing
listing_at [] u unit lt is = absurd (omega (arith, lt))
listing_at (x ∷ units) zero unit lt is = ap (λ y. y.listing) (sym is)
listing_at (x ∷ units) (suc u) unit lt is = listing_at units u unit (omega (arith, lt)) is

-- and of one that isn't
pub listing_none : (units : List ProgramUnit) (u : ℕ) → length units ≤ u → listing_of units u ≡ []
listing_none [] u le = refl
listing_none (x ∷ units) zero le = absurd (omega (arith, le))
listing_none (x ∷ units) (suc u) le = listing_none units u (omega (arith, le))
