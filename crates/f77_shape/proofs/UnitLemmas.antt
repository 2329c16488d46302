-- Main units, unit by unit.
use Rattle.f77_ast.specs.declared.rule.Rule.TheVariants.{NoProgram}
use Rattle.std.proofs.Common.{◌≡◌, ℕ, ◌+◌, ◌<◌, Bool, true, false, ◌&&◌, ◌||◌, List, [], ◌∷◌, length, get_or, drop, Option, if◌then◌else◌, refl, sym, ap, ◌∙◌}
use Rattle.std.proofs.lemmas.List.{drop_more}
use Rattle.std.specs.List.{list_any}
use Rattle.f77_ast.specs.declared.program.Unit.{Unit as ProgramUnit}
use Rattle.f77_ast.specs.declared.refusal.Refusal.{Refusal}
use Rattle.f77_ast.specs.Refusal.{first_of, sooner}
use Rattle.f77_shape.specs.Program.{first_refused, second_mains}
use Rattle.f77_structure.specs.Units.{is_main}
use Rattle.f77_ast.proofs.Refusals.{sooner-assoc, first_of-append}

or_assoc : (a b c : Bool) → ((a || b) || c) ≡ (a || (b || c))
or_assoc true b c = refl
or_assoc false b c = refl

-- one unit more
pub mains_turn : (units : List ProgramUnit) (place : ℕ) (unit : ProgramUnit) (behind : Bool) (first all found : Option Refusal) → place < length units → unit ≡ get_or units place unit → found ≡ first_of (if behind && is_main unit.listing then first_refused NoProgram unit.listing else []) → sooner first (first_of (second_mains behind (drop place units))) ≡ all → sooner (sooner first found) (first_of (second_mains (behind || is_main unit.listing) (drop (place + 1) units))) ≡ all
mains_turn units place unit behind first all found within stands e so_far =
    sooner-assoc first found rest
    ∙ ap (λ o. sooner first (sooner o rest)) e
    ∙ ap (sooner first) (sym (first_of-append (if behind && is_main unit.listing then first_refused NoProgram unit.listing else []) (second_mains (behind || is_main unit.listing) (drop (place + 1) units))))
    ∙ ap (λ l. sooner first (first_of (second_mains behind l))) (sym (drop_more units place unit within ∙ ap (λ u. u ∷ drop (place + 1) units) (sym stands)))
    ∙ so_far
  where
    rest : Option Refusal
    rest = first_of (second_mains (behind || is_main unit.listing) (drop (place + 1) units))

pub behind_turn : (units : List ProgramUnit) (place : ℕ) (unit : ProgramUnit) (behind all : Bool) → place < length units → unit ≡ get_or units place unit → (behind || list_any (λ u. is_main u.listing) (drop place units)) ≡ all → ((behind || is_main unit.listing) || list_any (λ u. is_main u.listing) (drop (place + 1) units)) ≡ all
behind_turn units place unit behind all within stands so_far =
    or_assoc behind (is_main unit.listing) (list_any (λ u. is_main u.listing) (drop (place + 1) units))
    ∙ ap (λ l. behind || list_any (λ u. is_main u.listing) l) (sym (drop_more units place unit within ∙ ap (λ u. u ∷ drop (place + 1) units) (sym stands)))
    ∙ so_far

pub or_false : (b : Bool) → (b || false) ≡ b
or_false true = refl
or_false false = refl
