-- The main unit of a program, where a process begins.
use Rattle.std.proofs.Common.{◌≡◌, ℕ, zero, suc, ◌+◌, ◌<◌, ◌≤◌, ◌^◌, List, [], ◌∷◌, All, length, IsSome, refl, ap, ◌∙◌, arith, slice_get, length-append, drop}
use Rattle.std.specs.Option.{option_map_or}
use Rattle.f77_ast.specs.declared.program.Listed.{Listed}
use Rattle.f77_ast.specs.declared.program.Program.{Program}
use Rattle.f77_ast.specs.declared.program.Unit.{Unit as ProgramUnit}
use Rattle.f77_structure.specs.Units.{EndsWithEnd, first_executable, listing_of, main_unit, next_place, statement_count}
use Rattle.f77_meaning.specs.Sound.{IsSound}

-- each unit has a statement
units_fit : (units : List ProgramUnit) → All (λ unit. EndsWithEnd unit.listing) units → length units ≤ statement_count units
units_fit [] all = omega arith
units_fit (first ∷ units) all =
    let ended : EndsWithEnd first.listing = all 0 first (omega arith) in
    let some : 1 ≤ length first.listing = omega (arith, ap length ended.joined, length-append ended.before (ended.last ∷ [])) in
    omega (arith, some, units_fit units (λ k d h. all (suc k) d (omega (arith, h))))

-- where something is found, a list is longer
within_some : {A : Type 0} (xs : List A) (k : ℕ) → IsSome (slice_get xs k) → k < length xs
within_some [] k s = absurd (cc)
within_some (x ∷ xs) zero s = omega arith
within_some (x ∷ xs) (suc k) s = omega (arith, within_some xs k s)

-- the main unit is one of the units, which are counted with 32 bits
pub main_within : (program : Program) → IsSound program → main_unit program.units < length program.units
main_within program sound = within_some program.units (main_unit program.units) sound.main

pub main_fits : (program : Program) → IsSound program → main_unit program.units < 2 ^ 32
main_fits program sound = omega (arith, main_within program sound, units_fit program.units sound.ended, sound.counted)

-- the statements of a unit, looked for in the units
pub listing_found : (units : List ProgramUnit) (u : ℕ) → option_map_or (λ unit. unit.listing) (slice_get units u) [] ≡ listing_of units u
listing_found [] u = refl
listing_found (first ∷ units) zero = refl
listing_found (first ∷ units) (suc u) = listing_found units u

-- after the last statement control goes on at the next place
pub next_past : (listing : List Listed) (at : ℕ) → length listing ≤ at → next_place listing at ≡ at + 1
next_past listing at past =
    let none : drop (at + 1) listing ≡ [] = drop_all listing (at + 1) (omega (arith, past)) in
    ap (λ rest. at + 1 + first_executable rest) none ∙ omega arith
  where
    drop_all : (xs : List Listed) (n : ℕ) → length xs ≤ n → drop n xs ≡ []
    drop_all xs zero h = none_of xs h
      where
        none_of : (ys : List Listed) → length ys ≤ 0 → ys ≡ []
        none_of [] h = refl
        none_of (y ∷ ys) h = absurd (omega (arith, h))
    drop_all [] (suc n) h = refl
    drop_all (x ∷ xs) (suc n) h = drop_all xs n (omega (arith, h))
