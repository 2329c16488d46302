-- The one cell of an INTEGER in storage, which lies in its own region.
use Rattle.std.proofs.Common.{◌≡◌, ℕ, ℤ, ◌==◌, not, true, false, cond, List, [], ◌∷◌, refl, ap, ◌∙◌, arith}
use Rattle.f77_ast.specs.declared.expr.Kind.TheVariants.{Integer}
use Rattle.f77_ast.specs.declared.fault.Fault.TheVariants.{DoRange, OutsideRegion, ZeroIncrement}
use Rattle.f77_structure.specs.Storage.{region_at}
use Rattle.f77_structure.specs.Values.{integer, value_of_units}
use Rattle.f77_meaning.specs.Demand.{Setting, and_then, cell_value, fails, gives, is_in_region, is_outside, value_at, value_of_bound}
use Rattle.f77_meaning.specs.Do.{Parameters, begun_at, begun_with, is_in_range, is_zero}
use Rattle.f77_meaning.specs.Process.{placed}
use Rattle.f77_machine.specs.Evaluated.{as_located}
use Rattle.f77_machine.specs.declared.place.Located.{Located}

-- an address lies in its own region
pub own_region : (s : Setting) (address : ℕ) → is_in_region s address (region_at s.program.layout.regions address) ≡ true
own_region s address = equal (region_at s.program.layout.regions address)
  where
    equal : (n : ℕ) → (n == n) ≡ true
    equal n = grind arith

-- so what is placed there isn't outside
pub inside : (s : Setting) (address length : ℕ) → is_outside s (placed address (region_at s.program.layout.regions address) length) ≡ false
inside s address length = ap not (own_region s address)

-- the value at an address
pub cell_at : (s : Setting) (address length : ℕ) (answers : List ℤ) → value_of_bound s Integer (placed address (region_at s.program.layout.regions address) length) answers ≡ and_then (cell_value address answers) (λ number rest. gives (integer number) rest)
cell_at s address length answers =
    ap (λ b. and_then (and_then (cond b (cell_value address answers) (fails OutsideRegion)) (λ first rest. gives (first ∷ []) rest)) (λ cells rest. gives (value_of_units Integer cells) rest)) (own_region s address)
    ∙ by answers
  where
    by : (xs : List ℤ) → and_then (and_then (cell_value address xs) (λ first rest. gives (first ∷ []) rest)) (λ cells rest. gives (value_of_units Integer cells) rest) ≡ and_then (cell_value address xs) (λ number rest. gives (integer number) rest)
    by [] = refl
    by (x ∷ xs) = refl

pub one_cell : (s : Setting) (place : Located) (answers : List ℤ) → place.kind ≡ Integer → value_at s (as_located s.program.layout place) answers ≡ and_then (cell_value place.address answers) (λ number rest. gives (integer number) rest)
one_cell s place answers h = ap (λ kind. value_of_bound s kind (placed place.address (region_at s.program.layout.regions place.address) place.len) answers) h ∙ cell_at s place.address place.len answers

-- a DO statement whose variable is there
pub begins_inside : (s : Setting) (variable length : ℕ) (m : Parameters) (rest : List ℤ) → begun_with s (placed variable (region_at s.program.layout.regions variable) length) m rest ≡ cond (is_zero m.increment) (fails ZeroIncrement) (cond (is_in_range m) (gives (begun_at m variable) rest) (fails DoRange))
begins_inside s variable length m rest =
    ap (λ b. cond b (fails OutsideRegion) (cond (is_zero m.increment) (fails ZeroIncrement) (cond (is_in_range m) (gives (begun_at m variable) rest) (fails DoRange)))) (inside s variable length)
