-- The regions of the rows: eight of two cells side by side, and one of 1,000,000 far from them; and one from address 0 on.
use Rattle.std.specs.Prelude.{ℕ, ◌<◌, ◌≤◌, ◌⊎◌, ℤ, pos, List, [], ◌∷◌}
use Rattle.f77_ast.specs.declared.program.Region.{Region}
use Rattle.hyb_base.specs.declared.ops.RedOp.{RedOp}
use Rattle.hyb_base.specs.declared.ops.RedOp.TheVariants.{Add, Mul, Max, Min, And, Or, Eqv, Neqv}

abbrev pub small : ℕ → Region
small start = record { start = start; len = 2 }

abbrev pub great : Region
great = record { start = 1000; len = 1000000 }

abbrev pub cells_from_0 : ℕ → Region
cells_from_0 n = record { start = 0; len = n }

abbrev pub layout_regions : List Region
layout_regions = small 0 ∷ small 2 ∷ small 4 ∷ small 6 ∷ small 8 ∷ small 10 ∷ small 12 ∷ small 14 ∷ great ∷ []

abbrev pub numbers : List ℤ
numbers = pos 8 ∷ pos 7 ∷ pos 6 ∷ pos 5 ∷ pos 4 ∷ pos 3 ∷ pos 2 ∷ pos 1 ∷ pos 0 ∷ []

abbrev pub ops : List RedOp
ops = Add ∷ Neqv ∷ Eqv ∷ Or ∷ And ∷ Min ∷ Max ∷ Mul ∷ Add ∷ []

-- an address of one of them
abbrev pub IsHeld : ℕ → Type 0
IsHeld address = (address < 16) ⊎ ((1000 ≤ address) × (address < 1001000))
