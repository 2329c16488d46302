-- The regions of some numbers.
use Rattle.std.specs.Prelude.{ℤ, pos, negsuc, List, Option, None, slice_get}
use Rattle.f77_ast.specs.declared.program.Region.{Region}

-- the region of a number, which is its place in the list
abbrev pub region_at : List Region → ℤ → Option Region
region_at regions (pos n) = slice_get regions n
region_at regions (negsuc n) = None
