-- How the ends of a descriptor are found, dimension by dimension.
use Rattle.std.specs.Prelude.{ℤ, pos, zero, suc, negsuc, ◌+ℤ◌, ◌*ℤ◌, List, [], ◌∷◌, Option, None, Some, int_lt, if◌then◌else◌}
use Rattle.sym_lmad.specs.declared.lmad.Dim.{Dim}
use Rattle.sym_lmad.specs.declared.lmad.Extent.{Extent}
use Rattle.sym_lmad.specs.declared.sym.Sym.{Sym}
use Rattle.sym_lmad.specs.Worth.{near_of}

-- two numbers, where both are there
abbrev pub pair_by : Option ℤ → Option ℤ → Option (ℤ × ℤ)
pair_by (Some x) (Some y) = Some (x, y)
pair_by (Some x) None = None
pair_by None y = None

-- an end moved by the last of a dimension's members, where that is on its side
abbrev pub low_by : (low stride last : ℤ) → Option ℤ
low_by low stride last = if int_lt stride (pos 0) then near_of (low +ℤ (stride *ℤ last)) else Some low

abbrev pub high_by : (high stride last : ℤ) → Option ℤ
high_by high stride last = if int_lt stride (pos 0) then Some high else near_of (high +ℤ (stride *ℤ last))

-- the greatest number of a dimension, its count less 1: none where it has no number
abbrev pub last_by : (count : ℤ) → Option ℤ
last_by (pos zero) = None
last_by (pos (suc n)) = Some (pos n)
last_by (negsuc n) = None

-- both ends with one more dimension: none where it has no member, or an end isn't near
abbrev pub widened_to : ℤ × ℤ → (stride : ℤ) → (last : Option ℤ) → Option (ℤ × ℤ)
widened_to ends stride (Some last) = pair_by (low_by ends.0 stride last) (high_by ends.1 stride last)
widened_to ends stride None = None

abbrev pub widened : ℤ × ℤ → (stride count : ℤ) → Option (ℤ × ℤ)
widened ends stride count = widened_to ends stride (last_by count)

-- both ends with some more dimensions
abbrev pub go_on : Option (ℤ × ℤ) → (ℤ × ℤ → Option (ℤ × ℤ)) → Option (ℤ × ℤ)
go_on (Some ends) next = next ends
go_on None next = None

abbrev pub ends_by : List Extent → ℤ × ℤ → Option (ℤ × ℤ)
ends_by [] ends = Some ends
ends_by (e ∷ es) ends = go_on (widened ends e.stride e.count) (ends_by es)

abbrev pub widened_by : ℤ × ℤ → (stride : ℤ) → Option ℤ → Option (ℤ × ℤ)
widened_by ends stride (Some n) = widened ends stride n
widened_by ends stride None = None

abbrev pub ends_of_dims : (Sym → Option ℤ) → List Dim → ℤ × ℤ → Option (ℤ × ℤ)
ends_of_dims worth [] ends = Some ends
ends_of_dims worth (d ∷ ds) ends = go_on (widened_by ends d.stride (worth d.count)) (ends_of_dims worth ds)
