-- How many cells entities take, and where the elements of arrays are in them (ANSI X3.9-1978, sections 5.1.2, 5.2.5 and 5.4).
use Rattle.std.specs.Prelude.{ℕ, ℤ, ◌+◌, ◌*◌, ◌^◌, min, List, [], ◌∷◌, Option, None, Some}
use Rattle.f77_ast.specs.declared.program.Entity.{Entity}
use Rattle.f77_ast.specs.declared.specification.Bound.{Bound}
use Rattle.f77_structure.specs.Storage.{extent_by, offset_by, span_of}

-- a number that code computes: from 2^64 on it is 2^64
abbrev pub capped : ℕ → ℕ
capped n = min n (2 ^ 64)

-- how many elements there are: the product of the numbers of elements of all dimensions, 1 for a variable
abbrev pub elements_of : List Bound → ℕ
elements_of [] = 1
elements_of (bound ∷ bounds) = extent_by (span_of bound) * elements_of bounds

-- how many cells an entity takes: its length for each element
abbrev pub cells_of : Entity → ℕ
cells_of entity = elements_of entity.bounds * entity.len

-- by how many elements of the first dimension come before an element, and how many of all others: the first subscript varies fastest
abbrev pub element_with : (extent : ℕ) → (offset later : Option ℕ) → Option ℕ
element_with extent (Some offset) (Some later) = Some (offset + extent * later)
element_with extent (Some offset) None = None
element_with extent None later = None

-- how many elements come before the one of some subscripts; none where one is outside its bounds, or there are more or fewer
-- subscripts than dimensions
abbrev pub element_at : List Bound → (subscripts : List ℤ) → Option ℕ
element_at [] [] = Some 0
element_at [] (subscript ∷ subscripts) = None
element_at (bound ∷ bounds) [] = None
element_at (bound ∷ bounds) (subscript ∷ subscripts) = element_with (extent_by (span_of bound)) (offset_by (span_of bound) subscript) (element_at bounds subscripts)
