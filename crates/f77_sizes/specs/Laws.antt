-- What is said of the elements of arrays.
use Rattle.std.specs.Prelude.{◌≡◌, ℕ, ℤ, ◌<◌, List, Some}
use Rattle.f77_ast.specs.declared.specification.Bound.{Bound}
use Rattle.f77_sizes.specs.Sizes.{element_at, elements_of}

-- an element has fewer before it than there are
abbrev pub ElementsAreWithin : Type 0
ElementsAreWithin = (bounds : List Bound) (subscripts : List ℤ) (n : ℕ) → element_at bounds subscripts ≡ Some n → n < elements_of bounds

-- two elements with as many before them have the same subscripts
abbrev pub ElementsDiffer : Type 0
ElementsDiffer = (bounds : List Bound) (subscripts others : List ℤ) (n : ℕ) → element_at bounds subscripts ≡ Some n → element_at bounds others ≡ Some n → subscripts ≡ others

-- each number below the number of elements is that of an element
abbrev pub ElementsAreAll : Type 0
ElementsAreAll = (bounds : List Bound) (n : ℕ) → n < elements_of bounds → (subscripts : List ℤ) × (element_at bounds subscripts ≡ Some n)
