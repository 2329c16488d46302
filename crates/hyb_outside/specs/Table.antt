-- Names with contents.
use Rattle.std.specs.Prelude.{◌≡◌, ◌≢◌, ℕ, ◌-◌, min, List, [], ◌∷◌, ◌++◌, length, take, drop, Option, None, Some, if◌then◌else◌}
use Rattle.std.specs.Str.{bytes_eq}
use Rattle.hyb_outside.specs.declared.table.Named.{Named}

-- the content of a name: none where no row has it
abbrev pub content_of : List Named → List ℕ → Option (List ℕ)
content_of [] name = None
content_of (row ∷ rows) name = if bytes_eq row.name name then Some row.content else content_of rows name

-- a name has this content afterwards, and each other name what it had
pub record Replaces (name content : List ℕ) (old new : List ℕ → Option (List ℕ)) : Type 0 where
  pub here : new name ≡ Some content
  pub others : (other : List ℕ) → other ≢ name → new other ≡ old other

-- how many bytes are given: as many as the buffer holds and the content has from a place
abbrev pub bytes_given : List ℕ → ℕ → ℕ → ℕ
bytes_given content from room = min room (length content - from)

-- the buffer after so many bytes of the content from a place were given: it begins with them, and keeps its rest
abbrev pub filled : List ℕ → ℕ → ℕ → List ℕ → List ℕ
filled content from n buffer = take n (drop from content) ++ drop n buffer

-- the content is there, as many of its bytes are given as the buffer holds and it has, and the buffer keeps its rest
abbrev pub FillsWhatFits : Option (List ℕ) → ℕ → ℕ → List ℕ → List ℕ → Type 0
FillsWhatFits None from n old new = ⊥
FillsWhatFits (Some content) from n old new = (n ≡ bytes_given content from (length old)) × (new ≡ filled content from n old)
