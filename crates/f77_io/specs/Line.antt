-- The line that PRINT builds.
use Rattle.std.specs.Prelude.{ℕ, ◌+◌, ◌<◌, Bool, true, false, List, [], ◌∷◌, length}
use Rattle.f77_ast.specs.Limits.{most_line_bytes}
use Rattle.f77_io.specs.declared.line.Line.{Line}

-- the bytes of a line
abbrev pub text_of : Line → List ℕ
text_of line = line.bytes.items

-- with a blank and this text more, the line would be longer than a line may be
abbrev pub IsPastLimit : List ℕ → List ℕ → Type 0
IsPastLimit line text = most_line_bytes < length line + (1 + length text)

-- the text of a logical item: `T` for true, `F` for false
abbrev pub logical_text : Bool → List ℕ
logical_text true = 84 ∷ []
logical_text false = 70 ∷ []
