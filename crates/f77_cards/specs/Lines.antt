-- How a file is cut into lines. LF is 10, CR is 13.
use Rattle.std.specs.Prelude.{ℕ, Bool, false, ◌&&◌, List, [], ◌∷◌, if◌then◌else◌, ◌==◌}

-- whether LF comes next
abbrev pub ends_here : List ℕ → Bool
ends_here [] = false
ends_here (b ∷ bytes) = b == 10

-- the bytes without each CR that stands directly before an LF
abbrev pub without_returns : List ℕ → List ℕ
without_returns [] = []
without_returns (b ∷ bytes) = if b == 13 && ends_here bytes then without_returns bytes else b ∷ without_returns bytes

-- a byte before the first of some lines
abbrev pub onto_first : ℕ → List (List ℕ) → List (List ℕ)
onto_first b [] = (b ∷ []) ∷ []
onto_first b (line ∷ lines) = (b ∷ line) ∷ lines

-- the lines of some bytes: each is ended by LF, or by the end of the bytes where bytes stand after the last LF
abbrev pub cut : List ℕ → List (List ℕ)
cut [] = []
cut (b ∷ bytes) = if b == 10 then [] ∷ cut bytes else onto_first b (cut bytes)

-- the lines of a file: those of its bytes without each CR that stands directly before an LF
abbrev pub lines_of : List ℕ → List (List ℕ)
lines_of bytes = cut (without_returns bytes)

-- what stands before an LF, without a CR at its end
abbrev pub line_before : List ℕ → List ℕ
line_before [] = []
line_before (b ∷ []) = if b == 13 then [] else b ∷ []
line_before (b ∷ c ∷ bytes) = b ∷ line_before (c ∷ bytes)
