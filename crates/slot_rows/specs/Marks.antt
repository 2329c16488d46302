-- Which units are in a set of marks.
use Rattle.std.specs.Prelude.{ℕ, ◌/◌, ◌%◌, Bool, ◌==◌, List, slice_index, vec_len}
use Rattle.std.specs.Int.{bit_at}
use Rattle.slot_rows.specs.declared.marks.Marks.{Marks}

-- whether a unit is marked in words of 64 marks
unfoldable pub marked_in : List ℕ → ℕ → Bool
marked_in words unit = bit_at (slice_index words (unit / 64)) (unit % 64) == 1

-- whether a unit is in the set
abbrev pub is_marked : Marks → ℕ → Bool
is_marked marks unit = marked_in marks.words.items unit

-- the number of its words
abbrev pub words_of : Marks → ℕ
words_of marks = vec_len marks.words
