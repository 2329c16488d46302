-- The limits on programs.
use Rattle.std.specs.Prelude.{ℕ}

-- the continuation lines of a statement, at most (ANSI X3.9-1978, section 3.3)
abbrev pub most_continuation_lines : ℕ
most_continuation_lines = 19

-- the statements of a file, at most
abbrev pub most_statements : ℕ
most_statements = 10000

-- the units of a file, at most
abbrev pub most_units : ℕ
most_units = 200

-- the names of a file, at most, each counted once in each unit in which it is
abbrev pub most_names : ℕ
most_names = 10000

-- the dimensions of an array, at most (ANSI X3.9-1978, section 5.1.1)
abbrev pub most_dimensions : ℕ
most_dimensions = 7

-- the length of a CHARACTER entity, at most
abbrev pub most_characters : ℕ
most_characters = 1000

-- the operands of a file, at most: for each unit those of the statement that has most of them, added up
abbrev pub most_operands : ℕ
most_operands = 32768

-- the storage units of a program, at most
abbrev pub most_storage_units : ℕ
most_storage_units = 1000000

-- the bytes of a printed line without its LF, at most
abbrev pub most_line_bytes : ℕ
most_line_bytes = 10000
