-- What the words after the program's name ask for.
use Rattle.std.specs.Prelude.{ℕ, Bool, ◌&&◌, nat_lt, nat_le, List, [], ◌∷◌, length, codes, Option, None, Some, if◌then◌else◌}
use Rattle.std.specs.List.{list_all}
use Rattle.std.specs.Char.{is_ascii_digit}
use Rattle.std.specs.Str.{bytes_eq}
use Rattle.hyb_base.specs.Decimal.{value_of}
use Rattle.hybrid_top.specs.declared.command.RunCommand.{RunCommand}

-- `run PROG INPUT SCHED STEPS`: the names of three files, and the greatest number of steps
pub record RunRequest : Type 0 where
  pub program : List ℕ
  pub input : List ℕ
  pub schedule : List ℕ
  pub steps : ℕ

-- the greatest number of steps that may be asked for
abbrev pub step_limit : ℕ
step_limit = 1000000000

-- a number of steps: digits alone, at most ten, worth 1 to the limit
abbrev pub is_steps : List ℕ → Bool
is_steps word = list_all is_ascii_digit word && nat_lt 0 (length word) && nat_le (length word) 10 && nat_le 1 (value_of word) && nat_le (value_of word) step_limit

-- the number that a word of steps is worth
abbrev pub steps_of : List ℕ → Option ℕ
steps_of word = if is_steps word then Some (value_of word) else None

-- a file's name has one byte at least
abbrev pub is_file_name : List ℕ → Bool
is_file_name word = nat_lt 0 (length word)

abbrev pub request : List ℕ → List ℕ → List ℕ → Option ℕ → Option RunRequest
request program input schedule (Some steps) = Some (record { program = program; input = input; schedule = schedule; steps = steps })
request program input schedule None = None

-- the command of five words, where they fit its row
abbrev pub command_by : List ℕ → List ℕ → List ℕ → List ℕ → List ℕ → Option RunRequest
command_by name program input schedule steps =
    if bytes_eq name (codes "run") && is_file_name program && is_file_name input && is_file_name schedule
    then request program input schedule (steps_of steps)
    else None

-- the command, where the words fit its row
abbrev pub command_of : List (List ℕ) → Option RunRequest
command_of (name ∷ program ∷ input ∷ schedule ∷ steps ∷ []) = command_by name program input schedule steps
command_of _ = None

-- what a command of the code asks for
abbrev pub request_of : RunCommand → RunRequest
request_of c = record { program = c.program.now; input = c.input.now; schedule = c.schedule.now; steps = c.steps }
