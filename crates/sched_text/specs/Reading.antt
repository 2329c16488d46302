-- How a schedule is read line by line: a definition for each function of the code. What they make of lines is what `Schedules` says.
use Rattle.std.specs.Prelude.{ℕ, ◌+◌, ℤ, ◌==◌, [], ◌∷◌, length, Option, Some, None, Result, Ok, Err, if◌then◌else◌}
use Rattle.std.specs.Prelude as std
use Rattle.sched_text.specs.declared.schedule.Picks.{Picks}
use Rattle.sched_text.specs.declared.schedule.Picks.TheVariants.{List, Mix}
use Rattle.sched_text.specs.declared.schedule.Schedule.{Schedule}
use Rattle.sched_text.specs.Form.{window_of, seed_of, list_of, pushed}

-- the number of the first line that isn't empty, where the first has number n
abbrev pub bad_end : std.List (std.List ℕ) → ℕ → Option ℕ
bad_end [] n = None
bad_end (line ∷ lines) n = if length line == 0 then bad_end lines (n + 1) else Some n

-- the picks, unless a line is bad
abbrev pub unless_bad : {A : Type 0} → Option ℕ → A → Result A ℕ
unless_bad None a = Ok a
unless_bad (Some n) a = Err n

-- goes on after line n, which is to be a line LIST
abbrev pub after_list : Option (std.List ℤ) → (std.List ℤ → Result (std.List ℤ) ℕ) → ℕ → Result (std.List ℤ) ℕ
after_list None go n = Err n
after_list (Some picks) go n = go picks

-- the picks of lists, from line n on, after other picks
abbrev pub lists : std.List (std.List ℕ) → ℕ → std.List ℤ → Result (std.List ℤ) ℕ
lists [] n picks = Ok picks
lists (line ∷ lines') n picks = if length line == 0 then unless_bad (bad_end (line ∷ lines') n) picks else after_list (pushed (list_of line) picks) (lists lines' (n + 1)) n

abbrev pub as_list : Result (std.List ℤ) ℕ → Result Picks ℕ
as_list (Ok picks) = Ok (List picks)
as_list (Err n) = Err n

abbrev pub picks_by : Option ℕ → std.List ℕ → std.List (std.List ℕ) → Result Picks ℕ
picks_by (Some seed) line lines = unless_bad (bad_end lines 3) (Mix seed)
picks_by None line lines' = as_list (after_list (pushed (list_of line) []) (lists lines' 3) 2)

-- the picks, from line 2 on
abbrev pub picks_from : std.List (std.List ℕ) → Result Picks ℕ
picks_from [] = Err 2
picks_from (line ∷ lines) = picks_by (seed_of line) line lines

abbrev pub with_window : ℕ → Result Picks ℕ → Result Schedule ℕ
with_window w (Ok p) = Ok (record { window = w; picks = p })
with_window w (Err n) = Err n

abbrev pub schedule_by : Option ℕ → std.List (std.List ℕ) → Result Schedule ℕ
schedule_by None lines = Err 1
schedule_by (Some w) lines = with_window w (picks_from lines)

-- the schedule of lines, or the line at which they leave the form
abbrev pub schedule_from : std.List (std.List ℕ) → Result Schedule ℕ
schedule_from [] = Err 1
schedule_from (line ∷ lines) = schedule_by (window_of line) lines
