-- Which lines spell a schedule, and at which line a text leaves that form.
use Rattle.std.specs.Prelude.{◌≡◌, ◌≢◌, ℕ, ◌+◌, ◌<◌, ◌≤◌, ℤ, [], ◌∷◌, ◌++◌, length, take, map, Option, Some, None, All}
use Rattle.std.specs.Prelude as std
use Rattle.std.specs.Int.{w64, cast_signed}
use Rattle.sched_text.specs.declared.schedule.Picks.{Picks}
use Rattle.sched_text.specs.declared.schedule.Picks.TheVariants.{List, Mix}
use Rattle.sched_text.specs.declared.schedule.Schedule.{Schedule}
use Rattle.sched_text.specs.Form.{window_of, seed_of, list_of}
use Rattle.sched_text.specs.Picks.{HasPick}

-- what reading a schedule gives: a window from 1 to 4,096, and a pick at least
pub record IsSchedule (schedule : Schedule) : Type 0 where
  pub window : (1 ≤ schedule.window) × (schedule.window ≤ 4096)
  pub pick : HasPick schedule.picks

-- each line is a line LIST, and these are the numbers of all of them, in order
pub data AreLists : std.List (std.List ℕ) → std.List ℕ → Type 0 where
  no_list : AreLists [] []
  one_more : (line : std.List ℕ) (lines : std.List (std.List ℕ)) (numbers others : std.List ℕ) → list_of line ≡ Some numbers → AreLists lines others → AreLists (line ∷ lines) (numbers ++ others)

-- the lines give the picks: one line MIX, or one line LIST or more
abbrev pub SpellPicks : std.List (std.List ℕ) → Picks → Type 0
SpellPicks lines (Mix seed) = (line : std.List ℕ) × (lines ≡ line ∷ []) × (seed_of line ≡ Some seed)
SpellPicks lines (List picks) = (numbers : std.List ℕ) × (lines ≢ []) × AreLists lines numbers × (picks ≡ map (cast_signed w64) numbers)

-- the lines spell the schedule: the window, the picks, and then empty lines alone
pub record Spells (lines : std.List (std.List ℕ)) (schedule : Schedule) : Type 0 where
  pub first : std.List ℕ
  pub middle : std.List (std.List ℕ)
  pub ends : std.List (std.List ℕ)
  pub whole : lines ≡ first ∷ (middle ++ ends)
  pub window : window_of first ≡ Some schedule.window
  pub picks : SpellPicks middle schedule.picks
  pub empty : All (λ line. line ≡ []) ends

-- some lines that spell a schedule begin with these
abbrev pub CanBegin : std.List (std.List ℕ) → Type 0
CanBegin lines = (rest : std.List (std.List ℕ)) × (schedule : Schedule) × Spells (lines ++ rest) schedule

-- the line, counted from 1, at which the lines leave the form: they spell no schedule, lines that do can begin with all before it,
-- and, unless it is missing, with no more
pub record IsBadLine (lines : std.List (std.List ℕ)) (n : ℕ) : Type 0 where
  pub counted : (1 ≤ n) × (n ≤ length lines + 1)
  pub unspelled : (schedule : Schedule) → ¬ Spells lines schedule
  pub before : (m : ℕ) → m < n → CanBegin (take m lines)
  pub here : n ≤ length lines → ¬ CanBegin (take n lines)
