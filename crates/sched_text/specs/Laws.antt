-- What the definition of schedules adds up to.
use Rattle.std.specs.Prelude.{◌≡◌, ℕ, ◌⊎◌, List}
use Rattle.std.specs.Str.Lines.{lines}
use Rattle.sched_text.specs.declared.schedule.Schedule.{Schedule}
use Rattle.sched_text.specs.Schedules.{IsSchedule, Spells, IsBadLine}

-- lines spell exactly one schedule
abbrev pub SpellsOne : List (List ℕ) → Type 0
SpellsOne lines = (schedule : Schedule) × Spells lines schedule × ((other : Schedule) → Spells lines other → other ≡ schedule)

-- lines leave the form at exactly one line
abbrev pub HasOneBadLine : List (List ℕ) → Type 0
HasOneBadLine lines = (n : ℕ) × IsBadLine lines n × ((m : ℕ) → IsBadLine lines m → m ≡ n)

-- each text spells exactly one schedule, or leaves the form at exactly one line
abbrev pub TextsAreDecided : Type 0
TextsAreDecided = (text : List ℕ) → SpellsOne (lines text) ⊎ HasOneBadLine (lines text)

-- what a text spells is a schedule that can be picked from
abbrev pub SchedulesAreSound : Type 0
SchedulesAreSound = (text : List ℕ) (schedule : Schedule) → Spells (lines text) schedule → IsSchedule schedule
