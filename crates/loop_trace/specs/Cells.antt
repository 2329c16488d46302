-- Which iterations use an address.
use Rattle.std.specs.Prelude.{ℕ, ◌≡◌, ◌≤◌, ◌==◌, nat_lt, Bool, false, List, Option, None, Some, if◌then◌else◌}
use Rattle.std.specs.Option.{unwrap_or}
use Rattle.interleaving.specs.Traces.{is_written, is_exposed}
use Rattle.dependence.specs.declared.modes.Pair.{Pair}
use Rattle.dependence.specs.Conflicts.{IsFirst}
use Rattle.dependence.specs.Executions.{Trace, trace_of, is_touched}
use Rattle.loop_trace.specs.declared.cell.Cell.{Cell}

abbrev pub untouched : Cell
untouched = record { first_write = None; first_exposed = None; last = 0 }

abbrev pub after_read : (iteration : ℕ) → Cell → Cell
after_read n c = if c.last == n then c else record { first_write = c.first_write; first_exposed = Some (unwrap_or c.first_exposed n); last = n }

abbrev pub after_write : (iteration : ℕ) → Cell → Cell
after_write n c = record { first_write = Some (unwrap_or c.first_write n); first_exposed = c.first_exposed; last = n }

-- a pair at an address
abbrev pub pair_at : (a : ℕ) → (later : ℕ) → Option ℕ → Option Pair
pair_at a n None = None
pair_at a n (Some earlier) = Some (record { address = a; earlier = earlier; later = n })

abbrev pub before : (iteration : ℕ) → Option ℕ → Option ℕ
before n None = None
before n (Some earlier) = if nat_lt earlier n then Some earlier else None

abbrev pub first_some : Option ℕ → Option ℕ → Option ℕ
first_some None other = other
first_some (Some n) other = Some n

abbrev pub found_by_read : (a iteration : ℕ) → Cell → Option Pair
found_by_read a n c = if c.last == n then None else pair_at a n c.first_write

abbrev pub found_by_write : (a iteration : ℕ) → Cell → Option Pair
found_by_write a n c = pair_at a n (first_some (before n c.first_write) (before n c.first_exposed))

-- the first number that passes a test, or none
abbrev pub IsFirstOr : (ℕ → Bool) → Option ℕ → Type 0
IsFirstOr test None = (k : ℕ) → test k ≡ false
IsFirstOr test (Some n) = IsFirst test n

-- a cell tells of an address what traces say of it, the current iteration being n
pub record IsCell (traces : List Trace) (n a : ℕ) (c : Cell) : Type 0 where
  pub writes : IsFirstOr (λ k. is_written (trace_of traces k) a) c.first_write
  pub exposes : IsFirstOr (λ k. is_exposed (trace_of traces k) a) c.first_exposed
  pub now : is_touched (trace_of traces n) a ≡ (c.last == n)
  pub last : c.last ≤ n
