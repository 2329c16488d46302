-- What a commit of partial results leaves.
use Rattle.std.specs.Prelude.{◌≡◌, ℕ, zero, suc, ◌<◌, ℤ, List, Option, None, Some, length, slice_index_or}
use Rattle.hyb_base.specs.declared.ops.RedOp.{RedOp}
use Rattle.hyb_base.specs.declared.ops.RedOp.TheVariants.{Add}
use Rattle.hyb_base.specs.Count.{next_count}
use Rattle.hyb_base.specs.Reduction.{apply}
use Rattle.slot_rows.specs.declared.rows.Rows.{Rows}
use Rattle.slot_rows.specs.Rows.{regions_of}
use Rattle.slot_rows.specs.Spans.{place_with}
use Rattle.red_ops.specs.declared.partials.Partials.{Partials}

-- what the slots touched
abbrev pub rows_of : Partials → Rows
rows_of partials = partials.rows

-- the operators of the regions
abbrev pub ops_of : Partials → List RedOp
ops_of partials = partials.ops.items

-- the operator of the region that has an address
abbrev pub op_at : Partials → ℕ → RedOp
op_at partials address = slice_index_or (ops_of partials) (place_with (regions_of (rows_of partials)) address) Add

-- a value, with a partial result where there is one
abbrev pub combined : RedOp → Option ℤ → ℤ → ℤ
combined op None value = value
combined op (Some partial) value = apply op value partial

-- the values after a commit: what the operator gives of value and partial result where an address was touched, and the old value elsewhere
pub record Combines (op_of : ℕ → RedOp) (touched : ℕ → Option ℤ) (old new : List ℤ) : Type 0 where
  pub size : length new ≡ length old
  pub values : (a : ℕ) (d : ℤ) → a < length old → slice_index_or new a d ≡ combined (op_of a) (touched a) (slice_index_or old a d)

-- the number of reads after n more; it stands still at its end
abbrev pub reads_after : (n reads : ℕ) → ℕ
reads_after zero reads = reads
reads_after (suc n) reads = reads_after n (next_count reads)
