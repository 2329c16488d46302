-- Cells in memory.
use Rattle.std.specs.Prelude.{ℕ, ℤ, List}
use Rattle.turn_rows.specs.declared.memory.Memory.{Memory}

abbrev pub values_of : Memory → List ℤ
values_of memory = memory.values.items

abbrev pub reads_of : Memory → ℕ
reads_of memory = memory.reads
