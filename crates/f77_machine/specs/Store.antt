-- The storage of a run.
use Rattle.std.specs.Prelude.{ℕ, ℤ, List}
use Rattle.f77_machine.specs.declared.store.Store.{Store}

-- the value of each storage unit, by its address
abbrev pub values_of : Store → List ℤ
values_of store = store.values.items

-- the number of reads so far
abbrev pub reads_of : Store → ℕ
reads_of store = store.reads
