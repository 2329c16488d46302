-- The machine of a loop's iterations, by what their processes say of themselves.
use Rattle.std.specs.Prelude.{ℤ, pos, List}
use Rattle.hyb_base.specs.Reduction.{apply, identity}
use Rattle.hyb_base.specs.declared.ops.RedOp.{RedOp}
use Rattle.interleaving.specs.ListStores.{store_of}
use Rattle.interleaving.specs.Machine.{Event, ends, Machine, Store}
use Rattle.interleaving.specs.OwnCells.{Owner, with_own}

-- the machine of processes with these events, and with the operators of accumulations
abbrev pub machine_of : {M : Type 0} → (M → Event RedOp ℤ) → (M → ℤ → M) → (M → M) → Machine M RedOp ℤ
machine_of event resumed done = record { event = event; resumed = resumed; done = done; apply = apply; identity = identity }

-- the machine of iterations, each of which has the loop's variable as a cell of its own
abbrev pub loop_machine : {Program M : Type 0} → (event : Program → M → Event RedOp ℤ) → (resumed : Program → M → ℤ → M) → (done : Program → M → M) → Program → Machine (Owner M ℤ) RedOp ℤ
loop_machine event resumed done program = with_own (machine_of (event program) (resumed program) (done program))

-- the operators alone: what a read answers and what a commit leaves depends on nothing else of a machine
abbrev pub operators : Machine (Unit {0}) RedOp ℤ
operators = machine_of (λ p. ends) (λ p x. p) (λ p. p)

-- the store of cells that hold these values; it is 0 at addresses beyond them
abbrev pub store_of_cells : List ℤ → Store ℤ
store_of_cells values = store_of (pos 0) values
