use Rattle.std.proofs.Common.{ℕ, ◌≤◌, ◌<◌, get_or}
use Rattle.f77_ast.specs.declared.program.Listed.{Listed}
use Rattle.f77_machine.specs.Reads.{statement_reads}
use Rattle.f77_machine.proofs.reads.most_in.Given as goal

-- none of the statements so far reads more
abbrev pub invariant-loop-listed : goal.invariant-loop-listed
invariant-loop-listed l = (k : ℕ) (d : Listed) → k < l.listed-index → statement_reads l.layout l.unit (get_or l.listed-items k d).stmt ≤ l.most
