use Rattle.std.proofs.Common.{◌≡◌, ℕ, None, vec_len}
use Rattle.std.specs.Prelude.{All}
use Rattle.slot_rows.specs.Row.{number_in, units_in}
use Rattle.slot_rows.proofs.rows.empty_rows.Given as goal

-- the rows so far have no number
abbrev pub invariant-loop-made : goal.invariant-loop-made
invariant-loop-made l = record {
  count : vec_len l.rows ≡ l._made;
  units : All (λ row. units_in row ≡ l.units) l.rows.items;
  none : All (λ row. (u : ℕ) → number_in row u ≡ None) l.rows.items;
}
