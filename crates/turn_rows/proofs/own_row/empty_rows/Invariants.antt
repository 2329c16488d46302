use Rattle.std.proofs.Common.{ℕ, ◌≡◌, length, None}
use Rattle.std.specs.Prelude.{All}
use Rattle.turn_rows.specs.CellModes.{own_of}
use Rattle.turn_rows.proofs.own_row.empty_rows.Given as goal

-- the rows by now have no value of their own
abbrev pub invariant-loop-made : goal.invariant-loop-made
invariant-loop-made l = record {
  count : length l.rows.items ≡ l._made;
  places : All (λ row. length row.values.items ≡ l.places) l.rows.items;
  clear : All (λ row. (a : ℕ) → own_of row a ≡ None) l.rows.items;
}
