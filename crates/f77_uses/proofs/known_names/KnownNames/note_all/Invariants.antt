use Rattle.std.proofs.Common.{◌≡◌, ℕ, ◌||◌, List, length}
use Rattle.std.specs.Vec.Iter.{into_iter_items, into_iter_len}
use Rattle.f77_leaves.specs.Declarations.{known_from}
use Rattle.f77_uses.specs.Breaks.{has_second}
use Rattle.f77_uses.specs.Tables.{known_in}
use Rattle.f77_uses.proofs.known_names.KnownNames.note_all.Given as goal

-- with the declarations that are left the answers are those of all
abbrev pub invariant-loop-declared : goal.invariant-loop-declared
invariant-loop-declared l = record {
  counted : into_iter_len l.declared-iterator ≡ length (into_iter_items l.declared-iterator);
  again : (l.again || has_second (known_in l.self) (into_iter_items l.declared-iterator)) ≡ has_second (known_in l.initial.self) l.fn.facts;
  noted : (other : List ℕ) → known_from other (known_in l.self other) (into_iter_items l.declared-iterator) ≡ known_from other (known_in l.initial.self other) l.fn.facts;
}
