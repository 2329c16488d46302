use Rattle.f77_ast.specs.Limits.{most_names}
use Rattle.std.proofs.Common.{◌≡◌, ◌+◌, ℕ, [], take, drop, min}
use Rattle.f77_ast.specs.Refusal.{first_of, sooner}
use Rattle.f77_shape.specs.Limits.{name_count, names_of, names_pass}
use Rattle.f77_shape.specs.NameSets.{Holds}
use Rattle.f77_shape.proofs.limits.count_names.Given as goal

abbrev pub invariant-loop-listed : goal.invariant-loop-listed
invariant-loop-listed l = record {
  names : Holds (names_of (take l.listed-index l.unit)) l.names;
  count : l.count ≡ min (l.others + name_count (names_of (take l.listed-index l.unit))) (most_names + 1);
  first : (all : ℕ) → l.others ≡ min all (most_names + 1) → sooner l.over (first_of (names_pass all (names_of (take l.listed-index l.unit)) (drop l.listed-index l.unit))) ≡ first_of (names_pass all [] l.unit);
}
