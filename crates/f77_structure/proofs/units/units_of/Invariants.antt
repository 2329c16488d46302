use Rattle.std.proofs.Common.{◌≡◌, ◌++◌, map, length}
use Rattle.std.specs.Vec.Iter.{into_iter_items, into_iter_len}
use Rattle.f77_structure.specs.Units.{unit_of, units_of}
use Rattle.f77_structure.proofs.CutLemmas.{cut_from}
use Rattle.f77_structure.proofs.units.units_of.Given as goal

abbrev pub invariant-loop-listed : goal.invariant-loop-listed
invariant-loop-listed l = record {
  counted : into_iter_len l.listed-iterator ≡ length (into_iter_items l.listed-iterator);
  units : l.units ++ map unit_of (cut_from l.listing (into_iter_items l.listed-iterator)) ≡ units_of l.fn.statements;
}
