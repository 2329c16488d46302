use Rattle.std.proofs.Common.{ℕ, ◌<◌, ℤ}
use Rattle.sym_lmad.specs.Bindings.{IsOfRegion, IsAddressOf}
use Rattle.analysis_rows.proofs.bindings.regions_fit.Given as goal

abbrev pub invariant-loop-region : goal.invariant-loop-region
invariant-loop-region l = (r : ℕ) (z : ℤ) → r < l.region → IsOfRegion l.env r z → IsAddressOf l.cells z
