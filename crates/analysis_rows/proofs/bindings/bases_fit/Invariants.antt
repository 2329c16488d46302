use Rattle.std.proofs.Common.{◌≡◌, ℕ, ◌<◌, pos, Some, slice_get}
use Rattle.hyb_base.specs.declared.env.Base.TheVariants.{At}
use Rattle.sym_lmad.specs.Bindings.{IsOfNamed, region_of}
use Rattle.analysis_rows.proofs.bindings.bases_fit.Given as goal

abbrev pub invariant-loop-entity : goal.invariant-loop-entity
invariant-loop-entity l = (entity a : ℕ) → entity < l.entity → slice_get l.env.bases entity ≡ Some (At a) → IsOfNamed l.env (region_of l.env entity) (pos a)
