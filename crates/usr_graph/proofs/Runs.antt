-- What a run computes of symbols keeps their near numbers.
use Rattle.std.proofs.Common.{ℕ, ℤ, List, length}
use Rattle.hyb_base.specs.declared.env.Env.{Env}
use Rattle.sym_lmad.specs.Bindings.{FitsCells}
use Rattle.sym_lmad.proofs.NumberLaws.{worth_is_both}
use Rattle.usr_graph.specs.Choice.{with_indices, RunsExtendNearNumbers}

pub fits_with : (env : Env) (cells : ℕ) (indices : List ℤ) → FitsCells env cells → FitsCells (with_indices env indices) cells
fits_with env cells indices h = record { bound = h.bound; within = h.within }

pub runs_extend : RunsExtendNearNumbers
runs_extend env values fits = record { kept = λ s indices v h. (worth_is_both (with_indices env indices) values s v (fits_with env (length values) indices fits) h).1 }
