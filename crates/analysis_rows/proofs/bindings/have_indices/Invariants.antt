use Rattle.std.proofs.Common.{◌≡◌, ℕ, ◌<◌, Some, slice_get}
use Rattle.pdag_nodes.specs.declared.pred.Pred.{Pred}
use Rattle.pdag_nodes.specs.Nodes.{IndexBelow}
use Rattle.analysis_rows.proofs.bindings.have_indices.Given as goal

abbrev pub invariant-loop-id : goal.invariant-loop-id
invariant-loop-id l = (id : ℕ) (node : Pred) → id < l.id → slice_get l.preds id ≡ Some node → IndexBelow l.places node
