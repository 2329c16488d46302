-- Tables of labels.
use Rattle.std.specs.Prelude.{◌≡◌, ℕ, List, Option, nat_eq}
use Rattle.std.specs.HashMap.{get}
use Rattle.f77_ast.specs.declared.program.Listed.{Listed}
use Rattle.f77_structure.specs.declared.targets.Targets.{Targets}
use Rattle.f77_structure.specs.Labels.{target_in}

-- the place that is noted for a label
abbrev pub place_of : {P : Type 0} → Targets P → (label : ℕ) → Option P
place_of targets label = get nat_eq targets.places label

-- each label's place is that of the first executable statement that has it
pub record AreTargets (unit : List Listed) (targets : Targets ℕ) : Type 0 where
  pub at : (label : ℕ) → place_of targets label ≡ target_in label unit
