use Rattle.f77_ast.specs.declared.rule.Rule.TheVariants.{DoubleLabel}
use Rattle.std.proofs.Common.{◌≡◌, ℕ, nat_eq, take}
use Rattle.std.specs.HashSet.{contains}
use Rattle.std.specs.List.{list_any}
use Rattle.f77_structure.specs.Labels.{is_label}
use Rattle.f77_ast.specs.Refusal.{sooner}
use Rattle.f77_shape.specs.Labels.{doubles_label}
use Rattle.f77_shape.proofs.Firsts.{first_from}
use Rattle.f77_shape.proofs.labels.double_label.Given as goal

abbrev pub invariant-loop-listed : goal.invariant-loop-listed
invariant-loop-listed l = record {
  first : sooner l.first (first_from DoubleLabel (doubles_label l.unit) l.unit l.listed-index) ≡ first_from DoubleLabel (doubles_label l.unit) l.unit 0;
  seen : (label : ℕ) → contains nat_eq l.seen label ≡ list_any (λ other. is_label label other.card.label) (take l.listed-index l.unit);
}
