use Rattle.std.proofs.Common.{Some, if◌then◌else◌, ◌-◌, sym, ap, ◌∙◌, arith}
use Rattle.f77_structure.specs.Labels.{has_label}
use Rattle.f77_structure.proofs.LabelLemmas.{target_back}
use Rattle.f77_structure.proofs.targets.targets_of.Goals as goal

pub loop-place-preserved : goal.loop-place-preserved
loop-place-preserved c = record {
  within = omega arith;
  places = λ label.
      c.in_ok-note.ensures label
      ∙ ap (λ o. if has_label label c.index-unit-place.result then Some (c.loop-place.place - 1) else o) (c.loop-place.invariant.places label)
      ∙ sym (target_back c.args.unit.now c.loop-place.place label c.index-unit-place.result c.loop-place-test.true c.loop-place.invariant.within c.index-unit-place.is);
}
