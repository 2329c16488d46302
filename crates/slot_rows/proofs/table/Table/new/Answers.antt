use Rattle.std.proofs.Common.{◌∙◌, ap, subst}
use Rattle.slot_rows.specs.Spans.{ArePlaced, has_address, befores_of, addresses_of}
use Rattle.slot_rows.proofs.RegionLemmas.{alone}
use Rattle.slot_rows.proofs.table.Table.new.Goals as goal

pub invariant_of-result : goal.invariant_of-result
invariant_of-result c = record {
  alone = alone c.args.regions.items c.requires.apart;
  apart = c.in_ok-spans.ensures.apart;
  placed = subst (λ z. ArePlaced z c.in_ok-spans.spans.items) c.as_slice.ensures.value c.in_ok-spans.ensures.placed;
  covered = λ a h. c.in_ok-spans.ensures.covered a (ap (λ z. has_address z a) c.as_slice.ensures.value ∙ h);
  befores_are = c.in_ok-befores.ensures.befores ∙ ap (befores_of 0) c.as_slice-2.ensures.value;
  addresses_are = c.in_ok-befores.ensures.addresses ∙ ap addresses_of c.as_slice-2.ensures.value;
}
