use Rattle.std.proofs.Common.{◌++◌, pos, get_or, ap, sym, ◌∙◌, arith, rules, FitsSigned, w64}
use Rattle.std.specs.Option.{option_to_list}
use Rattle.std.proofs.lemmas.Int.{to_z-of_z}
use Rattle.slot_rows.specs.Regions.{region_at}
use Rattle.slot_rows.proofs.RegionLemmas.{named_more}
use Rattle.slot_rows.proofs.rows.named.Goals as goal

pub loop-number-preserved : goal.loop-number-preserved
loop-number-preserved c =
    let regions = c.args.layout.now.regions in
    let numbers = c.args.numbers.now in
    let i = c.loop-number.number-index in
    let fits : FitsSigned w64 (get_or numbers i (pos 0)) = search rules in
    c.in_ok-push_some.ensures
    ∙ ap (λ o. c.loop-number.regions.items ++ option_to_list o) (c.region_at.ensures ∙ ap (region_at regions) (to_z-of_z w64 (get_or numbers i (pos 0)) fits))
    ∙ ap (λ z. z ++ option_to_list (region_at regions (get_or numbers i (pos 0)))) c.loop-number.invariant
    ∙ sym (named_more regions numbers i (pos 0) (omega arith))
