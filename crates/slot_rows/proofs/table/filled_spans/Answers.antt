use Rattle.std.proofs.Common.{◌++◌, ◌∷◌, [], get_or, ap, sym, ◌∙◌, arith}
use Rattle.slot_rows.specs.Spans.{spans_of}
use Rattle.slot_rows.proofs.RegionLemmas.{spans_more}
use Rattle.slot_rows.proofs.SpanLemmas.{no_region}
use Rattle.slot_rows.proofs.table.filled_spans.Goals as goal

pub loop-place-preserved : goal.loop-place-preserved
loop-place-preserved c =
    let regions = c.args.regions.now in
    let place = c.loop-place.place in
    c.in_ok-push_filled.ensures ∙ ap (λ z. z ++ spans_of place (get_or regions place no_region ∷ [])) c.loop-place.invariant
    ∙ sym (spans_more regions place no_region (omega arith))
