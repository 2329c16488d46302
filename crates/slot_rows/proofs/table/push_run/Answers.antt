use Rattle.std.proofs.Common.{◌+◌, ◌++◌, ◌∷◌, [], ap, sym, ◌∙◌, append_assoc}
use Rattle.slot_rows.specs.Spans.{run}
use Rattle.slot_rows.proofs.SpanLemmas.{run_more}
use Rattle.slot_rows.proofs.table.push_run.Goals as goal

pub loop-offset-preserved : goal.loop-offset-preserved
loop-offset-preserved c =
    c.in_ok-push.ensures.items ∙ ap (λ z. z ++ (c.args.first + c.loop-offset.offset) ∷ []) c.loop-offset.invariant
    ∙ append_assoc c.args.into.now.items (run c.args.first c.loop-offset.offset) ((c.args.first + c.loop-offset.offset) ∷ [])
    ∙ ap (λ z. c.args.into.now.items ++ z) (sym (run_more c.args.first c.loop-offset.offset))
