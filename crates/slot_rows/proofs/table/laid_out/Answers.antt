use Rattle.std.proofs.Common.{◌≡◌, ◌<◌, ◌++◌, ◌∷◌, [], length, get_or, take, ap, sym, ◌∙◌, arith}
use Rattle.slot_rows.specs.Spans.{run, addresses_of, befores_of}
use Rattle.slot_rows.proofs.SpanLemmas.{befores_next, addresses_next, no_span}
use Rattle.slot_rows.proofs.table.laid_out.Goals as goal

pub loop-span-preserved : goal.loop-span-preserved
loop-span-preserved c =
    let spans = c.args.spans.now in
    let i = c.loop-span.span-index in
    let within : i < length spans = omega arith in
    let size : c.len.result ≡ length (addresses_of (take i spans)) = omega (arith, c.len.ensures, c.loop-span.addresses.ok.0, ap length c.loop-span.invariant.addresses) in
    record {
      befores = c.in_ok-push.ensures.items ∙ ap (λ z. z ++ c.len.result ∷ []) c.loop-span.invariant.befores ∙ ap (λ k. befores_of 0 (take i spans) ++ k ∷ []) size ∙ sym (befores_next spans i no_span within);
      addresses = c.in_ok-push_run.ensures ∙ ap (λ z. z ++ run (get_or spans i no_span).start (get_or spans i no_span).len) c.loop-span.invariant.addresses ∙ sym (addresses_next spans i no_span within);
    }
