use Rattle.std.proofs.Common.{◌≡◌, ℕ, length, get_or, ap, ◌∙◌, arith}
use Rattle.std.proofs.lemmas.List.{get_or_default}
use Rattle.slot_rows.specs.Spans.{addresses_of, befores_of, place_in}
use Rattle.slot_rows.proofs.SpanLemmas.{unit_of_address, length-befores_of}
use Rattle.slot_rows.proofs.table.Table.unit_of.Goals as goal

pub index-requires : goal.index-requires
index-requires c =
    omega (arith, c.span_at-place.ensures.within, c.args.self.now.spans.ok.0, c.args.self.now.befores.ok.0, ap length c.args.self.now.befores_are, length-befores_of 0 c.args.self.now.spans.items)

pub overflow_add-result : goal.overflow_add-result
overflow_add-result c =
    let spans = c.args.self.now.spans.items in
    let place : ℕ = c.span_at-place.result in
    let d = c.index-2.result.now in
    let u = unit_of_address spans place c.args.address d c.args.self.now.apart (omega (arith, c.span_at-place.ensures.within, c.args.self.now.spans.ok.0)) (c.span_at-place.ensures.low d) (c.span_at-place.ensures.high d) in
    let start : c.index-2.result.now.start ≡ (get_or spans place d).start = ap (λ s. s.start) c.index-2.ensures in
    let before : c.index.result.now ≡ get_or (befores_of 0 spans) place 0 = c.index.ensures ∙ get_or_default c.args.self.now.befores.items place c.index.result.now 0 (omega (arith, c.span_at-place.ensures.within, c.args.self.now.spans.ok.0, ap length c.args.self.now.befores_are, length-befores_of 0 spans)) ∙ ap (λ z. get_or z place 0) c.args.self.now.befores_are in
    let unit : place_in c.args.self.now.addresses.items c.args.address ≡ place_in (addresses_of spans) c.args.address = ap (λ z. place_in z c.args.address) c.args.self.now.addresses_are in
    let size : length c.args.self.now.addresses.items ≡ length (addresses_of spans) = ap length c.args.self.now.addresses_are in
    omega (arith, u, start, before, unit, size, c.args.self.now.addresses.ok.0, c.args.self.now.addresses.small)

pub returns-clause-unit : goal.returns-clause-unit
returns-clause-unit c =
    let spans = c.args.self.now.spans.items in
    let place : ℕ = c.span_at-place.result in
    let d = c.index-2.result.now in
    let u = unit_of_address spans place c.args.address d c.args.self.now.apart (omega (arith, c.span_at-place.ensures.within, c.args.self.now.spans.ok.0)) (c.span_at-place.ensures.low d) (c.span_at-place.ensures.high d) in
    let start : c.index-2.result.now.start ≡ (get_or spans place d).start = ap (λ s. s.start) c.index-2.ensures in
    let before : c.index.result.now ≡ get_or (befores_of 0 spans) place 0 = c.index.ensures ∙ get_or_default c.args.self.now.befores.items place c.index.result.now 0 (omega (arith, c.span_at-place.ensures.within, c.args.self.now.spans.ok.0, ap length c.args.self.now.befores_are, length-befores_of 0 spans)) ∙ ap (λ z. get_or z place 0) c.args.self.now.befores_are in
    let unit : place_in c.args.self.now.addresses.items c.args.address ≡ place_in (addresses_of spans) c.args.address = ap (λ z. place_in z c.args.address) c.args.self.now.addresses_are in
    let size : length c.args.self.now.addresses.items ≡ length (addresses_of spans) = ap length c.args.self.now.addresses_are in
    omega (arith, u, start, before, unit)

pub returns-clause-within : goal.returns-clause-within
returns-clause-within c =
    let spans = c.args.self.now.spans.items in
    let place : ℕ = c.span_at-place.result in
    let d = c.index-2.result.now in
    let u = unit_of_address spans place c.args.address d c.args.self.now.apart (omega (arith, c.span_at-place.ensures.within, c.args.self.now.spans.ok.0)) (c.span_at-place.ensures.low d) (c.span_at-place.ensures.high d) in
    let start : c.index-2.result.now.start ≡ (get_or spans place d).start = ap (λ s. s.start) c.index-2.ensures in
    let before : c.index.result.now ≡ get_or (befores_of 0 spans) place 0 = c.index.ensures ∙ get_or_default c.args.self.now.befores.items place c.index.result.now 0 (omega (arith, c.span_at-place.ensures.within, c.args.self.now.spans.ok.0, ap length c.args.self.now.befores_are, length-befores_of 0 spans)) ∙ ap (λ z. get_or z place 0) c.args.self.now.befores_are in
    let unit : place_in c.args.self.now.addresses.items c.args.address ≡ place_in (addresses_of spans) c.args.address = ap (λ z. place_in z c.args.address) c.args.self.now.addresses_are in
    let size : length c.args.self.now.addresses.items ≡ length (addresses_of spans) = ap length c.args.self.now.addresses_are in
    omega (arith, u, start, before, unit, size)
