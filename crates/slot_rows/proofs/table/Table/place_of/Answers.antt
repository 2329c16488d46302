use Rattle.std.proofs.Common.{◌≡◌, ℕ, ◌<◌, length, get_or, ap, ◌∙◌, arith}
use Rattle.slot_rows.proofs.SpanLemmas.{region_has, place_is}
use Rattle.slot_rows.proofs.table.Table.place_of.Goals as goal

pub returns-clause-place : goal.returns-clause-place
returns-clause-place c =
    let spans = c.args.self.now.spans.items in
    let d = c.index.result.now in
    let i : ℕ = c.span_at.result in
    let within : i < length spans = omega (arith, c.span_at.ensures.within, c.args.self.now.spans.ok.0) in
    let same : d.place ≡ (get_or spans i d).place = ap (λ s. s.place) c.index.ensures in
    let inside : (get_or spans i d).place < length c.args.self.now.regions.items = c.args.self.now.placed.within i d within in
    same ∙ place_is c.args.self.now.regions.items (get_or spans i d).place c.args.address c.args.self.now.alone inside (λ e. region_has c.args.self.now.regions.items spans i c.args.address c.args.self.now.placed within c.span_at.ensures.low c.span_at.ensures.high d e)

pub returns-clause-within : goal.returns-clause-within
returns-clause-within c =
    let spans = c.args.self.now.spans.items in
    let d = c.index.result.now in
    let i : ℕ = c.span_at.result in
    let within : i < length spans = omega (arith, c.span_at.ensures.within, c.args.self.now.spans.ok.0) in
    let same : d.place ≡ (get_or spans i d).place = ap (λ s. s.place) c.index.ensures in
    let inside : (get_or spans i d).place < length c.args.self.now.regions.items = c.args.self.now.placed.within i d within in
    omega (arith, same, inside, c.args.self.now.regions.ok.0)
