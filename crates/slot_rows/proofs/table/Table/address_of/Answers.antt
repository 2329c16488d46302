use Rattle.std.proofs.Common.{◌≡◌, ◌<◌, length, get_or, ap, sym, subst, ◌∙◌, arith}
use Rattle.std.proofs.lemmas.List.{get_or_default}
use Rattle.slot_rows.specs.Spans.{addresses_of, place_in}
use Rattle.slot_rows.proofs.SpanLemmas.{Rise, Having, addresses_rise, place_of_unit, unit_having, has_by_span, no_span}
use Rattle.slot_rows.proofs.table.Table.address_of.Goals as goal

pub returns-clause-unit : goal.returns-clause-unit
returns-clause-unit c =
    let xs = c.args.self.now.addresses.items in
    let within : c.args.unit < length xs = omega (arith, c.requires) in
    let read : c.index.result.now ≡ get_or xs c.args.unit 0 = c.index.ensures ∙ get_or_default xs c.args.unit c.index.result.now 0 within in
    let rise : Rise 0 xs = subst (Rise 0) (sym c.args.self.now.addresses_are) (addresses_rise c.args.self.now.spans.items c.args.self.now.apart) in
    ap (place_in xs) read ∙ place_of_unit 0 xs c.args.unit rise within

pub returns-clause-address : goal.returns-clause-address
returns-clause-address c =
    let xs = c.args.self.now.addresses.items in
    let spans = c.args.self.now.spans.items in
    let within : c.args.unit < length xs = omega (arith, c.requires) in
    let read : c.index.result.now ≡ get_or (addresses_of spans) c.args.unit 0 = c.index.ensures ∙ get_or_default xs c.args.unit c.index.result.now 0 within ∙ ap (λ z. get_or z c.args.unit 0) c.args.self.now.addresses_are in
    has_by_span c.args.self.now.regions.items spans c.index.result.now no_span c.args.self.now.placed (subst (Having spans) (sym read) (unit_having spans c.args.unit (omega (arith, within, ap length c.args.self.now.addresses_are))))
