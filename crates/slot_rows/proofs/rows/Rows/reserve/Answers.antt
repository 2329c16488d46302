use Rattle.std.proofs.Common.{◌≡◌, ◌+◌, ◌≤◌, ◌∙◌, ap, sym, subst, arith}
use Rattle.std.specs.Prelude.{All}
use Rattle.slot_rows.specs.Rows.{number_at, regions_named}
use Rattle.slot_rows.specs.Spans.{place_in}
use Rattle.slot_rows.proofs.RowLemmas.{none_anywhere}
use Rattle.slot_rows.proofs.rows.Rows.reserve.Goals as goal

pub new-requires-clause-within : goal.new-requires-clause-within
new-requires-clause-within c = λ k d l.
    let named : c.in_ok-named.field-0.items ≡ regions_named c.args.layout.now.regions c.args.regions.now = c.in_ok-named.ensures ∙ ap (regions_named c.args.layout.now.regions) c.as_slice.ensures in
    let all : All (λ r. r.start + r.len ≤ c.args.layout.now.total) c.in_ok-named.field-0.items = subst (All (λ r. r.start + r.len ≤ c.args.layout.now.total)) (sym named) c.requires.within in
    omega (arith, all k d l)

pub returns-clause-none : goal.returns-clause-none
unfolding number_at
returns-clause-none c = λ slot address. none_anywhere c.in_ok-rows.rows.items slot (place_in c.in_ok-table.table.addresses.items address) c.in_ok-rows.ensures.none
