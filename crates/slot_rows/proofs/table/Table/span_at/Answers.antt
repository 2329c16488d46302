use Rattle.std.proofs.Common.{◌≡◌, ◌+◌, ◌-◌, get_or, ap, sym, subst, arith, rules}
use Rattle.std.specs.Prelude.{nat_le}
use Rattle.std.proofs.lemmas.List.Sorted.{IsPartitionPoint-from_clause}
use Rattle.slot_rows.specs.Spans.{AreApart}
use Rattle.slot_rows.proofs.SpanLemmas.{having, found_at, partitioned}
use Rattle.slot_rows.proofs.table.Table.span_at.Goals as goal

pub overflow_sub-result : goal.overflow_sub-result
overflow_sub-result c =
    let spans = c.args.self.now.spans.items in
    let h = having spans c.args.address (c.args.self.now.covered c.args.address c.requires) in
    let at = found_at spans c.deref.result.now c.args.address c.partition_point-after.result c.deref.ensures.value c.args.self.now.apart h c.partition_point-after.ensures.bound (IsPartitionPoint-from_clause (λ s. nat_le s.start c.args.address) c.deref.result.now c.partition_point-after.result c.partition_point-after.ensures.partitioned (partitioned c.deref.result.now c.args.address (subst AreApart (sym c.deref.ensures.value) c.args.self.now.apart)) (λ a r q k. search rules)) in
    omega (arith, at)

pub returns-clause-within : goal.returns-clause-within
returns-clause-within c =
    let spans = c.args.self.now.spans.items in
    let h = having spans c.args.address (c.args.self.now.covered c.args.address c.requires) in
    let at = found_at spans c.deref.result.now c.args.address c.partition_point-after.result c.deref.ensures.value c.args.self.now.apart h c.partition_point-after.ensures.bound (IsPartitionPoint-from_clause (λ s. nat_le s.start c.args.address) c.deref.result.now c.partition_point-after.result c.partition_point-after.ensures.partitioned (partitioned c.deref.result.now c.args.address (subst AreApart (sym c.deref.ensures.value) c.args.self.now.apart)) (λ a r q k. search rules)) in
    omega (arith, at, h.within, c.args.self.now.spans.ok.0)

pub returns-clause-low : goal.returns-clause-low
returns-clause-low c = λ d.
    let spans = c.args.self.now.spans.items in
    let h = having spans c.args.address (c.args.self.now.covered c.args.address c.requires) in
    let at = found_at spans c.deref.result.now c.args.address c.partition_point-after.result c.deref.ensures.value c.args.self.now.apart h c.partition_point-after.ensures.bound (IsPartitionPoint-from_clause (λ s. nat_le s.start c.args.address) c.deref.result.now c.partition_point-after.result c.partition_point-after.ensures.partitioned (partitioned c.deref.result.now c.args.address (subst AreApart (sym c.deref.ensures.value) c.args.self.now.apart)) (λ a r q k. search rules)) in
    omega (arith, ap (λ k. (get_or spans k d).start) (let e : c.partition_point-after.result - 1 ≡ h.at = omega (arith, at) in e), h.low d)

pub returns-clause-high : goal.returns-clause-high
returns-clause-high c = λ d.
    let spans = c.args.self.now.spans.items in
    let h = having spans c.args.address (c.args.self.now.covered c.args.address c.requires) in
    let at = found_at spans c.deref.result.now c.args.address c.partition_point-after.result c.deref.ensures.value c.args.self.now.apart h c.partition_point-after.ensures.bound (IsPartitionPoint-from_clause (λ s. nat_le s.start c.args.address) c.deref.result.now c.partition_point-after.result c.partition_point-after.ensures.partitioned (partitioned c.deref.result.now c.args.address (subst AreApart (sym c.deref.ensures.value) c.args.self.now.apart)) (λ a r q k. search rules)) in
    let e : c.partition_point-after.result - 1 ≡ h.at = omega (arith, at) in
    omega (arith, ap (λ k. (get_or spans k d).start + (get_or spans k d).len) e, h.high d)
