use Rattle.std.proofs.Common.{subst, rules}
use Rattle.std.specs.List.Sorted.{IsPermutation}
use Rattle.std.proofs.lemmas.List.Sorted.{IsNonDecreasingBy-from_sort_by_key}
use Rattle.slot_rows.specs.Spans.{spans_of}
use Rattle.slot_rows.proofs.RegionLemmas.{apart, placed, covered, within}
use Rattle.slot_rows.proofs.table.sorted_spans.Goals as goal

pub returns-clause-apart : goal.returns-clause-apart
returns-clause-apart c =
    let sorted = c.sort_unstable_by_key.new.self.items in
    let p : IsPermutation (spans_of 0 c.args.regions.now) sorted = subst (λ z. IsPermutation z sorted) c.in_ok-spans.ensures c.sort_unstable_by_key.ensures.permutation in
    apart c.args.regions.now sorted c.requires.apart p (IsNonDecreasingBy-from_sort_by_key (λ s. s.start) sorted c.sort_unstable_by_key.ensures.sorted (λ a r q k. search rules))

pub returns-clause-placed : goal.returns-clause-placed
returns-clause-placed c =
    let sorted = c.sort_unstable_by_key.new.self.items in
    let p : IsPermutation (spans_of 0 c.args.regions.now) sorted = subst (λ z. IsPermutation z sorted) c.in_ok-spans.ensures c.sort_unstable_by_key.ensures.permutation in
    placed c.args.regions.now sorted p

pub returns-clause-covered : goal.returns-clause-covered
returns-clause-covered c =
    let sorted = c.sort_unstable_by_key.new.self.items in
    let p : IsPermutation (spans_of 0 c.args.regions.now) sorted = subst (λ z. IsPermutation z sorted) c.in_ok-spans.ensures c.sort_unstable_by_key.ensures.permutation in
    covered c.args.regions.now sorted p

pub returns-clause-within : goal.returns-clause-within
returns-clause-within c =
    let sorted = c.sort_unstable_by_key.new.self.items in
    let p : IsPermutation (spans_of 0 c.args.regions.now) sorted = subst (λ z. IsPermutation z sorted) c.in_ok-spans.ensures c.sort_unstable_by_key.ensures.permutation in
    within c.args.regions.now sorted p c.requires.within
