use Rattle.std.proofs.Common.{ltb, arith, rules}
use Rattle.std.proofs.lemmas.List.Sorted.{IsPartitionPoint-from_clause, IsPartitionedBy-ltb}
use Rattle.f77_structure.proofs.Rising.{sorted_from_rise}
use Rattle.f77_machine.proofs.loops.first_from.Goals as goal

-- the loops are sorted by where their ranges begin
pub returns : goal.returns
returns c =
    let parted = IsPartitionedBy-ltb (λ loop. loop.from) c.args.loops.now c.args.number (sorted_from_rise 2 c.args.loops.now c.requires.sorted) in
    let point = IsPartitionPoint-from_clause (λ loop. ltb loop.from c.args.number) _ _ c.partition_point.ensures.partitioned parted (λ a r q k. search rules) in
    (λ k d l h. grind (arith, point.0 k d l h), λ k d l h. grind (arith, point.1 k d l h))
