use Rattle.std.proofs.Common.{◌≡◌, ◌++◌, drop, reverse}
use Rattle.f77_structure.specs.Blocks.{blocks_from, blocks_of}
use Rattle.f77_structure.proofs.blocks.blocks_of.Given as goal

abbrev pub invariant-loop-place : goal.invariant-loop-place
invariant-loop-place l = l.blocks.items ++ blocks_from (reverse l.parts.items) l.place (drop l.place l.unit) ≡ blocks_of l.unit
