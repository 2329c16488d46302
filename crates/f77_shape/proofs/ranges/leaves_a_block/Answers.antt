use Rattle.std.proofs.Common.{sym, ◌∙◌}
use Rattle.std.specs.List.{list_any}
use Rattle.f77_shape.specs.Jumps.{is_entered}
use Rattle.f77_structure.specs.Blocks.{blocks_of}
use Rattle.f77_shape.proofs.CrossingLemmas.{any_leaves}
use Rattle.f77_shape.proofs.OpenerLemmas.{first_of_two, second_of_two}
use Rattle.f77_shape.proofs.ranges.leaves_a_block.Goals as goal

pub returns-then-is_entered : goal.returns-then-is_entered
returns-then-is_entered c = λ unit places.
    first_of_two c.is_entered.result (list_any (is_entered c.args.target c.args.place) (blocks_of unit)) (list_any (is_entered c.args.place c.args.target) (blocks_of unit)) (c.is_entered.ensures (blocks_of unit) places.blocks) c.if-is_entered.true
    ∙ sym (any_leaves c.args.place c.args.target (blocks_of unit))

pub returns-else-is_entered : goal.returns-else-is_entered
returns-else-is_entered c = λ unit places.
    second_of_two c.is_entered.result c.is_entered-else-is_entered.result (list_any (is_entered c.args.target c.args.place) (blocks_of unit)) (list_any (is_entered c.args.place c.args.target) (blocks_of unit)) (c.is_entered.ensures (blocks_of unit) places.blocks) c.if-is_entered.false (c.is_entered-else-is_entered.ensures (blocks_of unit) places.blocks)
    ∙ sym (any_leaves c.args.place c.args.target (blocks_of unit))
