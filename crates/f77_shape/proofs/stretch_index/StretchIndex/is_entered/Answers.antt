use Rattle.std.proofs.Common.{sym, ◌∙◌}
use Rattle.std.specs.List.{list_any}
use Rattle.f77_shape.specs.StretchIndex.{ends_before}
use Rattle.f77_shape.specs.Openers.{opens_behind}
use Rattle.f77_shape.proofs.OpenerLemmas.{any_entered, first_of_two, second_of_two}
use Rattle.f77_shape.proofs.stretch_index.StretchIndex.is_entered.Goals as goal

pub returns-then-opens_behind : goal.returns-then-opens_behind
returns-then-opens_behind c = λ stretches held.
    first_of_two c.opens_behind.result (list_any (opens_behind c.args.from c.args.to) stretches) (list_any (ends_before c.args.from c.args.to) stretches) (c.opens_behind.ensures stretches held) c.if-opens_behind.true
    ∙ sym (any_entered c.args.from c.args.to stretches)

pub returns-else-opens_behind : goal.returns-else-opens_behind
returns-else-opens_behind c = λ stretches held.
    second_of_two c.opens_behind.result c.ends_before.result (list_any (opens_behind c.args.from c.args.to) stretches) (list_any (ends_before c.args.from c.args.to) stretches) (c.opens_behind.ensures stretches held) c.if-opens_behind.false (c.ends_before.ensures stretches held)
    ∙ sym (any_entered c.args.from c.args.to stretches)
