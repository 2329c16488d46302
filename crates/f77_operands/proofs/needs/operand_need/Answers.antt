use Rattle.std.proofs.Common.{length, sym, ap, ◌∙◌}
use Rattle.f77_operands.specs.Capped.{capped}
use Rattle.f77_operands.proofs.LeafCounts.{needs_are_leaves}
use Rattle.f77_operands.proofs.needs.operand_need.Goals as goal

-- what is in the statement is as much as it needs
pub returns : goal.returns
returns c =
    c.count.ensures
    ∙ ap (λ leaves. capped (length leaves)) (c.as_slice.ensures ∙ c.in_ok-leaves.ensures)
    ∙ ap capped (sym (needs_are_leaves c.args.stmt.now))
