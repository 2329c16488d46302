use Rattle.std.proofs.Common.{◌≤◌, ◌∙◌, ap, drop, length, subst, sym, IsTrue}
use Rattle.std.specs.List.{list_all}
use Rattle.f77_structure.specs.HasMeaning.{item_has_meaning}
use Rattle.f77_machine.specs.Reads.{most_reads}
use Rattle.f77_machine.proofs.Items.{all_left, asks_within, most_left}
use Rattle.f77_machine.proofs.process.Process.printed.Goals as goal

pub print_items-requires-clause-meaning : goal.print_items-requires-clause-meaning
print_items-requires-clause-meaning c =
    let means = item_has_meaning c.args.program.now.units c.args.program.now.layout c.args.self.now.unit in
    subst (λ items. IsTrue (list_all means items)) (sym (c.items_from-left.ensures.value ∙ ap (drop c.args.self.now.items) c.as_slice-2.ensures)) (all_left means c.args.self.now.items c.args.items.now c.requires.meaning)

-- no item that is left needs more than all items do
pub returns-clause-asks : goal.returns-clause-asks
returns-clause-asks c =
    let layout = c.args.program.now.layout in
    let unit = c.args.self.now.unit in
    let left = c.items_from-left.ensures.value ∙ ap (drop c.args.self.now.items) c.as_slice-2.ensures in
    let few : most_reads layout unit c.items_from-left.result.now ≤ most_reads layout unit c.args.items.now =
    subst (λ items. most_reads layout unit items ≤ most_reads layout unit c.args.items.now) (sym left) (most_left layout unit c.args.self.now.items c.args.items.now) in
    asks_within (length layout.first) (most_reads layout unit c.items_from-left.result.now) (most_reads layout unit c.args.items.now) _ _ c.print_items.result few c.as_slice.ensures.value c.print_items.ensures.asks
