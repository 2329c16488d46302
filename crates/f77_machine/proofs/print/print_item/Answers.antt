use Rattle.std.proofs.Common.{IsTrue, subst}
use Rattle.f77_structure.specs.HasMeaning.{item_has_meaning}
use Rattle.f77_machine.proofs.NamedArrays.{item_array}
use Rattle.f77_machine.proofs.print.print_item.Goals as goal

-- an array's name is no expression that has a meaning
pub print_element-requires-clause-meaning : goal.print_element-requires-clause-meaning
print_element-requires-clause-meaning c =
    let units = c.args.program.now.units in
    let layout = c.args.program.now.layout in
    item_array units layout c.args.unit c.in-Plain.expr c.in-Some.array.now c.in-Some.ensures.named (subst (λ item. IsTrue (item_has_meaning units layout c.args.unit item)) c.in-Plain.is c.requires.meaning)
