use Rattle.std.proofs.Common.{◌≡◌, ◌++◌, drop}
use Rattle.f77_code.specs.Statements.{items_code}
use Rattle.f77_code.proofs.items.add_items.Given as goal

-- the code of the others is still to be added
abbrev pub invariant-loop-item : goal.invariant-loop-item
invariant-loop-item l = l.code ++ items_code l.layout l.unit (drop l.item-index l.items) ≡ l.initial.code ++ items_code l.layout l.unit l.items
