use Rattle.std.proofs.Common.{◌≡◌, drop}
use Rattle.f77_kinds.specs.Breaches.{either, any_of}
use Rattle.f77_kinds.specs.Statements.{item_breach}
use Rattle.f77_uses.specs.Tables.{told_by}
use Rattle.f77_kinds.proofs.items.items_breach.Given as goal

-- what the other items break is still to be added
abbrev pub invariant-loop-item : goal.invariant-loop-item
invariant-loop-item l = either l.breach (any_of (item_breach (told_by l.tables) l.way) (drop l.item-index l.items)) ≡ any_of (item_breach (told_by l.tables) l.way) l.items
