use Rattle.std.proofs.Common.{◌≡◌, drop}
use Rattle.f77_kinds.specs.Breaches.{either, any_of}
use Rattle.f77_kinds.specs.Statements.{item_breach}
use Rattle.f77_uses.specs.Tables.{told_by}
use Rattle.f77_kinds.proofs.items.+item_breach.Given as goal

-- what the other items break is still to be added
abbrev pub invariant-loop-inner : goal.invariant-loop-inner
invariant-loop-inner l = either l.breach (any_of (item_breach (told_by l.tables) l.way) (drop l.inner-index l.list)) ≡ any_of (item_breach (told_by l.tables) l.way) l.list
