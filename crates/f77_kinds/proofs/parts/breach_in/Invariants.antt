use Rattle.std.proofs.Common.{◌≡◌, drop}
use Rattle.f77_kinds.specs.Breaches.{either, any_of}
use Rattle.f77_uses.specs.Tables.{told_by}
use Rattle.f77_kinds.proofs.parts.breach_in.Given as goal

-- what the other parts break is still to be added
abbrev pub invariant-loop-part : goal.invariant-loop-part
invariant-loop-part g l = either l.breach (any_of (g.T.Judged.breach_of (told_by l.tables)) (drop l.part-index l.parts)) ≡ any_of (g.T.Judged.breach_of (told_by l.tables)) l.parts
