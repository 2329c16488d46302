use Rattle.std.proofs.Common.{◌≡◌, map, drop}
use Rattle.f77_kinds.specs.Breaches.{either}
use Rattle.f77_kinds.specs.Found.{expr_found, arguments_breach}
use Rattle.f77_uses.specs.Tables.{told_by}
use Rattle.f77_kinds.proofs.found.+found.Given as goal

-- what the other arguments break is still to be added
abbrev pub invariant-base_found-loop-place : goal.invariant-base_found-loop-place
invariant-base_found-loop-place l = either l.breach (arguments_breach l.meaning l.place (map (expr_found (told_by l.tables)) (drop l.place l.arg-items))) ≡ arguments_breach l.meaning 0 (map (expr_found (told_by l.tables)) l.arg-items)
