-- The table of the DO variables by now, each with the greatest end of the ranges of its loops.
use Rattle.std.specs.Prelude.{ℕ, Bool, false, ◌&&◌, nat_le, List, Option, None, Some, nat_eq}
use Rattle.std.specs.Cmp.Lexicographic.{pointwise}
use Rattle.std.specs.HashMap.{get}
use Rattle.f77_leaves.specs.declared.leaves.Mention.{Mention}
use Rattle.f77_uses.specs.Running.{is_assigned}
use Rattle.f77_uses.specs.declared.running.Running.{Running}

-- whether an end that may be there isn't before a place
abbrev pub is_end_past : (place : ℕ) → Option ℕ → Bool
is_end_past place None = false
is_end_past place (Some last) = nat_le place last

-- whether a range of a variable's loops reaches a place
abbrev pub is_reached : Running → (name : List ℕ) → (place : ℕ) → Bool
is_reached running name place = is_end_past place (get (pointwise nat_eq) running.ends name)

-- whether a mention gives a value to a variable whose loops reach a place
abbrev pub assigns_reached : Running → (place : ℕ) → Mention → Bool
assigns_reached running place mention = is_assigned mention.role && is_reached running mention.name place
