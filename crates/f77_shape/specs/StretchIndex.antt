-- The stretches of a unit, with tables that tell at once whether one of them holds a place and not another.
use Rattle.std.specs.Prelude.{◌≡◌, ℕ, ◌-◌, Bool, ◌&&◌, nat_lt, List, map, if◌then◌else◌}
use Rattle.f77_shape.specs.declared.stretch_index.StretchIndex.{StretchIndex}
use Rattle.f77_structure.specs.declared.stretches.Stretch.{Stretch}
use Rattle.f77_shape.specs.Openers.{AreOpeners}
use Rattle.f77_structure.specs.Stretches.{holds}

-- whether a stretch holds a place, and ends before another
abbrev pub ends_before : (from to : ℕ) → Stretch → Bool
ends_before from to stretch = holds stretch to && nat_lt stretch.last from

-- a stretch, with the places counted backwards from this one; none where it runs to this one or farther
abbrev pub mirrored : (limit : ℕ) → Stretch → Stretch
mirrored limit stretch =
    if nat_lt stretch.last limit
    then record { opens = limit - stretch.last - 1; last = limit - stretch.opens - 1 }
    else record { opens = 0; last = 0 }

-- these are the stretches, and the tables are of them and of the mirrored ones
pub record IsStretchIndex (stretches : List Stretch) (held : StretchIndex) : Type 0 where
  pub same : held.stretches.items ≡ stretches
  pub openers : AreOpeners stretches held.openers.items
  pub mirrored : AreOpeners (map (mirrored held.limit) stretches) held.mirrored.items
