-- What the tables of labels tell.
use Rattle.std.specs.Prelude.{ℕ, Bool, false, Option, None, Some}
use Rattle.std.specs.Option.{is_none}
use Rattle.f77_structure.specs.declared.targets.Targets.{Targets}
use Rattle.f77_structure.specs.Targets.{place_of}

-- whether no place is noted for a label
abbrev pub lacks : Targets ℕ → (label : ℕ) → Bool
lacks targets label = is_none (place_of targets label)

-- whether a label that may be there is among those that were seen
abbrev pub is_seen : (ℕ → Bool) → Option ℕ → Bool
is_seen seen None = false
is_seen seen (Some label) = seen label
