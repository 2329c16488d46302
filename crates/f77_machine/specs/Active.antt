-- Active loops, as the definitions have them.
use Rattle.std.specs.Prelude.{◌≡◌, ℕ, List, [], ◌∷◌, ◌++◌, map, reverse}
use Rattle.f77_meaning.specs.Process as meaning
use Rattle.f77_meaning.specs.Sound.{NumbersFit}
use Rattle.f77_machine.specs.declared.active.ActiveLoop.{ActiveLoop}

abbrev pub active_of : ActiveLoop → meaning.ActiveLoop
active_of loop = record {
  ordinal = loop.ordinal;
  from = loop.from;
  last = loop.last;
  variable = loop.variable;
  first = loop.first;
  increment = loop.increment;
  count = loop.count;
  done = loop.done;
}

-- active loops, the innermost one first; a process keeps them the outermost one first
abbrev pub actives_of : List ActiveLoop → List meaning.ActiveLoop
actives_of loops = reverse (map active_of loops)

-- of the innermost one an iteration is left, and its numbers are in range; its variable lies in storage of `total` addresses
abbrev pub InnermostNumbersFit : (total : ℕ) → List ActiveLoop → Type 0
InnermostNumbersFit total loops = (outer : List ActiveLoop) (innermost : ActiveLoop) → loops ≡ outer ++ innermost ∷ [] → NumbersFit total (active_of innermost)
