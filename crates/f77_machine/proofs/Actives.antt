-- Active loops, the innermost one first.
use Rattle.std.proofs.Common.{◌≡◌, List, [], ◌∷◌, ◌++◌, length, map, reverse, ap, ◌∙◌}
use Rattle.std.proofs.lemmas.List.{length-map, length-reverse, map-append, reverse-append}
use Rattle.f77_machine.specs.Active.{active_of, actives_of}
use Rattle.f77_machine.specs.declared.active.ActiveLoop.{ActiveLoop}

-- the last one is the innermost one
pub actives_of-append : (outer : List ActiveLoop) (innermost : ActiveLoop) → actives_of (outer ++ innermost ∷ []) ≡ active_of innermost ∷ actives_of outer
actives_of-append outer innermost = ap reverse (map-append active_of outer (innermost ∷ [])) ∙ reverse-append (map active_of outer) (active_of innermost ∷ [])

-- they are as many
pub length-actives_of : (loops : List ActiveLoop) → length (actives_of loops) ≡ length loops
length-actives_of loops = length-reverse (map active_of loops) ∙ length-map loops active_of
