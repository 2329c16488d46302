-- Variables of running DOs.
use Rattle.std.proofs.Common.{◌≡◌, ℕ, ◌==◌, ◌||◌, Bool, true, false, List, [], ◌∷◌, map, refl, sym, ap, ◌∙◌}
use Rattle.std.specs.List.{list_any}
use Rattle.std.proofs.lemmas.List.Sorted.{list_any-IsPermutation, IsPermutation-reverse}
use Rattle.f77_meaning.specs.Process.{is_blocked}
use Rattle.f77_machine.specs.Active.{active_of, actives_of}
use Rattle.f77_machine.specs.Process.{frame_of}
use Rattle.f77_machine.specs.declared.active.ActiveLoop.{ActiveLoop}
use Rattle.f77_machine.specs.declared.process.Process.{Process}

or_false : (b : Bool) → (b || false) ≡ b
or_false true = refl
or_false false = refl

of_mapped : (address : ℕ) (loops : List ActiveLoop) → list_any (λ loop. loop.variable == address) (map active_of loops) ≡ list_any (λ loop. loop.variable == address) loops
of_mapped address [] = refl
of_mapped address (loop ∷ loops) = ap (λ b. (loop.variable == address) || b) (of_mapped address loops)

-- the loops may be gone through in any order
pub blocked_by_one : (p : Process) (address : ℕ) → list_any (λ loop. loop.variable == address) p.active.items ≡ is_blocked address (frame_of p ∷ [])
blocked_by_one p address =
    sym (of_mapped address p.active.items)
    ∙ list_any-IsPermutation (λ loop. loop.variable == address) (map active_of p.active.items) (actives_of p.active.items) (IsPermutation-reverse (map active_of p.active.items))
    ∙ sym (or_false (list_any (λ loop. loop.variable == address) (actives_of p.active.items)))
    ∙ sym (or_false (list_any (λ loop. loop.variable == address) (actives_of p.active.items) || false))
