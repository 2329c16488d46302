-- What an assignment writes.
use Rattle.std.proofs.Common.{◌≡◌, ℤ, pos, List, Option, None, Some, refl}
use Rattle.std.specs.Option.{option_map}
use Rattle.f77_meaning.specs.Assign.{Accumulation, Written, accumulated, written_by}
use Rattle.f77_meaning.specs.Demand.{Demand, Evaluation, Located, Setting}
use Rattle.f77_machine.specs.Chain.{OfAccumulation, accumulation_at}

-- an assignment of which a right side with v held open is known is an accumulation
pub is_accumulated : (s : Setting) (o : Option Accumulation) (place : Located) (value : Evaluation) (rest : List ℤ) (first : OfAccumulation) (d : Demand Written) → Some first ≡ option_map (accumulation_at (pos 0) rest) o → ((h : Accumulation) → o ≡ Some h → d ≡ accumulated s place h rest) → d ≡ written_by s o place value rest
is_accumulated s None place value rest first d e f = absurd (cc)
is_accumulated s (Some h) place value rest first d e f = f h refl
