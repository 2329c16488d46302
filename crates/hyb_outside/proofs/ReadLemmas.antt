-- Lemmas on what reads give.
use Rattle.std.proofs.Common.{◌≡◌, ℕ, ◌+◌, ◌-◌, ◌^◌, ◌<◌, ◌≤◌, List, ◌++◌, take, Option, None, Some, refl, arith}
use Rattle.std.specs.Prelude.{IfSome}
use Rattle.std.proofs.Math.Seq.{take-add}
use Rattle.std.proofs.lemmas.Grind.{common_steps}
use Rattle.hyb_base.specs.Count.{next_count}
use Rattle.hyb_outside.specs.FilesSeen.{FillsFrom, IsEnd, ends_after}

-- the bytes before a place, and then those that a read from there gave
pub gives_more : (content : Option (List ℕ)) (from n : ℕ) (buffer : List ℕ) → FillsFrom content from n buffer → IfSome content (λ bytes. take (from + n) bytes ≡ take from bytes ++ take n buffer)
gives_more None from n buffer g = tt
gives_more (Some bytes) from n buffer g = rw (take-add from n bytes, g.1) refl

-- the bytes before an end are all
pub end_is_whole : (content : Option (List ℕ)) (from : ℕ) → IsEnd content from → IfSome content (λ bytes. take from bytes ≡ bytes)
end_is_whole None from h = tt
end_is_whole (Some bytes) from h = grind (arith, common_steps)

-- an end is counted where there was room
pub ends_after-end : (room ends : ℕ) → 0 < room → ends_after 0 room ends ≡ next_count ends
ends_after-end room ends h = grind (arith, common_steps)

-- and nothing is where a byte was given
pub ends_after-some : (n room ends : ℕ) → 0 < n → ends_after n room ends ≡ ends
ends_after-some n room ends h = grind (arith, common_steps)

-- the number of ends doesn't fall
pub ends_after-le : (n room ends : ℕ) → ends ≤ 2 ^ 64 - 1 → ends ≤ ends_after n room ends
ends_after-le n room ends h = grind (arith, common_steps)
