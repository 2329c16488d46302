-- Lemmas on reading a file whole.
use Rattle.std.proofs.Common.{◌≡◌, ℕ, ◌<◌, ◌≤◌, ◌+◌, ◌-◌, List, [], ◌++◌, length, take, drop, Option, Some, None, refl, sym, ap, ◌∙◌, arith, length-drop}
use Rattle.std.proofs.lemmas.Grind.{common_steps}
use Rattle.std.proofs.Math.Seq.{take-add}
use Rattle.hyb_outside.specs.FilesSeen.{FilesSeen, FillsFrom, IsEnd}
use Rattle.hybrid_top.specs.Reading.{Keeps, Follows, IsWhole, IsTooLong, file_limit}

-- some bytes more are the first of the content too
pub follows_more : (content : Option (List ℕ)) (bytes buffer : List ℕ) (n : ℕ) → n ≤ length buffer → FillsFrom content (length bytes) n buffer → Follows content bytes → Follows content (bytes ++ take n buffer)
follows_more None bytes buffer n within gives follows = tt
follows_more (Some all) bytes buffer n within gives follows =
    let long : length (bytes ++ take n buffer) ≡ length bytes + n = grind (arith, common_steps) in
    let rest : length (drop (length bytes) all) ≡ length all - length bytes = length-drop (length bytes) all in
    let n_left : n ≤ length (drop (length bytes) all) = gives.0 in
    let before : length bytes ≤ length all = follows.0 in
    (omega arith, rw long (ap (λ xs. xs ++ take n buffer) follows.1 ∙ ap (λ ys. take (length bytes) all ++ ys) gives.1 ∙ sym (take-add (length bytes) n all)))

-- where the content ends after them, they are the whole of it
pub follows_whole : (content : Option (List ℕ)) (bytes : List ℕ) → length bytes ≤ file_limit → Follows content bytes → IsEnd content (length bytes) → IsWhole content bytes
follows_whole None bytes within follows end = record { told = tt; within = within }
follows_whole (Some all) bytes within follows end =
    let whole : take (length bytes) all ≡ all = grind (arith, common_steps) in
    record { told = sym (follows.1 ∙ whole); within = within }

-- where they are more than a file may have, so is the content
pub follows_long : (content : Option (List ℕ)) (bytes : List ℕ) → file_limit < length bytes → Follows content bytes → IsTooLong content
follows_long None bytes long follows = tt
follows_long (Some all) bytes long follows = omega arith

-- no bytes are the first of any content
pub follows_none : (content : Option (List ℕ)) → Follows content []
follows_none None = tt
follows_none (Some all) = (omega arith, refl)

-- what does nothing keeps all
pub keeps_same : (seen : FilesSeen) → Keeps seen seen
keeps_same seen = record { content = refl; may_read = refl; faults = omega arith; ends = omega arith }

-- one call after another
pub keeps_then : (old mid new : FilesSeen) → Keeps old mid → Keeps mid new → Keeps old new
keeps_then old mid new k l = record {
  content = l.content ∙ k.content;
  may_read = l.may_read ∙ k.may_read;
  faults = omega (arith, k.faults, l.faults);
  ends = omega (arith, k.ends, l.ends);
}
