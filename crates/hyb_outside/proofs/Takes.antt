-- Lemmas on what one sink takes.
use Rattle.std.proofs.Common.{◌≡◌, ℕ, ◌<◌, ◌≤◌, ◌+◌, List, [], ◌++◌, length, take, drop, Option, None, Some, refl, sym, ap, arith, append_assoc, ◌∙◌}
use Rattle.std.proofs.lemmas.List.{append-nil}
use Rattle.std.proofs.Math.Seq.{take-add}
use Rattle.hyb_base.specs.Count.{Rose}
use Rattle.hyb_outside.specs.SinkSeen.{SinkSeen, appended, Takes, Cuts}

-- some bytes and then some more
pub appended-append : (old : Option (List ℕ)) (xs ys : List ℕ) → appended (appended old xs) ys ≡ appended old (xs ++ ys)
appended-append None xs ys = refl
appended-append (Some bytes) xs ys = ap Some (append_assoc bytes xs ys)

-- no bytes more
pub appended-nil : (old : Option (List ℕ)) → appended old [] ≡ old
appended-nil None = refl
appended-nil (Some bytes) = ap Some (append-nil bytes)

-- a sink that isn't called takes nothing
pub takes_nil : (a : SinkSeen) → Takes [] a a
takes_nil a = record { taken = sym (appended-nil a.taken); faults = omega arith }

-- a sink takes some bytes and then some more
pub takes_then : (xs ys : List ℕ) (a b c : SinkSeen) → Takes xs a b → Takes ys b c → Takes (xs ++ ys) a c
takes_then xs ys a b c p q = record {
  taken = q.taken ∙ ap (λ o. appended o ys) p.taken ∙ appended-append a.taken xs ys;
  faults = omega arith;
}

-- a sink takes one more part of a piece
pub takes_more : (bytes : List ℕ) (done n : ℕ) (a b c : SinkSeen) → Takes (take done bytes) a b → Takes (take n (drop done bytes)) b c → Takes (take (done + n) bytes) a c
takes_more bytes done n a b c p q = rw (take-add done n bytes) (takes_then (take done bytes) (take n (drop done bytes)) a b c p q)

-- a count that rose after it was at least as great rose
pub rose_along : (a b c : ℕ) → a ≤ b → b ≤ c → Rose b c → Rose a c
rose_along a b c p q r = omega arith

-- a count that rose and didn't fall later rose
pub rose_later : (a b c : ℕ) → Rose a b → b ≤ c → Rose a c
rose_later a b c r q = omega arith

-- a sink takes a part of a piece, and then fails
pub cuts : (bytes : List ℕ) (done : ℕ) (a b c : SinkSeen) → done < length bytes → Takes (take done bytes) a b → Takes [] b c → Rose b.faults c.faults → Cuts bytes a c
cuts bytes done a b c short p q r = record {
  part = done;
  short = short;
  takes = let t : Takes (take done bytes ++ []) a c = takes_then (take done bytes) [] a b c p q in rw append-nil at t;
  cause = rose_along a.faults b.faults c.faults p.faults q.faults r;
}
