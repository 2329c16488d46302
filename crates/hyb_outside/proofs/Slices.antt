-- Lemmas on pieces whose bytes are slices.
use Rattle.std.proofs.Common.{◌≡◌, ℕ, suc, ◌+◌, ◌<◌, ◌≤◌, List, [], ◌∷◌, length, drop, map, get_or, Result, Ok, Err, arith, drop-cons, add-one}
use Rattle.std.proofs.lemmas.List.{nil_from_length}
use Rattle.std.proofs.lemmas.Grind.{common_steps}
use Rattle.std.specs.Prelude.{IsErr}
use Rattle.hyb_outside.specs.declared.failed.Failed.{Failed}
use Rattle.hyb_outside.specs.declared.pieces.Piece.{Piece as SlicePiece}
use Rattle.hyb_outside.specs.declared.pieces.SinkName.{SinkName}
use Rattle.hyb_outside.specs.Slices.{piece_of}
use Rattle.hyb_outside.specs.SinkSeen.{SinkSeen}
use Rattle.hyb_outside.specs.Pieces.{Emits}
use Rattle.hyb_outside.proofs.Emits.{emits_here, emits_next, emits_none}

-- it stops at the piece at an index
pub emits_here_at : (ps : List SlicePiece) (k : ℕ) (d : SlicePiece) (e : Failed) (r : Result (Unit {0}) Failed) (a b : SinkName → SinkSeen) → k < length ps → Emits (piece_of (get_or ps k d) ∷ []) (Err e) a b → IsErr r → Emits (map piece_of (drop k ps)) r a b
emits_here_at ps k d e r a b h s x = rw (drop-cons ps k d h) (emits_here (piece_of (get_or ps k d)) (map piece_of (drop (suc k) ps)) e r a b s x)

-- the piece at an index is taken, and then the others are offered
pub emits_next_at : (ps : List SlicePiece) (k : ℕ) (d : SlicePiece) (u : Unit {0}) (r : Result (Unit {0}) Failed) (a b c : SinkName → SinkSeen) → k < length ps → Emits (piece_of (get_or ps k d) ∷ []) (Ok u) a b → Emits (map piece_of (drop (k + 1) ps)) r b c → Emits (map piece_of (drop k ps)) r a c
emits_next_at ps k d u r a b c h s t = let t' : Emits (map piece_of (drop (suc k) ps)) r b c = rw (← add-one k) t in rw (drop-cons ps k d h) (emits_next (piece_of (get_or ps k d)) (map piece_of (drop (suc k) ps)) u r a b c s t')

-- no piece is left
pub emits_end : (ps : List SlicePiece) (k : ℕ) (a : SinkName → SinkSeen) → length ps ≤ k → Emits (map piece_of (drop k ps)) (Ok tt) a a
emits_end ps k a h = let e : drop k ps ≡ [] = grind (arith, common_steps, nil_from_length {X = SlicePiece}) in rw e (emits_none a)
