-- Pieces for three sinks, in one order.
use Rattle.std.specs.Prelude.{◌≡◌, ℕ, ◌<◌, List, [], ◌∷◌, ◌++◌, length, take, Result, OnOk, OnErr}
use Rattle.hyb_outside.specs.declared.failed.Failed.{Failed}
use Rattle.hyb_outside.specs.declared.pieces.SinkName.{SinkName}
use Rattle.hyb_outside.specs.declared.pieces.SinkName.TheVariants.{Out, Notes, Order}
use Rattle.hyb_base.specs.Count.{Rose}
use Rattle.hyb_outside.specs.SinkSeen.{SinkSeen, Takes}

-- bytes for one of the sinks
pub record Piece : Type 0 where
  pub to : SinkName
  pub bytes : List ℕ

-- the piece of these bytes for this sink
abbrev pub piece : SinkName → List ℕ → Piece
piece to bytes = record { to = to; bytes = bytes }

-- what is for the first sink, of bytes for the second
abbrev pub share : SinkName → SinkName → List ℕ → List ℕ
share Out Out bytes = bytes
share Notes Notes bytes = bytes
share Order Order bytes = bytes
share _ _ bytes = []

-- what is for one sink, of these pieces
abbrev pub share_of : SinkName → List Piece → List ℕ
share_of to [] = []
share_of to (p ∷ ps) = share to p.to p.bytes ++ share_of to ps

-- what is known of each of the three sinks
abbrev pub sinks : SinkSeen → SinkSeen → SinkSeen → SinkName → SinkSeen
sinks out notes order Out = out
sinks out notes order Notes = notes
sinks out notes order Order = order

-- each sink takes its share of these pieces
abbrev pub TakesAll : List Piece → (SinkName → SinkSeen) → (SinkName → SinkSeen) → Type 0
TakesAll pieces old new = (to : SinkName) → Takes (share_of to pieces) (old to) (new to)

-- each sink takes its share of the pieces before one; that one's sink takes less than the whole of it, from
-- its front, and its count rose; no sink takes anything of a later piece
pub record StopsIn (pieces : List Piece) (old new : SinkName → SinkSeen) : Type 0 where
  pub before : List Piece
  pub stopped : Piece
  pub later : List Piece
  pub are : pieces ≡ before ++ stopped ∷ later
  pub part : ℕ
  pub short : part < length stopped.bytes
  pub took : TakesAll (before ++ piece stopped.to (take part stopped.bytes) ∷ []) old new
  pub cause : Rose (old stopped.to).faults (new stopped.to).faults

-- the sinks take all pieces, or stop in one
pub record Emits (pieces : List Piece) (result : Result (Unit {0}) Failed) (old new : SinkName → SinkSeen) : Type 0 where
  pub ok : OnOk result (TakesAll pieces old new)
  pub failed : OnErr result (StopsIn pieces old new)

-- whatever emits these pieces, from now on, emits the whole, from the beginning
abbrev pub Leaves : List Piece → (SinkName → SinkSeen) → List Piece → (SinkName → SinkSeen) → Type 0
Leaves whole old left now = (r : Result (Unit {0}) Failed) (new : SinkName → SinkSeen) → Emits left r now new → Emits whole r old new

-- the count of one of the sinks rose
pub record OneRose (old new : SinkName → SinkSeen) : Type 0 where
  pub which : SinkName
  pub rose : Rose (old which).faults (new which).faults
