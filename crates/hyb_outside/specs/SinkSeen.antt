-- What is known of a sink.
use Rattle.std.specs.Prelude.{◌≡◌, ℕ, ◌<◌, ◌≤◌, List, ◌++◌, take, length, Option, None, Some}
use Rattle.hyb_base.specs.Count.{Rose}

-- the bytes that a sink has taken, where it tells them, and how often it has failed
pub record SinkSeen : Type 0 where
  pub taken : Option (List ℕ)
  pub faults : ℕ

-- the bytes and then some more, where they are told
abbrev pub appended : Option (List ℕ) → List ℕ → Option (List ℕ)
appended None more = None
appended (Some bytes) more = Some (bytes ++ more)

-- a sink takes these bytes and no others, and its count doesn't fall
pub record Takes (bytes : List ℕ) (old new : SinkSeen) : Type 0 where
  pub taken : new.taken ≡ appended old.taken bytes
  pub faults : old.faults ≤ new.faults

-- a sink takes less than the whole of a piece, from its front, and its count rose
pub record Cuts (piece : List ℕ) (old new : SinkSeen) : Type 0 where
  pub part : ℕ
  pub short : part < length piece
  pub takes : Takes (take part piece) old new
  pub cause : Rose old.faults new.faults

-- a sink takes some of these bytes, from their front, and no others, and its count doesn't fall
pub record TakesFront (bytes : List ℕ) (old new : SinkSeen) : Type 0 where
  pub front : List ℕ
  pub rest : List ℕ
  pub are : bytes ≡ front ++ rest
  pub takes : Takes front old new
