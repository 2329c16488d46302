-- What reading a file whole gives.
use Rattle.std.specs.Prelude.{◌≡◌, ℕ, ◌<◌, ◌≤◌, List, length, take, Option, IfSome}
use Rattle.hyb_outside.specs.FilesSeen.{FilesSeen}

-- the greatest number of bytes of a file
abbrev pub file_limit : ℕ
file_limit = 1048576

-- these bytes are the content, where it is told, and no more than a file may have
pub record IsWhole (content : Option (List ℕ)) (bytes : List ℕ) : Type 0 where
  pub told : IfSome content (λ all. all ≡ bytes)
  pub within : length bytes ≤ file_limit

-- the content, where it is told, has more bytes than a file may have
abbrev pub IsTooLong : Option (List ℕ) → Type 0
IsTooLong content = IfSome content (λ all. file_limit < length all)

-- these bytes are the first of the content, where it is told
abbrev pub Follows : Option (List ℕ) → List ℕ → Type 0
Follows content bytes = IfSome content (λ all. (length bytes ≤ length all) × (bytes ≡ take (length bytes) all))

-- what a call leaves as it is: what the files hold and which may be asked for; and no count falls
pub record Keeps (old new : FilesSeen) : Type 0 where
  pub content : new.content ≡ old.content
  pub may_read : new.may_read ≡ old.may_read
  pub faults : old.faults ≤ new.faults
  pub ends : old.ends ≤ new.ends
