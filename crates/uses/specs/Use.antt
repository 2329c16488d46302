-- How an iteration uses one address.
use Rattle.std.specs.Prelude.{◌≡◌, ℕ, zero, suc, ℤ, pos, negsuc, Bool, true, false, ◌||◌, ◌&&◌, not}

-- not at all; it is read and never written; its first access is a write; its first access is a read, and it is written
pub data Use : Type 0 where
  untouched : Use
  read_only : Use
  written_first : Use
  read_then_written : Use

-- whether the first access is a read, and whether there is a write
abbrev pub is_exposed : Use → Bool
is_exposed untouched = false
is_exposed read_only = true
is_exposed written_first = false
is_exposed read_then_written = true

abbrev pub is_written : Use → Bool
is_written untouched = false
is_written read_only = false
is_written written_first = true
is_written read_then_written = true

-- the use by a part that reads the address only, and by another part after it
abbrev pub after_read : Use → Use
after_read untouched = read_only
after_read read_only = read_only
after_read written_first = read_then_written
after_read read_then_written = read_then_written

-- the use by two parts, one after the other
abbrev pub joined : Use → Use → Use
joined untouched later = later
joined read_only later = after_read later
joined written_first later = written_first
joined read_then_written later = read_then_written

-- the use by n parts, numbered from 1
abbrev pub joined_upto : (n : ℕ) → (ℤ → Use) → Use
joined_upto zero at = untouched
joined_upto (suc n) at = joined (joined_upto n at) (at (pos (suc n)))

-- the use by all trips of a loop: none where the count is 0 or negative
abbrev pub joined_over : (count : ℤ) → (ℤ → Use) → Use
joined_over (pos n) at = joined_upto n at
joined_over (negsuc n) at = untouched

-- three sets of a part tell how it uses an address: each holds exactly where the use is its own
pub record Tells (ro wf rw : Type 0) (use_ : Use) : Type 0 where
  pub ro_is : ro → use_ ≡ read_only
  pub is_ro : use_ ≡ read_only → ro
  pub wf_is : wf → use_ ≡ written_first
  pub is_wf : use_ ≡ written_first → wf
  pub rw_is : rw → use_ ≡ read_then_written
  pub is_rw : use_ ≡ read_then_written → rw

-- ---- laws

abbrev pub ProductIsAssociative : Type 0
ProductIsAssociative = (u v w : Use) → joined (joined u v) w ≡ joined u (joined v w)

abbrev pub UntouchedIsNeutral : Type 0
UntouchedIsNeutral = (u : Use) → (joined untouched u ≡ u) × (joined u untouched ≡ u)

abbrev pub TestsOfProducts : Type 0
TestsOfProducts = (u v : Use) →
    (is_exposed (joined u v) ≡ (is_exposed u || (not (is_written u) && is_exposed v)))
    × (is_written (joined u v) ≡ (is_written u || is_written v))
