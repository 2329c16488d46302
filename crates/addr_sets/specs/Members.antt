-- Membership in a set of addresses: the one word by which clauses speak of a set.
use Rattle.std.specs.Prelude.{ℕ, ◌≡◌, ◌≤◌, Bool, true}
use Rattle.std.specs.FinSet as set
use Rattle.std.specs.Ordering.{nat_cmp}

-- a set of addresses
abbrev pub Addresses : Type 0
Addresses = set.FinSet nat_cmp

-- whether an address is a member
abbrev pub has : Addresses → ℕ → Bool
has s a = set.contains s a

-- a member that isn't below `low`, and no greater than any other such member
pub record IsLeastFrom (s : Addresses) (low member : ℕ) : Type 0 where
  pub member_of : has s member ≡ true
  pub not_below : low ≤ member
  pub least : (a : ℕ) → low ≤ a → has s a ≡ true → member ≤ a
