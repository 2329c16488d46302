-- Stores of lists of values, as cells in memory hold them.
use Rattle.std.specs.Prelude.{ℕ, ◌<◌, ◌≤◌, ◌≡◌, List, length, Some, slice_get, slice_index_or, slice_set}
use Rattle.interleaving.specs.Machine.{Store, put}

-- the store of a list: its value at each address within it, and one value at all others
abbrev pub store_of : {V : Type 0} → (outside : V) → List V → Store V
store_of outside values = λ a. slice_index_or values a outside

-- list stores: what such a store holds; a write to an address within the list is a write to the store, and one to another address changes
-- nothing; and lists of one length that are one store are one list
pub record AreStores (V : Type 0) : Type 0 where
  pub holds : (outside : V) (values : List V) (a : ℕ) (v : V) → slice_get values a ≡ Some v → store_of outside values a ≡ v
  pub outside : (outside : V) (values : List V) (a : ℕ) → length values ≤ a → store_of outside values a ≡ outside
  pub written_within : (outside : V) (values : List V) (a : ℕ) (v : V) → a < length values → store_of outside (slice_set values a v) ≡ put (store_of outside values) a v
  pub written_beyond : (outside : V) (values : List V) (a : ℕ) (v : V) → length values ≤ a → store_of outside (slice_set values a v) ≡ store_of outside values
  pub one_list : (outside : V) (values others : List V) → length values ≡ length others → store_of outside values ≡ store_of outside others → values ≡ others
