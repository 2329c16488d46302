-- The members of the nodes of a graph: addresses, as numbers.
use Rattle.std.specs.Prelude.{◌≡◌, ◌↔◌, ℕ, ◌<◌, ◌==◌, ℤ, pos, ◌<ℤ◌, ◌≤ℤ◌, Bool, true, false, List, [], ◌∷◌, ◌++◌, length, reverse, ◌⊎◌, Option, None, Some, slice_get, slice_set, unwrap_or, Contains}
use Rattle.hyb_base.specs.declared.ops.Rel.{Rel}
use Rattle.hyb_base.specs.declared.ops.Rel.TheVariants.{Eq, Ne, Lt, Le, Gt, Ge}
use Rattle.sym_lmad.specs.declared.sym.Sym.{Sym}
use Rattle.sym_lmad.specs.declared.lmad.Extent.{Extent}
use Rattle.sym_lmad.specs.declared.lmad.Lmad.{Lmad}
use Rattle.sym_lmad.specs.Members.{IsReached, extents_by}
use Rattle.uses.specs.Over.{Over, Before}
use Rattle.usr_graph.specs.declared.node.Node.{Node}
use Rattle.usr_graph.specs.declared.node.Node.TheVariants as n

-- what symbols are worth at the values of the indices: none where a symbol has no value
abbrev pub Worth : Type 0
Worth = Sym → (indices : List ℤ) → Option ℤ

-- the sets that nodes with a symbol without a value are taken for: a finite list of addresses for each node's number and index values
abbrev pub Choice : Type 0
Choice = (id : ℕ) → (indices : List ℤ) → List ℤ

-- sets of addresses, by the number of a node and the values of the indices
abbrev pub Sets : Type 1
Sets = (id : ℕ) → (indices : List ℤ) → (a : ℤ) → Type 0

-- a relation between two values holds
abbrev pub Holds : ℤ → Rel → ℤ → Type 0
Holds x Eq y = x ≡ y
Holds x Ne y = x ≡ y → ⊥
Holds x Lt y = x <ℤ y
Holds x Le y = x ≤ℤ y
Holds x Gt y = y <ℤ x
Holds x Ge y = y ≤ℤ x

-- the value of an index: 0 where it has no place
abbrev pub index_value : (indices : List ℤ) → (index : ℕ) → ℤ
index_value indices index = unwrap_or (slice_get indices index) (pos 0)

-- a descriptor at the values of its base and its counts: none where one of these has no value
abbrev pub place_by : Option ℤ → Option (List Extent) → Option (ℤ × List Extent)
place_by (Some from) (Some extents) = Some (from, extents)
place_by (Some from) None = None
place_by None extents = None

abbrev pub place_of : (Sym → Option ℤ) → Lmad → Option (ℤ × List Extent)
place_of worth lmad = place_by (worth lmad.base) (extents_by worth lmad.dims)

-- the addresses of a descriptor; where it has no place, an open set
abbrev pub OfPlace : Option (ℤ × List Extent) → (a : ℤ) → (open_set : Type 0) → Type 0
OfPlace (Some place) a open_set = IsReached place.0 place.1 a
OfPlace None a open_set = open_set

-- where a relation holds between two values; where one of these is missing, an open set
abbrev pub Where : Option ℤ → Rel → Option ℤ → (body open_set : Type 0) → Type 0
Where (Some x) rel (Some y) body open_set = Holds x rel y × body
Where (Some x) rel None body open_set = open_set
Where None rel y body open_set = open_set

-- at some index from 1 to a count; where the count has no value, an open set
abbrev pub OverCount : Option ℤ → (ℤ → Type 0) → (open_set : Type 0) → Type 0
OverCount (Some count) at open_set = Over count at
OverCount None at open_set = open_set

module _ (worth : Worth) (choice : Choice) where
  -- the members of a node with a number, over the sets of its children
  abbrev pub IsOf : Sets → (id : ℕ) → Node → (indices : List ℤ) → (a : ℤ) → Type 0
  IsOf sets id n.Empty indices a = ⊥
  IsOf sets id (n.Leaf lmad) indices a = OfPlace (place_of (λ s. worth s indices) lmad) a (Contains (choice id indices) a)
  IsOf sets id (n.Union x y) indices a = sets x indices a ⊎ sets y indices a
  IsOf sets id (n.Inter x y) indices a = sets x indices a × sets y indices a
  IsOf sets id (n.Minus x y) indices a = sets x indices a × (sets y indices a → ⊥)
  IsOf sets id (n.Gate cond body) indices a = Where (worth cond.left indices) cond.rel (worth cond.right indices) (sets body indices a) (Contains (choice id indices) a)
  IsOf sets id (n.Recur index count body) indices a = OverCount (worth count indices) (λ i. sets body (slice_set indices index i) a) (Contains (choice id indices) a)
  IsOf sets id (n.Below index limit body) indices a = Before (index_value indices limit) (λ i. sets body (slice_set indices index i) a)
  IsOf sets id (n.Site site body) indices a = sets body indices a

  -- one of two families of sets
  abbrev pub one_of : Bool → Sets → Sets → Sets
  one_of true newest older = newest
  one_of false newest older = older

  -- the sets of some nodes, the newest first: one that isn't among them has no member
  abbrev pub sets_of : (newest_first : List Node) → Sets
  sets_of [] = λ id indices a. ⊥
  sets_of (node ∷ older) = λ id. one_of (id == length older) (λ id. IsOf (sets_of older) id node) (sets_of older) id

  -- an address is a member of a node of a graph
  abbrev pub IsMember : List Node → Sets
  IsMember nodes = sets_of (reverse nodes)

-- a node has no member, whatever the choice
abbrev pub IsSurelyEmpty : Worth → List Node → (id : ℕ) → (indices : List ℤ) → Type 0
IsSurelyEmpty worth nodes id indices = (choice : Choice) (a : ℤ) → IsMember worth choice nodes id indices a → ⊥

-- another node at the end keeps the members of each older one, under every choice
abbrev pub OlderNodesKeepTheirMembers : Type 0
OlderNodesKeepTheirMembers = (worth : Worth) (choice : Choice) (nodes : List Node) (node : Node) (id : ℕ) (indices : List ℤ) (a : ℤ) → id < length nodes →
    IsMember worth choice (nodes ++ node ∷ []) id indices a ↔ IsMember worth choice nodes id indices a
