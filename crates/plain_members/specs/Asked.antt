-- What the plain program answers of an address and a node.
use Rattle.std.specs.Prelude.{◌≡◌, ℕ, zero, suc, ℤ, pos, negsuc, ◌≤ℤ◌, List, ◌⊎◌, Option, None, Some, slice_get, slice_set}
use Rattle.hyb_base.specs.declared.ops.Rel.{Rel}
use Rattle.hyb_base.specs.Near.{IsNear}
use Rattle.sym_lmad.specs.declared.lmad.Extent.{Extent}
use Rattle.sym_lmad.specs.Members.{IsReached}
use Rattle.uses.specs.Over.{Over, Before}
use Rattle.usr_graph.specs.declared.node.Node.{Node}
use Rattle.usr_graph.specs.declared.node.Node.TheVariants as n
use Rattle.plain_members.specs.declared.told.Told.{Told}
use Rattle.plain_members.specs.declared.told.Told.TheVariants.{In, Out, Open}
use Rattle.usr_graph.specs.Members.{Worth, Choice, IsMember, IsOf, Holds, Where, OverCount, index_value, place_of}

-- a descriptor has no place, or an address that isn't near
abbrev pub LacksPlace : Option (ℤ × List Extent) → Type 0
LacksPlace None = Unit {0}
LacksPlace (Some place) = (a : ℤ) × (IsReached place.0 place.1 a × (IsNear a → ⊥))

-- a node has a symbol without a value of its own, or a descriptor with an address that isn't near
abbrev pub LacksValue : Worth → (indices : List ℤ) → Node → Type 0
LacksValue worth indices n.Empty = ⊥
LacksValue worth indices (n.Leaf lmad) = LacksPlace (place_of (λ s. worth s indices) lmad)
LacksValue worth indices (n.Union x y) = ⊥
LacksValue worth indices (n.Inter x y) = ⊥
LacksValue worth indices (n.Minus x y) = ⊥
LacksValue worth indices (n.Gate cond body) = (worth cond.left indices ≡ None) ⊎ (worth cond.right indices ≡ None)
LacksValue worth indices (n.Recur index count body) = worth count indices ≡ None
LacksValue worth indices (n.Below index limit body) = ⊥
LacksValue worth indices (n.Site site body) = ⊥

-- the members of a node depend on those of a child at some index values
abbrev pub Asks : Worth → (indices : List ℤ) → Node → (child : ℕ) → (later : List ℤ) → Type 0
Asks worth indices n.Empty child later = ⊥
Asks worth indices (n.Leaf lmad) child later = ⊥
Asks worth indices (n.Union x y) child later = ((child ≡ x) ⊎ (child ≡ y)) × (later ≡ indices)
Asks worth indices (n.Inter x y) child later = ((child ≡ x) ⊎ (child ≡ y)) × (later ≡ indices)
Asks worth indices (n.Minus x y) child later = ((child ≡ x) ⊎ (child ≡ y)) × (later ≡ indices)
Asks worth indices (n.Gate cond body) child later = Where (worth cond.left indices) cond.rel (worth cond.right indices) ((child ≡ body) × (later ≡ indices)) ⊥
Asks worth indices (n.Recur index count body) child later = OverCount (worth count indices) (λ i. (child ≡ body) × (later ≡ slice_set indices index i)) ⊥
Asks worth indices (n.Below index limit body) child later = Before (index_value indices limit) (λ i. (child ≡ body) × (later ≡ slice_set indices index i))
Asks worth indices (n.Site site body) child later = (child ≡ body) × (later ≡ indices)

-- a node that is reached lacks a value
pub data IsOpen (worth : Worth) (nodes : List Node) : (id : ℕ) → (indices : List ℤ) → Type 0 where
  itself : (id : ℕ) (indices : List ℤ) (node : Node) → slice_get nodes id ≡ Some node → LacksValue worth indices node → IsOpen worth nodes id indices
  in_child : (id : ℕ) (indices : List ℤ) (node : Node) (child : ℕ) (later : List ℤ) → slice_get nodes id ≡ Some node → Asks worth indices node child later → IsOpen worth nodes child later → IsOpen worth nodes id indices

-- what is told of an address and a node is so under every choice; nothing is told only where a node that is reached lacks a value
abbrev pub Answers : Worth → List Node → (id : ℕ) → (indices : List ℤ) → (a : ℤ) → Told → Type 0
Answers worth nodes id indices a In = (choice : Choice) → IsMember worth choice nodes id indices a
Answers worth nodes id indices a Out = (choice : Choice) → IsMember worth choice nodes id indices a → ⊥
Answers worth nodes id indices a Open = IsOpen worth nodes id indices

-- ---- the steps

-- a child lacks a value
pub record ChildIsOpen (worth : Worth) (nodes : List Node) (node : Node) (indices : List ℤ) : Type 0 where
  pub child : ℕ
  pub later : List ℤ
  pub asked : Asks worth indices node child later
  pub opened : IsOpen worth nodes child later

-- the same of a node that may be at a place of the graph
abbrev pub AnswersBy : Worth → List Node → (id : ℕ) → Node → (indices : List ℤ) → (a : ℤ) → Told → Type 0
AnswersBy worth nodes id node indices a In = (choice : Choice) → IsOf worth choice (IsMember worth choice nodes) id node indices a
AnswersBy worth nodes id node indices a Out = (choice : Choice) → IsOf worth choice (IsMember worth choice nodes) id node indices a → ⊥
AnswersBy worth nodes id node indices a Open = LacksValue worth indices node ⊎ ChildIsOpen worth nodes node indices

-- of a body at the values of an index from 1 to some number
abbrev pub AnswersOver : Worth → List Node → (index body : ℕ) → (indices : List ℤ) → (turns : ℕ) → (a : ℤ) → Told → Type 0
AnswersOver worth nodes index body indices turns a In = Over (pos turns) (λ i. (choice : Choice) → IsMember worth choice nodes body (slice_set indices index i) a)
AnswersOver worth nodes index body indices turns a Out = (i : ℤ) → pos 1 ≤ℤ i → i ≤ℤ pos turns → (choice : Choice) → IsMember worth choice nodes body (slice_set indices index i) a → ⊥
AnswersOver worth nodes index body indices turns a Open = Over (pos turns) (λ i. IsOpen worth nodes body (slice_set indices index i))

-- the numbers from 1 on that are below a limit
abbrev pub turns_before : ℤ → ℕ
turns_before (pos zero) = 0
turns_before (pos (suc n)) = n
turns_before (negsuc n) = 0

-- the opposite of what is told
abbrev pub opposite_of : Told → Told
opposite_of In = Out
opposite_of Out = In
opposite_of Open = Open

-- two values are there, and a fact holds of them
pub record Compares (left right : Option ℤ) (fact : ℤ → ℤ → Type 0) : Type 0 where
  pub x : ℤ
  pub y : ℤ
  pub left_is : left ≡ Some x
  pub right_is : right ≡ Some y
  pub holds : fact x y

-- what was seen of a relation: it holds, it doesn't, or a value is missing
abbrev pub Looked : (left : Option ℤ) (rel : Rel) (right : Option ℤ) → Told → Type 0
Looked left rel right In = Compares left right (λ x y. Holds x rel y)
Looked left rel right Out = Compares left right (λ x y. Holds x rel y → ⊥)
Looked left rel right Open = (left ≡ None) ⊎ (right ≡ None)
