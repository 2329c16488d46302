-- The truth of predicates, and how many cells are read to find it.
use Rattle.std.specs.Prelude.{◌≡◌, ℕ, ◌+◌, ◌==◌, ◌<◌, ℤ, Bool, true, false, ◌&&◌, ◌||◌, not, List, [], ◌∷◌, ◌++◌, length, reverse, Option, Some, None, nat_lt, int_le, IsTrue, slice_get}
use Rattle.std.specs.Ordering.{int_eq}
use Rattle.hyb_base.specs.declared.env.Env.{Env}
use Rattle.sym_lmad.specs.Gain.{at_index}
use Rattle.sym_lmad.specs.Naming.{reads_of}
use Rattle.sym_lmad.specs.Worth.{worth_of}
use Rattle.pdag_nodes.specs.declared.pred.Pred.{Pred}
use Rattle.pdag_nodes.specs.declared.pred.Pred.TheVariants as p
use Rattle.pdag_nodes.specs.Regions.{is_stable}
use Rattle.pdag_nodes.specs.Turns.{each_to, sum_to, turns_of}
use Rattle.pdag_nodes.specs.Steps.{windows_of, window_reads}
use Rattle.pdag_nodes.specs.Windows.{are_ascending, where_asked}

-- whether the children of a predicate are among the first n
abbrev pub children_below : ℕ → Pred → Bool
children_below n p.True = true
children_below n p.False = true
children_below n (p.Le x y) = true
children_below n (p.Ne x y) = true
children_below n (p.And a b) = nat_lt a n && nat_lt b n
children_below n (p.Or a b) = nat_lt a n && nat_lt b n
children_below n (p.Every index count body) = nat_lt body n
children_below n (p.Ascending index count low high rising) = true
children_below n (p.Stable reads writes) = true

-- each predicate of a list has children before it
abbrev pub HaveEarlierChildren : List Pred → Type 0
HaveEarlierChildren nodes = (id : ℕ) (node : Pred) → slice_get nodes id ≡ Some node → IsTrue (children_below id node)

-- the children of a predicate are among the first n
abbrev pub ChildrenBelow : ℕ → Pred → Type 0
ChildrenBelow n p.True = Unit {0}
ChildrenBelow n p.False = Unit {0}
ChildrenBelow n (p.Le x y) = Unit {0}
ChildrenBelow n (p.Ne x y) = Unit {0}
ChildrenBelow n (p.And a b) = (a < n) × (b < n)
ChildrenBelow n (p.Or a b) = (a < n) × (b < n)
ChildrenBelow n (p.Every index count body) = body < n
ChildrenBelow n (p.Ascending index count low high rising) = Unit {0}
ChildrenBelow n (p.Stable reads writes) = Unit {0}

-- the index that a predicate binds is among the first n
abbrev pub IndexBelow : ℕ → Pred → Type 0
IndexBelow n p.True = Unit {0}
IndexBelow n p.False = Unit {0}
IndexBelow n (p.Le x y) = Unit {0}
IndexBelow n (p.Ne x y) = Unit {0}
IndexBelow n (p.And a b) = Unit {0}
IndexBelow n (p.Or a b) = Unit {0}
IndexBelow n (p.Every index count body) = index < n
IndexBelow n (p.Ascending index count low high rising) = index < n
IndexBelow n (p.Stable reads writes) = Unit {0}

-- each index that a predicate of a list binds has a place
pub record HaveIndices (nodes : List Pred) (places : ℕ) : Type 0 where
  pub bound : (id : ℕ) (node : Pred) → slice_get nodes id ≡ Some node → IndexBelow places node

-- comparisons hold only of values
abbrev pub le_by : Option ℤ → Option ℤ → Bool
le_by (Some x) (Some y) = int_le x y
le_by (Some x) None = false
le_by None y = false

abbrev pub ne_by : Option ℤ → Option ℤ → Bool
ne_by (Some x) (Some y) = not (int_eq x y)
ne_by (Some x) None = false
ne_by None y = false

-- a test of each index from 1 to a count, where that has a value
abbrev pub every_by : Option ℤ → (ℤ → Bool) → Bool
every_by (Some n) test = each_to (turns_of n) test
every_by None test = false

abbrev pub ascending_by : Bool → Option ℤ → (ℤ → Option (ℤ × ℤ)) → Bool
ascending_by rising (Some n) windows = are_ascending rising windows (turns_of n)
ascending_by rising None windows = false

abbrev pub sum_by_count : Option ℤ → (ℤ → ℕ) → ℕ
sum_by_count (Some n) f = sum_to (turns_of n) f
sum_by_count None f = 0

-- what a predicate is at some bindings: whether it holds, and how many cells are read at most to find it
pub record Meaning : Type 0 where
  pub holds : Bool
  pub reads : ℕ

abbrev pub Meanings : Type 0
Meanings = (id : ℕ) → Env → Meaning

module _ (values : List ℤ) (children : Meanings) where
  -- whether a predicate holds, by its children
  abbrev pub holds_by : Pred → Env → Bool
  holds_by p.True env = true
  holds_by p.False env = false
  holds_by (p.Le x y) env = le_by (worth_of env values x) (worth_of env values y)
  holds_by (p.Ne x y) env = ne_by (worth_of env values x) (worth_of env values y)
  holds_by (p.And a b) env = (children a env).holds && (children b env).holds
  holds_by (p.Or a b) env = (children a env).holds || (children b env).holds
  holds_by (p.Every index count body) env = every_by (worth_of env values count) (λ i. (children body (at_index env index i)).holds)
  holds_by (p.Ascending index count low high rising) env = ascending_by rising (worth_of env values count) (windows_of env values index low high)
  holds_by (p.Stable reads writes) env = is_stable env reads writes

  -- how many cells are read at most, by its children
  abbrev pub reads_by : Pred → Env → ℕ
  reads_by p.True env = 0
  reads_by p.False env = 0
  reads_by (p.Le x y) env = reads_of x + reads_of y
  reads_by (p.Ne x y) env = reads_of x + reads_of y
  reads_by (p.And a b) env = (children a env).reads + where_asked (children a env).holds (children b env).reads
  reads_by (p.Or a b) env = (children a env).reads + where_asked (not (children a env).holds) (children b env).reads
  reads_by (p.Every index count body) env = reads_of count + sum_by_count (worth_of env values count) (λ i. (children body (at_index env index i)).reads)
  reads_by (p.Ascending index count low high rising) env = reads_of count + sum_by_count (worth_of env values count) (λ i. window_reads low high)
  reads_by (p.Stable reads writes) env = 0

  abbrev pub meaning_by : Pred → Env → Meaning
  meaning_by node env = record { holds = holds_by node env; reads = reads_by node env }

-- what predicates are, the newest of the list first: one that isn't in the list never holds
abbrev pub chosen : Bool → Meaning → Meaning → Meaning
chosen true newest older = newest
chosen false newest older = older

abbrev pub meanings_of : (values : List ℤ) → (newest_first : List Pred) → Meanings
meanings_of values [] id env = record { holds = false; reads = 0 }
meanings_of values (node ∷ older) id env = chosen (id == length older) (meaning_by values (meanings_of values older) node env) (meanings_of values older id env)

-- what a predicate of a list is
abbrev pub meaning_of : (values : List ℤ) → List Pred → Meanings
meaning_of values nodes = meanings_of values (reverse nodes)

-- whether a predicate of a list holds
abbrev pub truth_of : (values : List ℤ) → List Pred → (id : ℕ) → Env → Bool
truth_of values nodes id env = (meaning_of values nodes id env).holds

-- another predicate at the end keeps the truth of each older one, and what is read for it
abbrev pub OlderOnesStay : Type 0
OlderOnesStay = (values : List ℤ) (nodes : List Pred) (node : Pred) (id : ℕ) (env : Env) → id < length nodes → meaning_of values (nodes ++ node ∷ []) id env ≡ meaning_of values nodes id env
