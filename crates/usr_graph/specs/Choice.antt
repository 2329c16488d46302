-- What symbols are worth over bindings and storage, and the choice that a value for every symbol makes.
use Rattle.std.specs.Prelude.{ℕ, ◌≡◌, ◌↔◌, ℤ, List, [], length, Some}
use Rattle.hyb_base.specs.declared.env.Env.{Env}
use Rattle.sym_lmad.specs.declared.sym.Sym.{Sym}
use Rattle.sym_lmad.specs.Bindings.{FitsCells}
use Rattle.sym_lmad.specs.Numbers.{run_of}
use Rattle.sym_lmad.specs.Worth.{worth_of}
use Rattle.usr_graph.specs.declared.node.Node.{Node}
use Rattle.usr_graph.specs.Members.{Worth, Choice, IsMember, IsSurelyEmpty}

-- bindings with other values of the indices
abbrev pub with_indices : Env → List ℤ → Env
with_indices env indices = record env { indices = indices }

-- the near number of a symbol, where it has one
abbrev pub near_worth : Env → (values : List ℤ) → Worth
near_worth env values = λ s indices. worth_of (with_indices env indices) values s

-- a value for every symbol
abbrev pub Value : Type 0
Value = Sym → (indices : List ℤ) → ℤ

-- what a run computes of a symbol
abbrev pub run_value : Env → (values : List ℤ) → Value
run_value env values = λ s indices. run_of (with_indices env indices) values s

-- the worth of symbols by a value for each
abbrev pub worth_by : Value → Worth
worth_by value = λ s indices. Some (value s indices)

abbrev pub nothing_chosen : Choice
nothing_chosen = λ id indices. []

-- the members of a node where every symbol has a value
abbrev pub IsMemberBy : Value → List Node → (id : ℕ) → (indices : List ℤ) → (a : ℤ) → Type 0
IsMemberBy value = IsMember (worth_by value) nothing_chosen

-- each value that symbols have is the one given
pub record Extends (worth : Worth) (value : Value) : Type 0 where
  pub kept : (s : Sym) (indices : List ℤ) (v : ℤ) → worth s indices ≡ Some v → value s indices ≡ v

-- ---- laws

-- for each value of all symbols that keeps the values that they have, one choice gives every node the members that it has by that value
abbrev pub ChoicesExtend : Type 0
ChoicesExtend = (worth : Worth) (value : Value) → Extends worth value → (nodes : List Node) →
    (choice : Choice) × ((id : ℕ) (indices : List ℤ) (a : ℤ) → IsMember worth choice nodes id indices a ↔ IsMemberBy value nodes id indices a)

-- so a node that is surely empty has no member by that value
abbrev pub SurelyEmptyIsEmpty : Type 0
SurelyEmptyIsEmpty = (worth : Worth) (value : Value) → Extends worth value → (nodes : List Node) (id : ℕ) (indices : List ℤ) →
    IsSurelyEmpty worth nodes id indices → (a : ℤ) → IsMemberBy value nodes id indices a → ⊥

-- what a run computes keeps the near numbers, where the bindings fit the cells
abbrev pub RunsExtendNearNumbers : Type 0
RunsExtendNearNumbers = (env : Env) (values : List ℤ) → FitsCells env (length values) → Extends (near_worth env values) (run_value env values)
