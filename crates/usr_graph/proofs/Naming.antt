-- What is named, with one node more.
use Rattle.std.proofs.Common.{◌≡◌, ℕ, zero, suc, Bool, true, false, ◌&&◌, List, [], ◌∷◌, ◌++◌, drop, nat_lt, refl, sym, subst, ◌∙◌}
use Rattle.std.specs.List.{list_all}
use Rattle.std.proofs.Math.Seq.{drop-nil}
use Rattle.std.proofs.lemmas.List.Folds.{list_all-append}
use Rattle.usr_graph.specs.declared.node.Node.{Node}
use Rattle.usr_graph.specs.Names.{Names, nothing_named, node_named, OnlyNames, symbol_bounded, BoundsStay}

and_true : (a b : Bool) → a ≡ true → b ≡ true → (a && b) ≡ true
and_true true b h k = k
and_true false b h k = absurd (cc)

one_more : (test : Node → Bool) (first : ℕ) (nodes : List Node) (node : Node) → list_all test (drop first nodes) ≡ true → test node ≡ true → list_all test (drop first (nodes ++ node ∷ [])) ≡ true
one_more test zero nodes node h k = list_all-append test nodes (node ∷ []) ∙ and_true (list_all test nodes) (test node && true) h (and_true (test node) true k refl)
one_more test (suc first) [] node h k = subst (λ l. list_all test l ≡ true) (sym (drop-nil first)) refl
one_more test (suc first) (x ∷ nodes) node h k = one_more test first nodes node h k

pub push_names : (nodes : List Node) (node : Node) → OnlyNames (node_named node) nodes (nodes ++ node ∷ [])
push_names nodes node = record { pass = λ symbols indices first h k. one_more (λ x. node_named x symbols indices) first nodes node h k }

pub names_later : (given : Names) (one two three : List Node) → OnlyNames given one two → OnlyNames given two three → OnlyNames given one three
names_later given one two three a b = record { pass = λ symbols indices first h k. b.pass symbols indices first (a.pass symbols indices first h k) k }

pub names_any : (given : Names) (one two : List Node) → OnlyNames nothing_named one two → OnlyNames given one two
names_any given one two a = record { pass = λ symbols indices first h k. a.pass symbols indices first h refl }

pub bounds_stay : BoundsStay
bounds_stay given old new h entities indices = h.pass (symbol_bounded entities indices) (λ index. nat_lt index indices) 0
