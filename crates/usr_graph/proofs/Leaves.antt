-- Nodes that have no child.
use Rattle.std.proofs.Common.{◌≡◌, ◌↔◌, ℕ, ℤ, Bool, true, false, ◌&&◌, List, [], Option, Some, None, Contains, refl}
use Rattle.sym_lmad.specs.declared.sym.Sym.{Sym}
use Rattle.usr_graph.specs.declared.node.Node.{Node}
use Rattle.usr_graph.specs.declared.node.Node.TheVariants.{Leaf}
use Rattle.usr_graph.specs.Built.{IsAdded}
use Rattle.usr_graph.specs.Leaf.{AtAddress, IsUnit}
use Rattle.usr_graph.specs.Members.{OfPlace, place_by}
use Rattle.usr_graph.specs.Names.{OnlyNames, node_named, symbol_named}

at_address : (v : Option ℤ) (a : ℤ) (o : Type 0) → OfPlace (place_by v (Some [])) a o ↔ AtAddress v a o
at_address None a o = (λ h. h, λ h. h)
at_address (Some v) a o = (λ h. h, λ h. h)

pub unit_is : (old new : List Node) (address : Sym) (id : ℕ) → IsAdded old (Leaf (record { base = address; dims = [] })) new id → IsUnit address new id
unit_is old new address id h = record {
  there = h.there;
  members = λ worth choice indices a. (
    λ m. (at_address (worth address indices) a (Contains (choice id indices) a)).0 ((h.members worth choice indices a).0 m),
    λ m. (h.members worth choice indices a).1 ((at_address (worth address indices) a (Contains (choice id indices) a)).1 m),
  );
}

and_true : (b : Bool) → b ≡ true → (b && true) ≡ true
and_true true h = refl
and_true false h = h

pub unit_names : (old new : List Node) (address : Sym) → OnlyNames (node_named (Leaf (record { base = address; dims = [] }))) old new → OnlyNames (symbol_named address) old new
unit_names old new address h = record { pass = λ symbols indices first g k. h.pass symbols indices first g (and_true (symbols address) k) }
