-- Nodes put together to the addresses that two iterations share.
use Rattle.std.proofs.Common.{◌↔◌, ◌⊎◌, ℕ, ◌<◌, ℤ, List, length, slice_set, Contains, arith}
use Rattle.std.proofs.lemmas.Int.{ints}
use Rattle.sym_lmad.specs.declared.sym.Sym.{Sym}
use Rattle.uses.specs.Over.{Over, Before, Pair}
use Rattle.uses.proofs.Pairs.{pairs_tell}
use Rattle.usr_graph.specs.declared.node.Node.{Node}
use Rattle.usr_graph.specs.declared.node.Node.TheVariants as n
use Rattle.usr_graph.specs.declared.triple.Triple.{Triple}
use Rattle.usr_graph.specs.Built.{Keeps, IsAdded}
use Rattle.usr_graph.specs.Members.{IsMember}
use Rattle.usr_graph.specs.Triples.{IsIn}
use Rattle.usr_graph.proofs.Graphs.{keeps_then}
use Rattle.usr_graph.proofs.Sets.{both_ways, either_same, joint_same, over_same, before_same, over_some, before_at}
use Rattle.dep_eqs.specs.declared.equations.Eqs.{Eqs}
use Rattle.dep_eqs.specs.Equations.{IsPairs, AreEquations, EquationsTell, EqsAreIn}

pair_over : (m : ℤ) (p q : ℤ → Type 0) → Over m (λ j. q j × Before j p) ↔ Pair m (λ k j. p k × q j)
pair_over m p q = (
  λ h. (let b = h.holds.1 in record { earlier = b.index; later = h.index; from_one = b.from_one; in_order = b.in_order; in_count = h.in_count; holds = (b.holds, h.holds.0) }),
  λ h. record {
    index = h.later;
    from_one = (let x = h.from_one in let y = h.in_order in omega (arith, ints, x, y));
    in_count = h.in_count;
    holds = (h.holds.1, record { index = h.earlier; from_one = h.from_one; in_order = h.in_order; holds = h.holds.0 });
  },
)

pub pairs_are : (old one two three four five : List Node) (index : ℕ) (count : Sym) (earlier later : ℕ × ℕ) (at_later at_earlier before both id : ℕ) → earlier.0 < length old → earlier.1 < length old →
    Keeps old one → IsAdded old (n.Union later.0 later.1) one at_later → Keeps one two → IsAdded one (n.Union earlier.0 earlier.1) two at_earlier → Keeps two three → IsAdded two (n.Below index index at_earlier) three before →
    IsAdded three (n.Inter at_later before) four both → IsAdded four (n.Recur index count both) five id → IsPairs old index count earlier later five id
pairs_are old one two three four five index count earlier later at_later at_earlier before both id e0 e1 k1 u1 k2 u2 k3 b i o = record {
  there = o.there;
  members = λ worth choice indices m a e place.
      let sets = IsMember worth choice old in
      let k13 = keeps_then one two three k2 k3 in
      both_ways _ _ _ (o.members worth choice indices a) (both_ways _ _ _ (over_some (worth count indices) m _ (Contains (choice id indices) a) e) (both_ways _ _ _ (over_same m _ _
      (λ j. both_ways _ _ _ (i.members worth choice (slice_set indices index j) a) (joint_same _ _ _ _
      (both_ways _ _ _ (k13.same worth choice at_later (slice_set indices index j) a u1.there) (u1.members worth choice (slice_set indices index j) a))
      (both_ways _ _ _ (before_at two three index at_earlier before b worth choice indices j a place) (before_same j _ _
      (λ k. both_ways _ _ _ (u2.members worth choice (slice_set indices index k) a) (either_same _ _ _ _ (k1.same worth choice earlier.0 (slice_set indices index k) a e0) (k1.same worth choice earlier.1 (slice_set indices index k) a e1))))))))
      (pair_over m (λ k. sets earlier.0 (slice_set indices index k) a ⊎ sets earlier.1 (slice_set indices index k) a) (λ j. sets later.0 (slice_set indices index j) a ⊎ sets later.1 (slice_set indices index j) a))));
}

pair_same : (m : ℤ) (p q : ℤ → ℤ → Type 0) → ((k j : ℤ) → p k j ↔ q k j) → Pair m p ↔ Pair m q
pair_same m p q f = (
  λ h. record { earlier = h.earlier; later = h.later; from_one = h.from_one; in_order = h.in_order; in_count = h.in_count; holds = (f h.earlier h.later).0 h.holds },
  λ h. record { earlier = h.earlier; later = h.later; from_one = h.from_one; in_order = h.in_order; in_count = h.in_count; holds = (f h.earlier h.later).1 h.holds },
)

-- over older nodes, and with nodes after them
pairs_from : (old one two : List Node) (index : ℕ) (count : Sym) (earlier later : ℕ × ℕ) (id : ℕ) → earlier.0 < length old → earlier.1 < length old → later.0 < length old → later.1 < length old → Keeps old one →
    IsPairs one index count earlier later two id → IsPairs old index count earlier later two id
pairs_from old one two index count earlier later id e0 e1 l0 l1 k h = record {
  there = h.there;
  members = λ worth choice indices m a e place. both_ways _ _ _ (h.members worth choice indices m a e place) (pair_same m _ _
      (λ x y. joint_same _ _ _ _ (either_same _ _ _ _ (k.same worth choice earlier.0 (slice_set indices index x) a e0) (k.same worth choice earlier.1 (slice_set indices index x) a e1))
      (either_same _ _ _ _ (k.same worth choice later.0 (slice_set indices index y) a l0) (k.same worth choice later.1 (slice_set indices index y) a l1))));
}

pairs_stay : (old one two : List Node) (index : ℕ) (count : Sym) (earlier later : ℕ × ℕ) (id : ℕ) → IsPairs old index count earlier later one id → Keeps one two → IsPairs old index count earlier later two id
pairs_stay old one two index count earlier later id h k = record {
  there = omega (arith, h.there, k.longer);
  members = λ worth choice indices m a e place. both_ways _ _ _ (k.same worth choice id indices a h.there) (h.members worth choice indices m a e place);
}

pub equations_are : (old one two three : List Node) (index : ℕ) (count : Sym) (t : Triple) (flow anti output : ℕ) → IsIn old t → Keeps old one → IsPairs old index count (t.wf, t.rw) (t.ro, t.rw) one flow →
    Keeps one two → IsPairs one index count (t.ro, t.rw) (t.wf, t.rw) two anti → Keeps two three → IsPairs two index count (t.wf, t.rw) (t.wf, t.rw) three output → AreEquations old index count t three (record { flow = flow; anti = anti; output = output })
equations_are old one two three index count t flow anti output i k1 f k2 a k3 o =
    let k02 = keeps_then old one two k1 k2 in record {
      flow = pairs_stay old one three index count (t.wf, t.rw) (t.ro, t.rw) flow f (keeps_then one two three k2 k3);
      anti = pairs_stay old two three index count (t.ro, t.rw) (t.wf, t.rw) anti (pairs_from old one two index count (t.ro, t.rw) (t.wf, t.rw) anti i.ro i.rw i.wf i.rw k1 a) k3;
      output = pairs_from old two three index count (t.wf, t.rw) (t.wf, t.rw) output i.wf i.rw i.wf i.rw k02 o;
    }

pub equations_in : (old : List Node) (index : ℕ) (count : Sym) (t : Triple) (new : List Node) (eqs : Eqs) → AreEquations old index count t new eqs → EqsAreIn new eqs
equations_in old index count t new eqs h = record { flow = h.flow.there; anti = h.anti.there; output = h.output.there }

pub equations_tell : (old : List Node) (index : ℕ) (count : Sym) (t : Triple) (new : List Node) (eqs : Eqs) → AreEquations old index count t new eqs → EquationsTell old index count t new eqs
equations_tell old index count t new eqs h worth choice indices m a uses e place told =
    let sets = IsMember worth choice old in
    let p = pairs_tell m (λ j. sets t.ro (slice_set indices index j) a) (λ j. sets t.wf (slice_set indices index j) a) (λ j. sets t.rw (slice_set indices index j) a) uses told in (
      both_ways _ _ _ (h.flow.members worth choice indices m a e place) p.0,
      both_ways _ _ _ (h.anti.members worth choice indices m a e place) p.1,
      both_ways _ _ _ (h.output.members worth choice indices m a e place) p.2,
    )
