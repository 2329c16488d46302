-- Nodes put together to the sets of a loop.
use Rattle.std.proofs.Common.{◌↔◌, ℕ, ℤ, List, slice_set, Contains, arith}
use Rattle.sym_lmad.specs.declared.sym.Sym.{Sym}
use Rattle.usr_graph.specs.declared.node.Node.{Node}
use Rattle.usr_graph.specs.declared.node.Node.TheVariants as n
use Rattle.usr_graph.specs.declared.triple.Triple.{Triple}
use Rattle.usr_graph.specs.Built.{Keeps, IsAdded}
use Rattle.usr_graph.specs.Members.{Worth, Choice, Sets, IsMember}
use Rattle.usr_graph.specs.Triples.{IsIn}
use Rattle.usr_graph.proofs.Graphs.{keeps_then}
use Rattle.usr_graph.proofs.Sets.{both_ways, either_same, without_same, over_same, before_same, over_some, before_at}
use Rattle.sum_algebra.specs.Rules.{IsOver, IsOverLoop, AllRead, AllWritten, LoopWrittenFirst, LoopReadOnly}

pub all_read_is : (old one two : List Node) (index : ℕ) (count : Sym) (body : Triple) (either id : ℕ) → IsAdded old (n.Union body.ro body.rw) one either → IsAdded one (n.Recur index count either) two id → IsOver old index count (AllRead body index) two id
all_read_is old one two index count body either id u o = record {
  there = o.there;
  members = λ worth choice indices m a e place. both_ways _ _ _ (o.members worth choice indices a) (both_ways _ _ _ (over_some (worth count indices) m _ (Contains (choice id indices) a) e) (over_same m _ _ (λ j. u.members worth choice (slice_set indices index j) a)));
}

pub all_written_is : (old one two : List Node) (index : ℕ) (count : Sym) (body : Triple) (either id : ℕ) → IsAdded old (n.Union body.wf body.rw) one either → IsAdded one (n.Recur index count either) two id → IsOver old index count (AllWritten body index) two id
all_written_is old one two index count body either id u o = record {
  there = o.there;
  members = λ worth choice indices m a e place. both_ways _ _ _ (o.members worth choice indices a) (both_ways _ _ _ (over_some (worth count indices) m _ (Contains (choice id indices) a) e) (over_same m _ _ (λ j. u.members worth choice (slice_set indices index j) a)));
}

pub written_first_is : (old one two three four : List Node) (index : ℕ) (count : Sym) (body : Triple) (read before first id : ℕ) → IsIn old body → Keeps old one → IsAdded old (n.Union body.ro body.rw) one read →
    Keeps one two → IsAdded one (n.Below index index read) two before → IsAdded two (n.Minus body.wf before) three first → IsAdded three (n.Recur index count first) four id → IsOver old index count (LoopWrittenFirst body index) four id
written_first_is old one two three four index count body read before first id i k1 u k2 b d o = record {
  there = o.there;
  members = λ worth choice indices m a e place.
      let k02 = keeps_then old one two k1 k2 in
      both_ways _ _ _ (o.members worth choice indices a) (both_ways _ _ _ (over_some (worth count indices) m _ (Contains (choice id indices) a) e) (over_same m _ _
      (λ j. both_ways _ _ _ (d.members worth choice (slice_set indices index j) a) (without_same _ _ _ _ (k02.same worth choice body.wf (slice_set indices index j) a i.wf)
      (both_ways _ _ _ (before_at one two index read before b worth choice indices j a place) (before_same j _ _ (λ k. u.members worth choice (slice_set indices index k) a)))))));
}

-- ---- over other graphs

-- two families have the same sets for a triple
record SameOf (body : Triple) (p q : Sets) : Type 0 where
  pub ro : (indices : List ℤ) (a : ℤ) → p body.ro indices a ↔ q body.ro indices a
  pub wf : (indices : List ℤ) (a : ℤ) → p body.wf indices a ↔ q body.wf indices a
  pub rw : (indices : List ℤ) (a : ℤ) → p body.rw indices a ↔ q body.rw indices a

same_later : (old new : List Node) (body : Triple) → IsIn old body → Keeps old new → (worth : Worth) (choice : Choice) → SameOf body (IsMember worth choice new) (IsMember worth choice old)
same_later old new body i k worth choice = record { ro = λ indices a. k.same worth choice body.ro indices a i.ro; wf = λ indices a. k.same worth choice body.wf indices a i.wf; rw = λ indices a. k.same worth choice body.rw indices a i.rw }

all_written_same : (body : Triple) (index : ℕ) (p q : Sets) → SameOf body p q → (indices : List ℤ) (m a : ℤ) → AllWritten body index p indices m a ↔ AllWritten body index q indices m a
all_written_same body index p q s indices m a = over_same m _ _ (λ j. either_same _ _ _ _ (s.wf (slice_set indices index j) a) (s.rw (slice_set indices index j) a))

first_same : (body : Triple) (index : ℕ) (p q : Sets) → SameOf body p q → (indices : List ℤ) (m a : ℤ) → LoopWrittenFirst body index p indices m a ↔ LoopWrittenFirst body index q indices m a
first_same body index p q s indices m a = over_same m _ _ (λ j. without_same _ _ _ _ (s.wf (slice_set indices index j) a) (before_same j _ _ (λ k. either_same _ _ _ _ (s.ro (slice_set indices index k) a) (s.rw (slice_set indices index k) a))))

over_from : (old one two : List Node) (index : ℕ) (count : Sym) (body : Triple) (formula : Sets → List ℤ → ℤ → ℤ → Type 0) (id : ℕ) → IsIn old body → Keeps old one →
    ((p q : Sets) → SameOf body p q → (indices : List ℤ) (m a : ℤ) → formula p indices m a ↔ formula q indices m a) → IsOver one index count formula two id → IsOver old index count formula two id
over_from old one two index count body formula id i k same h = record {
  there = h.there;
  members = λ worth choice indices m a e place. both_ways _ _ _ (h.members worth choice indices m a e place) (same (IsMember worth choice one) (IsMember worth choice old) (same_later old one body i k worth choice) indices m a);
}

over_stays : (old one two : List Node) (index : ℕ) (count : Sym) (formula : Sets → List ℤ → ℤ → ℤ → Type 0) (id : ℕ) → IsOver old index count formula one id → Keeps one two → IsOver old index count formula two id
over_stays old one two index count formula id h k = record {
  there = omega (arith, h.there, k.longer);
  members = λ worth choice indices m a e place. both_ways _ _ _ (k.same worth choice id indices a h.there) (h.members worth choice indices m a e place);
}

over_rest : (old one two : List Node) (index : ℕ) (count : Sym) (f g : Sets → List ℤ → ℤ → ℤ → Type 0) (x y id : ℕ) → IsOver old index count f one x → IsOver old index count g one y → IsAdded one (n.Minus x y) two id → IsOver old index count (λ sets indices m a. f sets indices m a × (g sets indices m a → ⊥)) two id
over_rest old one two index count f g x y id p q d = record {
  there = d.there;
  members = λ worth choice indices m a e place. both_ways _ _ _ (d.members worth choice indices a) (without_same _ _ _ _ (p.members worth choice indices m a e place) (q.members worth choice indices m a e place));
}

pub over_loop_is : (old one two three four five : List Node) (index : ℕ) (count : Sym) (body : Triple) (read written wf ro rw_ : ℕ) → IsIn old body → Keeps old one → IsOver old index count (AllRead body index) one read →
    Keeps one two → IsOver one index count (AllWritten body index) two written → Keeps two three → IsOver two index count (LoopWrittenFirst body index) three wf →
    Keeps three four → IsAdded three (n.Minus read written) four ro → Keeps four five → IsAdded four (n.Minus written wf) five rw_ → IsOverLoop old index count body five (record { ro = ro; wf = wf; rw = rw_ })
over_loop_is old one two three four five index count body read written wf ro rw_ i k1 h1 k2 h2 k3 h3 k4 h4 k5 h5 =
    let k02 = keeps_then old one two k1 k2 in
    let all_read = over_stays old one three index count (AllRead body index) read h1 (keeps_then one two three k2 k3) in
    let all_written = over_stays old two three index count (AllWritten body index) written (over_from old one two index count body (AllWritten body index) written i k1 (all_written_same body index) h2) k3 in
    let first = over_from old two three index count body (LoopWrittenFirst body index) wf i k02 (first_same body index) h3 in record {
      ro = over_stays old four five index count (LoopReadOnly body index) ro (over_rest old three four index count (AllRead body index) (AllWritten body index) read written ro all_read all_written h4) k5;
      wf = over_stays old three five index count (LoopWrittenFirst body index) wf first (keeps_then three four five k4 k5);
      rw = over_rest old four five index count (AllWritten body index) (LoopWrittenFirst body index) written wf rw_
          (over_stays old three four index count (AllWritten body index) written all_written k4) (over_stays old three four index count (LoopWrittenFirst body index) wf first k4) h5;
    }
