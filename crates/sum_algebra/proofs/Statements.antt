-- Nodes put together to the sets of two statements.
use Rattle.std.proofs.Common.{ℕ, List}
use Rattle.usr_graph.specs.declared.node.Node.{Node}
use Rattle.usr_graph.specs.declared.node.Node.TheVariants as n
use Rattle.usr_graph.specs.declared.triple.Triple.{Triple}
use Rattle.usr_graph.specs.Built.{Keeps, IsAdded}
use Rattle.usr_graph.specs.Triples.{IsIn}
use Rattle.usr_graph.proofs.Graphs.{keeps_then}
use Rattle.usr_graph.proofs.Sets.{both_ways, either_same, without_same, joint_same}
use Rattle.sum_algebra.specs.Rules.{IsReadOnly, IsWrittenFirst, IsReadThenWritten}

pub read_only_is : (old one two three four five : List Node) (first later : Triple) (written_later of_first written_before of_later id : ℕ) → IsIn old first → IsIn old later →
    Keeps old one → IsAdded old (n.Union later.wf later.rw) one written_later → Keeps one two → IsAdded one (n.Minus first.ro written_later) two of_first →
    Keeps two three → IsAdded two (n.Union first.wf first.rw) three written_before → Keeps three four → IsAdded three (n.Minus later.ro written_before) four of_later →
    IsAdded four (n.Union of_first of_later) five id → IsReadOnly old first later five id
read_only_is old one two three four five first later written_later of_first written_before of_later id i j k1 a1 k2 a2 k3 a3 k4 a4 a5 = record {
  there = a5.there;
  members = λ worth choice indices a.
      let k02 = keeps_then old one two k1 k2 in
      let k03 = keeps_then old two three k02 k3 in
      let k24 = keeps_then two three four k3 k4 in
      let left = both_ways _ _ _ (k24.same worth choice of_first indices a a2.there) (both_ways _ _ _ (a2.members worth choice indices a) (without_same _ _ _ _ (k1.same worth choice first.ro indices a i.ro) (a1.members worth choice indices a))) in
      let written = both_ways _ _ _ (a3.members worth choice indices a) (either_same _ _ _ _ (k02.same worth choice first.wf indices a i.wf) (k02.same worth choice first.rw indices a i.rw)) in
      let right = both_ways _ _ _ (a4.members worth choice indices a) (without_same _ _ _ _ (k03.same worth choice later.ro indices a j.ro) written) in
      both_ways _ _ _ (a5.members worth choice indices a) (either_same _ _ _ _ left right);
}

pub written_first_is : (old one two three : List Node) (first later : Triple) (read of_later id : ℕ) → IsIn old first → IsIn old later →
    Keeps old one → IsAdded old (n.Union first.ro first.rw) one read → Keeps one two → IsAdded one (n.Minus later.wf read) two of_later →
    IsAdded two (n.Union first.wf of_later) three id → IsWrittenFirst old first later three id
written_first_is old one two three first later read of_later id i j k1 a1 k2 a2 a3 = record {
  there = a3.there;
  members = λ worth choice indices a.
      let k02 = keeps_then old one two k1 k2 in
      let right = both_ways _ _ _ (a2.members worth choice indices a) (without_same _ _ _ _ (k1.same worth choice later.wf indices a j.wf) (a1.members worth choice indices a)) in
      both_ways _ _ _ (a3.members worth choice indices a) (either_same _ _ _ _ (k02.same worth choice first.wf indices a i.wf) right);
}

pub read_then_written_is : (old one two three four : List Node) (first later : Triple) (of_later of_both either id : ℕ) → IsIn old first → IsIn old later →
    Keeps old one → IsAdded old (n.Minus later.rw first.wf) one of_later → Keeps one two → IsAdded one (n.Inter first.ro later.wf) two of_both →
    Keeps two three → IsAdded two (n.Union of_later of_both) three either → IsAdded three (n.Union first.rw either) four id → IsReadThenWritten old first later four id
read_then_written_is old one two three four first later of_later of_both either id i j k1 a1 k2 a2 k3 a3 a4 = record {
  there = a4.there;
  members = λ worth choice indices a.
      let k02 = keeps_then old one two k1 k2 in
      let k03 = keeps_then old two three k02 k3 in
      let left = both_ways _ _ _ (k2.same worth choice of_later indices a a1.there) (a1.members worth choice indices a) in
      let right = both_ways _ _ _ (a2.members worth choice indices a) (joint_same _ _ _ _ (k1.same worth choice first.ro indices a i.ro) (k1.same worth choice later.wf indices a j.wf)) in
      let both = both_ways _ _ _ (a3.members worth choice indices a) (either_same _ _ _ _ left right) in
      both_ways _ _ _ (a4.members worth choice indices a) (either_same _ _ _ _ (k03.same worth choice first.rw indices a i.rw) both);
}
