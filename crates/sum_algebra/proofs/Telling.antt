-- The sets that the rules make tell how an address is used.
use Rattle.std.proofs.Common.{◌≡◌, ◌↔◌, ℕ, ℤ, List, Option, Some, slice_set, Contains, subst}
use Rattle.hyb_base.specs.declared.ops.Rel.{Rel}
use Rattle.sym_lmad.specs.declared.sym.Sym.{Sym}
use Rattle.uses.specs.Use.{Use, Tells}
use Rattle.uses.proofs.Loops.{tells_loop}
use Rattle.uses.proofs.Rules.{tells_sequence, tells_gate}
use Rattle.usr_graph.specs.declared.node.Cond.{Cond}
use Rattle.usr_graph.specs.declared.node.Node.{Node}
use Rattle.usr_graph.specs.declared.triple.Triple.{Triple}
use Rattle.usr_graph.specs.Members.{IsMember, Holds, Where}
use Rattle.usr_graph.specs.Triples.{IsIn}
use Rattle.sum_algebra.specs.Rules.{IsThen, IsGated, IsOverLoop}
use Rattle.sum_algebra.specs.Tell.{ThenTells, GatedTells, LoopTells}

pub tells_same : (ro wf rw ro2 wf2 rw2 : Type 0) (u : Use) → ro2 ↔ ro → wf2 ↔ wf → rw2 ↔ rw → Tells ro wf rw u → Tells ro2 wf2 rw2 u
tells_same ro wf rw ro2 wf2 rw2 u f g h t = record {
  ro_is = λ k. t.ro_is (f.0 k);
  is_ro = λ k. f.1 (t.is_ro k);
  wf_is = λ k. t.wf_is (g.0 k);
  is_wf = λ k. g.1 (t.is_wf k);
  rw_is = λ k. t.rw_is (h.0 k);
  is_rw = λ k. h.1 (t.is_rw k);
}

pub then_in : (old : List Node) (first later : Triple) (new : List Node) (t : Triple) → IsThen old first later new t → IsIn new t
then_in old first later new t h = record { ro = h.ro.there; wf = h.wf.there; rw = h.rw.there }

pub then_tells : (old : List Node) (first later : Triple) (new : List Node) (t : Triple) → IsThen old first later new t → ThenTells old first later new t
then_tells old first later new t h worth choice indices a u v k m =
    let sets = IsMember worth choice old in
    tells_same _ _ _ _ _ _ _ (h.ro.members worth choice indices a) (h.wf.members worth choice indices a) (h.rw.members worth choice indices a)
    (tells_sequence (sets first.ro indices a) (sets first.wf indices a) (sets first.rw indices a) (sets later.ro indices a) (sets later.wf indices a) (sets later.rw indices a) u v k m)

pub gated_in : (old : List Node) (cond : Cond) (body : Triple) (new : List Node) (t : Triple) → IsGated old cond body new t → IsIn new t
gated_in old cond body new t h = record { ro = h.ro.there; wf = h.wf.there; rw = h.rw.there }

where_some : (l r : Option ℤ) (rel : Rel) (x y : ℤ) (p o q : Type 0) → l ≡ Some x → r ≡ Some y → q ↔ Where l rel r p o → q ↔ (Holds x rel y × p)
where_some l r rel x y p o q e f h = subst (λ s. q ↔ Where (Some x) rel s p o) f (subst (λ s. q ↔ Where s rel r p o) e h)

pub gated_tells : (old : List Node) (cond : Cond) (body : Triple) (new : List Node) (t : Triple) → IsGated old cond body new t → GatedTells old cond body new t
gated_tells old cond body new t h worth choice indices x y a u l r k =
    let sets = IsMember worth choice old in
    let ro = where_some (worth cond.left indices) (worth cond.right indices) cond.rel x y (sets body.ro indices a) (Contains (choice t.ro indices) a) _ l r (h.ro.members worth choice indices a) in
    let wf = where_some (worth cond.left indices) (worth cond.right indices) cond.rel x y (sets body.wf indices a) (Contains (choice t.wf indices) a) _ l r (h.wf.members worth choice indices a) in
    let rw_ = where_some (worth cond.left indices) (worth cond.right indices) cond.rel x y (sets body.rw indices a) (Contains (choice t.rw indices) a) _ l r (h.rw.members worth choice indices a) in
    let told = tells_gate (Holds x cond.rel y) (sets body.ro indices a) (sets body.wf indices a) (sets body.rw indices a) u k in (
      λ c. tells_same _ _ _ _ _ _ _ ro wf rw_ (told.0 c),
      λ c. tells_same _ _ _ _ _ _ _ ro wf rw_ (told.1 c),
    )

pub loop_in : (old : List Node) (index : ℕ) (count : Sym) (body : Triple) (new : List Node) (t : Triple) → IsOverLoop old index count body new t → IsIn new t
loop_in old index count body new t h = record { ro = h.ro.there; wf = h.wf.there; rw = h.rw.there }

pub loop_tells : (old : List Node) (index : ℕ) (count : Sym) (body : Triple) (new : List Node) (t : Triple) → IsOverLoop old index count body new t → LoopTells old index count body new t
loop_tells old index count body new t h worth choice indices n a uses e place told =
    let sets = IsMember worth choice old in
    tells_same _ _ _ _ _ _ _ (h.ro.members worth choice indices n a e place) (h.wf.members worth choice indices n a e place) (h.rw.members worth choice indices n a e place)
    (tells_loop n (λ j. sets body.ro (slice_set indices index j) a) (λ j. sets body.wf (slice_set indices index j) a) (λ j. sets body.rw (slice_set indices index j) a) uses told)
