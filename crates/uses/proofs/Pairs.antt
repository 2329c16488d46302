-- Pairs of iterations by their sets are pairs by their uses.
use Rattle.std.proofs.Common.{◌≡◌, ◌⊎◌, ◌↔◌, ℤ, pos, ◌≤ℤ◌, true, arith}
use Rattle.std.proofs.lemmas.Int.{ints}
use Rattle.uses.specs.Over.{Pair}
use Rattle.uses.specs.Use.{Use, is_exposed, is_written}
use Rattle.uses.specs.Laws.{EachTells, PairsTell}
use Rattle.uses.proofs.Loops.{exposed_by, written_by}

-- pairs of one kind are pairs of another one
pub each_pair : (count : ℤ) (p q : ℤ → ℤ → Type 0) → ((k j : ℤ) → pos 1 ≤ℤ k → k ≤ℤ count → pos 1 ≤ℤ j → j ≤ℤ count → p k j → q k j) → Pair count p → Pair count q
each_pair count p q f h =
    let a = h.from_one in
    let b = h.in_order in
    let c = h.in_count in
    record { earlier = h.earlier; later = h.later; from_one = a; in_order = b; in_count = c; holds = f h.earlier h.later a (omega (arith, ints, b, c)) (omega (arith, ints, a, b)) c h.holds }

module _ (count : ℤ) (ro wf rw : ℤ → Type 0) (uses : ℤ → Use) (told : EachTells count ro wf rw uses) where
  read_is : (j : ℤ) → pos 1 ≤ℤ j → j ≤ℤ count → (ro j ⊎ rw j) ↔ (is_exposed (uses j) ≡ true)
  read_is j from upto = exposed_by (uses j) (ro j) (wf j) (rw j) (told j from upto)

  write_is : (j : ℤ) → pos 1 ≤ℤ j → j ≤ℤ count → (wf j ⊎ rw j) ↔ (is_written (uses j) ≡ true)
  write_is j from upto = written_by (uses j) (ro j) (wf j) (rw j) (told j from upto)

pub pairs_tell : PairsTell
pairs_tell count ro wf rw uses told =
    let r = read_is count ro wf rw uses told in
    let w = write_is count ro wf rw uses told in (
      (each_pair count _ _ (λ k j a b c d h. ((w k a b).0 h.0, (r j c d).0 h.1)), each_pair count _ _ (λ k j a b c d h. ((w k a b).1 h.0, (r j c d).1 h.1))),
      (each_pair count _ _ (λ k j a b c d h. ((r k a b).0 h.0, (w j c d).0 h.1)), each_pair count _ _ (λ k j a b c d h. ((r k a b).1 h.0, (w j c d).1 h.1))),
      (each_pair count _ _ (λ k j a b c d h. ((w k a b).0 h.0, (w j c d).0 h.1)), each_pair count _ _ (λ k j a b c d h. ((w k a b).1 h.0, (w j c d).1 h.1))),
    )
