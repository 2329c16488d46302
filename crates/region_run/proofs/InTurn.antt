-- Picks lead to the region to which iterations in turn lead.
use Rattle.std.proofs.Common.{ℕ, ℤ, ◌<◌, ◌≡◌, ◌∙◌, IsTrue, List, Option, None, Some, refl, sym, ap, subst}
use Rattle.hyb_base.specs.declared.ops.RedOp.{RedOp}
use Rattle.interleaving.specs.Loops.{LoopHasLeft}
use Rattle.interleaving.specs.Machine.{Machine, Store}
use Rattle.interleaving.specs.Modes.{Mode}
use Rattle.interleaving.specs.OwnCells.{Owner, with_own}
use Rattle.interleaving.specs.Region.{Region, advanced_all}
use Rattle.interleaving.proofs.LoopRegions.{loop_interleaves}
use Rattle.region_run.specs.declared.running.Advanced.{Advanced}
use Rattle.region_run.specs.Advanced.{came_through}
use Rattle.region_run.specs.InTurn.{CameInTurn, AsInTurn}

module _ {F M : Type 0} (variable : ℕ) (entry end : Store ℤ) (left : ℕ) where
  came : (answer : Option (Advanced F)) (is r : Region (Owner M ℤ) ℤ) → came_through answer is ≡ Some r → LoopHasLeft r variable entry end left → CameInTurn answer is variable entry end left
  came None is r e h = let same : r ≡ is = cc in record { all_ran = refl; has_left = subst (λ x. LoopHasLeft x variable entry end left) same h }
  came (Some a) is r e h = absurd (cc)

pub as_in_turn : {F M : Type 0} (m : Machine M RedOp ℤ) (modes : ℕ → Mode RedOp) (variable window : ℕ) (picks : List ℕ) (was : Region (Owner M ℤ) ℤ) (answer : Option (Advanced F)) (is : Region (Owner M ℤ) ℤ) → 0 < window →
    advanced_all (with_own m) modes window picks (Some was) ≡ came_through answer is → AsInTurn m modes variable picks was answer is
as_in_turn {F} {M} m modes variable window picks was answer is wide e = λ sound machine starts entry end traces begins ready runs fits left counted.
    let law = loop_interleaves M RedOp ℤ (λ p. IsTrue (sound p)) m machine modes variable window wide starts entry end traces ready runs fits picks left counted in
    came variable entry end left answer is law.0 (sym e ∙ ap (λ (x : Region (Owner M ℤ) ℤ). advanced_all (with_own m) modes window picks (Some x)) begins ∙ law.1) law.2
