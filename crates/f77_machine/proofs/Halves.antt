-- Loops that rise, looked for by halves.
use Rattle.std.proofs.Common.{◌≡◌, ℕ, zero, suc, ◌<◌, ◌≤◌, ◌==◌, Bool, true, false, cond, List, [], ◌∷◌, None, Some, refl, ap, subst, ◌∙◌, arith, slice_get}
use Rattle.std.proofs.lemmas.Option.{get_or_from_slice_get, slice_get_within}
use Rattle.f77_ast.specs.declared.program.Loop.{Loop}
use Rattle.f77_structure.specs.Loops.{loop_with_range_from, StartInOrder}
use Rattle.f77_structure.proofs.Rising.{none_earlier}
use Rattle.f77_machine.specs.Loops.{begins_at, IsFirstFrom}

-- the loop that begins with a statement is looked for at the first place at which none begins before
pub found_at : (low number place : ℕ) (loops : List Loop) → StartInOrder low loops → ((k : ℕ) (loop : Loop) → slice_get loops k ≡ Some loop → k < place → loop.from < number) → ((loop : Loop) → slice_get loops place ≡ Some loop → number ≤ loop.from) → loop_with_range_from loops number ≡ begins_at loops place number
found_at low number place [] r before from = refl
found_at low number zero (loop ∷ loops) r before from = by (loop.from == number) refl
  where
    greater : (a b : ℕ) → b ≤ a → (a == b) ≡ false → b < a
    greater a b l e = grind (arith, l, e)

    by : (b : Bool) → (loop.from == number) ≡ b → cond b (Some loop) (loop_with_range_from loops number) ≡ cond b (Some loop) None
    by true e = refl
    by false e = none_earlier loop.from number loops (greater loop.from number (from loop refl) e) r.1
found_at low number (suc place) (loop ∷ loops) r before from =
    ap (λ b. cond b (Some loop) (loop_with_range_from loops number)) (other loop.from number (before 0 loop refl (omega arith)))
    ∙ found_at loop.from number place loops r.1 (λ k l e h. before (suc k) l e (omega (arith, h))) from
  where
    other : (a b : ℕ) → a < b → (a == b) ≡ false
    other a b l = grind (arith, l)

-- so it is where the loops are parted
pub found_by_halves : (number place : ℕ) (loops : List Loop) → StartInOrder 2 loops → IsFirstFrom loops number place → loop_with_range_from loops number ≡ begins_at loops place number
found_by_halves number place loops r parted = found_at 2 number place loops r before from
  where
    before : (k : ℕ) (loop : Loop) → slice_get loops k ≡ Some loop → k < place → loop.from < number
    before k loop e h = subst (λ l. l.from < number) (get_or_from_slice_get loops k loop loop e) (parted.0 k loop (omega arith) h)

    from : (loop : Loop) → slice_get loops place ≡ Some loop → number ≤ loop.from
    from loop e = subst (λ l. number ≤ l.from) (get_or_from_slice_get loops place loop loop e) (parted.1 place loop (omega arith) (slice_get_within loops place loop e))
