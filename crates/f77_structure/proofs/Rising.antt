-- The loops of a program stand in the order of their ranges, so that one is found by its place.
use Rattle.std.proofs.Common.{◌≡◌, ℕ, zero, suc, ◌+◌, ◌<◌, ◌≤◌, ◌==◌, false, cond, List, [], ◌∷◌, ◌++◌, length, Option, None, Some, refl, ap, ◌∙◌, arith}
use Rattle.std.specs.Prelude.{slice_index_or}
use Rattle.std.specs.List.Sorted.{IsNonDecreasingBy}
use Rattle.std.specs.Option.{option_map_or}
use Rattle.f77_ast.specs.declared.program.Listed.{Listed}
use Rattle.f77_ast.specs.declared.program.Loop.{Loop}
use Rattle.f77_ast.specs.declared.program.Unit.{Unit as ProgramUnit}
use Rattle.f77_structure.specs.Loops.{loop_from, loops_in, loops_among, loops_of, loop_with_range_from, StartInOrder}
use Rattle.f77_structure.specs.Statements.{terminal_label}
use Rattle.f77_structure.specs.Units.{statements_before, statement_count, listing_of}

rise_lower : (low lower : ℕ) (loops : List Loop) → lower ≤ low → StartInOrder low loops → StartInOrder lower loops
rise_lower low lower [] h r = tt
rise_lower low lower (loop ∷ loops) h r = (omega (arith, h, r.0), r.1)

-- the loops of some statements rise, and then those behind them
rise_in : (unit ordinal number low : ℕ) (listing : List Listed) (behind : List Loop) → low ≤ number + 1 → StartInOrder (number + length listing + 1) behind → StartInOrder low (loops_in unit ordinal number listing ++ behind)
rise_in unit ordinal number low [] behind h r = rise_lower (number + 0 + 1) low behind (omega (arith, h)) r
rise_in unit ordinal number low (x ∷ xs) behind h r = by (terminal_label x.stmt) (rise_in unit ordinal (suc number) low xs behind (omega (arith, h)) same) (rise_in unit (suc ordinal) (suc number) (number + 1) xs behind (omega arith) same)
  where
    same : StartInOrder (suc number + length xs + 1) behind
    same = rise_lower (number + suc (length xs) + 1) (suc number + length xs + 1) behind (omega arith) r

    by : (t : Option ℕ) → StartInOrder low (loops_in unit ordinal (suc number) xs ++ behind) → StartInOrder (number + 1) (loops_in unit (suc ordinal) (suc number) xs ++ behind) → StartInOrder low (option_map_or (λ label. loop_from unit ordinal number x.card.line label xs ∷ loops_in unit (suc ordinal) (suc number) xs) t (loops_in unit ordinal (suc number) xs) ++ behind)
    by None plain rest = plain
    by (Some label) plain rest = (h, rest)

rise_among : (unit ordinal number : ℕ) (units : List ProgramUnit) → StartInOrder (number + 1) (loops_among unit ordinal number units)
rise_among unit ordinal number [] = tt
rise_among unit ordinal number (first ∷ units) =
    let loops : List Loop = loops_in unit ordinal number first.listing in
    rise_in unit ordinal number (number + 1) first.listing (loops_among (suc unit) (ordinal + length loops) (number + length first.listing) units) (omega arith)
    (rise_among (suc unit) (ordinal + length loops) (number + length first.listing) units)

-- the loops of a file rise
pub loops_rise : (units : List ProgramUnit) → StartInOrder 2 (loops_of units)
loops_rise units = rise_among 0 1 1 units

at_least : (low j : ℕ) (loops : List Loop) (d : Loop) → StartInOrder low loops → j < length loops → low ≤ (slice_index_or loops j d).from
at_least low j [] d r h = absurd (omega (arith, h))
at_least low zero (loop ∷ loops) d r h = r.0
at_least low (suc j) (loop ∷ loops) d r h = omega (arith, r.0, at_least loop.from j loops d r.1 (omega (arith, h)))

-- so they are sorted by where their ranges begin
pub sorted_from_rise : (low : ℕ) (loops : List Loop) → StartInOrder low loops → IsNonDecreasingBy (λ loop. loop.from) loops
sorted_from_rise low [] r i j d l h = absurd (omega (arith, h))
sorted_from_rise low (loop ∷ loops) r zero zero d l h = omega arith
sorted_from_rise low (loop ∷ loops) r zero (suc j) d l h = at_least loop.from j loops d r.1 (omega (arith, h))
sorted_from_rise low (loop ∷ loops) r (suc i) zero d l h = absurd (omega (arith, l))
sorted_from_rise low (loop ∷ loops) r (suc i) (suc j) d l h = sorted_from_rise loop.from loops r.1 i j d (omega (arith, l)) (omega (arith, h))

-- none begins with an earlier statement
pub none_earlier : (low number : ℕ) (loops : List Loop) → number < low → StartInOrder low loops → loop_with_range_from loops number ≡ None
none_earlier low number [] h r = refl
none_earlier low number (loop ∷ loops) h r =
    ap (λ b. cond b (Some loop) (loop_with_range_from loops number)) (other loop.from number (omega (arith, h, r.0)))
    ∙ none_earlier loop.from number loops (omega (arith, h, r.0)) r.1
  where
    other : (a b : ℕ) → b < a → (a == b) ≡ false
    other a b l = grind (arith, l)

-- a statement of a unit is one of the file
pub counted_in : (units : List ProgramUnit) (u : ℕ) → statements_before units u + length (listing_of units u) ≤ statement_count units
counted_in [] u = omega arith
counted_in (first ∷ units) zero = omega arith
counted_in (first ∷ units) (suc u) = omega (arith, counted_in units u)
