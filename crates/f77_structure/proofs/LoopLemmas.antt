-- The DO-loops of a file are numbered from 1; those of a file of one unit are the loops of its statements.
use Rattle.std.proofs.Common.{◌≡◌, ℕ, zero, suc, ◌+◌, List, [], ◌∷◌, ◌++◌, length, Option, None, Some, refl, ap, arith, slice_get, append-nil}
use Rattle.std.specs.Option.{option_map_or}
use Rattle.f77_ast.specs.declared.program.Listed.{Listed}
use Rattle.f77_ast.specs.declared.program.Loop.{Loop}
use Rattle.f77_ast.specs.declared.program.Unit.{Unit as ProgramUnit}
use Rattle.f77_ast.specs.Loop.{IsNumbered}
use Rattle.f77_structure.specs.Loops.{loop_from, loops_in, loops_among, loops_of}
use Rattle.f77_structure.specs.Statements.{terminal_label}

-- some loops stand in the order of their ordinals, which count from this one
pub record AreNumberedFrom (ordinal : ℕ) (loops : List Loop) : Type 0 where
  pub at : (place : ℕ) (loop : Loop) → slice_get loops place ≡ Some loop → loop.ordinal ≡ ordinal + place

-- no loop
none_numbered : (ordinal : ℕ) → AreNumberedFrom ordinal []
none_numbered ordinal = record { at = λ place loop e. absurd cc }

-- one loop before others
numbered_before : (ordinal : ℕ) (first : Loop) (loops : List Loop) → first.ordinal ≡ ordinal → AreNumberedFrom (suc ordinal) loops → AreNumberedFrom ordinal (first ∷ loops)
numbered_before ordinal first loops here numbered = record { at = by }
  where
    by : (place : ℕ) (loop : Loop) → slice_get (first ∷ loops) place ≡ Some loop → loop.ordinal ≡ ordinal + place
    by zero loop e =
        let same : first ≡ loop = cc in
        omega (arith, here, ap (λ (l : Loop). l.ordinal) same)
    by (suc place) loop e = omega (arith, numbered.at place loop e)

-- loops behind others
numbered_append : (ordinal : ℕ) (loops more : List Loop) → AreNumberedFrom ordinal loops → AreNumberedFrom (ordinal + length loops) more → AreNumberedFrom ordinal (loops ++ more)
numbered_append ordinal [] more numbered behind = record { at = λ place loop e. omega (arith, behind.at place loop e) }
numbered_append ordinal (first ∷ loops) more numbered behind =
    numbered_before ordinal first (loops ++ more) (omega (arith, numbered.at 0 first refl))
    (numbered_append (suc ordinal) loops more
    (record { at = λ place loop e. omega (arith, numbered.at (suc place) loop e) })
    (record { at = λ place loop e. omega (arith, behind.at place loop e) }))

-- the loops of a unit
pub loops_in-numbered : (unit ordinal number : ℕ) (listing : List Listed) → AreNumberedFrom ordinal (loops_in unit ordinal number listing)
loops_in-numbered unit ordinal number [] = none_numbered ordinal
loops_in-numbered unit ordinal number (listed ∷ following) =
    by (terminal_label listed.stmt) (loops_in-numbered unit ordinal (suc number) following) (loops_in-numbered unit (suc ordinal) (suc number) following)
  where
    by : (o : Option ℕ) → AreNumberedFrom ordinal (loops_in unit ordinal (suc number) following) → AreNumberedFrom (suc ordinal) (loops_in unit (suc ordinal) (suc number) following) → AreNumberedFrom ordinal (option_map_or (λ label. loop_from unit ordinal number listed.card.line label following ∷ loops_in unit (suc ordinal) (suc number) following) o (loops_in unit ordinal (suc number) following))
    by None same more = same
    by (Some label) same more = numbered_before ordinal (loop_from unit ordinal number listed.card.line label following) (loops_in unit (suc ordinal) (suc number) following) refl more

-- the loops of units
loops_among-numbered : (unit ordinal number : ℕ) (units : List ProgramUnit) → AreNumberedFrom ordinal (loops_among unit ordinal number units)
loops_among-numbered unit ordinal number [] = none_numbered ordinal
loops_among-numbered unit ordinal number (first ∷ units) =
    let loops = loops_in unit ordinal number first.listing in
    numbered_append ordinal loops (loops_among (suc unit) (ordinal + length loops) (number + length first.listing) units) (loops_in-numbered unit ordinal number first.listing) (loops_among-numbered (suc unit) (ordinal + length loops) (number + length first.listing) units)

-- the loops of a file stand in the order of their ordinals, which count from 1
pub loops_of-numbered : (units : List ProgramUnit) → IsNumbered (loops_of units)
loops_of-numbered units = λ place loop e. omega (arith, (loops_among-numbered 0 1 1 units).at place loop e)

-- the loops of a file of one unit
pub loops_of-one : (unit : ProgramUnit) → loops_of (unit ∷ []) ≡ loops_in 0 1 1 unit.listing
loops_of-one unit = append-nil (loops_in 0 1 1 unit.listing)
