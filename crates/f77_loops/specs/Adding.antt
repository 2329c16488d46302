-- How the loops of a unit are added, from its first statement to its last.
use Rattle.std.specs.Prelude.{◌≡◌, ℕ, ◌+◌, List, ◌∷◌, ◌++◌, length, reverse}
use Rattle.f77_ast.specs.declared.program.Listed.{Listed}
use Rattle.f77_ast.specs.declared.program.Loop.{Loop}
use Rattle.f77_loops.specs.declared.ranges.Range.{Range}
use Rattle.f77_loops.specs.Ranges.{ranges_in}
use Rattle.f77_structure.specs.Loops.{loops_in}

-- some ranges are those of these statements of a unit, the last one's first
pub record AreRangesOf (number : ℕ) (listing : List Listed) (ranges : List Range) : Type 0 where
  pub reversed : ranges ≡ reverse (ranges_in number listing)

-- the loops so far, and behind them those of these statements of a unit
abbrev pub loops_with : (unit number : ℕ) → List Listed → List Loop → List Loop
loops_with unit number listing loops = loops ++ loops_in unit (length loops + 1) number listing

-- a statement is done: the ranges and loops before it, and those after it, with the statements that follow
pub record IsAdded (unit number : ℕ) (listed : Listed) (following : List Listed) (loops : List Loop) (ranges' : List Range) (loops' : List Loop) : Type 0 where
  pub left : AreRangesOf (number + 1) following ranges'
  pub added : loops_with unit (number + 1) following loops' ≡ loops_with unit number (listed ∷ following) loops
