-- The code of a unit: that of its statements, and where each begins.
use Rattle.std.specs.Prelude.{ℕ, suc, ◌+◌, ◌++◌, ℤ, pos, List, [], ◌∷◌, length}
use Rattle.f77_ast.specs.declared.code.Code.{Code}
use Rattle.f77_ast.specs.declared.code.Instr.{Instr}
use Rattle.f77_ast.specs.declared.program.Layout.{Layout}
use Rattle.f77_ast.specs.declared.program.Listed.{Listed}
use Rattle.f77_ast.specs.declared.program.Loop.{Loop}
use Rattle.f77_structure.specs.Units.{next_place}
use Rattle.f77_code.specs.Statements.{statement_code}

module _ (loops : List Loop) (layout : Layout) (unit : ℕ) where
  -- the code of some statements, the first of which has this number in the file
  abbrev pub instrs_from : (number : ℕ) → List Listed → List Instr
  instrs_from number [] = []
  instrs_from number (listed ∷ following) = statement_code loops layout unit number listed.stmt ++ instrs_from (suc number) following

  -- where each begins, the first after so many instructions
  abbrev pub starts_from : (number before : ℕ) → List Listed → List ℤ
  starts_from number before [] = []
  starts_from number before (listed ∷ following) = pos before ∷ starts_from (suc number) (before + length (statement_code loops layout unit number listed.stmt)) following

-- where control goes on after each, the first being at this place of the unit
abbrev pub nexts_from : (listing : List Listed) (at : ℕ) → List Listed → List ℤ
nexts_from listing at [] = []
nexts_from listing at (listed ∷ following) = pos (next_place listing at) ∷ nexts_from listing (suc at) following

-- the code of a unit whose first statement has this number
abbrev pub unit_code : List Loop → Layout → (unit number : ℕ) → List Listed → Code
unit_code loops layout unit number listing = record {
  instrs = instrs_from loops layout unit number listing;
  starts = starts_from loops layout unit number 0 listing;
  nexts = nexts_from listing 0 listing;
  targets = [];
  texts = [];
}
