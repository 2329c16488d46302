-- What needs are, and what the limit comes to.
use Rattle.f77_ast.specs.Limits.{most_operands}
use Rattle.std.specs.Prelude.{◌≡◌, ◌↔◌, ◌≤◌, ◌<◌, ℕ, ◌+◌, List, [], ◌∷◌, ◌++◌, length, None, Some, sum_by}
use Rattle.f77_ast.specs.declared.program.Listed.{Listed}
use Rattle.f77_ast.specs.declared.program.Unit.{Unit as ProgramUnit}
use Rattle.f77_ast.specs.declared.refusal.Refusal.{Refusal}
use Rattle.f77_ast.specs.declared.stmt.Stmt.{Stmt}
use Rattle.f77_leaves.specs.Leaves.{leaves_of}
use Rattle.f77_structure.specs.Needs.{need_of}
use Rattle.f77_operands.specs.Limit.{greatest_need, too_many, operand_refusal}

-- the need of a statement is the number of the literals and names in it
abbrev pub NeedsAreLeaves : Type 0
NeedsAreLeaves = (statement : Stmt) → need_of statement ≡ length (leaves_of statement)

-- the needs of some units together
abbrev pub needs_of : List ProgramUnit → ℕ
needs_of units = sum_by (λ unit. greatest_need unit.listing) units

-- a file is accepted exactly where the greatest needs of its units come to no more than there may be
abbrev pub AcceptedWithinTheLimit : Type 0
AcceptedWithinTheLimit = (units : List ProgramUnit) → (operand_refusal units ≡ None) ↔ (needs_of units ≤ most_operands)

-- a refused statement: with it the needs of the units so far come to more than the limit, and without it they don't
pub record PassesTheLimit (units : List ProgramUnit) (refusal : Refusal) : Type 0 where
  pub before : List ProgramUnit
  pub unit : ProgramUnit
  pub after : List ProgramUnit
  pub earlier : List Listed
  pub listed : Listed
  pub later : List Listed
  pub its_unit : units ≡ before ++ unit ∷ after
  pub its_place : unit.listing ≡ earlier ++ listed ∷ later
  pub without : needs_of before + greatest_need earlier ≤ most_operands
  pub with_it : most_operands < needs_of before + greatest_need (earlier ++ listed ∷ [])
  pub code : refusal ≡ too_many listed

abbrev pub RefusedWhereTheLimitIsPassed : Type 0
RefusedWhereTheLimitIsPassed = (units : List ProgramUnit) (refusal : Refusal) → operand_refusal units ≡ Some refusal → PassesTheLimit units refusal
