-- The limit on the operands of a program; it is this project's own.
use Rattle.f77_ast.specs.Limits.{most_operands}
use Rattle.std.specs.Prelude.{ℕ, ◌+◌, max, Bool, nat_lt, List, [], ◌∷◌, Option, None, find, fold, option_map}
use Rattle.std.specs.Option.{option_or}
use Rattle.f77_ast.specs.declared.program.Listed.{Listed}
use Rattle.f77_ast.specs.declared.program.Unit.{Unit as ProgramUnit}
use Rattle.f77_ast.specs.Refusal.{refusal_by}
use Rattle.f77_ast.specs.declared.refusal.Refusal.{Refusal}
use Rattle.f77_ast.specs.declared.rule.Rule.TheVariants.{SizeLimit}
use Rattle.f77_structure.specs.Needs.{need_of}

-- the need of some statements of a unit: the greatest of theirs
abbrev pub greatest_need : List Listed → ℕ
greatest_need listing = fold (λ greatest listed. max greatest (need_of listed.stmt)) 0 listing

-- whether the limit is passed at a statement, where the needs of the units before come to `others`
abbrev pub is_past : (others : ℕ) → Listed → Bool
is_past others listed = nat_lt most_operands (others + need_of listed.stmt)

-- a statement with one operand too many
abbrev pub too_many : Listed → Refusal
too_many listed = refusal_by listed.card.line SizeLimit

-- the refusal of the first statement of a unit at which the limit is passed
abbrev pub unit_refusal : (others : ℕ) → List Listed → Option Refusal
unit_refusal others listing = option_map too_many (find (is_past others) listing)

-- the refusal of the first such statement of some units
abbrev pub refusal_from : (others : ℕ) → List ProgramUnit → Option Refusal
refusal_from others [] = None
refusal_from others (unit ∷ units) = option_or (unit_refusal others unit.listing) (refusal_from (others + greatest_need unit.listing) units)

-- the refusal of the first statement of a file at which the greatest needs of its units so far come to more than there may be
abbrev pub operand_refusal : List ProgramUnit → Option Refusal
operand_refusal units = refusal_from 0 units
