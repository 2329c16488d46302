-- What breaks the rule that constants are where they are due.
use Rattle.std.specs.Prelude.{ℕ, Bool, List, [], ◌∷◌, ◌++◌}
use Rattle.std.specs.List.{flat_map}
use Rattle.f77_ast.specs.declared.program.Listed.{Listed}
use Rattle.f77_ast.specs.declared.program.Unit.{Unit as ProgramUnit}
use Rattle.f77_ast.specs.declared.refusal.Refusal.{Refusal}
use Rattle.f77_ast.specs.declared.rule.Rule.TheVariants.{ConstantExpected}
use Rattle.f77_uses.specs.Refused.{broken_by}
use Rattle.f77_due.specs.Due.{lacks_constant}
use Rattle.f77_due.specs.Unit.{UnitFacts, facts_of_unit}

-- ConstantExpected: a statement in which a constant is due, and there is none
abbrev pub lacks_one : UnitFacts → ℕ → Listed → Bool
lacks_one unit place listed = lacks_constant unit listed.stmt

abbrev pub lacking_in : List Listed → List Refusal
lacking_in listing = broken_by ConstantExpected (lacks_one (facts_of_unit listing)) 0 listing

-- the same of all units of a file: code 34
abbrev pub lacking_among : List ProgramUnit → List Refusal
lacking_among units = flat_map (λ unit. lacking_in unit.listing) units
