use Rattle.std.proofs.Common.{◌≡◌, ℕ, List, take}
use Rattle.f77_ast.specs.Refusal.{sooner}
use Rattle.f77_ast.specs.declared.rule.Rule.TheVariants.{DoubleName}
use Rattle.f77_leaves.specs.Declarations.{facts_of, rules_of, known_of, implied_by}
use Rattle.f77_uses.specs.Breaks.{declares_twice}
use Rattle.f77_uses.specs.Letters.{given}
use Rattle.f77_uses.specs.Tables.{known_in}
use Rattle.f77_uses.proofs.Turns.{first_from}
use Rattle.f77_uses.proofs.unit_tables.declarations.Given as goal

abbrev pub invariant-loop-listed : goal.invariant-loop-listed
invariant-loop-listed l = record {
  known : (name : List ℕ) → known_in l.names name ≡ known_of (facts_of (take l.listed-index l.unit)) name;
  implied : (letter : ℕ) → given l.letters letter ≡ implied_by (rules_of (take l.listed-index l.unit)) letter;
  twice : sooner l.twice (first_from DoubleName (declares_twice l.unit) l.unit l.listed-index) ≡ first_from DoubleName (declares_twice l.unit) l.unit 0;
}
