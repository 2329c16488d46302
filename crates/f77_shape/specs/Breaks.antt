-- Refusals of statements by rules.
use Rattle.std.specs.Prelude.{ℕ, suc, Bool, List, [], ◌∷◌, ◌++◌}
use Rattle.f77_ast.specs.declared.program.Listed.{Listed}
use Rattle.f77_ast.specs.declared.refusal.Refusal.{Refusal}
use Rattle.f77_ast.specs.declared.rule.Rule.{Rule}
use Rattle.f77_ast.specs.Refusal.{refusal_by, when}

-- the refusal of a statement by a rule: its line is the statement's initial line
abbrev pub at : Listed → Rule → Refusal
at listed rule = refusal_by listed.card.line rule

-- the refusals by one rule of some statements of a unit, the first of which is at this place: `breaks` tells whether a
-- statement breaks the rule at its place, with these statements after it
abbrev pub broken_by : Rule → (breaks : ℕ → Listed → List Listed → Bool) → (place : ℕ) → List Listed → List Refusal
broken_by rule breaks place [] = []
broken_by rule breaks place (listed ∷ following) = when (breaks place listed following) (at listed rule) ++ broken_by rule breaks (suc place) following
