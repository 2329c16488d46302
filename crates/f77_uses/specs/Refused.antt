-- Refusals of statements by rules.
use Rattle.std.specs.Prelude.{ℕ, suc, Bool, List, [], ◌∷◌, ◌++◌}
use Rattle.f77_ast.specs.declared.program.Listed.{Listed}
use Rattle.f77_ast.specs.declared.refusal.Refusal.{Refusal}
use Rattle.f77_ast.specs.declared.rule.Rule.{Rule}
use Rattle.f77_ast.specs.Refusal.{refusal_by, when}

-- the refusal of a statement by a rule: its line is the statement's initial line
abbrev pub at : Listed → Rule → Refusal
at listed rule = refusal_by listed.card.line rule

-- the refusals by one rule of some statements of a unit, the first of which is at this place: `breaks` tells whether the
-- statement at a place breaks the rule
abbrev pub broken_by : Rule → (breaks : ℕ → Listed → Bool) → (place : ℕ) → List Listed → List Refusal
broken_by rule breaks place [] = []
broken_by rule breaks place (listed ∷ following) = when (breaks place listed) (at listed rule) ++ broken_by rule breaks (suc place) following

-- the first statement of a unit is refused by a rule
abbrev pub first_refused : Rule → List Listed → List Refusal
first_refused rule [] = []
first_refused rule (first ∷ following) = at first rule ∷ []
