use Rattle.std.proofs.Common.{◌≡◌, ◌++◌, drop}
use Rattle.f77_leaves.specs.Declarations.{dummy_facts}
use Rattle.f77_uses.proofs.facts.add_dummies.Given as goal

-- the other dummy arguments are still to be added
abbrev pub invariant-loop-place : goal.invariant-loop-place
invariant-loop-place l = l.into ++ dummy_facts l.place (drop l.place l.dummies) ≡ l.initial.into ++ dummy_facts 0 l.dummies
