-- The pair that comes with a mode rules out each mode before it.
use Rattle.std.proofs.Common.{◌<◌, List, Some, sym, ◌∙◌, arith, true≢false}
use Rattle.dependence.specs.declared.modes.Mode.{Mode}
use Rattle.dependence.specs.declared.modes.Mode.TheVariants.{Untouched, ReadOnly, Shared, Private, Reduce}
use Rattle.dependence.specs.declared.modes.Pair.{Pair}
use Rattle.dependence.specs.Conflicts.{flow}
use Rattle.dependence.specs.Executions.{Trace}
use Rattle.dependence.specs.Laws.{PairsRuleOut}
use Rattle.dependence.specs.Regions.{Interval, Applies, row}
use Rattle.dependence.specs.Verdicts.{ConflictsIn, FlowsIn, IsNamed}
use Rattle.dependence.proofs.Pairs.{first_touches, none_written}

module _ (traces : List Trace) (region : Interval) where
  conflict_rules_out : (pair : Pair) → ConflictsIn traces region pair → (earlier : Mode) → row earlier < 3 → Applies traces region earlier → ⊥
  conflict_rules_out pair c Untouched l h = true≢false (sym (first_touches traces pair.address pair.earlier pair.later c.conflict) ∙ h pair.earlier pair.address c.inside)
  conflict_rules_out pair c ReadOnly l h = none_written traces pair.address (λ k. h k pair.address c.inside) pair.earlier pair.later c.conflict
  conflict_rules_out pair c Shared l h = h pair.address c.inside pair.earlier pair.later c.conflict
  conflict_rules_out pair c Private l h = omega (arith, l)
  conflict_rules_out pair c (Reduce op) l h = omega (arith, l)

  as_conflict : (pair : Pair) → FlowsIn traces region pair → ConflictsIn traces region pair
  as_conflict pair f = record { inside = f.inside; conflict = flow f.flow }

  flow_rules_out : (pair : Pair) → FlowsIn traces region pair → (earlier : Mode) → row earlier < 4 → Applies traces region earlier → ⊥
  flow_rules_out pair f Untouched l h = conflict_rules_out pair (as_conflict pair f) Untouched (omega arith) h
  flow_rules_out pair f ReadOnly l h = conflict_rules_out pair (as_conflict pair f) ReadOnly (omega arith) h
  flow_rules_out pair f Shared l h = conflict_rules_out pair (as_conflict pair f) Shared (omega arith) h
  flow_rules_out pair f Private l h = h pair.address f.inside pair.earlier pair.later f.flow
  flow_rules_out pair f (Reduce op) l h = omega (arith, l)

  pair_rules_out : (mode : Mode) (pair : Pair) → IsNamed traces region mode (Some pair) → (earlier : Mode) → row earlier < row mode → Applies traces region earlier → ⊥
  pair_rules_out Untouched pair n earlier l h = n
  pair_rules_out ReadOnly pair n earlier l h = n
  pair_rules_out Shared pair n earlier l h = n
  pair_rules_out Private pair n earlier l h = conflict_rules_out pair n earlier l h
  pair_rules_out (Reduce op) pair n earlier l h = flow_rules_out pair n earlier l h

pub pairs_rule_out : PairsRuleOut
pairs_rule_out = λ traces region mode earlier pair n l h. pair_rules_out traces region mode pair n earlier l h
