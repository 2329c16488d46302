use Rattle.std.proofs.Common.{◌≡◌}
use Rattle.f77_ast.specs.Refusal.{sooner}
use Rattle.f77_ast.specs.declared.rule.Rule.TheVariants.{TypeClash, ArgumentCount}
use Rattle.f77_kinds.specs.Breaks.{has_clash, has_miscount}
use Rattle.f77_uses.specs.Tables.{told_by}
use Rattle.f77_uses.proofs.Turns.{first_from}
use Rattle.f77_kinds.proofs.kinds_break.first_breaks.Given as goal

abbrev pub invariant-loop-listed : goal.invariant-loop-listed
invariant-loop-listed l = record {
  clash : sooner l.clash (first_from TypeClash (has_clash (told_by l.tables)) l.unit l.listed-index) ≡ first_from TypeClash (has_clash (told_by l.tables)) l.unit 0;
  miscount : sooner l.miscount (first_from ArgumentCount (has_miscount (told_by l.tables)) l.unit l.listed-index) ≡ first_from ArgumentCount (has_miscount (told_by l.tables)) l.unit 0;
}
