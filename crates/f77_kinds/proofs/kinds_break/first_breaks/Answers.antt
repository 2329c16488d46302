use Rattle.std.proofs.Common.{ap}
use Rattle.f77_ast.specs.declared.rule.Rule.TheVariants.{TypeClash, ArgumentCount}
use Rattle.f77_kinds.specs.Breaks.{has_clash, has_miscount}
use Rattle.f77_kinds.specs.declared.breach.Breach.{Breach}
use Rattle.f77_uses.specs.Tables.{told_by}
use Rattle.f77_uses.proofs.Turns.{turned, ended, first_from}
use Rattle.f77_kinds.proofs.kinds_break.first_breaks.Goals as goal

pub loop-listed-preserved : goal.loop-listed-preserved
loop-listed-preserved c =
    let unit = c.args.unit.now in
    let told = told_by c.args.tables.now in
    let i = c.loop-listed.listed-index in
    let x = c.listed-item.result in
    let found = c.stmt_breach-breach.result in
    let within = c.loop-listed-test.true in
    record {
      clash = turned TypeClash (has_clash told) unit i x c.loop-listed.clash (first_from TypeClash (has_clash told) unit 0) c.refused_if.result c.sooner-clash.result found.clash within c.listed-item.is c.sooner-clash.ensures c.refused_if.ensures
          (ap (λ (b : Breach). b.clash) c.stmt_breach-breach.ensures)
          c.loop-listed.invariant.clash;
      miscount = turned ArgumentCount (has_miscount told) unit i x c.loop-listed.miscount (first_from ArgumentCount (has_miscount told) unit 0) c.refused_if-in-loop-listed.result c.sooner-miscount.result found.miscount within c.listed-item.is c.sooner-miscount.ensures c.refused_if-in-loop-listed.ensures
          (ap (λ (b : Breach). b.miscount) c.stmt_breach-breach.ensures)
          c.loop-listed.invariant.miscount;
    }

pub returns : goal.returns
returns c =
    let unit = c.args.unit.now in
    let told = told_by c.args.tables.now in
    let i = c.loop-listed.listed-index in
    let past = c.loop-listed-test.false in
    record {
      clash = ended TypeClash (has_clash told) unit i c.loop-listed.clash (first_from TypeClash (has_clash told) unit 0) past c.loop-listed.invariant.clash;
      miscount = ended ArgumentCount (has_miscount told) unit i c.loop-listed.miscount (first_from ArgumentCount (has_miscount told) unit 0) past c.loop-listed.invariant.miscount;
    }
