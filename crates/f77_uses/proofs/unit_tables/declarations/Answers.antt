use Rattle.std.proofs.Common.{ℕ, List, take, sym, ap, ◌∙◌}
use Rattle.std.proofs.lemmas.List.{take_all}
use Rattle.std.specs.Option.{option_or}
use Rattle.f77_ast.specs.declared.rule.Rule.TheVariants.{DoubleName}
use Rattle.f77_leaves.specs.Declarations.{facts_of, rules_in, rules_of, known_of, known_from, implied_by}
use Rattle.f77_leaves.specs.declared.declarations.Known.{Known}
use Rattle.f77_uses.specs.Breaks.{declares_twice, has_second}
use Rattle.f77_uses.specs.Letters.{given}
use Rattle.f77_uses.specs.Tables.{known_in}
use Rattle.f77_uses.proofs.KnownLemmas.{same_functions}
use Rattle.f77_uses.proofs.Turns.{turned, ended, first_from}
use Rattle.f77_uses.proofs.UnitLemmas.{known_more, implied_more, declarations_are}
use Rattle.f77_uses.proofs.unit_tables.declarations.Goals as goal

pub loop-listed-preserved : goal.loop-listed-preserved
loop-listed-preserved c =
    let unit = c.args.unit.now in
    let i = c.loop-listed.listed-index in
    let x = c.listed-item.result in
    let kept = c.loop-listed.invariant in
    let within = c.loop-listed-test.true in
    let stands = c.listed-item.is in
    record {
      known = λ name.
          c.in_ok-again.ensures.noted name
          ∙ ap (λ (k : Known). known_from name k c.in_ok-facts.facts) (kept.known name)
          ∙ ap (known_from name (known_of (facts_of (take i unit)) name)) c.in_ok-facts.ensures
          ∙ sym (known_more unit i x name within stands);
      implied = λ letter.
          c.in_ok-note_rules.ensures letter
          ∙ ap (λ o. option_or o (implied_by (rules_in x.stmt) letter)) (kept.implied letter)
          ∙ sym (implied_more unit i x letter within stands);
      twice = turned DoubleName (declares_twice unit) unit i x c.loop-listed.twice (first_from DoubleName (declares_twice unit) unit 0) c.refused_if.result c.sooner-twice.result c.in_ok-again.again within stands c.sooner-twice.ensures c.refused_if.ensures
          (c.in_ok-again.ensures.again
          ∙ ap (λ (k : List ℕ → Known). has_second k c.in_ok-facts.facts) (same_functions (known_in c.loop-listed.names) (known_of (facts_of (take i unit))) kept.known)
          ∙ ap (has_second (known_of (facts_of (take i unit)))) c.in_ok-facts.ensures)
          kept.twice;
    }

pub returns : goal.returns
returns c =
    let unit = c.args.unit.now in
    let i = c.loop-listed.listed-index in
    let past = c.loop-listed-test.false in
    let kept = c.loop-listed.invariant in
    record {
      tells = declarations_are (known_in c.loop-listed.names) (given c.loop-listed.letters) unit
          (λ name. kept.known name ∙ ap (λ l. known_of (facts_of l) name) (take_all i unit past))
          (λ letter. kept.implied letter ∙ ap (λ l. implied_by (rules_of l) letter) (take_all i unit past));
      twice = ended DoubleName (declares_twice unit) unit i c.loop-listed.twice (first_from DoubleName (declares_twice unit) unit 0) past kept.twice;
    }
