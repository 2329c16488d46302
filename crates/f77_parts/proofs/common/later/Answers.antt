use Rattle.std.proofs.Common.{rules, arith, ◌≡◌, ◌≤◌, ◌<◌, ◌-◌, length, ap, sym, ◌∙◌, true, false, Some}
use Rattle.std.proofs.lemmas.Grind.{common_steps}
use Rattle.f77_exprs.specs.Reading.{is_empty}
use Rattle.f77_forms.specs.Form.{read}
use Rattle.f77_parts.specs.Parts.{common_step, later_groups}
use Rattle.f77_parts.proofs.CommonTurns.{groups_from, starts, ended, spent, fails, goes}
use Rattle.f77_parts.proofs.common.later.Goals as goal

pub loop-turn-init : goal.loop-turn-init
loop-turn-init c =
    let z : length c.args.reader.now - 0 ≡ length c.args.reader.now = omega arith in
    record {
      rest = starts (read c.args.depth common_step) (length c.args.reader.now) c.args.first c.args.reader.now
          ∙ ap (λ b. groups_from (read c.args.depth common_step) (length c.args.reader.now) (b, c.args.first) c.args.reader.now) (sym c.new-before.ensures)
          ∙ ap (λ n. groups_from (read c.args.depth common_step) n (c.new-before.result, c.args.first) c.args.reader.now) (sym z);
      within = omega arith;
    }

pub returns-then-is_empty-clause-value : goal.returns-then-is_empty-clause-value
returns-then-is_empty-clause-value c =
    let empty : is_empty c.loop-turn.reader ≡ true = search rules in
    c.loop-turn.invariant.rest ∙ ended (read c.args.depth common_step) _ (c.loop-turn.before, c.loop-turn.last) c.loop-turn.reader empty ∙ ap (λ x. Some (x, c.loop-turn.reader)) (sym c.in_ok-closed.ensures)

pub returns-in_err-one-clause-value : goal.returns-in_err-one-clause-value
returns-in_err-one-clause-value c =
    let some : is_empty c.loop-turn.reader ≡ false = search rules in
    let turn : c.loop-turn._turn < length c.args.reader.now = search (rules, arith) in
    let e = fails (read c.args.depth common_step) (later_groups c.args.depth c.args.first c.args.reader.now) (length c.args.reader.now) c.loop-turn._turn (c.loop-turn.before, c.loop-turn.last) c.loop-turn.reader c.loop-turn.invariant.rest turn some in
    first_of (search rules, grind (arith, common_steps))

pub loop-turn-preserved : goal.loop-turn-preserved
loop-turn-preserved c =
    let some : is_empty c.loop-turn.reader ≡ false = search rules in
    let turn : c.loop-turn._turn < length c.args.reader.now = search (rules, arith) in
    let k = c.loop-turn.invariant.within in
    let m = c.in_ok-one.ensures.within in
    record {
      rest = goes (read c.args.depth common_step) (later_groups c.args.depth c.args.first c.args.reader.now) (length c.args.reader.now) c.loop-turn._turn (c.loop-turn.before, c.loop-turn.last) (c.in_ok-more.more, c.in_ok-more.next) c.in_ok-one.one c.loop-turn.reader c.common_step.new.reader c.in_ok-more.ensures c.loop-turn.invariant.rest turn some c.in_ok-one.ensures.value;
      within = omega arith;
    }

pub returns-clause-value : goal.returns-clause-value
returns-clause-value c =
    let done : length c.args.reader.now ≤ c.loop-turn._turn = search (rules, arith) in
    spent (read c.args.depth common_step) (later_groups c.args.depth c.args.first c.args.reader.now) (length c.args.reader.now) c.loop-turn._turn (c.loop-turn.before, c.loop-turn.last) c.loop-turn.reader c.loop-turn.invariant.rest done ∙ ap (λ x. Some (x, c.loop-turn.reader)) (sym c.in_ok-closed-2.ensures)
