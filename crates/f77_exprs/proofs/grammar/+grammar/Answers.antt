use Rattle.std.proofs.Common.{rules, arith, ◌≡◌, ◌≤◌, ◌+◌, ◌++◌, [], ◌∷◌, length, ap, sym, ◌∙◌, subst, true, false, Some, None}
use Rattle.std.proofs.lemmas.Grind.{common_steps}
use Rattle.f77_exprs.specs.Operators.{to_left, grouping}
use Rattle.f77_exprs.specs.Reading.{sees, prefixed, bound, substring, arguments, with_part, with_low, with_first, opened, reference, primary, one_operator_at_most, level, rest_of, expr_within}
use Rattle.f77_exprs.specs.Climbing.{climbed}
use Rattle.f77_exprs.specs.declared.unread.Unread.TheVariants.{Unspelled}
use Rattle.f77_exprs.proofs.Climbs.{level_missing, level_is, level_fails, climbed_none, climbed_one, no_depth, one_deeper}
use Rattle.f77_exprs.proofs.Powers.{power_ends, power_alone, power_missing, power_goes}
use Rattle.f77_exprs.proofs.Turns.{ended, turn_fails, turn_goes, arguments_start, arguments_ended, argument_fails, argument_goes}
use Rattle.f77_exprs.proofs.grammar.+grammar.Goals as goal

pub bound-returns-then-eat-clause-value : goal.bound-returns-then-eat-clause-value
unfolding bound
bound-returns-then-eat-clause-value t c = first_of (search rules, grind (arith, common_steps))

pub bound-returns-in_err-found-clause-value : goal.bound-returns-in_err-found-clause-value
unfolding bound
bound-returns-in_err-found-clause-value t c = first_of (search rules, grind (arith, common_steps))

pub bound-returns-in_err-expect-clause-value : goal.bound-returns-in_err-expect-clause-value
unfolding bound
bound-returns-in_err-expect-clause-value t c = first_of (search rules, grind (arith, common_steps))

pub bound-returns-clause-value : goal.bound-returns-clause-value
unfolding bound
bound-returns-clause-value t c = first_of (search rules, grind (arith, common_steps))

pub opened-returns-then-eat-clause-value : goal.opened-returns-then-eat-clause-value
unfolding opened
opened-returns-then-eat-clause-value t c = first_of (search rules, grind (arith, common_steps))

pub opened-returns-then-eat-2-clause-value : goal.opened-returns-then-eat-2-clause-value
unfolding opened
opened-returns-then-eat-2-clause-value t c = first_of (search rules, grind (arith, common_steps))

pub opened-returns-in_err-first-clause-value : goal.opened-returns-in_err-first-clause-value
unfolding opened
opened-returns-in_err-first-clause-value t c = first_of (search rules, grind (arith, common_steps))

pub opened-returns-clause-value : goal.opened-returns-clause-value
unfolding opened
opened-returns-clause-value t c = first_of (search rules, grind (arith, common_steps))

pub primary-returns-in_err-inner-clause-value : goal.primary-returns-in_err-inner-clause-value
unfolding primary
primary-returns-in_err-inner-clause-value t c = first_of (search rules, grind (arith, common_steps))

pub primary-returns-in_err-expect-clause-value : goal.primary-returns-in_err-expect-clause-value
unfolding primary
primary-returns-in_err-expect-clause-value t c = first_of (search rules, grind (arith, common_steps))

pub primary-returns-then-eat-clause-value : goal.primary-returns-then-eat-clause-value
unfolding primary
primary-returns-then-eat-clause-value t c = first_of (search rules, grind (arith, common_steps))

pub primary-returns-in_err-constant-clause-value : goal.primary-returns-in_err-constant-clause-value
unfolding primary
primary-returns-in_err-constant-clause-value t c = first_of (search rules, grind (arith, common_steps))

pub primary-returns-in-Some-clause-value : goal.primary-returns-in-Some-clause-value
unfolding primary
primary-returns-in-Some-clause-value t c = first_of (search rules, grind (arith, common_steps))

pub primary-returns-in-None-clause-value : goal.primary-returns-in-None-clause-value
unfolding primary
primary-returns-in-None-clause-value t c = first_of (search rules, grind (arith, common_steps))

pub reference-returns-in_err-name-clause-value : goal.reference-returns-in_err-name-clause-value
unfolding reference
reference-returns-in_err-name-clause-value t c = first_of (search rules, grind (arith, common_steps))

pub reference-returns-then-not-eat-clause-value : goal.reference-returns-then-not-eat-clause-value
unfolding reference
reference-returns-then-not-eat-clause-value t c = first_of (search rules, grind (arith, common_steps))

pub reference-returns-clause-value : goal.reference-returns-clause-value
unfolding reference
reference-returns-clause-value t c = first_of (search rules, grind (arith, common_steps))

pub relation-returns-in_err-right-in-Some-clause-value : goal.relation-returns-in_err-right-in-Some-clause-value
unfolding one_operator_at_most
relation-returns-in_err-right-in-Some-clause-value t c = first_of (search rules, grind (arith, common_steps))

pub relation-returns-in-None-clause-value : goal.relation-returns-in-None-clause-value
unfolding one_operator_at_most
relation-returns-in-None-clause-value t c = first_of (search rules, grind (arith, common_steps))

pub relation-returns-in_ok-binary-in-Some-clause-value : goal.relation-returns-in_ok-binary-in-Some-clause-value
unfolding one_operator_at_most
relation-returns-in_ok-binary-in-Some-clause-value t c = first_of (search rules, grind (arith, common_steps))

pub substring-returns-then-not-eat-clause-value : goal.substring-returns-then-not-eat-clause-value
unfolding substring
substring-returns-then-not-eat-clause-value t c = first_of (search rules, grind (arith, common_steps))

pub substring-returns-in_err-low-clause-value : goal.substring-returns-in_err-low-clause-value
unfolding substring
substring-returns-in_err-low-clause-value t c = first_of (search rules, grind (arith, common_steps))

pub substring-returns-in_err-high-clause-value : goal.substring-returns-in_err-high-clause-value
unfolding substring
substring-returns-in_err-high-clause-value t c = first_of (search rules, grind (arith, common_steps))

pub substring-returns-clause-value : goal.substring-returns-clause-value
unfolding substring
substring-returns-clause-value t c = first_of (search rules, grind (arith, common_steps))

pub with_first-returns-then-eat-clause-value : goal.with_first-returns-then-eat-clause-value
unfolding with_first
with_first-returns-then-eat-clause-value t c = first_of (search rules, grind (arith, common_steps))

pub with_first-returns-in_err-all-clause-value : goal.with_first-returns-in_err-all-clause-value
unfolding with_first
with_first-returns-in_err-all-clause-value t c = first_of (search rules, grind (arith, common_steps))

pub with_first-returns-in_err-expect-clause-value : goal.with_first-returns-in_err-expect-clause-value
unfolding with_first
with_first-returns-in_err-expect-clause-value t c = first_of (search rules, grind (arith, common_steps))

pub with_first-returns-clause-value : goal.with_first-returns-clause-value
unfolding with_first
with_first-returns-clause-value t c = first_of (search rules, grind (arith, common_steps))

pub with_low-returns-in_err-high-clause-value : goal.with_low-returns-in_err-high-clause-value
unfolding with_low
with_low-returns-in_err-high-clause-value t c = first_of (search rules, grind (arith, common_steps))

pub with_low-returns-clause-value : goal.with_low-returns-clause-value
unfolding with_low
with_low-returns-clause-value t c = first_of (search rules, grind (arith, common_steps))

pub with_part-returns-in_err-part-clause-value : goal.with_part-returns-in_err-part-clause-value
unfolding with_part
with_part-returns-in_err-part-clause-value t c = first_of (search rules, grind (arith, common_steps))

pub with_part-returns-clause-value : goal.with_part-returns-clause-value
unfolding with_part
with_part-returns-clause-value t c = first_of (search rules, grind (arith, common_steps))

pub arguments-loop-alloc-init : goal.arguments-loop-alloc-init
arguments-loop-alloc-init t c = record {
  rest = arguments_start (expr_within c.args.depth) c.args.first _ c.args.reader.now (c.in_ok-push.ensures.ok ∙ ap (λ x. x ++ c.args.first ∷ []) c.new-found.ensures);
  within = omega arith;
}

pub arguments-returns-in_err-next-clause-value : goal.arguments-returns-in_err-next-clause-value
arguments-returns-in_err-next-clause-value t c =
    let comma : sees 44 c.loop-alloc.reader ≡ true = search rules in
    let e = argument_fails (expr_within c.args.depth) (arguments (expr_within c.args.depth) c.args.first c.args.reader.now) c.loop-alloc.found c.loop-alloc.reader c.eat.new.self c.loop-alloc.invariant.rest comma c.eat.ensures.after in
    first_of (search rules, grind (arith, common_steps))

pub arguments-loop-alloc-preserved : goal.arguments-loop-alloc-preserved
arguments-loop-alloc-preserved t c =
    let comma : sees 44 c.loop-alloc.reader ≡ true = search rules in
    let k : length c.expr_within.new.reader ≤ length c.eat.new.self = c.in_ok-next.ensures.within in
    let m = c.loop-alloc.invariant.within in
    let n = c.eat.ensures.within in
    record {
      rest = argument_goes (expr_within c.args.depth) (arguments (expr_within c.args.depth) c.args.first c.args.reader.now) c.loop-alloc.found c.push-in-loop-alloc.new.self c.in_ok-next.next c.loop-alloc.reader c.eat.new.self c.expr_within.new.reader c.in_ok-push-2.ensures.ok c.loop-alloc.invariant.rest comma c.eat.ensures.after c.in_ok-next.ensures.value c.in_ok-next.ensures.within;
      within = omega arith;
    }

pub arguments-returns-clause-value : goal.arguments-returns-clause-value
arguments-returns-clause-value t c =
    let comma : sees 44 c.loop-alloc.reader ≡ false = search rules in
    arguments_ended (expr_within c.args.depth) (arguments (expr_within c.args.depth) c.args.first c.args.reader.now) c.loop-alloc.found c.loop-alloc.reader c.eat.new.self c.loop-alloc.invariant.rest comma c.eat.ensures.after

pub chain-returns-in_err-right-clause-value : goal.chain-returns-in_err-right-clause-value
chain-returns-in_err-right-clause-value t c =
    let e = turn_fails (level (expr_within c.args.depth) c.args.below) (c.args.below + 1) (rest_of to_left (level (expr_within c.args.depth) c.args.below) (c.args.below + 1) c.args.first c.args.reader.now) c.loop-operator.left c.loop-operator.reader _ c.in-Some.operator c.loop-operator.invariant.rest (sym c.in-Some.ensures.found) c.in-Some.ensures.after in
    first_of (search rules, grind (arith, common_steps))

pub chain-loop-operator-preserved : goal.chain-loop-operator-preserved
chain-loop-operator-preserved t c =
    let k : length c.level.new.reader ≤ length c.take_infix.new.self = c.in_ok-right.ensures.within in
    let m = c.loop-operator.invariant.within in
    let n = c.in-Some.ensures.within in
    record {
      rest = turn_goes (level (expr_within c.args.depth) c.args.below) (c.args.below + 1) (rest_of to_left (level (expr_within c.args.depth) c.args.below) (c.args.below + 1) c.args.first c.args.reader.now) c.loop-operator.left c.in_ok-right.right c.in_ok-left.left c.loop-operator.reader c.take_infix.new.self c.level.new.reader c.in-Some.operator c.in_ok-left.ensures c.loop-operator.invariant.rest (sym c.in-Some.ensures.found) c.in-Some.ensures.after c.in_ok-right.ensures.value c.in_ok-right.ensures.within;
      within = omega arith;
    }

pub chain-returns-clause-value : goal.chain-returns-clause-value
chain-returns-clause-value t c =
    ended (level (expr_within c.args.depth) c.args.below) (c.args.below + 1) (rest_of to_left (level (expr_within c.args.depth) c.args.below) (c.args.below + 1) c.args.first c.args.reader.now) c.loop-operator.left c.loop-operator.reader c.take_infix.new.self c.loop-operator.invariant.rest (sym c.take_infix.ensures.found ∙ c.in_default.is) c.take_infix.ensures.after

pub expr_within-returns-then-depth-eq0-clause-value : goal.expr_within-returns-then-depth-eq0-clause-value
expr_within-returns-then-depth-eq0-clause-value t c _ = no_depth c.args.depth c.args.reader.now c.if-depth-eq0.true

pub expr_within-returns-clause-value : goal.expr_within-returns-clause-value
expr_within-returns-clause-value t c = rw (one_deeper c.args.depth c.args.reader.now (omega arith)) c.level.ensures.value

pub level-returns-in_err-left-clause-value : goal.level-returns-in_err-left-clause-value
level-returns-in_err-left-clause-value t c =
    let e = level_missing (expr_within c.args.depth) c.args.top c.args.reader.now c.take_heads-heads.new.self c.take_heads-heads.result c.requires c.take_heads-heads.ensures.value in
    first_of (search rules, grind (arith, common_steps))

pub level-loop-below-init : goal.level-loop-below-init
level-loop-below-init t c = record {
  so_far = climbed_none (expr_within c.args.depth) c.take_heads-heads.result c.in_ok-left.left c.primary.new.reader;
  within = omega arith;
}

pub level-returns-in_err-left-2-clause-value : goal.level-returns-in_err-left-2-clause-value
level-returns-in_err-left-2-clause-value t c =
    let e = λ (none : rest_of (grouping (c.loop-below.below + 1)) (level (expr_within c.args.depth) c.loop-below.below) (c.loop-below.below + 1) c.in_ok-first.first c.loop-below.reader ≡ None).
    level_fails (expr_within c.args.depth) c.args.top (c.loop-below.below + 1) c.args.reader.now c.take_heads-heads.new.self c.primary.new.reader c.take_heads-heads.result c.in_ok-left.left c.requires (omega arith) c.take_heads-heads.ensures.value c.in_ok-left.ensures.value
    (climbed_one (expr_within c.args.depth) c.loop-below.below c.take_heads-heads.result c.in_ok-left.left c.loop-below.left c.in_ok-first.first c.primary.new.reader c.loop-below.reader None c.loop-below.invariant.so_far (c.in_ok-first.ensures ∙ ap (λ o. prefixed o c.loop-below.left) c.of.ensures) none) in
    first_of (search rules, grind (arith, common_steps))

pub level-loop-below-preserved : goal.level-loop-below-preserved
level-loop-below-preserved t c =
    let k : length c.rest_of.new.reader ≤ length c.loop-below.reader = c.in_ok-left-2.ensures.within in
    let m = c.loop-below.invariant.within in
    record {
      so_far = climbed_one (expr_within c.args.depth) c.loop-below.below c.take_heads-heads.result c.in_ok-left.left c.loop-below.left c.in_ok-first.first c.primary.new.reader c.loop-below.reader (Some (c.in_ok-left-2.left, c.rest_of.new.reader)) c.loop-below.invariant.so_far (c.in_ok-first.ensures ∙ ap (λ o. prefixed o c.loop-below.left) c.of.ensures) c.in_ok-left-2.ensures.value;
      within = omega arith;
    }

pub level-returns-clause-value : goal.level-returns-clause-value
level-returns-clause-value t c =
    let e : c.loop-below.below ≡ c.args.top = omega arith in
    level_is (expr_within c.args.depth) c.args.top c.args.reader.now c.take_heads-heads.new.self c.primary.new.reader c.take_heads-heads.result c.in_ok-left.left (Some (c.loop-below.left, c.loop-below.reader)) c.requires c.take_heads-heads.ensures.value c.in_ok-left.ensures.value
    (subst (λ n. climbed (expr_within c.args.depth) c.take_heads-heads.result n c.in_ok-left.left c.primary.new.reader ≡ Some (c.loop-below.left, c.loop-below.reader)) e c.loop-below.invariant.so_far)

pub power-returns-in_err-base-in-Some-clause-value : goal.power-returns-in_err-base-in-Some-clause-value
unfolding level
power-returns-in_err-base-in-Some-clause-value t c turns le =
    let e = power_alone (level (expr_within c.args.depth) 0) 1 turns c.args.left c.args.reader.now c.take_infix.new.self c.in-Some.operator le (sym c.in-Some.ensures.found) c.in-Some.ensures.after in
    first_of (search rules, grind (arith, common_steps))

pub power-returns-in_err-right-in-Some-clause-value : goal.power-returns-in_err-right-in-Some-clause-value
unfolding level
power-returns-in_err-right-in-Some-clause-value t c turns le =
    let e = λ (none : c.in_err-right-in-Some.field-0.0 ≡ Unspelled).
    power_missing (level (expr_within c.args.depth) 0) 1 turns c.args.left c.in_ok-base-in-Some.base c.args.reader.now c.take_infix.new.self c.primary.new.reader c.in-Some.operator le (sym c.in-Some.ensures.found) c.in-Some.ensures.after c.in_ok-base-in-Some.ensures.value c.in_ok-base-in-Some.ensures.within (λ m few. c.in_err-right-in-Some.ensures.value m few none) in
    first_of (search rules, grind (arith, common_steps))

pub power-returns-in-None-clause-value : goal.power-returns-in-None-clause-value
power-returns-in-None-clause-value t c turns le = power_ends (level (expr_within c.args.depth) 0) 1 turns c.args.left c.args.reader.now c.take_infix.new.self (sym c.in-None.ensures.found) c.in-None.ensures.after

pub power-returns-in_ok-binary-in-Some-clause-value : goal.power-returns-in_ok-binary-in-Some-clause-value
unfolding level
power-returns-in_ok-binary-in-Some-clause-value t c turns le =
    power_goes (level (expr_within c.args.depth) 0) 1 turns c.args.left c.in_ok-base-in-Some.base c.in_ok-right-in-Some.right c.in_ok-binary-in-Some.field-0 c.args.reader.now c.take_infix.new.self c.primary.new.reader c.power.new.reader c.in-Some.operator c.in_ok-binary-in-Some.ensures le (sym c.in-Some.ensures.found) c.in-Some.ensures.after c.in_ok-base-in-Some.ensures.value c.in_ok-base-in-Some.ensures.within (λ m few. c.in_ok-right-in-Some.ensures.value m few)
