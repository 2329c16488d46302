use Rattle.std.proofs.Common.{rules, arith, ◌≡◌, ◌≤◌, ◌-◌, ◌++◌, [], ◌∷◌, length, ap, sym, ◌∙◌, subst, refl, true, false}
use Rattle.std.proofs.lemmas.Grind.{common_steps}
use Rattle.f77_exprs.specs.Read.{Reads}
use Rattle.f77_parts.specs.Items.{is_implied, goes_on, item_of, items_within}
use Rattle.f77_parts.proofs.ItemTurns.{item_implied, item_plain, no_depth, one_deeper, items_start, items_missing, items_ended, items_fail, items_go}
use Rattle.f77_parts.proofs.items.+items.Goals as goal

pub item-returns-then-is_implied-clause-value : goal.item-returns-then-is_implied-clause-value
item-returns-then-is_implied-clause-value t c =
    let e : is_implied c.args.reader.now ≡ true = search rules in
    subst (λ o. Reads o c.implied.result c.implied.new.reader) (sym (item_implied c.args.refs c.args.depth (items_within c.args.refs (c.args.depth - 1)) c.args.reader.now e)) c.implied.ensures.value

pub item-returns-in_err-found-clause-value : goal.item-returns-in_err-found-clause-value
item-returns-in_err-found-clause-value t c =
    let e : is_implied c.args.reader.now ≡ false = search rules in
    let k = item_plain c.args.refs c.args.depth (items_within c.args.refs (c.args.depth - 1)) c.args.reader.now e in
    first_of (search rules, grind (arith, common_steps))

pub item-returns-clause-value : goal.item-returns-clause-value
item-returns-clause-value t c =
    let e : is_implied c.args.reader.now ≡ false = search rules in
    let k = item_plain c.args.refs c.args.depth (items_within c.args.refs (c.args.depth - 1)) c.args.reader.now e in
    k ∙ (rw c.in_ok-found.ensures.value refl)

pub list_of_items-returns-then-depth-eq0-clause-value : goal.list_of_items-returns-then-depth-eq0-clause-value
list_of_items-returns-then-depth-eq0-clause-value t c _ = no_depth c.args.refs c.args.depth c.args.reader.now c.if-depth-eq0.true

pub list_of_items-returns-in_err-first-clause-value : goal.list_of_items-returns-in_err-first-clause-value
list_of_items-returns-in_err-first-clause-value t c =
    let e = items_missing (item_of c.args.refs c.args.depth (items_within c.args.refs (c.args.depth - 1))) (items_within c.args.refs c.args.depth c.args.reader.now) c.args.reader.now (one_deeper c.args.refs c.args.depth c.args.reader.now (omega arith)) in
    first_of (search rules, grind (arith, common_steps))

pub list_of_items-loop-alloc-init : goal.list_of_items-loop-alloc-init
list_of_items-loop-alloc-init t c = record {
  rest = items_start (item_of c.args.refs c.args.depth (items_within c.args.refs (c.args.depth - 1))) (items_within c.args.refs c.args.depth c.args.reader.now) c.in_ok-first.first c.push.new.self c.args.reader.now c.item.new.reader (one_deeper c.args.refs c.args.depth c.args.reader.now (omega arith)) (c.in_ok-push.ensures.ok ∙ ap (λ x. x ++ c.in_ok-first.first ∷ []) c.new-found.ensures) c.in_ok-first.ensures.value;
  within = c.in_ok-first.ensures.within;
}

pub list_of_items-returns-in_err-next-clause-value : goal.list_of_items-returns-in_err-next-clause-value
list_of_items-returns-in_err-next-clause-value t c =
    let on : goes_on c.loop-alloc.reader ≡ true = search rules in
    let e = items_fail (item_of c.args.refs c.args.depth (items_within c.args.refs (c.args.depth - 1))) (items_within c.args.refs c.args.depth c.args.reader.now) c.loop-alloc.found c.loop-alloc.reader c.eat.new.self c.loop-alloc.invariant.rest on c.eat.ensures.after in
    first_of (search rules, grind (arith, common_steps))

pub list_of_items-loop-alloc-preserved : goal.list_of_items-loop-alloc-preserved
list_of_items-loop-alloc-preserved t c =
    let on : goes_on c.loop-alloc.reader ≡ true = search rules in
    let k : length c.item-in-loop-alloc.new.reader ≤ length c.eat.new.self = c.in_ok-next.ensures.within in
    let m = c.loop-alloc.invariant.within in
    let n = c.eat.ensures.within in
    record {
      rest = items_go (item_of c.args.refs c.args.depth (items_within c.args.refs (c.args.depth - 1))) (items_within c.args.refs c.args.depth c.args.reader.now) c.loop-alloc.found c.push-in-loop-alloc.new.self c.in_ok-next.next c.loop-alloc.reader c.eat.new.self c.item-in-loop-alloc.new.reader c.in_ok-push-2.ensures.ok c.loop-alloc.invariant.rest on c.eat.ensures.after c.in_ok-next.ensures.value c.in_ok-next.ensures.within;
      within = omega arith;
    }

pub list_of_items-returns-clause-value : goal.list_of_items-returns-clause-value
list_of_items-returns-clause-value t c =
    let off : goes_on c.loop-alloc.reader ≡ false = search rules in
    items_ended (item_of c.args.refs c.args.depth (items_within c.args.refs (c.args.depth - 1))) (items_within c.args.refs c.args.depth c.args.reader.now) c.loop-alloc.found c.loop-alloc.reader c.loop-alloc.invariant.rest off
