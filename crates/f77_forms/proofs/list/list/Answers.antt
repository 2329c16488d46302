use Rattle.std.proofs.Common.{rules, arith, ◌≡◌, ◌≤◌, ◌++◌, [], ◌∷◌, length, ap, ◌∙◌, true, false}
use Rattle.std.proofs.lemmas.Grind.{common_steps}
use Rattle.f77_exprs.specs.Reading.{sees}
use Rattle.f77_forms.specs.Form.{list_of}
use Rattle.f77_forms.proofs.Turns.{list_starts, list_ended, list_fails, list_goes}
use Rattle.f77_forms.proofs.list.list.Goals as goal

pub loop-alloc-init : goal.loop-alloc-init
loop-alloc-init g c = record {
  rest = list_starts (g.P.Production.reading c.args.depth) c.in_ok-first.first c.push.new.self c.args.reader.now c.read.new.reader (c.in_ok-push.ensures.ok ∙ ap (λ x. x ++ c.in_ok-first.first ∷ []) c.new-found.ensures) c.in_ok-first.ensures.value;
  within = c.in_ok-first.ensures.within;
}

pub returns-in_err-next-clause-value : goal.returns-in_err-next-clause-value
returns-in_err-next-clause-value g c =
    let comma : sees 44 c.loop-alloc.reader ≡ true = search rules in
    let e = list_fails (g.P.Production.reading c.args.depth) (list_of (g.P.Production.reading c.args.depth) c.args.reader.now) c.loop-alloc.found c.loop-alloc.reader c.eat.new.self c.loop-alloc.invariant.rest comma c.eat.ensures.after in
    first_of (search rules, grind (arith, common_steps))

pub loop-alloc-preserved : goal.loop-alloc-preserved
loop-alloc-preserved g c =
    let comma : sees 44 c.loop-alloc.reader ≡ true = search rules in
    let k : length c.read-in-loop-alloc.new.reader ≤ length c.eat.new.self = c.in_ok-next.ensures.within in
    let m = c.loop-alloc.invariant.within in
    let n = c.eat.ensures.within in
    record {
      rest = list_goes (g.P.Production.reading c.args.depth) (list_of (g.P.Production.reading c.args.depth) c.args.reader.now) c.loop-alloc.found c.push-in-loop-alloc.new.self c.in_ok-next.next c.loop-alloc.reader c.eat.new.self c.read-in-loop-alloc.new.reader c.in_ok-push-2.ensures.ok c.loop-alloc.invariant.rest comma c.eat.ensures.after c.in_ok-next.ensures.value c.in_ok-next.ensures.within;
      within = omega arith;
    }

pub returns-clause-value : goal.returns-clause-value
returns-clause-value g c =
    let comma : sees 44 c.loop-alloc.reader ≡ false = search rules in
    list_ended (g.P.Production.reading c.args.depth) (list_of (g.P.Production.reading c.args.depth) c.args.reader.now) c.loop-alloc.found c.loop-alloc.reader c.eat.new.self c.loop-alloc.invariant.rest comma c.eat.ensures.after
