use Rattle.std.proofs.Common.{rules, arith, ◌≡◌, ◌≤◌, ◌<◌, [], length, ◌∙◌, true, false}
use Rattle.std.proofs.lemmas.Grind.{common_steps}
use Rattle.f77_exprs.specs.Reading.{is_empty}
use Rattle.f77_forms.specs.Form.{many_of}
use Rattle.f77_forms.proofs.Turns.{many_ended, many_spent, many_fails, many_goes}
use Rattle.f77_forms.proofs.list.many.Goals as goal

pub returns-then-is_empty-clause-value : goal.returns-then-is_empty-clause-value
returns-then-is_empty-clause-value g c =
    let empty : is_empty c.loop-turn.reader ≡ true = search rules in
    c.loop-turn.invariant.rest ∙ many_ended (g.P.Production.reading c.args.depth) _ c.loop-turn.found c.loop-turn.reader empty

pub returns-in_err-next-clause-value : goal.returns-in_err-next-clause-value
returns-in_err-next-clause-value g c =
    let some : is_empty c.loop-turn.reader ≡ false = search rules in
    let turn : c.loop-turn._turn < length c.args.reader.now = search (rules, arith) in
    let e = many_fails (g.P.Production.reading c.args.depth) (many_of (g.P.Production.reading c.args.depth) (length c.args.reader.now) [] c.args.reader.now) (length c.args.reader.now) c.loop-turn._turn c.loop-turn.found c.loop-turn.reader c.loop-turn.invariant.rest turn some in
    first_of (search rules, grind (arith, common_steps))

pub loop-turn-preserved : goal.loop-turn-preserved
loop-turn-preserved g c =
    let some : is_empty c.loop-turn.reader ≡ false = search rules in
    let turn : c.loop-turn._turn < length c.args.reader.now = search (rules, arith) in
    let k = c.loop-turn.invariant.within in
    let m = c.in_ok-next.ensures.within in
    record {
      rest = many_goes (g.P.Production.reading c.args.depth) (many_of (g.P.Production.reading c.args.depth) (length c.args.reader.now) [] c.args.reader.now) (length c.args.reader.now) c.loop-turn._turn c.loop-turn.found c.push.new.self c.in_ok-next.next c.loop-turn.reader c.read.new.reader c.in_ok-push.ensures.ok c.loop-turn.invariant.rest turn some c.in_ok-next.ensures.value;
      within = omega arith;
    }

pub returns-clause-value : goal.returns-clause-value
returns-clause-value g c =
    let spent : length c.args.reader.now ≤ c.loop-turn._turn = search (rules, arith) in
    many_spent (g.P.Production.reading c.args.depth) (many_of (g.P.Production.reading c.args.depth) (length c.args.reader.now) [] c.args.reader.now) (length c.args.reader.now) c.loop-turn._turn c.loop-turn.found c.loop-turn.reader c.loop-turn.invariant.rest spent
