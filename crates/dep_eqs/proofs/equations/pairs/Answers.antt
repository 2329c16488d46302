use Rattle.std.proofs.lemmas.Result.{IfOk-weaker}
use Rattle.dep_eqs.proofs.Pairs.{pairs_are}
use Rattle.dep_eqs.proofs.equations.pairs.Goals as goal

pub returns-clause-ok : goal.returns-clause-ok
returns-clause-ok c = IfOk-weaker c.add-5.result _ _
    (λ id h. pairs_are c.args.graph.now c.add.new.self c.add-2.new.self c.add-3.new.self c.add-4.new.self c.add-5.new.self c.args.index c.args.count c.args.earlier c.args.later c.in_ok-at_later.at_later c.in_ok-at_earlier.at_earlier c.in_ok-before.before c.in_ok-both.both id
    c.requires.earlier_0 c.requires.earlier_1 c.add.ensures.keeps c.in_ok-at_later.ensures.added c.add-2.ensures.keeps c.in_ok-at_earlier.ensures.added c.add-3.ensures.keeps c.in_ok-before.ensures.added c.in_ok-both.ensures.added h) c.add-5.ensures.added
