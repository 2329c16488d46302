use Rattle.std.proofs.Common.{◌+◌, ◌++◌, ◌-◌}
use Rattle.f77_kinds.specs.Letters.{letters_from}
use Rattle.f77_kinds.proofs.LetterLemmas.{range_turn}
use Rattle.f77_kinds.proofs.letters.add_range.Goals as goal

pub loop-letter-preserved : goal.loop-letter-preserved
loop-letter-preserved c =
    let first = c.from-first.result in
    let past = c.from-past.result + 1 in
    range_turn c.loop-letter.into c.push.new.self (c.args.into.now ++ letters_from first (past - first)) c.loop-letter.letter past c.loop-letter-test.true c.in_ok-push.ensures.ok c.loop-letter.invariant
