use Rattle.std.proofs.Common.{rules, arith, ◌≡◌, ◌≤◌, [], true, false, length}
use Rattle.f77_exprs.specs.Reading.{characters, sees}
use Rattle.f77_exprs.proofs.Constants.{closes, goes_twice, goes_on, never}
use Rattle.f77_exprs.proofs.operand.characters.Goals as goal
use Rattle.f77_exprs.proofs.operand.characters.Goals.{else-byte-eq39-via-then-byte-eq39+else-not-eat, else-byte-eq39-via-else-byte-eq39}

pub returns-then-not-eat-clause-value : goal.returns-then-not-eat-clause-value
returns-then-not-eat-clause-value c =
    let no_more : sees 39 c.next_byte.new.self ≡ false = search rules in
    closes (characters [] c.args.reader.now) c.in-Some.byte c.loop-byte.found c.loop-byte.reader c.next_byte.new.self c.eat.new.self c.loop-byte.invariant.rest c.in-Some.ensures c.if-byte-eq39.true no_more c.eat.ensures.after

pub loop-byte-preserved : goal.loop-byte-preserved
loop-byte-preserved c =
    let shorter : length c.next_byte.new.self ≤ length c.loop-byte.reader = search (rules, arith) in
    let before = c.loop-byte.invariant.within in
    elim c.else-byte-eq39.branch [
      | else-byte-eq39-via-then-byte-eq39+else-not-eat w ↦
          let two : sees 39 c.next_byte.new.self ≡ true = search rules in
          let within = w.eat.ensures.within in
          record {
            rest = rw w.reader-is (goes_twice (characters [] c.args.reader.now) c.in-Some.byte c.loop-byte.found c.push.new.self c.loop-byte.reader c.next_byte.new.self w.eat.new.self c.loop-byte.invariant.rest c.in-Some.ensures w.if-byte-eq39.true two w.eat.ensures.after c.in_ok-push.ensures.ok);
            within = rw w.reader-is (omega arith);
          }
      | else-byte-eq39-via-else-byte-eq39 w ↦
          record {
            rest = rw w.reader-is (goes_on (characters [] c.args.reader.now) c.in-Some.byte c.loop-byte.found c.push.new.self c.loop-byte.reader c.next_byte.new.self c.loop-byte.invariant.rest c.in-Some.ensures w.if-byte-eq39.false c.in_ok-push.ensures.ok);
            within = rw w.reader-is (omega arith);
          }
    ]

pub returns-clause-value : goal.returns-clause-value
returns-clause-value c _ = never (characters [] c.args.reader.now) c.loop-byte.found c.loop-byte.reader c.loop-byte.invariant.rest c.in_default.ensures.0
