use Rattle.std.proofs.Common.{◌≡◌, [], ap, ◌∙◌, length, arith}
use Rattle.std.proofs.lemmas.List.{nil_from_length}
use Rattle.std.specs.Vec.Iter.{into_iter_items}
use Rattle.f77_leaves.specs.Declarations.{known_from}
use Rattle.f77_uses.specs.Breaks.{has_second}
use Rattle.f77_uses.specs.Tables.{known_in}
use Rattle.f77_uses.proofs.KnownLemmas.{second_turn, second_end, known_turn, known_end}
use Rattle.f77_uses.proofs.known_names.KnownNames.note_all.Goals as goal

pub loop-declared-init : goal.loop-declared-init
loop-declared-init c =
    let given = c.into_iter-declared-iterator.ensures.into_iter_gives in
    let items : into_iter_items c.into_iter-declared-iterator.result ≡ c.args.facts = given.0 ∙ c.into_vec-declared-items.ensures in
    record {
      counted = omega (arith, given.1, c.into_vec-declared-items.result.ok.0, ap length given.0);
      again = ap (has_second (known_in c.args.self.now)) items;
      noted = λ other. ap (known_from other (known_in c.args.self.now other)) items;
    }

pub loop-declared-preserved : goal.loop-declared-preserved
loop-declared-preserved c =
    let taken = c.in-Some.ensures.steps in
    let left = into_iter_items c.next.new.self in
    let kept = c.loop-declared.invariant in
    record {
      counted = omega (arith, taken.1, ap length taken.0, kept.counted);
      again = second_turn (known_in c.loop-declared.self) (known_in c.note.new.self) c.in-Some.declared (into_iter_items c.loop-declared.declared-iterator) left c.loop-declared.again c.in_ok-second.second c.either-again.result (has_second (known_in c.args.self.now) c.args.facts) taken.0 c.either-again.ensures c.in_ok-second.ensures.again c.in_ok-second.ensures.noted kept.again;
      noted = λ other. known_turn other (known_in c.loop-declared.self other) (known_in c.note.new.self other) (known_from other (known_in c.args.self.now other) c.args.facts) c.in-Some.declared (into_iter_items c.loop-declared.declared-iterator) left taken.0 (c.in_ok-second.ensures.noted other) (kept.noted other);
    }

pub returns-clause-again : goal.returns-clause-again
returns-clause-again c =
    let ended = c.in-None.ensures.steps in
    let items = into_iter_items c.loop-declared.declared-iterator in
    let none : items ≡ [] = nil_from_length items (omega (arith, ended.0, c.loop-declared.invariant.counted)) in
    second_end (known_in c.loop-declared.self) items c.loop-declared.again (has_second (known_in c.args.self.now) c.args.facts) none c.loop-declared.invariant.again

pub returns-clause-noted : goal.returns-clause-noted
returns-clause-noted c =
    let ended = c.in-None.ensures.steps in
    let items = into_iter_items c.loop-declared.declared-iterator in
    let none : items ≡ [] = nil_from_length items (omega (arith, ended.0, c.loop-declared.invariant.counted)) in
    λ other. known_end other (known_in c.loop-declared.self other) (known_from other (known_in c.args.self.now other) c.args.facts) items none (c.loop-declared.invariant.noted other)
