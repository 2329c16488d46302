use Rattle.std.proofs.Common.{◌||◌, get_or, refl}
use Rattle.f77_kinds.specs.Letters.{is_among, has_again}
use Rattle.f77_kinds.specs.Named.{is_named}
use Rattle.f77_kinds.proofs.LetterLemmas.{again_turn, among_turn}
use Rattle.f77_kinds.proofs.letters.Named.note_all.Goals as goal

pub loop-letter-preserved : goal.loop-letter-preserved
loop-letter-preserved c =
    let letters = c.args.letters.now in
    let i = c.loop-letter.letter-index in
    let letter = get_or letters i 0 in
    let kept = c.loop-letter.invariant in
    record {
      again = again_turn (is_named c.loop-letter.self) (is_named c.note.new.self) letters i letter c.loop-letter.again c.in_ok-named.named c.or-again.result (has_again (is_named c.args.self.now) letters) c.loop-letter-test.true refl c.or-again.ensures c.in_ok-named.ensures.again c.in_ok-named.ensures.noted kept.again;
      noted = λ other. among_turn letters i letter other (is_named c.loop-letter.self other) (is_named c.note.new.self other) (is_named c.args.self.now other || is_among letters other) c.loop-letter-test.true refl (c.in_ok-named.ensures.noted other) (kept.noted other);
    }
