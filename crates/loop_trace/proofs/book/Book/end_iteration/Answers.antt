-- The end of an iteration.
use Rattle.std.proofs.Common.{refl, arith}
use Rattle.loop_trace.proofs.Books.{told_end}
use Rattle.loop_trace.proofs.book.Book.end_iteration.Goals as goal

pub returns-clause-ok : goal.returns-clause-ok
returns-clause-ok c = λ layout ended current few told. told_end layout ended current c.args.self.now _ refl refl (λ q. refl) (omega (arith, c.saturating_add-self.ensures, told.iteration, few)) told
