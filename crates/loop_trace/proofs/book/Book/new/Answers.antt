-- A book that was told nothing.
use Rattle.std.proofs.Common.{refl}
use Rattle.loop_trace.proofs.Books.{told_nothing}
use Rattle.loop_trace.proofs.book.Book.new.Goals as goal

pub returns : goal.returns
returns c = λ laid. told_nothing c.args.layout.now _ (rw (← c.as_slice.ensures) c.in_ok-starts_of.ensures) (rw (← c.as_slice-2.ensures) c.in_ok-unused_marks.ensures) (λ q. rw c.new.ensures.empty refl) refl laid
