-- An access more.
use Rattle.std.proofs.Common.{Result, Ok, Err, OnOk}
use Rattle.f77_ast.specs.declared.step.Stepped.TheVariants.{Read, Wrote}
use Rattle.loop_trace.specs.Told.{HasRead, HasWritten, TellsMore}
use Rattle.loop_trace.proofs.Books.{told_read, told_write}
use Rattle.loop_trace.proofs.book.Book.touch.Goals as goal

on_ok : {T E : Type 0} (r : Result T E) (P Q : Type 0) → (P → Q) → OnOk r P → OnOk r Q
on_ok (Ok x) P Q f h = f h
on_ok (Err e) P Q f h = h

pub returns-in-Read-clause-ok : goal.returns-in-Read-clause-ok
returns-in-Read-clause-ok c =
    rw c.in-Read.is
    (on_ok c.read.result (HasRead c.in-Read.address c.in-Read.by c.args.self.now c.read.new.self) (TellsMore (Read c.in-Read.address c.in-Read.by) c.args.self.now c.read.new.self)
    (λ h layout ended current below told. told_read layout ended current c.in-Read.address c.in-Read.by c.args.self.now c.read.new.self below h told)
    c.read.ensures.ok)

pub returns-in-Wrote-clause-ok : goal.returns-in-Wrote-clause-ok
returns-in-Wrote-clause-ok c =
    rw c.in-Wrote.is
    (on_ok c.write.result (HasWritten c.in-Wrote.address c.in-Wrote.by c.args.self.now c.write.new.self) (TellsMore (Wrote c.in-Wrote.address c.in-Wrote.by c.in-Wrote.control) c.args.self.now c.write.new.self)
    (λ h layout ended current below told. told_write layout ended current c.in-Wrote.address c.in-Wrote.by c.args.self.now c.write.new.self below h told)
    c.write.ensures.ok)
