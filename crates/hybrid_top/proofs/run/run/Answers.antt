use Rattle.std.proofs.Common.{◌≡◌, arith}
use Rattle.f77_io.specs.Line.{text_of}
use Rattle.f77_machine.specs.Store.{values_of}
use Rattle.f77_meaning.specs.Run as run
use Rattle.hybrid_top.proofs.RunLemmas.{came_printed, came_cut, came_ended, came_faulted, came_on}
use Rattle.hybrid_top.proofs.ShowLemmas.{shows_stopped}
use Rattle.hybrid_top.proofs.run.run.Goals as goal

pub loop-left-preserved-in-Ok : goal.loop-left-preserved-in-Ok
loop-left-preserved-in-Ok g c = record {
  sound = c.loop-left.invariant.sound;
  is_of = rw c.clear.ensures (c.in-Printed.ensures.is_of);
  fits = c.step.ensures.fits;
  rest = λ s new t.
      let took = rw (c.text.ensures, c.finish.ensures) at c.in-Ok.ensures.ok in
      c.loop-left.invariant.rest _ _
      (came_printed c.args.machine.program
      (record { process = c.loop-left.process; text = text_of c.loop-left.line; store = c.loop-left.store; input = c.loop-left.input })
      (record { process = c.step.new.self; text = text_of c.step.new.line; store = c.step.new.cells; input = c.step.new.input })
      c.loop-left.left _ _ _ _ c.loop-left-test.true c.in-Printed.ensures.next took (rw c.clear.ensures at t));
}

pub returns-in-Err : goal.returns-in-Err
returns-in-Err g c =
    let cut = rw (c.text.ensures, c.finish.ensures) at c.in-Err.ensures.failed in
    c.loop-left.invariant.rest _ _
    (came_cut c.args.machine.program
    (record { process = c.loop-left.process; text = text_of c.loop-left.line; store = c.loop-left.store; input = c.loop-left.input })
    (record { process = c.step.new.self; text = text_of c.step.new.line; store = c.step.new.cells; input = c.step.new.input })
    c.loop-left.left _ _ c.loop-left-test.true c.in-Printed.ensures.next cut)

pub returns-in-Ended : goal.returns-in-Ended
returns-in-Ended g c =
    c.loop-left.invariant.rest _ _
    (came_ended c.args.machine.program
    (record { process = c.loop-left.process; text = text_of c.loop-left.line; store = c.loop-left.store; input = c.loop-left.input })
    (record { process = c.step.new.self; text = text_of c.step.new.line; store = c.step.new.cells; input = c.step.new.input })
    c.loop-left.left _ c.loop-left-test.true c.in-Ended.ensures.next)

pub returns-in-Faulted : goal.returns-in-Faulted
returns-in-Faulted g c =
    c.loop-left.invariant.rest _ _
    (came_faulted c.args.machine.program
    (record { process = c.loop-left.process; text = text_of c.loop-left.line; store = c.loop-left.store; input = c.loop-left.input })
    (record { process = c.step.new.self; text = text_of c.step.new.line; store = c.step.new.cells; input = c.step.new.input })
    c.in-Faulted.fault c.line-at.result c.loop-left.left _ c.loop-left-test.true (c.line-at.ensures c.args.machine.program (text_of c.loop-left.line) c.loop-left.invariant.is_of) c.in-Faulted.ensures.next)

pub loop-left-preserved-in-Read : goal.loop-left-preserved-in-Read
loop-left-preserved-in-Read g c = record {
  sound = c.loop-left.invariant.sound;
  is_of = c.in-Read.ensures.is_of;
  fits = c.step.ensures.fits;
  rest = λ s new t. c.loop-left.invariant.rest _ _
      (came_on c.args.machine.program
      (record { process = c.loop-left.process; text = text_of c.loop-left.line; store = c.loop-left.store; input = c.loop-left.input })
      (record { process = c.step.new.self; text = text_of c.step.new.line; store = c.step.new.cells; input = c.step.new.input })
      _ c.loop-left.left _ _ _ c.loop-left-test.true tt c.in-Read.ensures.next t);
}

pub loop-left-preserved-in-Wrote : goal.loop-left-preserved-in-Wrote
loop-left-preserved-in-Wrote g c = record {
  sound = c.loop-left.invariant.sound;
  is_of = c.in-Wrote.ensures.is_of;
  fits = c.step.ensures.fits;
  rest = λ s new t. c.loop-left.invariant.rest _ _
      (came_on c.args.machine.program
      (record { process = c.loop-left.process; text = text_of c.loop-left.line; store = c.loop-left.store; input = c.loop-left.input })
      (record { process = c.step.new.self; text = text_of c.step.new.line; store = c.step.new.cells; input = c.step.new.input })
      _ c.loop-left.left _ _ _ c.loop-left-test.true tt c.in-Wrote.ensures.next t);
}

pub loop-left-preserved : goal.loop-left-preserved
loop-left-preserved g c = record {
  sound = c.loop-left.invariant.sound;
  is_of = c.in-Inner.ensures.is_of;
  fits = c.step.ensures.fits;
  rest = λ s new t. c.loop-left.invariant.rest _ _
      (came_on c.args.machine.program
      (record { process = c.loop-left.process; text = text_of c.loop-left.line; store = c.loop-left.store; input = c.loop-left.input })
      (record { process = c.step.new.self; text = text_of c.step.new.line; store = c.step.new.cells; input = c.step.new.input })
      _ c.loop-left.left _ _ _ c.loop-left-test.true tt c.in-Inner.ensures.next t);
}

pub returns : goal.returns
returns g c =
    let none : c.loop-left.left ≡ 0 = omega arith in
    c.loop-left.invariant.rest _ _ (rw none (shows_stopped (values_of c.loop-left.store) 0 run.Spent _))
