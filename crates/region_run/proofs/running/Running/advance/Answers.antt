use Rattle.std.proofs.Common.{rules, arith, ap, ◌∙◌, add-one, ◌≡◌, ◌<◌, ◌+◌, ◌%◌, length, get_or, refl, None}
use Rattle.interleaving.specs.Picks.{index_at}
use Rattle.region_run.specs.declared.running.Advanced.TheVariants.{Ran, Faulted}
use Rattle.interleaving.specs.Region.{fresh}
use Rattle.region_run.specs.Running.{region_of, live_of}
use Rattle.region_run.proofs.Advances.{advanced_ran, advanced_faulted, answer_ran, answer_faulted}
use Rattle.region_run.proofs.PickedSteps.{found}
use Rattle.region_run.proofs.running.Running.advance.Goals as goal

pub returns-in-Faults-clause-next : goal.returns-in-Faults-clause-next
returns-in-Faults-clause-next g c =
    let counted : c.len.result ≡ length c.args.self.now.unfinished.items = search rules in
    advanced_faulted (g.P.Asks.is_of c.args.program.now) g.P.Asks.meant (g.P.Asks.start c.args.program.now) (g.R.Rows.modes c.args.self.now.rows) g.R.Rows.count g.R.Rows.own (g.P.Asks.event c.args.program.now) (g.P.Asks.resumed c.args.program.now) (g.P.Asks.done c.args.program.now)
    c.args.self.now c.args.pick c.len.result (g.C.Cells.values c.args.cells.now) c.requires.running.together counted c.in-Faults.ensures.next

pub returns-clause-next : goal.returns-clause-next
returns-clause-next g c =
    let counted : c.len.result ≡ length c.args.self.now.unfinished.items = search rules in
    advanced_ran (g.P.Asks.is_of c.args.program.now) g.P.Asks.meant (g.P.Asks.start c.args.program.now) (g.R.Rows.modes c.args.self.now.rows) g.R.Rows.count g.R.Rows.own (g.P.Asks.event c.args.program.now) (g.P.Asks.resumed c.args.program.now) (g.P.Asks.done c.args.program.now)
    c.args.self.now c.step_picked-asked.new.self c.args.pick c.len.result (g.C.Cells.values c.args.cells.now) (g.C.Cells.values c.step_picked-asked.new.cells) c.step_picked-asked.result (g.R.Rows.modes c.step_picked-asked.new.self.rows)
    (region_of g.P.Asks.meant (g.P.Asks.start c.args.program.now) g.R.Rows.own c.settle.new.self (g.C.Cells.values c.settle.new.cells))
    c.requires.running.together counted c.step_picked-asked.ensures.same.same_modes c.step_picked-asked.ensures.same_committed c.in_default.not-Faults c.step_picked-asked.ensures.next c.settle.ensures.settled

pub overflow_add-iteration : goal.overflow_add-iteration
overflow_add-iteration g c =
    let counted : c.len.result ≡ length c.args.self.now.unfinished.items = search rules in
    let within : c.args.pick % c.len.result < length c.args.self.now.unfinished.items = search rules in
    let f = found (g.P.Asks.is_of c.args.program.now) g.P.Asks.meant (g.P.Asks.start c.args.program.now) (g.R.Rows.modes c.args.self.now.rows) g.R.Rows.count g.R.Rows.own c.args.self.now (c.args.pick % c.len.result) c.index.result.now c.requires.running.together within c.index.ensures in
    let e = f.is in
    let b = f.below in
    let k = c.requires.running.together.begun in
    let l = c.requires.running.together.numbers in
    omega (arith, e, b, k, l)

pub returns-in-Faults-clause-answer : goal.returns-in-Faults-clause-answer
returns-in-Faults-clause-answer g c =
    let counted : c.len.result ≡ length c.args.self.now.unfinished.items = search rules in
    let some : 0 < c.len.result = search rules in
    let d = fresh (record { process = g.P.Asks.meant c.args.self.now.entry; value = λ a. None }) in
    let number : c.index.result.now ≡ c.args.self.now.committed + index_at (c.args.pick % c.len.result) (live_of g.P.Asks.meant g.R.Rows.own c.args.self.now) = c.in-Faults.ensures.number c.index.result.now c.index.ensures in
    ap (λ n. Faulted n c.in-Faults.fault c.line_at-line.result) (add-one c.index.result.now)
    ∙ answer_faulted (g.P.Asks.is_of c.args.program.now) g.P.Asks.meant (g.P.Asks.start c.args.program.now) (g.R.Rows.modes c.args.self.now.rows) g.R.Rows.count g.R.Rows.own (g.P.Asks.event c.args.program.now) (g.P.Asks.resumed c.args.program.now) (g.P.Asks.done c.args.program.now) (g.P.Asks.fault c.args.program.now) g.P.Asks.line_of
    c.args.self.now c.args.pick c.len.result c.index.result.now c.line_at-line.result (g.C.Cells.values c.args.cells.now) c.in-Faults.fault d c.requires.running.together counted some number
    (c.line_at-line.ensures d ∙ ap (λ its. g.P.Asks.line_of (get_or its (index_at (c.args.pick % c.len.result) its) d).process.process) (c.in-Faults.ensures.stays refl).0)
    (c.in-Faults.ensures.asked d)

pub returns-clause-answer : goal.returns-clause-answer
returns-clause-answer g c =
    let counted : c.len.result ≡ length c.args.self.now.unfinished.items = search rules in
    let some : 0 < c.len.result = search rules in
    let d = fresh (record { process = g.P.Asks.meant c.args.self.now.entry; value = λ a. None }) in
    let number : c.index.result.now ≡ c.args.self.now.committed + index_at (c.args.pick % c.len.result) (live_of g.P.Asks.meant g.R.Rows.own c.args.self.now) = c.step_picked-asked.ensures.number c.index.result.now c.index.ensures in
    ap (λ n. Ran n c.step_picked-asked.result) (add-one c.index.result.now)
    ∙ answer_ran (g.P.Asks.is_of c.args.program.now) g.P.Asks.meant (g.P.Asks.start c.args.program.now) (g.R.Rows.modes c.args.self.now.rows) g.R.Rows.count g.R.Rows.own (g.P.Asks.event c.args.program.now) (g.P.Asks.resumed c.args.program.now) (g.P.Asks.done c.args.program.now) (g.P.Asks.fault c.args.program.now) g.P.Asks.line_of
    c.args.self.now c.args.pick c.len.result c.index.result.now (g.C.Cells.values c.args.cells.now) c.step_picked-asked.result d c.requires.running.together counted some number c.in_default.not-Faults
    (c.step_picked-asked.ensures.asked d)
