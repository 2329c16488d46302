use Rattle.std.proofs.Common.{◌≡◌, ℤ, ap, ◌∙◌, FitsSigned, w64, to_z, of_z, to_z-of_z, rules, if◌then◌else◌, ◌==◌}
use Rattle.interleaving.specs.Region.{own_after, store_after}
use Rattle.region_run.specs.Machine.{store_of_cells}
use Rattle.interleaving.specs.Machine.{reads, writes}
use Rattle.region_run.proofs.Arms.{was_reads, was_writes, read_case, write_case}
use Rattle.region_run.proofs.live.Live.step.Goals as goal

pub returns-in-Reads-clause-next : goal.returns-in-Reads-clause-next
returns-in-Reads-clause-next g c =
    let event = g.P.Asks.event c.args.program.now in
    let p = g.P.Asks.meant c.args.self.now.process in
    let e : event p ≡ reads c.in-Reads.address c.in-Reads.by = was_reads (g.P.Asks.fault c.args.program.now p) (event p) c.in-Reads.address c.in-Reads.by c.in-Reads.ensures.asked in
    read_case event (g.P.Asks.resumed c.args.program.now) (g.P.Asks.done c.args.program.now) (g.R.Rows.modes c.args.rows.now) c.args.variable p (g.P.Asks.meant c.ask-asked.new.self) (g.P.Asks.meant c.read.new.self.process)
    c.args.self.now.value c.read.new.self.value (g.R.Rows.own c.args.rows.now c.args.self.now.row) (g.R.Rows.own c.read.new.rows c.read.new.self.row) c.args.self.now.finished c.read.new.self.finished (g.C.Cells.values c.args.cells.now) (g.C.Cells.values c.read.new.cells) c.in-Reads.address c.in-Reads.by e
    c.ask-asked.ensures.same c.read.ensures.process c.read.ensures.same_value (ap (λ r. g.R.Rows.own r c.read.new.self.row) c.read.ensures.same_rows ∙ ap (g.R.Rows.own c.args.rows.now) c.read.ensures.same_row) c.read.ensures.same_finished c.read.ensures.same_store

pub returns-in-Writes-clause-next : goal.returns-in-Writes-clause-next
returns-in-Writes-clause-next g c =
    let event = g.P.Asks.event c.args.program.now in
    let p = g.P.Asks.meant c.args.self.now.process in
    let e : event p ≡ writes c.in-Writes.address c.in-Writes.value c.in-Writes.by = was_writes (g.P.Asks.fault c.args.program.now p) (event p) c.in-Writes.address c.in-Writes.value c.in-Writes.by c.in-Writes.ensures.asked in
    let v = c.in-Writes.value in
    let f : FitsSigned w64 v = search rules in
    let is : to_z w64 (of_z w64 v) ≡ v = to_z-of_z f in
    let modes = g.R.Rows.modes c.args.rows.now in
    write_case event (g.P.Asks.resumed c.args.program.now) (g.P.Asks.done c.args.program.now) (g.R.Rows.modes c.args.rows.now) c.args.variable p (g.P.Asks.meant c.ask-asked.new.self) (g.P.Asks.meant c.write.new.self.process)
    c.args.self.now.value c.write.new.self.value c.in-Writes.value (g.R.Rows.own c.args.rows.now c.args.self.now.row) (g.R.Rows.own c.write.new.rows c.write.new.self.row) c.args.self.now.finished c.write.new.self.finished (g.C.Cells.values c.args.cells.now) (g.C.Cells.values c.write.new.cells) c.in-Writes.address c.in-Writes.by e
    c.ask-asked.ensures.same c.write.ensures.process (c.write.ensures.value ∙ ap (λ (x : ℤ). if c.args.variable == c.in-Writes.address then x else c.args.self.now.value) is)
    (ap (g.R.Rows.own c.write.new.rows) c.write.ensures.same_row ∙ c.write.ensures.own ∙ ap (λ (x : ℤ). if c.args.variable == c.in-Writes.address then g.R.Rows.own c.args.rows.now c.args.self.now.row else own_after (modes c.in-Writes.address) (g.R.Rows.own c.args.rows.now c.args.self.now.row) c.in-Writes.address x) is)
    c.write.ensures.same_finished
    (c.write.ensures.store ∙ ap (λ (x : ℤ). if c.args.variable == c.in-Writes.address then store_of_cells (g.C.Cells.values c.args.cells.now) else store_after (modes c.in-Writes.address) (store_of_cells (g.C.Cells.values c.args.cells.now)) c.in-Writes.address x) is)
