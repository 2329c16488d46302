use Rattle.std.proofs.Common.{subst}
use Rattle.usr_graph.specs.Names.{OnlyNames, loop_named}
use Rattle.sum_algebra.specs.Rules.{IsOver, AllRead, AllWritten}
use Rattle.usr_graph.proofs.Naming.{names_later, names_any}
use Rattle.sum_algebra.proofs.Loops.{over_loop_is}
use Rattle.sum_algebra.proofs.looped.repeat.Goals as goal

pub returns-clause-ok : goal.returns-clause-ok
returns-clause-ok c = over_loop_is c.args.graph.now c.all_read.new.graph c.all_written.new.graph c.written_first.new.graph c.add.new.self c.add-2.new.self c.args.index c.args.count c.args.body.now c.in_ok-read.read c.in_ok-written.written c.in_ok-wf.wf c.in_ok-ro.ro c.in_ok-rw.rw c.requires
    c.all_read.ensures.keeps (subst (λ n. IsOver c.args.graph.now c.args.index n (AllRead c.args.body.now c.args.index) c.all_read.new.graph c.in_ok-read.read) c.in_ok-of_reads.ensures c.in_ok-read.ensures.ok)
    c.all_written.ensures.keeps (subst (λ n. IsOver c.all_read.new.graph c.args.index n (AllWritten c.args.body.now c.args.index) c.all_written.new.graph c.in_ok-written.written) c.in_ok-of_writes.ensures c.in_ok-written.ensures.ok)
    c.written_first.ensures.keeps c.in_ok-wf.ensures.ok c.add.ensures.keeps c.in_ok-ro.ensures.added c.add-2.ensures.keeps c.in_ok-rw.ensures.added

pub returns-in_err-written-clause-names : goal.returns-in_err-written-clause-names
returns-in_err-written-clause-names c =
    let given = loop_named c.args.index c.args.count in
    let old = c.args.graph.now in
    let one = subst (λ n. OnlyNames (loop_named c.args.index n) old c.all_read.new.graph) c.in_ok-of_reads.ensures c.all_read.ensures.names in
    let two = subst (λ n. OnlyNames (loop_named c.args.index n) c.all_read.new.graph c.all_written.new.graph) c.in_ok-of_writes.ensures c.all_written.ensures.names in
    let both = names_later given old c.all_read.new.graph c.all_written.new.graph one two in
    both

pub returns-in_err-wf-clause-names : goal.returns-in_err-wf-clause-names
returns-in_err-wf-clause-names c =
    let given = loop_named c.args.index c.args.count in
    let old = c.args.graph.now in
    let one = subst (λ n. OnlyNames (loop_named c.args.index n) old c.all_read.new.graph) c.in_ok-of_reads.ensures c.all_read.ensures.names in
    let two = subst (λ n. OnlyNames (loop_named c.args.index n) c.all_read.new.graph c.all_written.new.graph) c.in_ok-of_writes.ensures c.all_written.ensures.names in
    let both = names_later given old c.all_read.new.graph c.all_written.new.graph one two in
    let three = names_later given old c.all_written.new.graph c.written_first.new.graph both c.written_first.ensures.names in
    three

pub returns-in_err-ro-clause-names : goal.returns-in_err-ro-clause-names
returns-in_err-ro-clause-names c =
    let given = loop_named c.args.index c.args.count in
    let old = c.args.graph.now in
    let one = subst (λ n. OnlyNames (loop_named c.args.index n) old c.all_read.new.graph) c.in_ok-of_reads.ensures c.all_read.ensures.names in
    let two = subst (λ n. OnlyNames (loop_named c.args.index n) c.all_read.new.graph c.all_written.new.graph) c.in_ok-of_writes.ensures c.all_written.ensures.names in
    let both = names_later given old c.all_read.new.graph c.all_written.new.graph one two in
    let three = names_later given old c.all_written.new.graph c.written_first.new.graph both c.written_first.ensures.names in
    let four = names_later given old c.written_first.new.graph c.add.new.self three (names_any given c.written_first.new.graph c.add.new.self c.add.ensures.names) in
    four

pub returns-in_err-rw-clause-names : goal.returns-in_err-rw-clause-names
returns-in_err-rw-clause-names c =
    let given = loop_named c.args.index c.args.count in
    let old = c.args.graph.now in
    let one = subst (λ n. OnlyNames (loop_named c.args.index n) old c.all_read.new.graph) c.in_ok-of_reads.ensures c.all_read.ensures.names in
    let two = subst (λ n. OnlyNames (loop_named c.args.index n) c.all_read.new.graph c.all_written.new.graph) c.in_ok-of_writes.ensures c.all_written.ensures.names in
    let both = names_later given old c.all_read.new.graph c.all_written.new.graph one two in
    let three = names_later given old c.all_written.new.graph c.written_first.new.graph both c.written_first.ensures.names in
    let four = names_later given old c.written_first.new.graph c.add.new.self three (names_any given c.written_first.new.graph c.add.new.self c.add.ensures.names) in
    names_later given old c.add.new.self c.add-2.new.self four (names_any given c.add.new.self c.add-2.new.self c.add-2.ensures.names)

pub returns-clause-names : goal.returns-clause-names
returns-clause-names c =
    let given = loop_named c.args.index c.args.count in
    let old = c.args.graph.now in
    let one = subst (λ n. OnlyNames (loop_named c.args.index n) old c.all_read.new.graph) c.in_ok-of_reads.ensures c.all_read.ensures.names in
    let two = subst (λ n. OnlyNames (loop_named c.args.index n) c.all_read.new.graph c.all_written.new.graph) c.in_ok-of_writes.ensures c.all_written.ensures.names in
    let both = names_later given old c.all_read.new.graph c.all_written.new.graph one two in
    let three = names_later given old c.all_written.new.graph c.written_first.new.graph both c.written_first.ensures.names in
    let four = names_later given old c.written_first.new.graph c.add.new.self three (names_any given c.written_first.new.graph c.add.new.self c.add.ensures.names) in
    names_later given old c.add.new.self c.add-2.new.self four (names_any given c.add.new.self c.add-2.new.self c.add-2.ensures.names)
