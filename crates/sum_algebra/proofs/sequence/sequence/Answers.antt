use Rattle.usr_graph.specs.Names.{nothing_named}
use Rattle.usr_graph.proofs.Naming.{names_later}
use Rattle.sum_algebra.proofs.sequence.sequence.Goals as goal

pub returns-in_err-wf-clause-names : goal.returns-in_err-wf-clause-names
returns-in_err-wf-clause-names c = names_later nothing_named c.args.graph.now c.read_only.new.graph c.written_first.new.graph c.read_only.ensures.names c.written_first.ensures.names

pub returns-in_err-rw-clause-names : goal.returns-in_err-rw-clause-names
returns-in_err-rw-clause-names c = names_later nothing_named c.args.graph.now c.written_first.new.graph c.read_then_written.new.graph (names_later nothing_named c.args.graph.now c.read_only.new.graph c.written_first.new.graph c.read_only.ensures.names c.written_first.ensures.names) c.read_then_written.ensures.names

pub returns-clause-names : goal.returns-clause-names
returns-clause-names c = names_later nothing_named c.args.graph.now c.written_first.new.graph c.read_then_written.new.graph (names_later nothing_named c.args.graph.now c.read_only.new.graph c.written_first.new.graph c.read_only.ensures.names c.written_first.ensures.names) c.read_then_written.ensures.names
