use Rattle.std.proofs.Common.{subst}
use Rattle.usr_graph.specs.Names.{OnlyNames, loop_named}
use Rattle.usr_graph.proofs.Naming.{names_later}
use Rattle.dep_eqs.specs.Equations.{IsPairs}
use Rattle.dep_eqs.proofs.Pairs.{equations_are}
use Rattle.dep_eqs.proofs.equations.all_pairs.Goals as goal

pub returns-clause-ok : goal.returns-clause-ok
returns-clause-ok c =
    let t = c.args.triple.now in
    equations_are c.args.graph.now c.pairs.new.graph c.pairs-2.new.graph c.pairs-3.new.graph c.args.index c.args.count t c.in_ok-flow.flow c.in_ok-anti.anti c.in_ok-output.output c.requires
    c.pairs.ensures.keeps (subst (λ n. IsPairs c.args.graph.now c.args.index n (t.wf, t.rw) (t.ro, t.rw) c.pairs.new.graph c.in_ok-flow.flow) c.in_ok-of_flow.ensures c.in_ok-flow.ensures.ok)
    c.pairs-2.ensures.keeps (subst (λ n. IsPairs c.pairs.new.graph c.args.index n (t.ro, t.rw) (t.wf, t.rw) c.pairs-2.new.graph c.in_ok-anti.anti) c.in_ok-of_anti.ensures c.in_ok-anti.ensures.ok)
    c.pairs-3.ensures.keeps c.in_ok-output.ensures.ok

pub returns-in_err-anti-clause-names : goal.returns-in_err-anti-clause-names
returns-in_err-anti-clause-names c =
    let given = loop_named c.args.index c.args.count in
    let old = c.args.graph.now in
    let one = subst (λ n. OnlyNames (loop_named c.args.index n) old c.pairs.new.graph) c.in_ok-of_flow.ensures c.pairs.ensures.names in
    let two = subst (λ n. OnlyNames (loop_named c.args.index n) c.pairs.new.graph c.pairs-2.new.graph) c.in_ok-of_anti.ensures c.pairs-2.ensures.names in
    let both = names_later given old c.pairs.new.graph c.pairs-2.new.graph one two in
    both

pub returns-in_err-output-clause-names : goal.returns-in_err-output-clause-names
returns-in_err-output-clause-names c =
    let given = loop_named c.args.index c.args.count in
    let old = c.args.graph.now in
    let one = subst (λ n. OnlyNames (loop_named c.args.index n) old c.pairs.new.graph) c.in_ok-of_flow.ensures c.pairs.ensures.names in
    let two = subst (λ n. OnlyNames (loop_named c.args.index n) c.pairs.new.graph c.pairs-2.new.graph) c.in_ok-of_anti.ensures c.pairs-2.ensures.names in
    let both = names_later given old c.pairs.new.graph c.pairs-2.new.graph one two in
    names_later given old c.pairs-2.new.graph c.pairs-3.new.graph both c.pairs-3.ensures.names

pub returns-clause-names : goal.returns-clause-names
returns-clause-names c =
    let given = loop_named c.args.index c.args.count in
    let old = c.args.graph.now in
    let one = subst (λ n. OnlyNames (loop_named c.args.index n) old c.pairs.new.graph) c.in_ok-of_flow.ensures c.pairs.ensures.names in
    let two = subst (λ n. OnlyNames (loop_named c.args.index n) c.pairs.new.graph c.pairs-2.new.graph) c.in_ok-of_anti.ensures c.pairs-2.ensures.names in
    let both = names_later given old c.pairs.new.graph c.pairs-2.new.graph one two in
    names_later given old c.pairs-2.new.graph c.pairs-3.new.graph both c.pairs-3.ensures.names
