use Rattle.std.proofs.Common.{subst}
use Rattle.usr_graph.specs.Names.{OnlyNames, cond_named}
use Rattle.usr_graph.proofs.Naming.{names_later}
use Rattle.sum_algebra.proofs.gate.gates.Goals as goal

pub returns-in_err-ro-clause-names : goal.returns-in_err-ro-clause-names
returns-in_err-ro-clause-names c =
    let given = cond_named c.args.cond in
    let one = subst (λ k. OnlyNames (cond_named k) c.args.graph.now c.gate.new.graph) c.in_ok-of_ro.ensures c.gate.ensures.names in
    one

pub returns-in_err-wf-clause-names : goal.returns-in_err-wf-clause-names
returns-in_err-wf-clause-names c =
    let given = cond_named c.args.cond in
    let one = subst (λ k. OnlyNames (cond_named k) c.args.graph.now c.gate.new.graph) c.in_ok-of_ro.ensures c.gate.ensures.names in
    let two = subst (λ k. OnlyNames (cond_named k) c.gate.new.graph c.gate-2.new.graph) c.in_ok-of_wf.ensures c.gate-2.ensures.names in
    let both = names_later given c.args.graph.now c.gate.new.graph c.gate-2.new.graph one two in
    both

pub returns-in_err-rw-clause-names : goal.returns-in_err-rw-clause-names
returns-in_err-rw-clause-names c =
    let given = cond_named c.args.cond in
    let one = subst (λ k. OnlyNames (cond_named k) c.args.graph.now c.gate.new.graph) c.in_ok-of_ro.ensures c.gate.ensures.names in
    let two = subst (λ k. OnlyNames (cond_named k) c.gate.new.graph c.gate-2.new.graph) c.in_ok-of_wf.ensures c.gate-2.ensures.names in
    let both = names_later given c.args.graph.now c.gate.new.graph c.gate-2.new.graph one two in
    names_later given c.args.graph.now c.gate-2.new.graph c.gate-3.new.graph both c.gate-3.ensures.names

pub returns-clause-names : goal.returns-clause-names
returns-clause-names c =
    let given = cond_named c.args.cond in
    let one = subst (λ k. OnlyNames (cond_named k) c.args.graph.now c.gate.new.graph) c.in_ok-of_ro.ensures c.gate.ensures.names in
    let two = subst (λ k. OnlyNames (cond_named k) c.gate.new.graph c.gate-2.new.graph) c.in_ok-of_wf.ensures c.gate-2.ensures.names in
    let both = names_later given c.args.graph.now c.gate.new.graph c.gate-2.new.graph one two in
    names_later given c.args.graph.now c.gate-2.new.graph c.gate-3.new.graph both c.gate-3.ensures.names
