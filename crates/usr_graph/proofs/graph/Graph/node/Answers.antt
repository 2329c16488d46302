use Rattle.std.proofs.Common.{◌≡◌, ◌<◌, Some, length, slice_get, refl, subst, sym}
use Rattle.std.proofs.lemmas.Option.{slice_get_read}
use Rattle.usr_graph.specs.Built.{IsNodeOf}
use Rattle.usr_graph.proofs.Graphs.{node_is}
use Rattle.usr_graph.proofs.Places.{children_are}
use Rattle.usr_graph.proofs.graph.Graph.node.Goals as goal

pub returns-clause-children : goal.returns-clause-children
returns-clause-children c =
    let inside : c.args.id < length c.self.inside.nodes.items = subst (λ l. c.args.id < length l) (sym c.self.view_is) c.requires in
    let at : slice_get c.self.inside.nodes.items c.args.id ≡ Some c.index.result.now = slice_get_read c.self.inside.nodes.items (length c.self.inside.nodes.items) c.args.id c.index.result.now refl inside c.index.ensures in
    children_are c.self.inside.nodes.items c.args.id c.index.result.now c.self.invariant at

pub returns-clause-members : goal.returns-clause-members
returns-clause-members c =
    let inside : c.args.id < length c.self.inside.nodes.items = subst (λ l. c.args.id < length l) (sym c.self.view_is) c.requires in
    let at : slice_get c.self.inside.nodes.items c.args.id ≡ Some c.index.result.now = slice_get_read c.self.inside.nodes.items (length c.self.inside.nodes.items) c.args.id c.index.result.now refl inside c.index.ensures in
    subst (λ nodes. IsNodeOf nodes c.args.id c.index.result.now) c.self.view_is (node_is c.self.inside.nodes.items c.args.id c.index.result.now c.self.invariant at)
