use Rattle.std.proofs.Common.{◌≡◌, ◌<◌, Some, length, slice_get, refl, subst, sym}
use Rattle.std.proofs.lemmas.Option.{slice_get_read}
use Rattle.pdag_nodes.specs.Nodes.{meaning_of, meaning_by}
use Rattle.pdag_nodes.proofs.NodeLaws.{children_are, meaning_at}
use Rattle.pdag_nodes.proofs.preds.Preds.node.Goals as goal

pub returns-clause-children : goal.returns-clause-children
returns-clause-children c =
    let inside : c.args.id < length c.self.inside.nodes.items = subst (λ l. c.args.id < length l) (sym c.self.view_is) c.requires in
    let at : slice_get c.self.inside.nodes.items c.args.id ≡ Some c.index.result.now = slice_get_read c.self.inside.nodes.items (length c.self.inside.nodes.items) c.args.id c.index.result.now refl inside c.index.ensures in
    children_are c.self.inside.nodes.items c.args.id c.index.result.now c.self.invariant at

pub returns-clause-meaning : goal.returns-clause-meaning
returns-clause-meaning c = λ values env.
    let inside : c.args.id < length c.self.inside.nodes.items = subst (λ l. c.args.id < length l) (sym c.self.view_is) c.requires in
    let at : slice_get c.self.inside.nodes.items c.args.id ≡ Some c.index.result.now = slice_get_read c.self.inside.nodes.items (length c.self.inside.nodes.items) c.args.id c.index.result.now refl inside c.index.ensures in
    subst (λ nodes. meaning_of values nodes c.args.id env ≡ meaning_by values (meaning_of values nodes) c.index.result.now env) c.self.view_is (meaning_at c.self.inside.nodes.items c.args.id c.index.result.now c.self.invariant at values env)
