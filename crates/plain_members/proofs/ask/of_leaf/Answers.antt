use Rattle.std.proofs.Common.{[], pos, Contains, rules}
use Rattle.sym_lmad.specs.Members.{AddsMembers}
use Rattle.plain_members.proofs.Answering.{members_same}
use Rattle.plain_members.proofs.ask.of_leaf.Goals as goal

pub returns-then-contains-clause-answer : goal.returns-then-contains-clause-answer
returns-then-contains-clause-answer g c = λ nodes id choice.
    let added : AddsMembers c.args.env.now (g.C.Cells.values c.args.cells.now) c.args.lmad.now [] c.each.new.into = search rules in
    let found : Contains c.each.new.into (pos c.args.address) = search rules in
    (members_same c.args.env.now (g.C.Cells.values c.args.cells.now) c.args.lmad.now c.each.new.into (pos c.args.address) (Contains (choice id c.args.env.now.indices) (pos c.args.address)) added).0 found

pub returns-clause-answer : goal.returns-clause-answer
returns-clause-answer g c = λ nodes id choice h.
    let added : AddsMembers c.args.env.now (g.C.Cells.values c.args.cells.now) c.args.lmad.now [] c.each.new.into = search rules in
    let missing : Contains c.each.new.into (pos c.args.address) → ⊥ = search rules in
    missing ((members_same c.args.env.now (g.C.Cells.values c.args.cells.now) c.args.lmad.now c.each.new.into (pos c.args.address) (Contains (choice id c.args.env.now.indices) (pos c.args.address)) added).1 h)
