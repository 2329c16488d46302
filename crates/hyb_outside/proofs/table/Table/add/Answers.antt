use Rattle.hyb_outside.proofs.TableLemmas.{put_replaces, push_replaces}
use Rattle.hyb_outside.proofs.table.Table.add.Goals as goal

pub returns-in-Some-clause-ok : goal.returns-in-Some-clause-ok
returns-in-Some-clause-ok c =
    rw (c.in_ok-content.ensures, ← c.self.view_is)
    (put_replaces c.self.inside.rows.items c.args.name.now c.args.content.now c.in-Some.place c.index_mut-row.result.now
    (rw c.self.view_is c.in-Some.ensures) c.index_mut-row.ensures.value)

pub returns-in_ok-push-in-None-clause-ok : goal.returns-in_ok-push-in-None-clause-ok
returns-in_ok-push-in-None-clause-ok c =
    rw (c.in_ok-push-in-None.ensures.items, c.in_ok-content.ensures, c.in_ok-name-in-None.ensures, ← c.self.view_is)
    (push_replaces c.self.inside.rows.items c.args.name.now c.args.content.now (rw c.self.view_is c.in-None.ensures))
