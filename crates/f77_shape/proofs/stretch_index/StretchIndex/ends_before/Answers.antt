use Rattle.std.proofs.Common.{◌≡◌, ◌-◌, Some, slice_get, ◌∙◌, rules}
use Rattle.f77_shape.proofs.OpenerLemmas.{any_mirrored}
use Rattle.f77_shape.proofs.stretch_index.StretchIndex.ends_before.Goals as goal

pub returns-in-Some : goal.returns-in-Some
returns-in-Some c = λ stretches held.
    let limit = c.args.self.now.limit in
    let entry : slice_get c.args.self.now.mirrored.items (limit - c.args.to) ≡ Some c.in-Some.opener = search rules in
    held.mirrored.at (limit - c.args.from) (limit - c.args.to) c.in-Some.opener entry ∙ any_mirrored limit c.args.from c.args.to stretches c.if-from-self.true c.if-to-self.true
